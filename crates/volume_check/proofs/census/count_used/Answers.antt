use Rattle.volume_check.proofs.Common.{◌+◌, ◌∙◌, arith, sym}
use Rattle.volume_check.specs.Inodes.{said_blocks}
use Rattle.volume_check.proofs.Counts.{sum_next}
use Rattle.volume_check.proofs.census.count_used.Goals as goal

pub loop-k-preserved : goal.loop-k-preserved
loop-k-preserved c =
    let inv = c.loop-k.invariant in
    let more = c.count_blocks-used.ensures in
    record {
      few = (let a = inv.few in let b = more.few in omega (arith, a, b));
      is = (λ e. inv.is e + more.blocks e) ∙ sym (sum_next (said_blocks c.args.inodes.now) c.loop-k.k);
    }
