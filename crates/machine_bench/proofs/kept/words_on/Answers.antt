use Rattle.std.proofs.Common.{ℕ, arith, subst}
use Rattle.rio_base.specs.Disks.{blocks_of}
use Rattle.machine_bench.proofs.KeptBlocks.{FrontKept, all_kept, none_kept, one_kept}
use Rattle.machine_bench.proofs.kept.words_on.Goals as goal

pub loop-b-init : goal.loop-b-init
loop-b-init g c = none_kept _ _ c.in_ok-words.ensures.items

pub loop-b-preserved : goal.loop-b-preserved
loop-b-preserved g c = one_kept _ c.loop-b.b c.loop-b.words.items c.frame.result.now _ c.loop-b.invariant c.frame.ensures c.block_is_whole.ensures c.in_ok-extend_from_slice.ensures.items

pub returns : goal.returns
returns g c = all_kept _ c.loop-b.words.items
    (subst (λ (n : ℕ). FrontKept (blocks_of c.args.disk.now.words.items) n c.loop-b.words.items) (omega (arith, c.loop-b-test.false, c.loop-b.auto.b-end, c.count-count.ensures)) c.loop-b.invariant)
