use Rattle.std.proofs.Common.{arith}
use Rattle.undo_list.proofs.MarkRuns.{run_more}
use Rattle.undo_list.proofs.marks.mark.Goals as goal

pub loop-next-preserved : goal.loop-next-preserved
loop-next-preserved c =
    let inv = c.loop-next.invariant in
    record {
      low = omega arith;
      high = omega arith;
      run = run_more c.args.marks.now c.loop-next.marks c.args.from c.loop-next.next c.min-run.result c.with_bits.result (omega arith) inv.low (omega arith) inv.run c.with_bits.ensures;
    }
