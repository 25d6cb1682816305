use Rattle.std.proofs.Common.{arith}
use Rattle.undo_list.proofs.MarkRuns.{marked_on, unmarked_behind}
use Rattle.undo_list.proofs.marks.unmarked_from.Goals as goal

pub returns-then-bit-run-lt64 : goal.returns-then-bit-run-lt64
returns-then-bit-run-lt64 c =
    let inv = c.loop-next.invariant in
    unmarked_behind c.args.marks.now c.args.from c.args.to c.loop-next.next c.ones_from.result c.min-run.result (omega arith) inv.low inv.high (omega arith) inv.before c.ones_from.ensures

pub loop-next-preserved : goal.loop-next-preserved
loop-next-preserved c =
    let inv = c.loop-next.invariant in
    record {
      low = omega arith;
      high = omega arith;
      before = marked_on c.args.marks.now c.args.from c.loop-next.next c.ones_from.result c.min-run.result (omega arith) inv.before c.ones_from.ensures;
    }
