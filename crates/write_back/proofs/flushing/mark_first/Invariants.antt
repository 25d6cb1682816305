use Rattle.write_back.proofs.Marks.{Marked}
use Rattle.write_back.proofs.flushing.mark_first.Given as goal

abbrev pub invariant-loop-k : goal.invariant-loop-k
invariant-loop-k g l = Marked l.count l.k l.marked (g.M.Machine.contents l.initial.m) (g.M.Machine.contents l.m) (g.M.Machine.run l.initial.m) (g.M.Machine.run l.m)
