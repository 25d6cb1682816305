use Rattle.write_back.proofs.Walks.{Wrote}
use Rattle.write_back.proofs.flushing.write_first.Given as goal

abbrev pub invariant-loop-k : goal.invariant-loop-k
invariant-loop-k g l = Wrote l.n l.k l.written (g.M.Machine.contents l.initial.m) (g.M.Machine.contents l.m) (g.M.Machine.run l.initial.m) (g.M.Machine.run l.m)
