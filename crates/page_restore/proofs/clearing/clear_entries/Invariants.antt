use Rattle.page_restore.proofs.ClearTurns.{Cleared}
use Rattle.page_restore.proofs.clearing.clear_entries.Given as goal

abbrev pub invariant-loop-k : goal.invariant-loop-k
invariant-loop-k g l = Cleared l.marks l.k (g.M.Machine.contents l.initial.m) (g.M.Machine.contents l.m) (g.M.Machine.run l.initial.m) (g.M.Machine.run l.m)
