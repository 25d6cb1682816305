use Rattle.std.specs.Prelude.{◌≡◌}
use Rattle.page_restore.proofs.WriteTurns.{Wrote}
use Rattle.page_restore.specs.Phases.{due_before}
use Rattle.page_restore.proofs.writing.write_due.Given as goal

abbrev pub invariant-loop-k : goal.invariant-loop-k
invariant-loop-k g l = record {
  walk : Wrote l.kind l.marks l.k (g.M.Machine.contents l.initial.m) (g.M.Machine.contents l.m) (g.M.Machine.run l.initial.m) (g.M.Machine.run l.m);
  counted : l.count ≡ due_before l.kind l.marks (g.M.Machine.contents l.initial.m).words l.k;
}
