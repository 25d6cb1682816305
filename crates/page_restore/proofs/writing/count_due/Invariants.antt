use Rattle.std.specs.Prelude.{◌≡◌}
use Rattle.page_restore.specs.Phases.{due_before}
use Rattle.page_restore.proofs.writing.count_due.Given as goal

abbrev pub invariant-loop-k : goal.invariant-loop-k
invariant-loop-k g l = l.count ≡ due_before l.kind l.marks (g.M.Machine.contents l.m).words l.k
