use Rattle.node_pages.proofs.Common.{◌≡◌, length}
use Rattle.node_pages.specs.Updating.{IsEditRun}
use Rattle.node_pages.proofs.updating.gather_run.Given as goal

-- the first n edits are a run
abbrev pub invariant-loop-n : goal.invariant-loop-n
invariant-loop-n l = record {
  long : length l.values ≡ 8;
  run : IsEditRun l.edits l.values l.n;
}
