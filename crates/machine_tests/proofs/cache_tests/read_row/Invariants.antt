use Rattle.machine_tests.specs.Walks.{Walks}
use Rattle.machine_tests.proofs.cache_tests.read_row.Given as goal

abbrev pub invariant-loop-b : goal.invariant-loop-b
invariant-loop-b g l = record {
  sound : g.V.Blocks.sound l.v;
  walks : Walks (g.V.Blocks.seen l.v);
}
