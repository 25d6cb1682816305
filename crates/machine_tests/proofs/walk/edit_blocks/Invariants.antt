use Rattle.std.specs.Prelude.{true}
use Rattle.std.proofs.Common.{◌≡◌, ◌≤◌, ◌+◌}
use Rattle.machine_tests.specs.Walks.{Walks}
use Rattle.machine_tests.proofs.walk.edit_blocks.Given as goal

abbrev pub invariant-loop : goal.invariant-loop
invariant-loop g l = record {
  sound : g.V.Blocks.sound l.v;
  walks : Walks (g.V.Blocks.seen l.v);
  updating : (g.V.Volume.kept l.v).updating ≡ true;
  touches : (g.V.Volume.kept l.v).touches ≤ (g.V.Volume.kept l.fn.v).touches + l.counter;
}
