use Rattle.std.specs.Prelude.{false}
use Rattle.std.proofs.Common.{◌≡◌}
use Rattle.machine_tests.specs.Walks.{Walks}
use Rattle.machine_tests.proofs.walk.walk.Given as goal

abbrev pub invariant-loop : goal.invariant-loop
invariant-loop g l = record {
  sound : g.V.Blocks.sound l.v;
  walks : Walks (g.V.Blocks.seen l.v);
  idle : (g.V.Volume.kept l.v).updating ≡ false;
}
