use Rattle.rio_base.specs.Volume.{SameUpdate}
use Rattle.machine_tests.specs.Walks.{Walks}
use Rattle.machine_tests.proofs.walk.read_all.Given as goal

abbrev pub invariant-loop-b : goal.invariant-loop-b
invariant-loop-b g l = record {
  sound : g.V.Blocks.sound l.v;
  walks : Walks (g.V.Blocks.seen l.v);
  update : SameUpdate (g.V.Volume.kept l.fn.v) (g.V.Volume.kept l.v);
}
