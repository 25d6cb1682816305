use Rattle.rio_base.specs.Shapes.{HasShape}
use Rattle.volume_tests.proofs.bitmap_tests.make_all.Given as goal

abbrev pub invariant-loop-row : goal.invariant-loop-row
invariant-loop-row g l = record {
  sound : g.V.Blocks.sound l.v;
  shape : HasShape l.shape (g.V.Blocks.seen l.v);
}
