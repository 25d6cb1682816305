use Rattle.std.proofs.Common.{◌≡◌, ◌+◌, ◌-◌, ◌≤◌, false}
use Rattle.rio_base.specs.Shapes.{HasShape}
use Rattle.rio_base.specs.Volume.{Firm}
use Rattle.test_objects.specs.TestVolumes.{HasNodes}
use Rattle.test_objects.proofs.nodes.add_nodes.Given as goal

abbrev pub invariant-loop-i : goal.invariant-loop-i
invariant-loop-i g l =
    let seen = g.V.Blocks.seen in
    let kept = g.V.Volume.kept in
    record {
      from : 2 ≤ l.i;
      to : l.i ≤ l.last + 1;
      nodes : HasNodes l.shape (seen l.v).words l.kind (l.i - 1);
      firm : Firm (kept l.fn.v) (kept l.v);
      shape : HasShape l.shape (seen l.v);
      idle : (kept l.v).updating ≡ false;
      sound : g.V.Blocks.sound l.v;
    }
