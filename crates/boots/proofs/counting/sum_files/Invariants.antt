use Rattle.std.proofs.Common.{◌≡◌, ◌≤◌, ◌*◌}
use Rattle.std.specs.FinMap.{get}
use Rattle.std.specs.List.{range_with_len}
use Rattle.std.specs.Prelude.{map, sum}
use Rattle.rio_base.specs.Blocks.{Looks}
use Rattle.rio_base.specs.Shapes.{HasShape}
use Rattle.rio_model.specs.declared.state.State.{State}
use Rattle.rio_model.specs.Sizes.{largest_size}
use Rattle.rio_model.specs.VolumeReads.{ReadsAs}
use Rattle.boots.specs.Legal.{bytes_in}
use Rattle.boots.proofs.counting.sum_files.Given as goal

abbrev pub invariant-loop-k : goal.invariant-loop-k
invariant-loop-k g l =
    let seen = g.V.Blocks.seen in
    let health = g.V.Blocks.health in
    record {
      few : l.sum ≤ largest_size * l.k;
      is : (s : State) → ReadsAs l.shape (seen l.fn.v).words s → l.sum ≡ sum (map (λ i. bytes_in (get s.nodes i)) (range_with_len 1 l.k));
      sound : g.V.Blocks.sound l.v;
      looks : Looks (seen l.fn.v) (seen l.v);
      shape : HasShape l.shape (seen l.v);
      passes : g.V.Blocks.passes l.fn.v l.v;
      later : (health l.fn.v).faults ≤ (health l.v).faults;
      running : (health l.v).stopped ≡ (health l.fn.v).stopped;
    }
