use Rattle.file_pages.proofs.Common.{◌≡◌, ◌-◌, ◌≤◌, ◌++◌, held, placed_at}
use Rattle.rio_model.specs.Held.{bytes_in}
use Rattle.node_pages.specs.LookingUp.{LooksUp}
use Rattle.file_pages.proofs.reading.push_pages.Given as goal

abbrev pub invariant-loop-at : goal.invariant-loop-at
invariant-loop-at g l =
    let seen = g.V.Blocks.seen in
    let health = g.V.Blocks.health in
    record {
      low : l.off ≤ l.at;
      high : l.at ≤ l.end;
      out : l.out.items ≡ l.fn.out.items ++ bytes_in (held (seen l.fn.v).words (placed_at (seen l.fn.v).words l.i.0)).word l.off (l.at - l.off);
      looks : LooksUp l.shape (seen l.fn.v) (seen l.v);
      passes : g.V.Blocks.passes l.fn.v l.v;
      later : (health l.fn.v).faults ≤ (health l.v).faults;
      running : (health l.v).stopped ≡ (health l.fn.v).stopped;
      sound : g.V.Blocks.sound l.v;
    }

abbrev pub decreases-loop-at : goal.decreases-loop-at
decreases-loop-at g l = l.end - l.at
