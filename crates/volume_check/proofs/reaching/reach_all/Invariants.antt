use Rattle.std.proofs.Common.{◌+◌, ◌-◌, ◌<◌, ◌≤◌, ℕ, length, slice_index}
use Rattle.rio_model.specs.Held.{held_of}
use Rattle.volume_check.specs.Tree.{AllEntered, Found, IsReached, dir_numbers, unreached}
use Rattle.volume_check.proofs.Looking.{LooksOn}
use Rattle.volume_check.proofs.reaching.reach_all.Given as goal

-- the directories before the next one are read
abbrev pub invariant-loop-next : goal.invariant-loop-next
invariant-loop-next g l =
    let V = g.V.Blocks in
    let held = held_of l.inodes.shape (V.seen l.fn.v).words in
    record {
      looked : LooksOn V.seen V.health V.sound V.passes l.fn.v l.v;
      found : Found l.inodes.shape held l.reach;
      root : IsReached l.reach 1;
      within : l.next ≤ length (dir_numbers l.reach);
      entered : (k : ℕ) → k < l.next → AllEntered held l.reach (slice_index (dir_numbers l.reach) k);
    }

abbrev pub decreases-loop-next : goal.decreases-loop-next
decreases-loop-next g l = unreached l.reach.reached.items + (length (dir_numbers l.reach) - l.next)
