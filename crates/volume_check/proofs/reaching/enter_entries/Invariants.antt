use Rattle.std.proofs.Common.{◌<◌, ℕ}
use Rattle.rio_model.specs.Held.{HasEntry, entry_ino, held_of}
use Rattle.volume_check.specs.Tree.{Found, Grows, IsReached}
use Rattle.volume_check.proofs.reaching.enter_entries.Given as goal

abbrev pub invariant-loop-j : goal.invariant-loop-j
invariant-loop-j g l =
    let held = held_of l.inodes.shape (g.V.Blocks.seen l.fn.v).words in
    record {
      found : Found l.inodes.shape held l.reach;
      grows : Grows l.fn.reach l.reach;
      entered : (j : ℕ) → j < l.j → HasEntry held l.fn.i.0 j → IsReached l.reach (entry_ino (held l.fn.i.0) j);
    }
