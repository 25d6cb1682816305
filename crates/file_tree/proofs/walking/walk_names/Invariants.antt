use Rattle.rio_model.specs.VolumeReady.{LooksNamed}
use Rattle.rio_base.specs.Frames.{HasRead}
use Rattle.request_ends.proofs.Common.{◌≡◌, ◌+◌, ◌-◌, ◌<◌, ◌≤◌, length, held_of, names_of, walk, ReadsAs, State}
use Rattle.file_tree.specs.Memos.{InStep}
use Rattle.file_tree.proofs.WalkedOn.{walk_left}
use Rattle.file_tree.proofs.walking.walk_names.Given as goal

-- the walk so far ended at node i, and goes on at byte `at`
abbrev pub invariant-loop-at : goal.invariant-loop-at
invariant-loop-at g l =
    let seen = g.V.Blocks.seen in
    let first = (seen l.fn.v).words in
    record {
      from : 1 ≤ l.at;
      walked : (s : State) → ReadsAs l.shape first s → walk s 1 (names_of l.path) ≡ walk_left s l.path l.i.0 l.at;
      used : 0 < (held_of l.shape first l.i.0).kind;
      read : HasRead g.V.Blocks.seen g.V.Blocks.health g.V.Blocks.sound g.V.Blocks.passes (LooksNamed l.shape) l.fn.v l.v ⊥ ⊥;
      in_step : InStep l.shape first l.memo;
    }

abbrev pub decreases-loop-at : goal.decreases-loop-at
decreases-loop-at g l = length l.path + 1 - l.at
