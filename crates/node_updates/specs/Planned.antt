-- A request of one update that is planned, and what a commit of its changes comes to, however that ends. x and k are before the
-- request, y and j when all is planned, z and l after the commit.
use Rattle.std.specs.Prelude.{◌≡◌, false, List, Result, Ok, Err}
use Rattle.rio_base.specs.declared.failures.VolFail.{VolFail}
use Rattle.rio_base.specs.declared.places.VolumeShape.{VolumeShape}
use Rattle.rio_base.specs.Blocks.{Seen}
use Rattle.rio_base.specs.Shapes.{HasShape}
use Rattle.rio_base.specs.Volume.{Kept}
use Rattle.rio_requests.specs.Parts.{NoneDone}
use Rattle.rio_requests.specs.declared.answered.Answered.{Answered}
use Rattle.rio_requests.specs.declared.reply.Reply.{Reply}
use Rattle.rio_model.specs.declared.state.State.{State}
use Rattle.rio_model.specs.Placed.{volume_layout}
use Rattle.node_pages.specs.Staging.{Forgets, Uncached}
use Rattle.node_updates.specs.Changes.{CanCommit, IsFreed}
use Rattle.node_updates.specs.Committing.{Commits, Touched}
use Rattle.request_ends.specs.Ends.{FileEnds}
use Rattle.request_ends.specs.Failures.{fail_of_vol}
use Rattle.node_updates.specs.declared.changes.NodeChange.{NodeChange}
use Rattle.request_ends.specs.declared.failures.FileFail.{FileFail}

-- its changes can be committed, and then no block is cached that lost its node
pub record Planned (shape : VolumeShape) (x y : Seen) (j : Kept) (changes : List NodeChange) : Type 0 where
  pub has_shape : HasShape shape y
  pub idle : j.updating ≡ false
  pub can : CanCommit shape y changes
  pub forgets : (z : Seen) (l : Kept) → Commits {T = Unit {0}} shape changes y j z l (Ok tt) → Touched shape changes y z → Uncached (IsFreed changes) z → Forgets (volume_layout shape x.words) (volume_layout shape z.words) z

-- what a call on the volume answers, told as what one on files does
abbrev pub told : {T : Type 0} → Result T VolFail → Result T FileFail
told (Ok value) = Ok value
told (Err e) = Err (fail_of_vol e)

-- it is one that answers `a` in state s, by this reply where it is done: it ends so as the commit does
pub record LeadsBy (reply : Reply) (shape : VolumeShape) (x : Seen) (k : Kept) (y : Seen) (j : Kept) (s : State) (a : Answered) (changes : List NodeChange) : Type 0 where
  pub ends : (z : Seen) (l : Kept) (r : Result (Unit {0}) VolFail) → Commits shape changes y j z l r → Touched shape changes y z → FileEnds (λ u said. said ≡ reply) shape x k z l s a (NoneDone s) (told r)
