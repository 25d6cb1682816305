-- How the call ends that makes changes of nodes in one update.
use Rattle.std.specs.Prelude.{◌≡◌, ◌⊎◌, false, List, map, Result, Ok, Err}
use Rattle.rio_base.specs.declared.failures.VolFail.{VolFail}
use Rattle.rio_base.specs.declared.failures.VolFail.TheVariants.{Fault, Stopped}
use Rattle.rio_base.specs.declared.places.VolumeShape.{VolumeShape}
use Rattle.rio_base.specs.BlockSets.{CachesBy, FirmOutside, SameOutside}
use Rattle.rio_base.specs.Blocks.{BlockWords, Seen}
use Rattle.rio_base.specs.Shapes.{HasShape}
use Rattle.rio_base.specs.Volume.{Firm, Kept}
use Rattle.node_updates.specs.Changes.{AllApplied, IsFreed, IsTouchedBy, change_update}
use Rattle.node_updates.specs.declared.changes.NodeChange.{NodeChange}

-- the changes stand, but for words of blocks that they free, which may be loose then
pub record Makes (shape : VolumeShape) (changes : List NodeChange) (f : BlockWords) (k : Kept) (l : Kept) : Type 0 where
  pub made : BlockWords
  pub applied : AllApplied shape (map change_update changes) f made
  pub stands : SameOutside (IsFreed changes) made l.standing
  pub firm : FirmOutside (IsFreed changes) k l

-- how it ends. y and j are before the call, z and l after it
abbrev pub Commits : {T : Type 0} → VolumeShape → List NodeChange → Seen → Kept → Seen → Kept → Result T VolFail → Type 0
Commits shape changes y j z l (Ok _) = ((m : Makes shape changes y.words j l) × SameOutside (IsFreed changes) m.made z.words) × (l.updating ≡ false)
Commits shape changes y j z l (Err Fault) = (z.words ≡ y.words) × (l.standing ≡ j.standing) × Firm j l × (l.updating ≡ false)
Commits shape changes y j z l (Err Stopped) = ((l.standing ≡ j.standing) × Firm j l) ⊎ Makes shape changes y.words j l

-- what is cached, however it ends
pub record Touched (shape : VolumeShape) (changes : List NodeChange) (y z : Seen) : Type 0 where
  pub has_shape : HasShape shape z
  pub caches : CachesBy (IsTouchedBy changes) y z
