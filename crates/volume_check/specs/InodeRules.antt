-- Rules that an inode keeps or breaks by itself.
use Rattle.std.specs.Prelude.{◌≡◌, ℕ, ◌<◌, ◌≤◌, Option, None, Some}
use Rattle.rio_base.specs.declared.places.Ino.{Ino}
use Rattle.rio_base.specs.declared.places.VolumeShape.{VolumeShape}
use Rattle.rio_base.specs.Layout.{IsIno}
use Rattle.rio_model.specs.VolumeRules.{SizeFits}
use Rattle.volume_check.specs.Inodes.{said}
use Rattle.volume_check.specs.declared.failures.CheckFail.{CheckFail}
use Rattle.volume_check.specs.declared.failures.CheckFail.TheVariants.{BadVolume, Fault, Stopped, Memory}
use Rattle.volume_check.specs.declared.inode_rules.InodeRule.{InodeRule}
use Rattle.volume_check.specs.declared.inode_rules.InodeRule.TheVariants.{Kind, Size}
use Rattle.volume_check.specs.declared.inodes.Inodes.{Inodes}

-- rules 3 and 4 of inode i, as it is held
abbrev pub KeepsKind : Inodes → ℕ → Type 0
KeepsKind n i = (said n i 0 ≤ 3) × (i ≡ 1 → said n i 0 ≡ 1)

abbrev pub KeepsSize : Inodes → ℕ → Type 0
KeepsSize n i = 0 < said n i 0 → SizeFits (said n i 0) (said n i 1)

abbrev pub InodeKeeps : InodeRule → Inodes → ℕ → Type 0
InodeKeeps Kind n i = KeepsKind n i
InodeKeeps Size n i = KeepsSize n i

-- the least inode that does not keep this, if there is one
abbrev pub Finds : VolumeShape → (ℕ → Type 0) → Option Ino → Type 0
Finds shape keeps None = (i : ℕ) → IsIno shape i → keeps i
Finds shape keeps (Some i) = IsIno shape i.0 × (¬ keeps i.0) × ((j : ℕ) → IsIno shape j → j < i.0 → keeps j)

-- a failure that tells a rule
abbrev pub TellsRule : CheckFail → Type 0
TellsRule (BadVolume rule b) = Unit {0}
TellsRule Fault = ⊥
TellsRule Stopped = ⊥
TellsRule Memory = ⊥
