-- Which rule of a group fails first, with its number and with which block.
use Rattle.std.specs.Prelude.{◌≡◌, ℕ, ◌⊎◌}
use Rattle.rio_base.specs.declared.places.VolumeShape.{VolumeShape}
use Rattle.rio_base.specs.Blocks.{BlockWords}
use Rattle.rio_model.specs.VolumeFails.{FailsFirst, IsLeastTwice, SaysShape}
use Rattle.rio_model.specs.Placed.{Layout}
use Rattle.rio_model.specs.VolumeRules.{KindRule, MarkRule, ReservedRule, KindAt, NumberAt, SizeAt}
use Rattle.rio_model.specs.RuleNumbers.{volume_rule}
use Rattle.rio_model.specs.declared.rules.VolumeRule.TheVariants.{Superblock, Reserved, Kinds, Sizes, Numbers, Once, Marks}

-- ---- a rule on inodes that fails

-- this rule is told, with the block of the least inode that does not keep it
abbrev pub FailsBy : ℕ → VolumeShape → (ℕ → Type 0) → ℕ → ℕ → Type 0
FailsBy number shape keeps rule b = (rule ≡ number) × FailsFirst shape keeps b

-- ---- the rules by their numbers

-- rule 1
abbrev pub FailsShape : BlockWords → ℕ → ℕ → ℕ → Type 0
FailsShape f count rule b = (rule ≡ volume_rule Superblock) × (b ≡ 0) × ((shape : VolumeShape) → ¬ SaysShape f count shape)

-- rule 2
abbrev pub FailsReserved : VolumeShape → BlockWords → ℕ → ℕ → Type 0
FailsReserved shape f rule b = (rule ≡ volume_rule Reserved) × (b ≡ 1) × ¬ ReservedRule shape f

-- rules 3 and 4
abbrev pub FailsInodes : Layout → ℕ → ℕ → Type 0
FailsInodes l rule b =
    ((rule ≡ volume_rule Kinds) × FailsFirst l.shape (KindAt l) b) ⊎ (KindRule l × (rule ≡ volume_rule Sizes) × FailsFirst l.shape (SizeAt l) b)

-- rule 5
abbrev pub FailsNumbers : Layout → ℕ → ℕ → Type 0
FailsNumbers l rule b = (rule ≡ volume_rule Numbers) × FailsFirst l.shape (NumberAt l) b

-- rule 6
abbrev pub FailsOnce : Layout → ℕ → ℕ → Type 0
FailsOnce l rule b = (rule ≡ volume_rule Once) × IsLeastTwice l b

-- rule 7
abbrev pub FailsMarks : Layout → BlockWords → ℕ → ℕ → Type 0
FailsMarks l f rule b = (rule ≡ volume_rule Marks) × (b ≡ 1) × ¬ MarkRule l f
