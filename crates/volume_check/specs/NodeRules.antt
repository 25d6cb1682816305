-- Rules that a node keeps or breaks by itself, by what is on the disk.
use Rattle.std.specs.Prelude.{ℕ}
use Rattle.rio_base.specs.Blocks.{BlockWords}
use Rattle.rio_base.specs.declared.places.VolumeShape.{VolumeShape}
use Rattle.rio_model.specs.Held.{held_of}
use Rattle.rio_model.specs.Placed.{volume_layout}
use Rattle.rio_model.specs.VolumeRules.{EntryRule, IsMapped, SizeRule, ApartAt, EntryAt, NumberAt, RegionAt}
use Rattle.rio_model.specs.RuleNumbers.{volume_rule}
use Rattle.rio_model.specs.declared.rules.VolumeRule.TheVariants.{Numbers as NumbersRule, Entries as EntriesRule, NamesApart, Regions}
use Rattle.volume_check.specs.declared.node_rules.NodeRule.{NodeRule}
use Rattle.volume_check.specs.declared.node_rules.NodeRule.TheVariants.{Entries, Format, Names, Numbers}

-- the rules 5, 8, 9 and 11 of inode i
abbrev pub NodeKeeps : NodeRule → VolumeShape → BlockWords → ℕ → Type 0
NodeKeeps Numbers shape f i = NumberAt (volume_layout shape f) i
NodeKeeps Entries shape f i = EntryAt (held_of shape f) i
NodeKeeps Names shape f i = ApartAt (held_of shape f) i
NodeKeeps Format shape f i = RegionAt (held_of shape f) i

abbrev pub node_number : NodeRule → ℕ
node_number Numbers = volume_rule NumbersRule
node_number Entries = volume_rule EntriesRule
node_number Names = volume_rule NamesApart
node_number Format = volume_rule Regions

-- what holds before the rule is looked at
abbrev pub Supposes : NodeRule → VolumeShape → BlockWords → Type 0
Supposes Numbers shape f = SizeRule (volume_layout shape f)
Supposes Entries shape f = IsMapped shape f
Supposes Names shape f = IsMapped shape f × EntryRule (held_of shape f)
Supposes Format shape f = IsMapped shape f
