-- The number that each rule of an image and of a volume is told by.
use Rattle.std.specs.Prelude.{ℕ}
use Rattle.rio_model.specs.declared.rules.ImageRule.{ImageRule}
use Rattle.rio_model.specs.declared.rules.ImageRule.TheVariants.{Length, Magic, Version, Geometry, Gate, Tags, BlocksOnce, Metadata, PageNames, PageSizes, Shadows, ShadowsOnce}
use Rattle.rio_model.specs.declared.rules.VolumeRule.{VolumeRule}
use Rattle.rio_model.specs.declared.rules.VolumeRule.TheVariants.{Superblock, Reserved, Kinds, Sizes, Numbers, Once, Marks, Entries, NamesApart, Tree, Regions, Cached}

abbrev pub image_rule : ImageRule → ℕ
image_rule Length = 1
image_rule Magic = 2
image_rule Version = 3
image_rule Geometry = 4
image_rule Gate = 5
image_rule Tags = 6
image_rule BlocksOnce = 7
image_rule Metadata = 8
image_rule PageNames = 9
image_rule PageSizes = 10
image_rule Shadows = 11
image_rule ShadowsOnce = 12

abbrev pub volume_rule : VolumeRule → ℕ
volume_rule Superblock = 1
volume_rule Reserved = 2
volume_rule Kinds = 3
volume_rule Sizes = 4
volume_rule Numbers = 5
volume_rule Once = 6
volume_rule Marks = 7
volume_rule Entries = 8
volume_rule NamesApart = 9
volume_rule Tree = 10
volume_rule Regions = 11
volume_rule Cached = 12
