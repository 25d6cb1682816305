-- The first word of an inode, by what the inode stands for.
use Rattle.std.specs.Prelude.{ℕ}
use Rattle.rio_base.specs.declared.kind.Kind.{Kind}
use Rattle.rio_base.specs.declared.kind.Kind.TheVariants.{Directory, File, Region}

-- of an inode that is free
abbrev pub free_kind : ℕ
free_kind = 0

abbrev pub dir_kind : ℕ
dir_kind = 1

abbrev pub file_kind : ℕ
file_kind = 2

-- the greatest that there is
abbrev pub region_kind : ℕ
region_kind = 3

abbrev pub kind_number : Kind → ℕ
kind_number Directory = dir_kind
kind_number File = file_kind
kind_number Region = region_kind
