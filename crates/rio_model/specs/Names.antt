-- The names of all directories, as a finite map.
use Rattle.std.specs.Prelude.{ℕ, List, map}
use Rattle.std.specs.declared.cmp.Ordering.{Ordering}
use Rattle.std.specs.Ordering.{nat_cmp, ordering_then}
use Rattle.std.specs.Cmp.Lexicographic.{slice_cmp}
use Rattle.std.specs.FinMap.{FinMap}
use Rattle.rio_model.specs.declared.rows.NameRow.{NameRow}

-- a directory and a name in it
abbrev pub NameKey : Type 0
NameKey = ℕ × List ℕ

-- by directory, and then by name, byte by byte
abbrev pub name_cmp : NameKey → NameKey → Ordering
name_cmp a b = ordering_then (nat_cmp a.0 b.0) (slice_cmp nat_cmp a.1 b.1)

-- what each directory's names name
abbrev pub Names : Type 0
Names = FinMap name_cmp ℕ

abbrev pub row_entry : NameRow → NameKey × ℕ
row_entry row = ((row.dir.0, row.name), row.ino.0)

abbrev pub row_entries : List NameRow → List (NameKey × ℕ)
row_entries rows = map row_entry rows
