-- The rows of a directory: its names, and what each of them names, as a set and as a finite map. In which slot a row stands
-- is in none of it.
use Rattle.std.specs.Prelude.{◌≡◌, ℕ, ◌*◌, ◌/◌, ◌<◌, List, map, Option, Some, None}
use Rattle.std.specs.Cmp.Lexicographic.{slice_cmp}
use Rattle.std.specs.List.{range_with_len}
use Rattle.std.specs.List.Sorted.{IsPermutation, IsSorted}
use Rattle.std.specs.Ordering.{nat_cmp}
use Rattle.std.specs.FinMap.{get}
use Rattle.rio_base.specs.declared.places.Ino.{Ino}
use Rattle.rio_model.specs.Held.{Held, entry_ino, entry_name}
use Rattle.name_index.specs.Rows.{NamesOfDir}

-- slot j has this row
pub record IsEntry (h : Held) (j : ℕ) (name : List ℕ) (i : ℕ) : Type 0 where
  pub within : 64 * j < h.size
  pub named : entry_name h j ≡ name
  pub ino : entry_ino h j ≡ i

-- some slot has it
abbrev pub HasRow : Held → List ℕ → ℕ → Type 0
HasRow h name i = (j : ℕ) × IsEntry h j name i

-- no two slots have one name
abbrev pub NamesApart : Held → Type 0
NamesApart h = (a b : ℕ) → 64 * a < h.size → 64 * b < h.size → entry_name h a ≡ entry_name h b → a ≡ b

-- a name is in no slot but this one
abbrev pub InNoOther : Held → ℕ → List ℕ → Type 0
InNoOther h j name = (a : ℕ) → 64 * a < h.size → entry_name h a ≡ name → a ≡ j

-- what a name names, and the slot of its row; or that it has no row
abbrev pub Finds : Held → List ℕ → Option (Ino × ℕ) → Type 0
Finds h name None = (i : ℕ) → HasRow h name i → ⊥
Finds h name (Some found) = IsEntry h found.1 name found.0.0

-- all names of a directory, in byte order
pub record ListsNames (h : Held) (names : List (List ℕ)) : Type 0 where
  pub all : IsPermutation (map (entry_name h) (range_with_len 0 (h.size / 64))) names
  pub order : IsSorted (slice_cmp nat_cmp) names

-- ---- as a finite map

-- names are the rows of a directory
pub record HoldsRows (h : Held) (names : NamesOfDir) : Type 0 where
  pub has : (name : List ℕ) (i : ℕ) → HasRow h name i → get names name ≡ Some i
  pub only : (name : List ℕ) (i : ℕ) → get names name ≡ Some i → HasRow h name i
