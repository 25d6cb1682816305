-- What a change does to the rows of a directory.
use Rattle.std.specs.Prelude.{◌≡◌, ℕ, ◌+◌, ◌-◌, ◌⊎◌, List}
use Rattle.rio_model.specs.Held.{Held, entry_name}
use Rattle.rio_base.specs.NodeKinds.{dir_kind}
use Rattle.directories.specs.Rows.{HasRow, NamesApart}

-- directory k is directory h with other rows: those of the names that are `gone` are there no more, the `new` ones are, and
-- all others stay. That a gone name has no row left, and that no name stands twice, holds where none stood twice before
pub record ChangesRows (h k : Held) (size : ℕ) (gone : List ℕ → Type 0) (new : List ℕ → ℕ → Type 0) : Type 0 where
  pub dir : k.kind ≡ dir_kind
  pub sized : k.size ≡ size
  pub stay : (name : List ℕ) (i : ℕ) → HasRow h name i → (gone name → ⊥) → HasRow k name i
  pub come : (name : List ℕ) (i : ℕ) → new name i → HasRow k name i
  pub from : (name : List ℕ) (i : ℕ) → HasRow k name i → HasRow h name i ⊎ new name i
  pub went : NamesApart h → (name : List ℕ) (i : ℕ) → gone name → HasRow k name i → new name i
  pub apart : NamesApart h → NamesApart k

abbrev pub NoName : List ℕ → Type 0
NoName name = ⊥

abbrev pub NoRow : List ℕ → ℕ → Type 0
NoRow name i = ⊥

-- one row alone
abbrev pub TheRow : List ℕ → ℕ → List ℕ → ℕ → Type 0
TheRow name i a n = (a ≡ name) × (n ≡ i)

-- the name that slot j had
abbrev pub NameAt : Held → ℕ → List ℕ → Type 0
NameAt h j name = name ≡ entry_name h j

-- one row more
abbrev pub AddsRow : List ℕ → ℕ → Held → Held → Type 0
AddsRow name i h k = ChangesRows h k (h.size + 64) NoName (TheRow name i)

-- the row of slot j less
abbrev pub RemovesRow : ℕ → Held → Held → Type 0
RemovesRow j h k = ChangesRows h k (h.size - 64) (NameAt h j) NoRow

-- this row in place of that of slot j
abbrev pub SetsRow : ℕ → List ℕ → ℕ → Held → Held → Type 0
SetsRow j name i h k = ChangesRows h k h.size (NameAt h j) (TheRow name i)

-- the name of slot j names i, and the row of slot `last` is less
abbrev pub ReplacesRow : ℕ → ℕ → ℕ → Held → Held → Type 0
ReplacesRow j i last h k = ChangesRows h k (h.size - 64) (λ name. NameAt h j name ⊎ NameAt h last name) (TheRow (entry_name h j) i)
