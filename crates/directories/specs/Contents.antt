-- What a directory holds once entries of it are stored, and its size is another one.
use Rattle.std.specs.Prelude.{◌≡◌, ℕ, ◌-◌, ◌*◌, ◌/◌, ◌%◌, ◌==◌, ◌++◌, nat_lt, if◌then◌else◌, List, [], ◌∷◌, slice_index}
use Rattle.rio_model.specs.Held.{Held}
use Rattle.rio_model.specs.Placed.{AtPage, Placed, HasSlot}
use Rattle.rio_model.specs.Updates.{WordEdit, run_edits}
use Rattle.directories.specs.declared.storing.EntryWords.{EntryWords}

-- with these words in slot j
abbrev pub with_entry : Held → ℕ → (ℕ → ℕ) → Held
with_entry h j words = record h { word = λ y. if y / 8 == j then words (y % 8) else h.word y }

-- with the words of entries in slots, one after the other
abbrev pub with_entries : Held → List ℕ → List EntryWords → Held
with_entries h [] puts = h
with_entries h (j ∷ slots) [] = h
with_entries h (j ∷ slots) (e ∷ puts) = with_entries (with_entry h j (slice_index e.words)) slots puts

-- of this size: words past it count no more
abbrev pub sized_to : ℕ → Held → Held
sized_to len h = record { kind = h.kind; size = len; word = λ y. if nat_lt (8 * y) len then h.word y else 0 }

-- ---- edits of entries

-- the words of an entry go into the slot of node n
pub record GoesInto (n : Placed) (j : ℕ) (e : EntryWords) : Type 0 where
  pub page : HasSlot n (AtPage (j / 64))
  pub block : e.block.0 ≡ n.block (AtPage (j / 64))
  pub first : e.first ≡ 8 * (j % 64)

abbrev pub AllGoInto : Placed → List ℕ → List EntryWords → Type 0
AllGoInto n [] [] = Unit {0}
AllGoInto n [] (e ∷ puts) = ⊥
AllGoInto n (j ∷ slots) [] = ⊥
AllGoInto n (j ∷ slots) (e ∷ puts) = GoesInto n j e × AllGoInto n slots puts

-- the edits that store them
abbrev pub entry_edits : EntryWords → List WordEdit
entry_edits e = run_edits e.block.0 (λ w. slice_index e.words (w - e.first)) e.first 8

abbrev pub all_edits : List EntryWords → List WordEdit
all_edits [] = []
all_edits (e ∷ puts) = entry_edits e ++ all_edits puts
