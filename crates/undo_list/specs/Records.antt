-- A region's header and the records that a head names, as they are read.
use Rattle.std.specs.Prelude.{◌≡◌, ℕ, ◌+◌, ◌-◌, ◌<◌, ◌≤◌, ◌⊎◌, ◌∷◌, List, length}
use Rattle.rio_base.specs.Regions.{RegionContent}
use Rattle.rio_model.specs.Undo.{UndoRecord, Links, Within, is_covered, places, taken, undo_records, undo_word, undo_words}
use Rattle.undo_list.specs.declared.records.Header.{Header}
use Rattle.undo_list.specs.Bits.{mark_of}
use Rattle.undo_list.specs.declared.covering.Span.{Span}
use Rattle.undo_list.specs.declared.records.SavedAt.{SavedAt}

-- ---- the words of the header behind the magic word

pub record IsHeader (f : RegionContent) (h : Header) : Type 0 where
  pub undo : h.undo ≡ f 1
  pub data_pages : h.«data» ≡ f 2
  pub head : h.head ≡ f 3

-- ---- records, read one after the other

-- records from a head on
pub record IsChain (f : RegionContent) (head : ℕ) (rs : List UndoRecord) : Type 0 where
  pub links : Links f head rs
  pub room : taken rs ≤ undo_words f
  pub within : Within (places f) rs

-- what was read of the newest of some records
pub record IsNewest (f : RegionContent) (rs : List UndoRecord) (v : SavedAt) : Type 0 where
  pub newest : UndoRecord
  pub rest : List UndoRecord
  pub is : rs ≡ newest ∷ rest
  pub at : v.at ≡ taken rest
  pub first : v.first ≡ newest.first
  pub count : v.count ≡ length newest.old
  pub older : v.older ≡ undo_word f v.at

-- a record was read, of those from it on that are still to be looked at: of the places of a span just these records tell
-- whether each is covered
pub record Awaits (f : RegionContent) (v : SavedAt) (span : Span) : Type 0 where
  pub newest : UndoRecord
  pub rest : List UndoRecord
  pub first : v.first ≡ newest.first
  pub count : v.count ≡ length newest.old
  pub within : v.first + v.count ≤ places f
  pub chain : IsChain f v.older rest
  pub same : (q : ℕ) → span.from ≤ q → q < span.to → is_covered (undo_records f) q ≡ is_covered (newest ∷ rest) q

-- the places of a span that a record has become marked
pub record MarksRecord (old new : List ℕ) (first count : ℕ) (span : Span) : Type 0 where
  pub inside : (q : ℕ) → span.from ≤ q → q < span.to → first ≤ q → q < first + count → mark_of new (q - span.from) ≡ 1
  pub outside : (q : ℕ) → span.from ≤ q → q < span.to → (q < first) ⊎ (first + count ≤ q) → mark_of new (q - span.from) ≡ mark_of old (q - span.from)
