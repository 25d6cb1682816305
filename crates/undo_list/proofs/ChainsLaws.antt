-- The newest record of a chain, and where it lies.
use Rattle.std.specs.Prelude.{◌≡◌, ℕ, suc, ◌+◌, ◌≤◌, List, ◌∷◌, length}
use Rattle.rio_base.specs.Regions.{RegionContent}
use Rattle.rio_model.specs.Undo.{UndoRecord, IsRecord, places, taken, undo_word, undo_words}
use Rattle.undo_list.specs.Records.{IsChain}

-- the newest of some records
pub record ChainHead (f : RegionContent) (head : ℕ) (rs : List UndoRecord) : Type 0 where
  pub newest : UndoRecord
  pub rest : List UndoRecord
  pub is : rs ≡ newest ∷ rest
  pub at : head ≡ suc (taken rest)
  pub lies : IsRecord f (taken rest) newest
  pub room : taken rest + 3 + length newest.old ≤ undo_words f
  pub within : newest.first + length newest.old ≤ places f
  pub chain : IsChain f (undo_word f (taken rest)) rest
