-- The open transactions: the inode of each, and whether it may only be aborted, in order of `begin`.
use Rattle.std.specs.Prelude.{◌==◌, ℕ, Bool, List, [], ◌∷◌, Option, Some, None, if◌then◌else◌}
use Rattle.rio_base.specs.Regions.{RegionContent}
use Rattle.rio_model.specs.declared.txn.Txn.{Txn}
use Rattle.vista_region.specs.Regions.{txn_now}

abbrev pub Marks : Type 0
Marks = List (ℕ × Bool)

-- the mark of a region's transaction, where one is open
abbrev pub mark_of : Marks → ℕ → Option Bool
mark_of [] i = None
mark_of (m ∷ marks) i = if m.0 == i then Some m.1 else mark_of marks i

-- a region's row in front of others, or none
abbrev pub row_before : ℕ → Option Bool → Marks → Marks
row_before i None marks = marks
row_before i (Some doomed) marks = (i, doomed) ∷ marks

-- a region's mark becomes this one: its row keeps its place, a new one goes last
abbrev pub set_mark : Marks → ℕ → Option Bool → Marks
set_mark [] i o = row_before i o []
set_mark (m ∷ marks) i o = if m.0 == i then row_before i o marks else m ∷ set_mark marks i o

-- the transaction of a mark, by the region's words
abbrev pub marked_txn : ℕ → RegionContent → Option Bool → Option Txn
marked_txn i f None = None
marked_txn i f (Some doomed) = Some (txn_now i f doomed)

-- the transaction that is open on a region, if there is one
abbrev pub txn_in : Marks → ℕ → RegionContent → Option Txn
txn_in marks i f = marked_txn i f (mark_of marks i)
