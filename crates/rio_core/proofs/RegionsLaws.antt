-- Answers that are the same over two regions, and a state that moves as the words of one region do.
use Rattle.std.specs.Prelude.{◌≡◌, ℕ, Bool, List, Option, Some, None}
use Rattle.rio_core.proofs.Common.{RegionContent, Region, RegionNode, State, Txn, with_node, region_in, crashed, abort_on, alloc_on, begin_on, commit_on, free_on, get_on, put_on, range_on}

-- ---- one region

-- the mark of a transaction, where one is open
abbrev pub mark_in : Option Txn → Option Bool
mark_in None = None
mark_in (Some t) = Some t.doomed

-- no transaction, or one on region i
abbrev pub IsOn : ℕ → Option Txn → Type 0
IsOn i None = Unit {0}
IsOn i (Some t) = t.ino.0 ≡ i

-- every request on a region is answered over region r and transaction o as over q and u
pub record SameAnswers (i : ℕ) (r : RegionNode) (o : Option Txn) (q : RegionNode) (u : Option Txn) : Type 0 where
  pub begin : begin_on i r o ≡ begin_on i q u
  pub range : (off len : ℕ) → range_on r o off len ≡ range_on q u off len
  pub put : (off : ℕ) (bytes : List ℕ) → put_on r o off bytes ≡ put_on q u off bytes
  pub get : (off len : ℕ) → get_on r o off len ≡ get_on q u off len
  pub alloc : (n : ℕ) → alloc_on r o n ≡ alloc_on q u n
  pub free : (at : ℕ) → free_on r o at ≡ free_on q u at
  pub commit : commit_on r o ≡ commit_on q u
  pub abort : abort_on r o ≡ abort_on q u

-- ---- from a state to the next

-- after a stop, t is s with region i as the words w undo to
abbrev pub RegionMoves : ℕ → RegionContent → State → State → Type 0
RegionMoves i w s t = crashed t ≡ with_node (crashed s) i (Region (region_in w))
