-- The regions that a running core holds, and their transactions.
use Rattle.std.specs.Prelude.{◌≡◌, ◌*◌, ℕ, Bool, true, false, List, [], map, length, Option, Some, None}
use Rattle.std.specs.FinMap.{get}
use Rattle.rio_base.specs.Regions.{RegionContent}
use Rattle.rio_model.specs.declared.node.Node.TheVariants.{Region}
use Rattle.rio_model.specs.declared.node.RegionNode.{RegionNode}
use Rattle.rio_model.specs.declared.state.State.{State}
use Rattle.rio_model.specs.declared.txn.Txn.{Txn}
use Rattle.rio_model.specs.Heap.{OfBlocks}
use Rattle.rio_model.specs.Held.{Held}
use Rattle.rio_model.specs.Undo.{live, undo_records}
use Rattle.rio_model.specs.VolumeReads.{region_in}
use Rattle.rio_requests.specs.Crash.{OpenRegions}
use Rattle.rio_requests.specs.Transactions.{txn_at}
use Rattle.vista_region.specs.Marks.{Marks, mark_of}
use Rattle.vista_region.specs.Regions.{region_now, txn_now}

-- ---- regions and their transactions

-- the rows of a table of these transactions
abbrev pub marks_of : List Txn → Marks
marks_of txns = map (λ (t : Txn). (t.ino.0, t.doomed)) txns

-- a transaction that may only be aborted: what it was before is what the region's words undo to, and of what it is now the
-- size is known
pub record IsDoomed (i : ℕ) (w : RegionContent) (r : RegionNode) (o : Option Txn) : Type 0 where
  pub txn : Txn
  pub is : o ≡ Some txn
  pub ino : txn.ino.0 ≡ i
  pub doomed : txn.doomed ≡ true
  pub before : txn.before ≡ (region_in w).words
  pub before_blocks : txn.before_blocks ≡ (region_in w).blocks
  pub words : length r.words ≡ 512 * w 2
  pub undo : r.undo ≡ w 1

-- by a region's mark: its node r and its transaction, where it has one, are what its words w say. Without one it has no undo
-- record
abbrev pub RegionHeld : ℕ → RegionContent → Option Bool → RegionNode → Option Txn → Type 0
RegionHeld i w None r o = (r ≡ region_in w) × (o ≡ None) × (undo_records w ≡ [])
RegionHeld i w (Some false) r o = (r ≡ region_now w) × (o ≡ Some (txn_now i w false)) × OfBlocks (live w) (w 2)
RegionHeld i w (Some true) r o = IsDoomed i w r o

-- the regions that are held are those of state s, with its open transactions
pub record RegionsHeld (held : ℕ → Held) (marks : Marks) (s : State) : Type 0 where
  pub marked : marks ≡ marks_of s.txns
  pub open_regions : OpenRegions s
  pub each : (i : ℕ) (r : RegionNode) → get s.nodes i ≡ Some (Region r) → RegionHeld i (held i).word (mark_of marks i) r (txn_at s.txns i)
