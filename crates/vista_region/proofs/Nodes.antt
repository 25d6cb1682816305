-- The region and its transaction, where words at the places and records are as they were.
use Rattle.vista_region.proofs.Common.{◌≡◌, ℕ, ◌*◌, Bool, Option, Some, None, List, refl, ap, ◌∙◌, RegionContent, RegionNode, Txn, before, data_from, live, map_pages, taken, undo_records, Rests, Undone}
use Rattle.rio_model.specs.Undo.{SameSizes}
use Rattle.rio_model.proofs.RegionMoves.{node_same}
use Rattle.rio_model.proofs.UndoRules.{rests_undoes}
use Rattle.rio_model.specs.VolumeReads.{region_in}
use Rattle.vista_region.specs.Marks.{Marks, mark_of, marked_txn, txn_in}
use Rattle.vista_region.specs.Regions.{ranges_of, region_now, txn_now}

-- the region as it is, and as it was
pub now_same : (f g : RegionContent) → SameSizes f g → live g ≡ live f → region_now g ≡ region_now f
now_same f g s e = node_same f g (live f) (live g) s e

pub in_same : (f g : RegionContent) → SameSizes f g → before g ≡ before f → region_in g ≡ region_in f
in_same f g s e = node_same f g (before f) (before g) s e

-- put back, it is what it was
pub undone_now : (n : ℕ) (f g : RegionContent) → Undone n f g → region_now g ≡ region_in f
undone_now n f g u = node_same f g (before f) (live g) u.sizes u.present

-- ---- transactions

abbrev pub txn_by : ℕ → Bool → RegionNode → List (ℕ × ℕ) → ℕ → Txn
txn_by i doomed r ranges used = record { ino = record { 0 = i }; before = r.words; before_blocks = r.blocks; ranges = ranges; used = used; doomed = doomed }

-- the words of before as they were, the ranges and the words taken as given
pub txn_is : (i : ℕ) (f g : RegionContent) (d : Bool) (ranges : List (ℕ × ℕ)) (used : ℕ) → SameSizes f g → before g ≡ before f → ranges_of (data_from f) (undo_records g) ≡ ranges → taken (undo_records g) ≡ used → txn_now i g d ≡ txn_by i d (region_in f) ranges used
txn_is i f g d ranges used s e rs u =
    ap (λ r. txn_by i d r (ranges_of (data_from g) (undo_records g)) (taken (undo_records g))) (in_same f g s e)
    ∙ ap (λ x. txn_by i d (region_in f) (ranges_of (512 * map_pages x) (undo_records g)) (taken (undo_records g))) s.data_pages
    ∙ ap (λ r. txn_by i d (region_in f) r (taken (undo_records g))) rs
    ∙ ap (txn_by i d (region_in f) ranges) u

pub txn_same : (i : ℕ) (f g : RegionContent) (d : Bool) → SameSizes f g → before g ≡ before f → undo_records g ≡ undo_records f → txn_now i g d ≡ txn_now i f d
txn_same i f g d s e rs = txn_is i f g d (ranges_of (data_from f) (undo_records f)) (taken (undo_records f)) s e (ap (ranges_of (data_from f)) rs) (ap taken rs)

pub txn_in_same : (marks : Marks) (i : ℕ) (f g : RegionContent) → SameSizes f g → before g ≡ before f → undo_records g ≡ undo_records f → txn_in marks i g ≡ txn_in marks i f
txn_in_same marks i f g s e rs = by (mark_of marks i)
  where
    by : (o : Option Bool) → marked_txn i g o ≡ marked_txn i f o
    by None = refl
    by (Some d) = ap (λ (t : Txn). Some t) (txn_same i f g d s e rs)

-- nothing but undo words that no record takes differs
pub rests_now : (n : ℕ) (f g : RegionContent) → Rests n f g → region_now g ≡ region_now f
rests_now n f g r = now_same f g r.sizes r.present

pub rests_txn : (marks : Marks) (i n : ℕ) (f g : RegionContent) → Rests n f g → txn_in marks i g ≡ txn_in marks i f
rests_txn marks i n f g r = txn_in_same marks i f g r.sizes (rests_undoes n f g r).before r.records

-- ---- by the mark

pub marked : (marks : Marks) (i : ℕ) (f : RegionContent) (b : Bool) → mark_of marks i ≡ Some b → txn_in marks i f ≡ Some (txn_now i f b)
marked marks i f b e = ap (marked_txn i f) e

pub unmarked : (marks : Marks) (i : ℕ) (f : RegionContent) → mark_of marks i ≡ None → txn_in marks i f ≡ None
unmarked marks i f e = ap (marked_txn i f) e
