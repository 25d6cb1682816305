-- The calls of tests keep their regions sound.
use Rattle.std.proofs.Common.{◌≡◌, ℕ, ◌⊎◌, inl, inr, false, Some, None, Result, Ok, Err, [], sym, ap, subst, ◌∙◌, refl}
use Rattle.std.specs.Prelude.{IsErrOf, OnOk, slice_index_or}
use Rattle.rio_base.specs.Regions.{RegionContent}
use Rattle.rio_model.specs.Heap.{OfBlocks}
use Rattle.rio_model.specs.Undo.{Dropped, IsRegion, Undoes, Undone, before, before_by, live}
use Rattle.rio_requests.specs.RegionAnswers.{commit_on}
use Rattle.rio_model.proofs.UndoRules.{dropped_before}
use Rattle.test_objects.specs.declared.faulty_region.FaultyRegion.{FaultyRegion}
use Rattle.test_objects.specs.FaultyRegions.{IsFreshRegion, OnlyCounts, faulty_content}
use Rattle.vista_region.specs.Ends.{Fits, OnFault, TxnEnds, says_done}
use Rattle.vista_region.specs.Marks.{Marks, mark_of, set_mark, txn_in}
use Rattle.vista_region.specs.Regions.{region_now}
use Rattle.region_tests.specs.TestRegions.{Sound}
use Rattle.vista_region.specs.declared.failures.TxnFail.{TxnFail}
use Rattle.vista_region.specs.declared.failures.TxnFail.TheVariants.{NoTransaction, Doomed, NotAligned, OutOfRange, NotCovered, NotBlock, HeapFull, UndoFull, Fault, Stopped}
use Rattle.vista_region.proofs.Ended.{fits_closed, fits_open, mark_set}

pub still : (old new : Marks) (i n m : ℕ) (f g : RegionContent) → Sound old i n f → Undoes n f g → Fits new i m g → Sound new i m g
still old new i n m f g h u fits = record { fits = fits; rewound = subst (λ d. OfBlocks (before g) d) (sym u.sizes.data_pages) (subst (λ (l : ℕ → ℕ). OfBlocks l (f 2)) (sym u.before) h.rewound) }

pub begun : (old new : Marks) (i n : ℕ) (f : RegionContent) → mark_of old i ≡ None → new ≡ set_mark old i (Some false) → Sound old i n f → Sound new i n f
begun old new i n f none put h =
    let same : before f ≡ live f = ap (λ rs. before_by rs (live f)) (h.fits.closed none) in
    record { fits = fits_open new i n f (ap (λ (ms : Marks). mark_of ms i) put ∙ mark_set old i false) h.fits.region (subst (λ (l : ℕ → ℕ). OfBlocks l (f 2)) same h.rewound); rewound = h.rewound }

pub committed : (old new : Marks) (i n m : ℕ) (f g : RegionContent) → Sound old i n f → (g ≡ f) ⊎ ((mark_of old i ≡ Some false) × Dropped n f g) → Fits new i m g → Sound new i m g
committed old new i n m f g h (inl same) fits = record { fits = fits; rewound = subst (λ (w : RegionContent). OfBlocks (before w) (w 2)) (sym same) h.rewound }
committed old new i n m f g h (inr (was_open, d)) fits = record { fits = fits; rewound = subst (λ k. OfBlocks (before g) k) (sym d.sizes.data_pages) (subst (λ (l : ℕ → ℕ). OfBlocks l (f 2)) (sym (dropped_before n f g d)) (h.fits.heap was_open)) }

pub same_sound : (old new : Marks) (i n m : ℕ) (f g : RegionContent) → Sound old i n f → g ≡ f → Fits new i m g → Sound new i m g
same_sound old new i n m f g h same fits = record { fits = fits; rewound = subst (λ (w : RegionContent). OfBlocks (before w) (w 2)) (sym same) h.rewound }

-- a fresh region, on which no transaction is open
pub fresh_sound : (marks : Marks) (i pages : ℕ) (r : FaultyRegion) → IsFreshRegion pages r → Sound marks i r.count (faulty_content r)
fresh_sound marks i pages r fresh =
    let f = faulty_content r in
    let same : before f ≡ live f = ap (λ rs. before_by rs (live f)) fresh.records in
    let present : OfBlocks (live f) (f 2) = subst (λ d. OfBlocks (live f) d) (sym fresh.pages) fresh.heap in
    record {
      fits = record { region = fresh.region; closed = λ e. fresh.records; heap = λ e. present };
      rewound = subst (λ (l : ℕ → ℕ). OfBlocks l (f 2)) (sym same) present;
    }

pub on_ok : {T E : Type 0} (r : Result T E) (P Q : Type 0) → (P → Q) → OnOk r P → OnOk r Q
on_ok (Ok v) P Q h p = h p
on_ok (Err e) P Q h p = tt

pub commit_sound : (old new : Marks) (i n m : ℕ) (f g : RegionContent) (r : Result (Unit {0}) TxnFail) → TxnEnds (commit_on (region_now f) (txn_in old i f)) says_done old new i f g r → OnFault r (λ k. (k ≡ 0) × (g ≡ f)) → (g ≡ f) ⊎ ((mark_of old i ≡ Some false) × Dropped n f g) → Sound old i n f → (IsErrOf r Stopped → ⊥) → Fits new i m g → Sound new i m g
commit_sound old new i n m f g (Ok v) e k d h runs fits = committed old new i n m f g h d fits
commit_sound old new i n m f g (Err NoTransaction) e k d h runs fits = same_sound old new i n m f g h e.1 fits
commit_sound old new i n m f g (Err Doomed) e k d h runs fits = same_sound old new i n m f g h e.1 fits
commit_sound old new i n m f g (Err NotAligned) e k d h runs fits = same_sound old new i n m f g h e.1 fits
commit_sound old new i n m f g (Err OutOfRange) e k d h runs fits = same_sound old new i n m f g h e.1 fits
commit_sound old new i n m f g (Err NotCovered) e k d h runs fits = same_sound old new i n m f g h e.1 fits
commit_sound old new i n m f g (Err NotBlock) e k d h runs fits = same_sound old new i n m f g h e.1 fits
commit_sound old new i n m f g (Err HeapFull) e k d h runs fits = same_sound old new i n m f g h e.1 fits
commit_sound old new i n m f g (Err UndoFull) e k d h runs fits = same_sound old new i n m f g h e.1 fits
commit_sound old new i n m f g (Err (Fault b)) e k d h runs fits = same_sound old new i n m f g h k.1 fits
commit_sound old new i n m f g (Err Stopped) e k d h runs fits = absurd (runs refl)

-- a region that is recovered fits a new table
pub idle_fits : (marks : Marks) (i n m : ℕ) (f g : RegionContent) → marks ≡ [] → Undone n f g → IsRegion m g → Fits marks i m g
idle_fits marks i n m f g none u region = fits_closed marks i m g (ap (λ (ms : Marks). mark_of ms i) none) region u.records

-- words that were read alone
pub same_words : (marks : Marks) (i n m : ℕ) (f g : RegionContent) → m ≡ n → g ≡ f → Fits marks i n f → Fits marks i m g
same_words marks i n m f g count words h = subst (λ k. Fits marks i k g) (sym count) (subst (λ (w : RegionContent). Fits marks i n w) (sym words) h)

pub read_sound : (marks : Marks) (i n m : ℕ) (f g : RegionContent) → m ≡ n → g ≡ f → Sound marks i n f → Sound marks i m g
read_sound marks i n m f g count words h = subst (λ k. Sound marks i k g) (sym count) (subst (λ (w : RegionContent). Sound marks i n w) (sym words) h)

same_content : (x y : FaultyRegion) → OnlyCounts x y → faulty_content y ≡ faulty_content x
same_content x y h = λ i at. slice_index_or (h.words i).items at 0

-- a region that was told where to fail or to stop
pub told_sound : (marks : Marks) (i : ℕ) (x y : FaultyRegion) → OnlyCounts x y → Sound marks i x.count (faulty_content x) → Sound marks i y.count (faulty_content y)
told_sound marks i x y h s = read_sound marks i x.count y.count (faulty_content x) (faulty_content y) h.count (same_content x y h) s
