-- The calls of tests keep a map of blocks alone.
use Rattle.std.proofs.Common.{◌≡◌, ℕ, ap, sym, subst}
use Rattle.std.specs.Prelude.{slice_index_or}
use Rattle.rio_base.specs.Regions.{RegionContent}
use Rattle.rio_model.specs.Undo.{Dropped, IsRegion, Undoes, Undone, before, before_by, live}
use Rattle.rio_model.specs.Heap.{OfBlocks}
use Rattle.test_objects.specs.declared.faulty_region.FaultyRegion.{FaultyRegion}
use Rattle.test_objects.specs.FaultyRegions.{IsFreshRegion, OnlyCounts, faulty_content}
use Rattle.region_tests.specs.TestRegions.{IsHeap}

pub still : (n k m : ℕ) (f g : RegionContent) → IsHeap n f → Undoes k f g → IsRegion m g → OfBlocks (live g) (g 2) → IsHeap m g
still n k m f g h u region present = record {
  region = region;
  present = present;
  rewound = subst (λ d. OfBlocks (before g) d) (sym u.sizes.data_pages) (subst (λ (w : ℕ → ℕ). OfBlocks w (f 2)) (sym u.before) h.rewound);
}

pub unchanged : (n m : ℕ) (f g : RegionContent) → IsHeap n f → g ≡ f → IsRegion m g → IsHeap m g
unchanged n m f g h e region = record {
  region = region;
  present = subst (λ (w : RegionContent). OfBlocks (live w) (w 2)) (sym e) h.present;
  rewound = subst (λ (w : RegionContent). OfBlocks (before w) (w 2)) (sym e) h.rewound;
}

pub put_back : (n k m : ℕ) (f g : RegionContent) → IsHeap n f → Undone k f g → IsRegion m g → IsHeap m g
put_back n k m f g h u region =
    let same : before g ≡ live g = ap (λ rs. before_by rs (live g)) u.records in
    let present : OfBlocks (live g) (g 2) = subst (λ d. OfBlocks (live g) d) (sym u.sizes.data_pages) (subst (λ (w : ℕ → ℕ). OfBlocks w (f 2)) (sym u.present) h.rewound) in
    record { region = region; present = present; rewound = subst (λ (w : ℕ → ℕ). OfBlocks w (g 2)) (sym same) present }

pub kept : (n k m : ℕ) (f g : RegionContent) → IsHeap n f → Dropped k f g → IsRegion m g → IsHeap m g
kept n k m f g h u region =
    let same : before g ≡ live g = ap (λ rs. before_by rs (live g)) u.records in
    let present : OfBlocks (live g) (g 2) = subst (λ d. OfBlocks (live g) d) (sym u.sizes.data_pages) (subst (λ (w : ℕ → ℕ). OfBlocks w (f 2)) (sym u.present) h.present) in
    record { region = region; present = present; rewound = subst (λ (w : ℕ → ℕ). OfBlocks w (g 2)) (sym same) present }

pub of_fresh : (pages : ℕ) (r : FaultyRegion) → IsFreshRegion pages r → IsHeap r.count (faulty_content r)
of_fresh pages r fresh =
    let f = faulty_content r in
    let same : before f ≡ live f = ap (λ rs. before_by rs (live f)) fresh.records in
    let present : OfBlocks (live f) (f 2) = subst (λ d. OfBlocks (live f) d) (sym fresh.pages) fresh.heap in
    record { region = fresh.region; present = present; rewound = subst (λ (w : ℕ → ℕ). OfBlocks w (f 2)) (sym same) present }

pub counted : (r s : FaultyRegion) → OnlyCounts r s → IsHeap r.count (faulty_content r) → IsHeap s.count (faulty_content s)
counted r s o h =
    let same : faulty_content s ≡ faulty_content r = ap (λ words at. slice_index_or words.items at 0) o.words in
    subst (λ n. IsHeap n (faulty_content s)) (sym o.count) (subst (λ (w : RegionContent). IsHeap r.count w) (sym same) h)
