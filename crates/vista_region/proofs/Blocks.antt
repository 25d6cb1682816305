-- What a block that is taken or given back comes to.
use Rattle.vista_region.proofs.Common.{◌≡◌, ℕ, ◌+◌, ◌-◌, ◌*◌, ◌/◌, ◌%◌, ◌<◌, ◌≤◌, ◌⊎◌, inl, inr, ◌++◌, true, false, cond, Some, Err, List, ◌∷◌, length, map, refl, sym, ap, ◌∙◌, arith, IsErrOf, nat_eq, range_with_len, nat_tests, length-map-range_with_len, RegionContent, RegionNode, Txn, OfBlocks, heap_blocks, units_of, before, data_from, live, map_pages, taken, undo_records, undo_words, Outcome}
use Rattle.std.proofs.lemmas.Bool.{cases_lt}
use Rattle.std.proofs.lemmas.List.{append-nil}
use Rattle.rio_model.specs.Heap.{Allocates, IsBlock, IsFirstFit, IsGap, OffBlock, Releases, block_size, touched_pages, with_block, without_block}
use Rattle.rio_model.proofs.HeapRules.{block_listed, no_block_listed}
use Rattle.rio_model.specs.Undo.{SameSizes, Undoes, saving}
use Rattle.rio_requests.specs.RegionAnswers.{alloc_on, first_fit, free_on, give_back, map_record, take_fit, units_in, with_used}
use Rattle.rio_requests.specs.declared.reply.Reply.TheVariants.{Ok as Done, Number}
use Rattle.vista_region.specs.Ends.{DoneAs, TxnEnds, says_done}
use Rattle.vista_region.specs.Failures.{heap_handed}
use Rattle.vista_region.specs.Marks.{Marks, mark_of, txn_in}
use Rattle.vista_region.specs.Regions.{ranges_of, region_now, txn_now}
use Rattle.vista_region.specs.Steps.{says_unit}
use Rattle.recov_alloc.specs.declared.failures.HeapFail.{HeapFail}
use Rattle.recov_alloc.specs.declared.failures.HeapFail.TheVariants.{Full, NotBlock, UndoFull, Fault, Stopped}
use Rattle.vista_region.proofs.Covered.{range_of_map}
use Rattle.vista_region.proofs.Heaps.{fit_is, fit_none}
use Rattle.vista_region.proofs.Nodes.{marked, txn_is}
use Rattle.vista_region.proofs.Outcomes.{open_goes, same_answer, undo_full, undo_goes}

-- ---- the region and the transaction, under a record of map words

abbrev with_blocks : RegionNode → List (ℕ × ℕ) → RegionNode
with_blocks r blocks = record r { blocks = blocks }

abbrev region_of : List ℕ → ℕ → List (ℕ × ℕ) → RegionNode
region_of words undo blocks = record { words = words; undo = undo; blocks = blocks }

pub words_same : (f g : RegionContent) → SameSizes f g → ((q : ℕ) → data_from f ≤ q → live g q ≡ live f q) → (region_now g).words ≡ (region_now f).words
words_same f g s same =
    ap (λ d. map (λ q. live g (512 * map_pages d + q)) (range_with_len 0 (512 * d))) s.data_pages
    ∙ ap (λ (h : ℕ → ℕ). map h (range_with_len 0 (512 * f 2))) (λ i q. same (data_from f + q) (omega arith) i)

block_now : (f g : RegionContent) (blocks : List (ℕ × ℕ)) → SameSizes f g → ((q : ℕ) → data_from f ≤ q → live g q ≡ live f q) → heap_blocks (live g) (units_of f) ≡ blocks → region_now g ≡ with_blocks (region_now f) blocks
block_now f g blocks s same listed =
    ap (λ ws. region_of ws (g 1) (heap_blocks (live g) (units_of g))) (words_same f g s same)
    ∙ ap (λ u. region_of (region_now f).words u (heap_blocks (live g) (units_of g))) s.undo
    ∙ ap (λ bs. region_of (region_now f).words (f 1) bs) (ap (λ d. heap_blocks (live g) (64 * d)) s.data_pages ∙ listed)

txn_used : (i : ℕ) (f g : RegionContent) (place k : ℕ) → SameSizes f g → before g ≡ before f → undo_records g ≡ saving (live f) place k ∷ undo_records f → place < data_from f → place + k ≤ data_from f → txn_now i g false ≡ with_used (txn_now i f false) (3 + k)
txn_used i f g place k s e rs low high = txn_is i f g false (ranges_of (data_from f) (undo_records f)) (taken (undo_records f) + (3 + k)) s e ranges used
  where
    many : length (saving (live f) place k).old ≡ k
    many = length-map-range_with_len (live f) place k

    ranges : ranges_of (data_from f) (undo_records g) ≡ ranges_of (data_from f) (undo_records f)
    ranges =
        ap (ranges_of (data_from f)) rs
        ∙ ap (λ (xs : List (ℕ × ℕ)). ranges_of (data_from f) (undo_records f) ++ xs) (range_of_map (data_from f) (saving (live f) place k) low (omega (arith, many, high)))
        ∙ append-nil (ranges_of (data_from f) (undo_records f))

    used : taken (undo_records g) ≡ taken (undo_records f) + (3 + k)
    used = ap taken rs ∙ omega (arith, many)

-- the map words of a block lie before the data
map_low : (pages t n : ℕ) → 1 ≤ n → t + n ≤ 64 * pages → 2 * (t / 64) < 512 * map_pages pages
map_low pages t n some within = omega (arith, some, within)

map_high : (pages t n : ℕ) → 1 ≤ n → t + n ≤ 64 * pages → 2 * (t / 64) + 2 * touched_pages t n ≤ 512 * map_pages pages
map_high pages t n some within = omega (arith, some, within)

map_last : (pages t n : ℕ) → 1 ≤ n → t + n ≤ 64 * pages → 2 * ((t + n - 1) / 64) + 1 < 512 * map_pages pages
map_last pages t n some within = omega (arith, some, within)

off_data : (f g : RegionContent) (t n : ℕ) → 1 ≤ n → t + n ≤ units_of f → OffBlock (live f) (live g) t n → (q : ℕ) → data_from f ≤ q → live g q ≡ live f q
off_data f g t n some within off q low = off.each q (inr (omega (arith, low, map_last (f 2) t n some within)))

-- ---- a block is taken

abbrev after_alloc : RegionContent → ℕ → Txn → Outcome
after_alloc f n t = take_fit (region_now f) n t (first_fit (region_now f).blocks (units_in (region_now f)) n)

pub alloc_done : (marks : Marks) (i n : ℕ) (f g : RegionContent) (units t : ℕ) → mark_of marks i ≡ Some false → OfBlocks (live f) (f 2) → 1 ≤ units → Allocates f g units t → taken (undo_records f) + 3 + 2 * touched_pages t units ≤ undo_words f → Undoes n f g → heap_blocks (live g) (units_of f) ≡ with_block (heap_blocks (live f) (units_of f)) t units → DoneAs (alloc_on (region_now f) (txn_in marks i f) units) marks i g (says_unit t)
alloc_done marks i n f g units t m h some a room u listed =
    open_goes marks i f (after_alloc f units) m
    ∙ ap (take_fit (region_now f) units (txn_now i f false)) (fit_is f units t h some a.fit)
    ∙ undo_goes i f (map_record t units) _ (omega (arith, room))
    ∙ same_answer (with_blocks (region_now f) (with_block (region_now f).blocks t units)) (region_now g) (Some (with_used (txn_now i f false) (map_record t units))) (txn_in marks i g) (Number (64 * t))
    (sym (block_now f g (with_block (region_now f).blocks t units) u.sizes (off_data f g t units some a.fit.gap.within a.others) listed))
    (ap (λ (x : Txn). Some x) (sym (txn_used i f g (2 * (t / 64)) (2 * touched_pages t units) u.sizes u.before a.records (map_low (f 2) t units some a.fit.gap.within) (map_high (f 2) t units some a.fit.gap.within))) ∙ sym (marked marks i g false m))

pub no_gap : (marks : Marks) (i : ℕ) (f : RegionContent) (units : ℕ) → mark_of marks i ≡ Some false → OfBlocks (live f) (f 2) → ((t : ℕ) → IsGap (live f) (units_of f) t units → ⊥) → alloc_on (region_now f) (txn_in marks i f) units ≡ Err 17
no_gap marks i f units m h none = open_goes marks i f (after_alloc f units) m ∙ ap (take_fit (region_now f) units (txn_now i f false)) (fit_none f units h none)

no_room : (marks : Marks) (i : ℕ) (f : RegionContent) (units t : ℕ) → mark_of marks i ≡ Some false → OfBlocks (live f) (f 2) → 1 ≤ units → IsFirstFit (live f) (units_of f) units t → undo_words f < taken (undo_records f) + 3 + 2 * touched_pages t units → alloc_on (region_now f) (txn_in marks i f) units ≡ Err 16
no_room marks i f units t m h some fit full =
    open_goes marks i f (after_alloc f units) m
    ∙ ap (take_fit (region_now f) units (txn_now i f false)) (fit_is f units t h some fit)
    ∙ undo_full i f (map_record t units) _ (omega (arith, full))

-- more units than there are
pub too_many : (f : RegionContent) (units : ℕ) → units_of f < units → (t : ℕ) → IsGap (live f) (units_of f) t units → ⊥
too_many f units many t g = omega (arith, many, g.within)

pub alloc_fails : (marks : Marks) (i : ℕ) (f g : RegionContent) (units : ℕ) (e : HeapFail) → mark_of marks i ≡ Some false → OfBlocks (live f) (f 2) → 1 ≤ units
    → (IsErrOf {T = ℕ} (Err e) Full → (t : ℕ) → IsGap (live f) (units_of f) t units → ⊥)
    → (IsErrOf {T = ℕ} (Err e) UndoFull → (t : ℕ) × IsFirstFit (live f) (units_of f) units t × (undo_words f < taken (undo_records f) + 3 + 2 * touched_pages t units))
    → (IsErrOf {T = ℕ} (Err e) Full ⊎ IsErrOf {T = ℕ} (Err e) UndoFull → g ≡ f)
    → (IsErrOf {T = ℕ} (Err e) NotBlock → ⊥)
    → TxnEnds (alloc_on (region_now f) (txn_in marks i f) units) says_unit marks marks i f g (Err (heap_handed e))
alloc_fails marks i f g units Full m h some none full same never = (no_gap marks i f units m h (none refl), same (inl refl), refl)
alloc_fails marks i f g units NotBlock m h some none full same never = absurd (never refl)
alloc_fails marks i f g units UndoFull m h some none full same never = let x = full refl in (no_room marks i f units x.0 m h some x.1 x.2, same (inr refl), refl)
alloc_fails marks i f g units Fault m h some none full same never = tt
alloc_fails marks i f g units Stopped m h some none full same never = tt

-- ---- a block is given back

abbrev after_free : RegionContent → ℕ → Txn → Outcome
after_free f at t = cond (nat_eq (at % 64) 0) (give_back (region_now f) (at / 64) t (block_size (region_now f).blocks (at / 64))) (Err 18)

free_goes : (marks : Marks) (i : ℕ) (f : RegionContent) (at : ℕ) → mark_of marks i ≡ Some false → at % 64 ≡ 0 → free_on (region_now f) (txn_in marks i f) at ≡ give_back (region_now f) (at / 64) (txn_now i f false) (block_size (region_now f).blocks (at / 64))
free_goes marks i f at m whole =
    let test : nat_eq (at % 64) 0 ≡ true = grind (arith, nat_tests) in
    open_goes marks i f (after_free f at) m ∙ ap (λ b. cond b (give_back (region_now f) (at / 64) (txn_now i f false) (block_size (region_now f).blocks (at / 64))) (Err 18)) test

pub free_done : (marks : Marks) (i n : ℕ) (f g : RegionContent) (at k : ℕ) → mark_of marks i ≡ Some false → at % 64 ≡ 0 → Releases f g k (at / 64) → taken (undo_records f) + 3 + 2 * touched_pages (at / 64) k ≤ undo_words f → Undoes n f g → heap_blocks (live g) (units_of f) ≡ without_block (heap_blocks (live f) (units_of f)) (at / 64) → DoneAs (free_on (region_now f) (txn_in marks i f) at) marks i g Done
free_done marks i n f g at k m whole a room u listed =
    let t = at / 64 in
    free_goes marks i f at m whole
    ∙ ap (give_back (region_now f) t (txn_now i f false)) (block_listed (live f) (units_of f) t k a.block)
    ∙ undo_goes i f (map_record t k) _ (omega (arith, room))
    ∙ same_answer (with_blocks (region_now f) (without_block (region_now f).blocks t)) (region_now g) (Some (with_used (txn_now i f false) (map_record t k))) (txn_in marks i g) Done
    (sym (block_now f g (without_block (region_now f).blocks t) u.sizes (off_data f g t k a.block.some a.block.within a.others) listed))
    (ap (λ (x : Txn). Some x) (sym (txn_used i f g (2 * (t / 64)) (2 * touched_pages t k) u.sizes u.before a.records (map_low (f 2) t k a.block.some a.block.within) (map_high (f 2) t k a.block.some a.block.within))) ∙ sym (marked marks i g false m))

pub no_start : (marks : Marks) (i : ℕ) (f : RegionContent) (at : ℕ) → mark_of marks i ≡ Some false → OfBlocks (live f) (f 2) → at % 64 ≡ 0 → ((n : ℕ) → IsBlock (live f) (units_of f) (at / 64) n → ⊥) → free_on (region_now f) (txn_in marks i f) at ≡ Err 18
no_start marks i f at m h whole none = free_goes marks i f at m whole ∙ ap (give_back (region_now f) (at / 64) (txn_now i f false)) (no_block_listed (live f) (f 2) (at / 64) h none)

no_free_room : (marks : Marks) (i : ℕ) (f : RegionContent) (at k : ℕ) → mark_of marks i ≡ Some false → at % 64 ≡ 0 → IsBlock (live f) (units_of f) (at / 64) k → undo_words f < taken (undo_records f) + 3 + 2 * touched_pages (at / 64) k → free_on (region_now f) (txn_in marks i f) at ≡ Err 16
no_free_room marks i f at k m whole b full =
    free_goes marks i f at m whole
    ∙ ap (give_back (region_now f) (at / 64) (txn_now i f false)) (block_listed (live f) (units_of f) (at / 64) k b)
    ∙ undo_full i f (map_record (at / 64) k) _ (omega (arith, full))

-- past the last unit
pub past_all : (f : RegionContent) (t : ℕ) → units_of f ≤ t → (n : ℕ) → IsBlock (live f) (units_of f) t n → ⊥
past_all f t past n b = omega (arith, past, b.within, b.some)

pub free_fails : (marks : Marks) (i : ℕ) (f g : RegionContent) (at : ℕ) (e : HeapFail) → mark_of marks i ≡ Some false → OfBlocks (live f) (f 2) → at % 64 ≡ 0
    → (IsErrOf {T = Unit {0}} (Err e) NotBlock → (n : ℕ) → IsBlock (live f) (units_of f) (at / 64) n → ⊥)
    → (IsErrOf {T = Unit {0}} (Err e) UndoFull → (n : ℕ) × IsBlock (live f) (units_of f) (at / 64) n × (undo_words f < taken (undo_records f) + 3 + 2 * touched_pages (at / 64) n))
    → (IsErrOf {T = Unit {0}} (Err e) NotBlock ⊎ IsErrOf {T = Unit {0}} (Err e) UndoFull → g ≡ f)
    → (IsErrOf {T = Unit {0}} (Err e) Full → ⊥)
    → TxnEnds (free_on (region_now f) (txn_in marks i f) at) says_done marks marks i f g (Err (heap_handed e))
free_fails marks i f g at Full m h whole none full same never = absurd (never refl)
free_fails marks i f g at NotBlock m h whole none full same never = (no_start marks i f at m h whole (none refl), same (inl refl), refl)
free_fails marks i f g at UndoFull m h whole none full same never = let x = full refl in (no_free_room marks i f at x.0 m whole x.1 x.2, same (inr refl), refl)
free_fails marks i f g at Fault m h whole none full same never = tt
free_fails marks i f g at Stopped m h whole none full same never = tt

pub at_least : (a b : ℕ) → (a < b → ⊥) → b ≤ a
at_least a b none = by (cases_lt a b)
  where
    by : (a < b) ⊎ (b ≤ a) → b ≤ a
    by (inl less) = absurd (none less)
    by (inr more) = more
