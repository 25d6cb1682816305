-- The heap map lies before the data: data words that change leave it, and its blocks.
use Rattle.vista_region.proofs.Common.{◌≡◌, ℕ, zero, suc, ◌+◌, ◌*◌, ◌/◌, ◌<◌, ◌≤◌, ◌⊎◌, inl, inr, Bool, true, false, cond, ◌&&◌, Some, None, List, ◌∷◌, refl, sym, ap, ◌∙◌, arith, not, range_with_len, nat_tests, length-map-range_with_len, RegionContent, true_false, OfBlocks, heap_blocks, units_of, data_from, live, map_pages}
use Rattle.std.proofs.Common.{eqb, nat_le}
use Rattle.std.specs.Prelude.{find}
use Rattle.rio_model.specs.Heap.{IsFirstFit, IsGap, blocks_from, in_block, run_length, starts, used}
use Rattle.rio_model.proofs.HeapRules.{in_block_used, used_below}
use Rattle.rio_requests.specs.RegionAnswers.{all_free, first_fit, units_in}
use Rattle.vista_region.specs.Regions.{region_now}

-- the words of the heap map of n data pages are the same
pub record SameMap (n : ℕ) (l m : ℕ → ℕ) : Type 0 where
  pub each : (q : ℕ) → q < 512 * map_pages n → m q ≡ l q

used_same : (n : ℕ) (l m : ℕ → ℕ) (t : ℕ) → SameMap n l m → t < 64 * (256 * map_pages n) → used m t ≡ used l t
unfolding used
used_same n l m t h small = ap (λ w. bit w) (h.each (2 * (t / 64)) (omega (arith, small)))
  where
    bit : ℕ → ℕ
    bit w = used (λ q. w) t

starts_same : (n : ℕ) (l m : ℕ → ℕ) (t : ℕ) → SameMap n l m → t < 64 * (256 * map_pages n) → starts m t ≡ starts l t
unfolding starts
starts_same n l m t h small = ap (λ w. bit w) (h.each (2 * (t / 64) + 1) (omega (arith, small)))
  where
    bit : ℕ → ℕ
    bit w = starts (λ q. w) t

reach : (n t : ℕ) → t < 64 * n → t < 64 * (256 * map_pages n)
reach n t small = omega (arith, small)

pub alone_same : (n : ℕ) (l m : ℕ → ℕ) → SameMap n l m → OfBlocks l n → OfBlocks m n
alone_same n l m h b = record {
  used_start = λ t small s. used_same n l m t h (reach n t small) ∙ b.used_start t small (sym (starts_same n l m t h (reach n t small)) ∙ s);
  first = λ some u. starts_same n l m 0 h (reach n 0 (omega (arith, some))) ∙ b.first some (sym (used_same n l m 0 h (reach n 0 (omega (arith, some)))) ∙ u);
  after = λ t small none one. starts_same n l m (suc t) h (reach n (suc t) small) ∙ b.after t small (sym (used_same n l m t h (reach n t (omega (arith, small)))) ∙ none) (sym (used_same n l m (suc t) h (reach n (suc t) small)) ∙ one);
  past = λ t low high. (used_same n l m t h high ∙ (b.past t low high).0, starts_same n l m t h high ∙ (b.past t low high).1);
}

runs_same : (n : ℕ) (l m : ℕ → ℕ) (x k : ℕ) → SameMap n l m → x + k ≤ 64 * n → run_length m x k ≡ run_length l x k
runs_same n l m x zero h small = refl
runs_same n l m x (suc k) h small =
    ap (λ u. cond (eqb u 1 && eqb (starts m x) 0) (suc (run_length m (x + 1) k)) 0) (used_same n l m x h (reach n x (omega (arith, small))))
    ∙ ap (λ s. cond (eqb (used l x) 1 && eqb s 0) (suc (run_length m (x + 1) k)) 0) (starts_same n l m x h (reach n x (omega (arith, small))))
    ∙ ap (λ r. cond (eqb (used l x) 1 && eqb (starts l x) 0) (suc r) 0) (runs_same n l m (x + 1) k h (omega (arith, small)))

from_same : (n : ℕ) (l m : ℕ → ℕ) (x k : ℕ) → SameMap n l m → x + k ≤ 64 * n → blocks_from m x k ≡ blocks_from l x k
from_same n l m x zero h small = refl
from_same n l m x (suc k) h small =
    ap (λ s. cond (eqb s 1) ((x, suc (run_length m (x + 1) k)) ∷ blocks_from m (x + 1) k) (blocks_from m (x + 1) k)) (starts_same n l m x h (reach n x (omega (arith, small))))
    ∙ ap (λ r. cond (eqb (starts l x) 1) ((x, suc r) ∷ blocks_from m (x + 1) k) (blocks_from m (x + 1) k)) (runs_same n l m (x + 1) k h (omega (arith, small)))
    ∙ ap (λ (bs : List (ℕ × ℕ)). cond (eqb (starts l x) 1) ((x, suc (run_length l (x + 1) k)) ∷ bs) bs) (from_same n l m (x + 1) k h (omega (arith, small)))

pub blocks_same : (n : ℕ) (l m : ℕ → ℕ) → SameMap n l m → heap_blocks m (64 * n) ≡ heap_blocks l (64 * n)
blocks_same n l m h = from_same n l m 0 (64 * n) h (omega arith)

-- ---- the lowest gap

find_none : (p : ℕ → Bool) (a k : ℕ) → ((s : ℕ) → a ≤ s → s < a + k → p s ≡ false) → find p (range_with_len a k) ≡ None
find_none p a zero none = refl
find_none p a (suc k) none = ap (λ t. cond t (Some a) (find p (range_with_len (a + 1) k))) (none a (omega arith) (omega arith)) ∙ find_none p (a + 1) k (λ s low high. none s (omega (arith, low)) (omega (arith, high)))

find_first : (p : ℕ → Bool) (a k t : ℕ) → a ≤ t → t < a + k → p t ≡ true → ((s : ℕ) → a ≤ s → s < t → p s ≡ false) → find p (range_with_len a k) ≡ Some t
find_first p a zero t low high here none = absurd (omega (arith, low, high))
find_first p a (suc k) t low high here none = by (grind (arith, low)) (λ next. find_first p (a + 1) k t next (omega (arith, high)) here (λ s l h. none s (omega (arith, l)) h))
  where
    by : (a ≡ t) ⊎ (a + 1 ≤ t) → (a + 1 ≤ t → find p (range_with_len (a + 1) k) ≡ Some t) → find p (range_with_len a (suc k)) ≡ Some t
    by (inl e) later = ap (λ b. cond b (Some a) (find p (range_with_len (a + 1) k))) (ap p e ∙ here) ∙ ap (λ x. Some x) e
    by (inr next) later = ap (λ b. cond b (Some a) (find p (range_with_len (a + 1) k))) (none a (omega arith) (omega (arith, next))) ∙ later next

-- a unit that is not used is in no block, and the other way round
free_unit : (l : ℕ → ℕ) (p z : ℕ) → OfBlocks l p → z < 64 * p → used l z ≡ 0 → not (in_block (heap_blocks l (64 * p)) z) ≡ true
free_unit l p z h small u = ap not (in_block_used l p z h small) ∙ ap (λ v. not (eqb v 1)) u

unit_free : (l : ℕ → ℕ) (p z : ℕ) → OfBlocks l p → z < 64 * p → not (in_block (heap_blocks l (64 * p)) z) ≡ true → used l z ≡ 0
unit_free l p z h small e = by (grind (arith, used_below l z))
  where
    by : (used l z ≡ 0) ⊎ (used l z ≡ 1) → used l z ≡ 0
    by (inl u) = u
    by (inr u) = absurd (true_false (sym e ∙ ap not (in_block_used l p z h small) ∙ ap (λ v. not (eqb v 1)) u))

and_true : (a b : Bool) → a ≡ true → b ≡ true → (a && b) ≡ true
and_true a b x y = ap (λ c. c && b) x ∙ y

of_and : (a b : Bool) → (a && b) ≡ true → (a ≡ true) × (b ≡ true)
of_and true b e = (refl, e)
of_and false b e = absurd (true_false (sym e))

free_all : (l : ℕ → ℕ) (p t n : ℕ) → OfBlocks l p → t + n ≤ 64 * p → ((x : ℕ) → t ≤ x → x < t + n → used l x ≡ 0) → all_free (heap_blocks l (64 * p)) t n ≡ true
free_all l p t zero h within free = refl
free_all l p t (suc n) h within free = and_true (not (in_block (heap_blocks l (64 * p)) t)) (all_free (heap_blocks l (64 * p)) (t + 1) n) (free_unit l p t h (omega (arith, within)) (free t (omega arith) (omega arith))) (free_all l p (t + 1) n h (omega (arith, within)) (λ x low high. free x (omega (arith, low)) (omega (arith, high))))

all_free_units : (l : ℕ → ℕ) (p t n : ℕ) → OfBlocks l p → t + n ≤ 64 * p → all_free (heap_blocks l (64 * p)) t n ≡ true → (x : ℕ) → t ≤ x → x < t + n → used l x ≡ 0
all_free_units l p t zero h within e x low high = absurd (omega (arith, low, high))
all_free_units l p t (suc n) h within e x low high = by (grind (arith, low)) (λ next. all_free_units l p (t + 1) n h (omega (arith, within)) parts.1 x next (omega (arith, high)))
  where
    parts : (not (in_block (heap_blocks l (64 * p)) t) ≡ true) × (all_free (heap_blocks l (64 * p)) (t + 1) n ≡ true)
    parts = of_and (not (in_block (heap_blocks l (64 * p)) t)) (all_free (heap_blocks l (64 * p)) (t + 1) n) e

    by : (t ≡ x) ⊎ (t + 1 ≤ x) → (t + 1 ≤ x → used l x ≡ 0) → used l x ≡ 0
    by (inl same) later = ap (used l) (sym same) ∙ unit_free l p t h (omega (arith, within)) parts.0
    by (inr next) later = later next

-- whether n units from t on fit
abbrev fits_at : (ℕ → ℕ) → ℕ → ℕ → ℕ → Bool
fits_at l p n t = nat_le (t + n) (64 * p) && all_free (heap_blocks l (64 * p)) t n

fits_gap : (l : ℕ → ℕ) (p n t : ℕ) → OfBlocks l p → IsGap l (64 * p) t n → fits_at l p n t ≡ true
fits_gap l p n t h g = let within : t + n ≤ 64 * p = g.within in and_true (nat_le (t + n) (64 * p)) (all_free (heap_blocks l (64 * p)) t n) (grind (arith, nat_tests)) (free_all l p t n h g.within g.free)

no_fit : (l : ℕ → ℕ) (p n t : ℕ) → OfBlocks l p → (IsGap l (64 * p) t n → ⊥) → fits_at l p n t ≡ false
no_fit l p n t h none = by (fits_at l p n t) refl
  where
    gap : fits_at l p n t ≡ true → IsGap l (64 * p) t n
    gap e =
        let parts = of_and (nat_le (t + n) (64 * p)) (all_free (heap_blocks l (64 * p)) t n) e in
        let test : nat_le (t + n) (64 * p) ≡ true = parts.0 in
        let within : t + n ≤ 64 * p = grind (arith, nat_tests) in
        record { within = within; free = all_free_units l p t n h within parts.1 }

    by : (b : Bool) → fits_at l p n t ≡ b → b ≡ false
    by true e = absurd (none (gap e))
    by false e = refl

first_is : (l : ℕ → ℕ) (p n t : ℕ) → OfBlocks l p → 1 ≤ n → IsFirstFit l (64 * p) n t → first_fit (heap_blocks l (64 * p)) (64 * p) n ≡ Some t
first_is l p n t h some fit = find_first (fits_at l p n) 0 (64 * p) t (omega arith) (omega (arith, fit.gap.within, some)) (fits_gap l p n t h fit.gap) (λ s low high. no_fit l p n s h (fit.lowest s high))

first_none : (l : ℕ → ℕ) (p n : ℕ) → OfBlocks l p → ((t : ℕ) → IsGap l (64 * p) t n → ⊥) → first_fit (heap_blocks l (64 * p)) (64 * p) n ≡ None
first_none l p n h none = find_none (fits_at l p n) 0 (64 * p) (λ s low high. no_fit l p n s h (none s))

-- ---- of a region

pub units_are : (f : RegionContent) → units_in (region_now f) ≡ units_of f
units_are f = ap (λ x. x / 8) (length-map-range_with_len (λ q. live f (data_from f + q)) 0 (512 * f 2)) ∙ (let e : 512 * f 2 / 8 ≡ 64 * f 2 = omega arith in e)

pub fit_is : (f : RegionContent) (n t : ℕ) → OfBlocks (live f) (f 2) → 1 ≤ n → IsFirstFit (live f) (units_of f) n t → first_fit (region_now f).blocks (units_in (region_now f)) n ≡ Some t
fit_is f n t h some fit = ap (λ u. first_fit (region_now f).blocks u n) (units_are f) ∙ first_is (live f) (f 2) n t h some fit

pub fit_none : (f : RegionContent) (n : ℕ) → OfBlocks (live f) (f 2) → ((t : ℕ) → IsGap (live f) (units_of f) t n → ⊥) → first_fit (region_now f).blocks (units_in (region_now f)) n ≡ None
fit_none f n h none = ap (λ u. first_fit (region_now f).blocks u n) (units_are f) ∙ first_none (live f) (f 2) n h none
