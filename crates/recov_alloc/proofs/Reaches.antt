-- How far a block reaches.
use Rattle.std.proofs.Common.{◌≡◌, ◌≢◌, ℕ, zero, suc, ◌+◌, ◌-◌, ◌*◌, ◌/◌, ◌%◌, ◌<◌, ◌≤◌, ◌⊎◌, inl, inr, sym, ap, subst, ◌∙◌, arith, List, [], ◌∷◌, ◌++◌, Bool, true, false, ◌==◌, append_assoc, append-nil}
use Rattle.std.proofs.lemmas.Bool.{cases_eq}
use Rattle.std.proofs.lemmas.Bool.Decides.{nat_tests}
use Rattle.std.specs.Prelude.{slice_index}
use Rattle.std.specs.Int.{bit_at}
use Rattle.rio_base.specs.Regions.{AreWords}
use Rattle.rio_model.specs.Heap.{used, starts, IsBlock, OfBlocks, blocks_from, run_length}
use Rattle.rio_model.proofs.HeapRules.{block_run}
use Rattle.undo_list.specs.Bits.{IsZeros}
use Rattle.recov_alloc.specs.Extents.{GoesOn, ReachesInPage, Within}
use Rattle.recov_alloc.proofs.Fits.{used_bit, starts_bit}

pub within_more : (l : ℕ → ℕ) (t x n : ℕ) (pair : List ℕ) → AreWords l (2 * (x / 64)) 2 pair → Within l t x → GoesOn (slice_index pair 0) (slice_index pair 1) (x % 64) n → Within l t (x + n)
within_more l t x n pair words w z = record { each = λ y low high. at y low high (grind arith) }
  where
    at : (y : ℕ) → t < y → y < x + n → (y < x) ⊎ (x ≤ y) → (used l y ≡ 1) × (starts l y ≡ 0)
    at y low high (inl before) = w.each y low before
    at y low high (inr behind) =
        let both = z.each (y - 64 * (x / 64)) (omega arith) (omega arith) in
        (used_bit l (slice_index pair 0) (x / 64) y (words.each 0 (omega arith) ∙ ap l (omega arith)) (omega arith) (omega (arith, z.within)) ∙ both.0, starts_bit l (slice_index pair 1) (x / 64) y (words.each 1 (omega arith)) (omega arith) (omega (arith, z.within)) ∙ both.1)

pub stops_at : (l : ℕ → ℕ) (x n : ℕ) (pair : List ℕ) → AreWords l (2 * (x / 64)) 2 pair → GoesOn (slice_index pair 0) (slice_index pair 1) (x % 64) n → x % 64 + n < 64 → (used l (x + n) ≡ 0) ⊎ (starts l (x + n) ≡ 1)
stops_at l x n pair words z inner = by (z.end inner)
  where
    place : x + n - 64 * (x / 64) ≡ x % 64 + n
    place = omega arith

    by : (bit_at (slice_index pair 0) (x % 64 + n) ≡ 0) ⊎ (bit_at (slice_index pair 1) (x % 64 + n) ≡ 1) → (used l (x + n) ≡ 0) ⊎ (starts l (x + n) ≡ 1)
    by (inl e) = inl (used_bit l (slice_index pair 0) (x / 64) (x + n) (words.each 0 (omega arith) ∙ ap l (omega arith)) (omega arith) (omega arith) ∙ ap (bit_at (slice_index pair 0)) place ∙ e)
    by (inr e) = inr (starts_bit l (slice_index pair 1) (x / 64) (x + n) (words.each 1 (omega arith)) (omega arith) (omega arith) ∙ ap (bit_at (slice_index pair 1)) place ∙ e)

-- ---- in the page of the first unit

pub reach_none : (used starts t : ℕ) → t % 64 + 1 ≡ 64 → ReachesInPage used starts t (t + 1)
reach_none used starts t last = record {
  low = omega arith;
  most = omega arith;
  each = λ y low high. absurd (omega arith);
  end = λ inner. absurd (inner (omega (arith, last)));
}

pub reach_by : (used starts t n : ℕ) → GoesOn used starts (t % 64 + 1) n → ReachesInPage used starts t (t + 1 + n)
reach_by used starts t n z = record {
  low = omega arith;
  most = omega (arith, z.within);
  each = λ y low high. z.each (y % 64) (omega (arith, z.within)) (omega (arith, z.within));
  end = λ inner. subst (λ i. (bit_at used i ≡ 0) ⊎ (bit_at starts i ≡ 1)) (place inner) (z.end (below inner));
}
  where
    below : (t + 1 + n) % 64 ≢ 0 → t % 64 + 1 + n < 64
    below inner = grind (arith, inner, z.within)

    place : (t + 1 + n) % 64 ≢ 0 → t % 64 + 1 + n ≡ (t + 1 + n) % 64
    place inner = omega (arith, below inner)

pub within_page : (l : ℕ → ℕ) (t x : ℕ) (pair : List ℕ) → AreWords l (2 * (t / 64)) 2 pair → ReachesInPage (slice_index pair 0) (slice_index pair 1) t x → Within l t x
unfolding used starts
within_page l t x pair words r = record { each = λ y low high. at y (omega (arith, r.most)) (r.each y low high) }
  where
    at : (y : ℕ) → y / 64 ≡ t / 64 → (bit_at (slice_index pair 0) (y % 64) ≡ 1) × (bit_at (slice_index pair 1) (y % 64) ≡ 0) → (used l y ≡ 1) × (starts l y ≡ 0)
    at y page both = (ap (λ p. bit_at (l (2 * p)) (y % 64)) page ∙ ap (λ w. bit_at w (y % 64)) (sym (words.each 0 (omega arith) ∙ ap l (omega arith))) ∙ both.0, ap (λ p. bit_at (l (2 * p + 1)) (y % 64)) page ∙ ap (λ w. bit_at w (y % 64)) (sym (words.each 1 (omega arith))) ∙ both.1)

pub stops_in_page : (l : ℕ → ℕ) (t x : ℕ) (pair : List ℕ) → AreWords l (2 * (t / 64)) 2 pair → ReachesInPage (slice_index pair 0) (slice_index pair 1) t x → x % 64 ≢ 0 → (used l x ≡ 0) ⊎ (starts l x ≡ 1)
unfolding used starts
stops_in_page l t x pair words r inner = by (r.end inner)
  where
    page : x / 64 ≡ t / 64
    page = grind (arith, inner, r.most, r.low)

    by : (bit_at (slice_index pair 0) (x % 64) ≡ 0) ⊎ (bit_at (slice_index pair 1) (x % 64) ≡ 1) → (used l x ≡ 0) ⊎ (starts l x ≡ 1)
    by (inl e) = inl (ap (λ p. bit_at (l (2 * p)) (x % 64)) page ∙ ap (λ w. bit_at w (x % 64)) (sym (words.each 0 (omega arith) ∙ ap l (omega arith))) ∙ e)
    by (inr e) = inr (ap (λ p. bit_at (l (2 * p + 1)) (x % 64)) page ∙ ap (λ w. bit_at w (x % 64)) (sym (words.each 1 (omega arith))) ∙ e)

-- ---- whether a block starts

start_bit : (l : ℕ → ℕ) (t : ℕ) (pair : List ℕ) → AreWords l (2 * (t / 64)) 2 pair → starts l t ≡ bit_at (slice_index pair 1) (t % 64)
unfolding starts
start_bit l t pair words = ap (λ w. bit_at w (t % 64)) (sym (words.each 1 (omega arith)))

pub block_starts : (l : ℕ → ℕ) (t : ℕ) (pair : List ℕ) (b : Bool) → AreWords l (2 * (t / 64)) 2 pair → b ≡ (bit_at (slice_index pair 1) (t % 64) == 1) → b ≡ true → starts l t ≡ 1
block_starts l t pair b words is holds = start_bit l t pair words ∙ grind (arith, nat_tests, is, holds)

pub none_starts : (l : ℕ → ℕ) (units t : ℕ) (pair : List ℕ) (b : Bool) → AreWords l (2 * (t / 64)) 2 pair → b ≡ (bit_at (slice_index pair 1) (t % 64) == 1) → b ≡ false → (n : ℕ) → IsBlock l units t n → ⊥
none_starts l units t pair b words is fails n block =
    let one : bit_at (slice_index pair 1) (t % 64) ≡ 1 = sym (start_bit l t pair words) ∙ block.start in
    absurd (grind (arith, nat_tests, is, fails, one))

-- ---- the whole block

-- the block ends before x
pub block_by : (l : ℕ → ℕ) (p units t x : ℕ) → OfBlocks l p → units ≡ 64 * p → starts l t ≡ 1 → t < x → x ≤ units → Within l t x → (x < units → (used l x ≡ 0) ⊎ (starts l x ≡ 1)) → IsBlock l units t (x - t)
block_by l p units t x h size start low most w stop = record {
  some = omega arith;
  within = omega arith;
  start = start;
  filled = λ y a b. at y a b (cases_eq y t);
  inner = λ y a b. (w.each y a (omega arith)).1;
  end = λ s. subst (λ z. (used l z ≡ 0) ⊎ (starts l z ≡ 1)) (omega arith) (stop (omega arith));
}
  where
    at : (y : ℕ) → t ≤ y → y < t + (x - t) → (y ≡ t) ⊎ (y ≢ t) → used l y ≡ 1
    at y a b (inl e) = ap (used l) e ∙ h.used_start t (omega (arith, size)) start
    at y a b (inr e) = (w.each y (omega arith) (omega arith)).0

-- ---- the list of blocks

from_none : (l : ℕ → ℕ) (x k : ℕ) → starts l x ≡ 0 → blocks_from l x (suc k) ≡ blocks_from l (x + 1) k
from_none l x k s = grind (arith, nat_tests)

from_start : (l : ℕ → ℕ) (x k : ℕ) → starts l x ≡ 1 → blocks_from l x (suc k) ≡ (x, suc (run_length l (x + 1) k)) ∷ blocks_from l (x + 1) k
from_start l x k s = grind (arith, nat_tests)

-- no block starts among these units
pub from_skip : (l : ℕ → ℕ) (x j k : ℕ) → ((y : ℕ) → x ≤ y → y < x + j → starts l y ≡ 0) → blocks_from l x (j + k) ≡ blocks_from l (x + j) k
from_skip l x zero k none =
    let count : 0 + k ≡ k = omega arith in
    let at : x ≡ x + 0 = omega arith in
    ap (blocks_from l x) count ∙ ap (λ z. blocks_from l z k) at
from_skip l x (suc j) k none =
    let count : suc j + k ≡ suc (j + k) = omega arith in
    let at : x + 1 + j ≡ x + suc j = omega arith in
    ap (blocks_from l x) count ∙ from_none l x (j + k) (none x (omega arith) (omega arith)) ∙ from_skip l (x + 1) j k (λ y low high. none y (omega arith) (omega arith)) ∙ ap (λ z. blocks_from l z k) at

-- a block, and those behind it
pub from_block : (l : ℕ → ℕ) (units x n : ℕ) → IsBlock l units x n → blocks_from l x (units - x) ≡ (x, n) ∷ blocks_from l (x + n) (units - (x + n))
from_block l units x n b =
    let long : n ≡ suc (run_length l (x + 1) (units - (x + 1))) = block_run l (units - (x + 1)) x n (subst (λ u. IsBlock l u x n) (omega (arith, b.within, b.some)) b) in
    let count : units - x ≡ suc (units - (x + 1)) = omega (arith, b.within, b.some) in
    ap (blocks_from l x) count ∙ from_start l x (units - (x + 1)) b.start ∙ ap (λ c. (x, c) ∷ blocks_from l (x + 1) (units - (x + 1))) (sym long) ∙ ap (λ (bs : List (ℕ × ℕ)). (x, n) ∷ bs) rest
  where
    rest : blocks_from l (x + 1) (units - (x + 1)) ≡ blocks_from l (x + n) (units - (x + n))
    rest =
        let count : units - (x + 1) ≡ n - 1 + (units - (x + n)) = omega (arith, b.within, b.some) in
        let at : x + 1 + (n - 1) ≡ x + n = omega (arith, b.some) in
        ap (blocks_from l (x + 1)) count ∙ from_skip l (x + 1) (n - 1) (units - (x + n)) (λ y low high. b.inner y (omega arith) (omega (arith, b.some))) ∙ ap (λ z. blocks_from l z (units - (x + n))) at

-- nothing is listed yet
pub listed_first : (l : ℕ → ℕ) (pages n : ℕ) (items : List (ℕ × ℕ)) → items ≡ [] → pages ≡ n → blocks_from l 0 (64 * n) ≡ items ++ blocks_from l 0 (64 * pages - 0)
listed_first l pages n items none same =
    let count : 64 * n ≡ 64 * pages - 0 = omega (arith, same) in
    ap (blocks_from l 0) count ∙ ap (λ (bs : List (ℕ × ℕ)). bs ++ blocks_from l 0 (64 * pages - 0)) (sym none)

-- units that start no block are passed over
pub listed_on : (l : ℕ → ℕ) (word units x j : ℕ) (all items : List (ℕ × ℕ)) → word ≡ l (2 * (x / 64) + 1) → IsZeros word (x % 64) j → x + j ≤ units → all ≡ items ++ blocks_from l x (units - x) → all ≡ items ++ blocks_from l (x + j) (units - (x + j))
listed_on l word units x j all items is z within listed =
    let count : units - x ≡ j + (units - (x + j)) = omega (arith, within) in
    listed ∙ ap (λ bs. items ++ bs) (ap (blocks_from l x) count ∙ from_skip l x j (units - (x + j)) none)
  where
    none : (y : ℕ) → x ≤ y → y < x + j → starts l y ≡ 0
    none y low high = starts_bit l word (x / 64) y is (omega arith) (omega (arith, z.within)) ∙ z.each (y - 64 * (x / 64)) (omega arith) (omega arith)

-- the next one starts one
pub next_starts : (l : ℕ → ℕ) (word x j : ℕ) → word ≡ l (2 * (x / 64) + 1) → IsZeros word (x % 64) j → x % 64 + j < 64 → starts l (x + j) ≡ 1
next_starts l word x j is z inner =
    let place : x + j - 64 * (x / 64) ≡ x % 64 + j = omega arith in
    starts_bit l word (x / 64) (x + j) is (omega arith) (omega arith) ∙ ap (bit_at word) place ∙ z.end inner

pub listed_more : (l : ℕ → ℕ) (units x n : ℕ) (all items more : List (ℕ × ℕ)) → IsBlock l units x n → more ≡ items ++ (x, n) ∷ [] → all ≡ items ++ blocks_from l x (units - x) → all ≡ more ++ blocks_from l (x + n) (units - (x + n))
listed_more l units x n all items more b pushed listed = listed ∙ ap (λ bs. items ++ bs) (from_block l units x n b) ∙ sym (append_assoc items ((x, n) ∷ []) (blocks_from l (x + n) (units - (x + n)))) ∙ ap (λ (bs : List (ℕ × ℕ)). bs ++ blocks_from l (x + n) (units - (x + n))) (sym pushed)

pub listed_all : (l : ℕ → ℕ) (units x : ℕ) (all items : List (ℕ × ℕ)) → units ≤ x → all ≡ items ++ blocks_from l x (units - x) → all ≡ items
listed_all l units x all items end listed = let none : units - x ≡ 0 = omega arith in listed ∙ ap (λ k. items ++ blocks_from l x k) none ∙ append-nil items
