-- Laws of marks.
use Rattle.std.proofs.Common.{◌≡◌, ◌≢◌, ℕ, zero, suc, ◌+◌, ◌-◌, ◌/◌, ◌%◌, ◌<◌, ◌≤◌, ◌⊎◌, inl, inr, min, List, length, slice_index, slice_set, replicate, refl, ap, ◌∙◌, arith, get_or-set_other, get_or-set_same}
use Rattle.std.specs.Int.{bit_at}
use Rattle.std.proofs.lemmas.Bool.{cases_eq}
use Rattle.std.proofs.lemmas.Nat.Bits.{bit_at-lt, bit_at-zero}
use Rattle.undo_list.specs.Bits.{IsOnes, IsUnmarkedFrom, MarksRun, WithBits, mark_of}

-- one word more
pub run_more : (old marks : List ℕ) (from next run word : ℕ) → next % 64 + run ≤ 64 → from ≤ next → next / 64 < length marks → MarksRun old marks from next → WithBits (slice_index marks (next / 64)) word (next % 64) (next % 64 + run) 1 → MarksRun old (slice_set marks (next / 64) word) from (next + run)
unfolding mark_of
run_more old marks from next run word fits order within h w = record {
  inside = λ i low high. inside i low high (grind arith);
  outside = λ i out. kept i (far i out) (cases_eq (i / 64) (next / 64)) ∙ h.outside i (near i out);
}
  where
    here : (i : ℕ) → i / 64 ≡ next / 64 → mark_of (slice_set marks (next / 64) word) i ≡ bit_at word (i % 64)
    here i e = ap (λ k. bit_at (slice_index (slice_set marks (next / 64) word) k) (i % 64)) e ∙ ap (λ x. bit_at x (i % 64)) (get_or-set_same marks (next / 64) word 0 within)

    away : (i : ℕ) → i / 64 ≢ next / 64 → mark_of (slice_set marks (next / 64) word) i ≡ mark_of marks i
    away i e = ap (λ x. bit_at x (i % 64)) (get_or-set_other marks (next / 64) (i / 64) word 0 e)

    kept : (i : ℕ) → (i < next) ⊎ (next + run ≤ i) → (i / 64 ≡ next / 64) ⊎ (i / 64 ≢ next / 64) → mark_of (slice_set marks (next / 64) word) i ≡ mark_of marks i
    kept i out (inr e) = away i e
    kept i out (inl e) = here i e ∙ w.outside (i % 64) (omega arith) (off out) ∙ ap (λ k. bit_at (slice_index marks k) (i % 64)) (omega (arith, e))
      where
        off : (i < next) ⊎ (next + run ≤ i) → (i % 64 < next % 64) ⊎ (next % 64 + run ≤ i % 64)
        off (inl b) = inl (omega (arith, e))
        off (inr b) = inr (omega (arith, e))

    inside : (i : ℕ) → from ≤ i → i < next + run → (i < next) ⊎ (next ≤ i) → mark_of (slice_set marks (next / 64) word) i ≡ 1
    inside i low high (inl b) = kept i (inl b) (cases_eq (i / 64) (next / 64)) ∙ h.inside i low b
    inside i low high (inr b) = let e : i / 64 ≡ next / 64 = omega (arith, fits) in here i e ∙ w.inside (i % 64) (omega (arith, e)) (omega (arith, e))

    far : (i : ℕ) → (i < from) ⊎ (next + run ≤ i) → (i < next) ⊎ (next + run ≤ i)
    far i (inl b) = inl (omega (arith, order))
    far i (inr b) = inr b

    near : (i : ℕ) → (i < from) ⊎ (next + run ≤ i) → (i < from) ⊎ (next ≤ i)
    near i (inl b) = inl b
    near i (inr b) = inr (omega arith)

-- a mark is 0 or 1
pub mark_either : (marks : List ℕ) (i : ℕ) → (mark_of marks i ≡ 0) ⊎ (mark_of marks i ≡ 1)
unfolding mark_of
mark_either marks i = grind (arith, bit_at-lt (slice_index marks (i / 64)) (i % 64))

-- marks by the bits of their word
mark_in : (marks : List ℕ) (next i : ℕ) → i / 64 ≡ next / 64 → mark_of marks i ≡ bit_at (slice_index marks (next / 64)) (i % 64)
unfolding mark_of
mark_in marks next i e = ap (λ k. bit_at (slice_index marks k) (i % 64)) e

-- the first bits of one word that are 1
pub marked_on : (marks : List ℕ) (from next ones run : ℕ) → run ≤ ones → ((i : ℕ) → from ≤ i → i < next → mark_of marks i ≡ 1) → IsOnes (slice_index marks (next / 64)) (next % 64) ones → (i : ℕ) → from ≤ i → i < next + run → mark_of marks i ≡ 1
marked_on marks from next ones run short before h i low high = by (grind arith)
  where
    by : (i < next) ⊎ (next ≤ i) → mark_of marks i ≡ 1
    by (inl b) = before i low b
    by (inr b) = let e : i / 64 ≡ next / 64 = omega (arith, h.within, short) in mark_in marks next i e ∙ h.each (i % 64) (omega (arith, e)) (omega (arith, e, short))

-- the bit behind them
pub unmarked_behind : (marks : List ℕ) (from to next ones run : ℕ) → run ≡ min ones (to - next) → from ≤ next → next ≤ to → next % 64 + run < 64 → ((i : ℕ) → from ≤ i → i < next → mark_of marks i ≡ 1) → IsOnes (slice_index marks (next / 64)) (next % 64) ones → IsUnmarkedFrom marks from to (next + run)
unmarked_behind marks from to next ones run is low within short before h = record {
  low = omega arith;
  high = omega (arith, is);
  before = marked_on marks from next ones run (omega (arith, is)) before h;
  here = λ inside. let all : run ≡ ones = omega (arith, is, inside) in mark_in marks next (next + run) (omega (arith, short)) ∙ ap (bit_at (slice_index marks (next / 64))) (omega (arith, short, all)) ∙ h.end (omega (arith, short, all));
}

-- words of zeros mark nothing
pub none_marked : (n i : ℕ) → mark_of (replicate n 0) i ≡ 0
unfolding mark_of
none_marked n i = ap (λ w. bit_at w (i % 64)) (zero_at n (i / 64)) ∙ bit_at-zero (i % 64)
  where
    zero_at : (m k : ℕ) → slice_index (replicate m 0) k ≡ 0
    zero_at zero k = refl
    zero_at (suc m) zero = refl
    zero_at (suc m) (suc k) = zero_at m k
