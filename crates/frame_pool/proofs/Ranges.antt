-- Frames that are linked in order of their numbers.
use Rattle.std.specs.Prelude.{◌≡◌, ℕ, zero, suc, ◌+◌, ◌<◌, ◌≤◌, if◌then◌else◌, List, length, refl}
use Rattle.std.specs.List.{range_with_len}
use Rattle.std.proofs.Common.{◌∙◌, ap, sym, ⊎_elim, arith}
use Rattle.std.proofs.lemmas.Bool.{cases_lt, cases_eq, le-ltb, lt-ltb}
use Rattle.frame_pool.specs.declared.frame.Frame.{Frame}
use Rattle.frame_pool.specs.Frames.{older_at, younger_at}
use Rattle.frame_pool.specs.Orders.{times}
use Rattle.frame_pool.specs.Rings.{Chain, HasEachOnce, IsRingOf, Joins}
use Rattle.frame_pool.proofs.Moves.{is_ring_of}
use Rattle.frame_pool.proofs.Times.{times_nil, times_other, times_same}

-- each of the first n frames is linked with the next
pub record AreLinked (o y : ℕ → ℕ) (n : ℕ) : Type 0 where
  pub younger : (k : ℕ) → k < n → y k ≡ k + 1
  pub older : (k : ℕ) → k < n → o (k + 1) ≡ k

range_chain : (o y : ℕ → ℕ) (n m s a : ℕ) → AreLinked o y n → s + m ≡ n → y a ≡ s → o s ≡ a → y n ≡ 0 → Chain o y a (range_with_len s m) n
unfolding Chain
range_chain o y n zero s a are end after before back =
    let e : s ≡ n = omega (arith, end) in
    (after ∙ e, ap o (sym e) ∙ before)
range_chain o y n (suc m) s a are end after before back =
    (after, (before, range_chain o y n m (s + 1) s are (omega (arith, end)) (are.younger s (omega (arith, end))) (are.older s (omega (arith, end))) back))

times_before : (k m s : ℕ) → k < s → times k (range_with_len s m) ≡ 0
times_before k zero s less = times_nil k
times_before k (suc m) s less = times_other k s (range_with_len (s + 1) m) (λ e. absurd (omega (arith, e, less))) ∙ times_before k m (s + 1) (omega (arith, less))

times_within : (k m s : ℕ) → s ≤ k → k < s + m → times k (range_with_len s m) ≡ 1
times_within k zero s low high = absurd (omega (arith, low, high))
times_within k (suc m) s low high = ⊎_elim
    (λ e. omega (arith, times_same k s (range_with_len (s + 1) m) e, times_before k m (s + 1) (omega (arith, e))))
    (λ ne. times_other k s (range_with_len (s + 1) m) ne ∙ times_within k m (s + 1) (omega (arith, low, ne)) (omega (arith, high)))
    (cases_eq s k)

times_after : (k m s : ℕ) → s + m ≤ k → times k (range_with_len s m) ≡ 0
times_after k zero s high = times_nil k
times_after k (suc m) s high = times_other k s (range_with_len (s + 1) m) (λ e. absurd (omega (arith, e, high))) ∙ times_after k m (s + 1) (omega (arith, high))

range_once : (n : ℕ) → HasEachOnce (range_with_len 0 n) n
range_once n = λ k. ⊎_elim
    (λ less. times_within k n 0 (omega arith) (omega (arith, less)) ∙ ap (λ b. if b then 1 else 0) (sym (lt-ltb k n less)))
    (λ more. times_after k n 0 (omega (arith, more)) ∙ ap (λ b. if b then 1 else 0) (sym (le-ltb k n more)))
    (cases_lt k n)

length_range : (m s : ℕ) → length (range_with_len s m) ≡ m
length_range zero s = refl
length_range (suc m) s = ap suc (length_range m (s + 1))

pub range_ring : (old new : List Frame) (n : ℕ) → AreLinked (older_at old) (younger_at old) n → Joins n 0 (older_at old) (younger_at old) (older_at new) (younger_at new) → IsRingOf new n (range_with_len 0 n)
range_ring old new n are j =
    let still : AreLinked (older_at new) (younger_at new) n = record {
      younger = λ k less. j.youngers k (λ e. absurd (omega (arith, e, less))) ∙ are.younger k less;
      older = λ k less. j.olders (k + 1) (λ e. absurd (omega (arith, e))) ∙ are.older k less;
    } in
    is_ring_of new n (range_with_len 0 n) (range_chain (older_at new) (younger_at new) n n 0 n still (omega arith) j.younger j.older j.younger) (range_once n) (length_range n 0)
