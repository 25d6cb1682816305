-- The frames of a ring in order, where one is moved to an end.
use Rattle.std.specs.Prelude.{◌≡◌, ◌≢◌, ℕ, ◌<◌, ◌≤◌, if◌then◌else◌, List, [], ◌∷◌, ◌++◌, length, refl}
use Rattle.std.proofs.Common.{◌∙◌, ap, sym, subst, ⊎_elim, arith}
use Rattle.std.proofs.lemmas.Bool.{cases_eq, cases_lt, le-ltb, lt-ltb}
use Rattle.std.proofs.lemmas.List.{length-append}
use Rattle.frame_pool.specs.declared.frame.Frame.{Frame}
use Rattle.frame_pool.specs.Frames.{older_at, order_at, walk, younger_at}
use Rattle.frame_pool.specs.Orders.{times, without}
use Rattle.frame_pool.specs.Rings.{Chain, HasEachOnce, IsOut, IsRing, IsRingOf, Joins}
use Rattle.frame_pool.proofs.Times.{length_without, times_first, times_last, times_most, times_nil, times_other, times_same, times_without, times_without_other}
use Rattle.frame_pool.proofs.Chains.{length_walk, linked, put_first, put_last, taken_out, walk_chain}

-- no number of the list is as large as n
pub record AreBelow (n : ℕ) (xs : List ℕ) : Type 0 where
  pub each : (k : ℕ) → 1 ≤ times k xs → k < n

below_rest : (n x : ℕ) (xs : List ℕ) → AreBelow n (x ∷ xs) → AreBelow n xs
below_rest n x xs all = record { each = λ k some. all.each k (omega (arith, some, times_most k x xs)) }

below_first : (n x : ℕ) (xs : List ℕ) → AreBelow n (x ∷ xs) → x < n
below_first n x xs all = all.each x (omega (arith, times_same x x xs refl))

below_without : (n k : ℕ) (xs : List ℕ) → AreBelow n xs → AreBelow n (without k xs)
below_without n k xs all = record {
  each = λ j some. all.each j (⊎_elim
      (λ e. absurd (omega (arith, some, ap (λ i. times i (without k xs)) e, times_without k xs)))
      (λ ne. omega (arith, some, times_without_other j k xs ne))
      (cases_eq j k));
}

once_in : (n k : ℕ) (xs : List ℕ) → HasEachOnce xs n → k < n → times k xs ≡ 1
once_in n k xs once less = once k ∙ ap (λ b. if b then 1 else 0) (lt-ltb k n less)

pub all_below : (n : ℕ) (xs : List ℕ) → HasEachOnce xs n → AreBelow n xs
all_below n xs once = record { each = λ k some. ⊎_elim (λ less. less) (λ more. absurd (omega (arith, some, once k ∙ ap (λ b. if b then 1 else 0) (le-ltb k n more)))) (cases_lt k n) }

never_knot : (n : ℕ) (xs : List ℕ) → AreBelow n xs → times n xs ≡ 0
never_knot n xs all = ⊎_elim
    (λ none. none)
    (λ some. absurd (omega (arith, all.each n (omega (arith, some)))))
    (cases_eq (times n xs) 0)

-- ---- what is read as a neighbour is one of the frames, or the knot
pub older_end : (n : ℕ) (o y : ℕ → ℕ) (a : ℕ) (xs : List ℕ) (z : ℕ) → Chain o y a xs z → AreBelow n xs → a ≤ n → o z ≤ n
unfolding Chain
older_end n o y a [] z c all less = subst (λ i. i ≤ n) (sym c.1) less
older_end n o y a (x ∷ xs) z c all less = older_end n o y x xs z c.1.1 (below_rest n x xs all) (omega (arith, below_first n x xs all))

pub younger_end : (n : ℕ) (o y : ℕ → ℕ) (a : ℕ) (xs : List ℕ) (z : ℕ) → Chain o y a xs z → AreBelow n xs → z ≤ n → y a ≤ n
unfolding Chain
younger_end n o y a [] z c all less = subst (λ i. i ≤ n) (sym c.0) less
younger_end n o y a (x ∷ xs) z c all less = subst (λ i. i ≤ n) (sym c.0) (omega (arith, below_first n x xs all))

older_within : (n k : ℕ) (o y : ℕ → ℕ) (a : ℕ) (xs : List ℕ) (z : ℕ) → Chain o y a xs z → AreBelow n xs → a ≤ n → times k xs ≡ 1 → o k ≤ n
unfolding Chain
older_within n k o y a [] z c all less once = absurd (omega (arith, once, times_nil k))
older_within n k o y a (x ∷ xs) z c all less once = ⊎_elim
    (λ e. subst (λ i. i ≤ n) (sym c.1.0 ∙ ap o e) less)
    (λ ne. older_within n k o y x xs z c.1.1 (below_rest n x xs all) (omega (arith, below_first n x xs all)) (sym (times_other k x xs ne) ∙ once))
    (cases_eq x k)

younger_within : (n k : ℕ) (o y : ℕ → ℕ) (a : ℕ) (xs : List ℕ) (z : ℕ) → Chain o y a xs z → AreBelow n xs → z ≤ n → times k xs ≡ 1 → y k ≤ n
unfolding Chain
younger_within n k o y a [] z c all less once = absurd (omega (arith, once, times_nil k))
younger_within n k o y a (x ∷ xs) z c all less once = ⊎_elim
    (λ e. subst (λ i. i ≤ n) (ap y e) (younger_end n o y x xs z c.1.1 (below_rest n x xs all) less))
    (λ ne. younger_within n k o y x xs z c.1.1 (below_rest n x xs all) less (sym (times_other k x xs ne) ∙ once))
    (cases_eq x k)

-- ---- the ring, where each frame is in the list once
module _ (n k : ℕ) (o y : ℕ → ℕ) (xs : List ℕ) (ring : Chain o y n xs n) (once : HasEachOnce xs n) (less : k < n) where
  pub older_there : o k ≤ n
  older_there = older_within n k o y n xs n ring (all_below n xs once) (omega arith) (once_in n k xs once less)

  pub younger_there : y k ≤ n
  younger_there = younger_within n k o y n xs n ring (all_below n xs once) (omega arith) (once_in n k xs once less)

  module _ (p q : ℕ → ℕ) (out : Joins (o k) (y k) o y p q) where
    pub without_it : Chain p q n (without k xs) n
    without_it = taken_out k o y p q (linked o y k n xs n ring (once_in n k xs once less)) out n xs n ring (once_in n k xs once less) (λ e. absurd (omega (arith, e, less))) (λ e. absurd (omega (arith, e, less)))

-- ---- the frames of a pool
pub is_ring_of : (frames : List Frame) (n : ℕ) (xs : List ℕ) → Chain (older_at frames) (younger_at frames) n xs n → HasEachOnce xs n → length xs ≡ n → IsRingOf frames n xs
is_ring_of frames n xs ring once size =
    let y = younger_at frames in
    let found : walk y n (y n) ≡ xs = ap (λ m. walk y m (y n)) (sym size) ∙ walk_chain (older_at frames) y n xs n ring in
    record { order = found; ring = subst (λ l. Chain (older_at frames) y n l n) (sym found) ring; once = subst (λ l. HasEachOnce l n) (sym found) once }

-- frame b was linked behind frame a
abbrev JoinsFrames : ℕ → ℕ → List Frame → List Frame → Type 0
JoinsFrames a b old new = Joins a b (older_at old) (younger_at old) (older_at new) (younger_at new)

pub is_out : (n k : ℕ) (old new : List Frame) → IsRing old n → HasEachOnce (order_at old n) n → k < n → JoinsFrames (older_at old k) (younger_at old k) old new → IsOut new n k (without k (order_at old n))
is_out n k old new ring once less taken =
    let xs = order_at old n in
    let here : times k xs ≡ 1 = once_in n k xs once less in
    let all = below_without n k xs (all_below n xs once) in
    let chain = without_it n k (older_at old) (younger_at old) xs ring once less (older_at new) (younger_at new) taken in
    record {
      ring = chain;
      within = less;
      out = times_without k xs;
      knot = never_knot n (without k xs) all;
      once_last = λ l. times_last l k xs here ∙ once l;
      once_first = λ l. times_first l k xs here ∙ once l;
      size = omega (arith, length_without k xs, here, length_walk (younger_at old) n (younger_at old n));
      oldest = younger_end n (older_at new) (younger_at new) n (without k xs) n chain all (omega arith);
      youngest = older_end n (older_at new) (younger_at new) n (without k xs) n chain all (omega arith);
    }

module _ (n k : ℕ) (xs : List ℕ) (out half new : List Frame) (h : IsOut out n k xs) where
  apart : k ≢ n
  apart e = absurd (omega (arith, e, h.within))

  pub is_last : JoinsFrames (older_at out n) k out half → JoinsFrames k n half new → IsRingOf new n (xs ++ k ∷ [])
  is_last i j =
      is_ring_of new n (xs ++ k ∷ []) (put_last k n (older_at out) (younger_at out) (older_at half) (younger_at half) (older_at new) (younger_at new) apart i j xs h.ring h.out h.knot) h.once_last
      (omega (arith, length-append xs (k ∷ []), h.size))

  pub is_first : JoinsFrames n k out half → JoinsFrames k (younger_at out n) half new → IsRingOf new n (k ∷ xs)
  is_first i j =
      is_ring_of new n (k ∷ xs) (put_first k n (older_at out) (younger_at out) (older_at half) (younger_at half) (older_at new) (younger_at new) apart i j xs h.ring h.out h.knot) h.once_first
      (omega (arith, h.size))

-- ---- what is read as a neighbour, of the frames of a pool
pub older_near : (n k : ℕ) (old : List Frame) → IsRing old n → HasEachOnce (order_at old n) n → k < n → older_at old k ≤ n
older_near n k old ring once less = older_there n k (older_at old) (younger_at old) (order_at old n) ring once less

pub younger_near : (n k : ℕ) (old : List Frame) → IsRing old n → HasEachOnce (order_at old n) n → k < n → younger_at old k ≤ n
younger_near n k old ring once less = younger_there n k (older_at old) (younger_at old) (order_at old n) ring once less
