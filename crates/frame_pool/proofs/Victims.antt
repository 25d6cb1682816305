-- A walk from the old end past pinned frames.
use Rattle.std.specs.Prelude.{◌≡◌, ◌≢◌, ℕ, suc, ◌+◌, ◌-◌, ◌<◌, ◌≤◌, ◌⊎◌, Bool, true, false, not, List, [], ◌∷◌, ◌++◌, cond, filter, find, if◌then◌else◌, slice_index_or, Option, Some, None, is_none, refl}
use Rattle.std.proofs.Common.{◌∙◌, ap, sym, subst, ⊎_elim, inl, inr, arith}
use Rattle.std.proofs.lemmas.Bool.{cases_Bool, cases_eq, lt-ltb}
use Rattle.rio_base.specs.Rules.{true_false}
use Rattle.frame_pool.specs.declared.frame.Frame.{Frame}
use Rattle.frame_pool.specs.declared.frame_pool.FramePool.{FramePool}
use Rattle.frame_pool.specs.Frames.{free_at, order_at, pinned_at, walk, younger_at}
use Rattle.frame_pool.specs.Orders.{StandFirst, count_below, times}
use Rattle.frame_pool.specs.Pools.{IsVictim, NoneFree, block_of, frames_in, is_pinned, least_recent, order_of}
use Rattle.frame_pool.specs.Rings.{HasEachOnce}
use Rattle.frame_pool.proofs.Counts.{count_all}
use Rattle.frame_pool.proofs.Holding.{read_here}
use Rattle.frame_pool.proofs.Moves.{all_below}
use Rattle.frame_pool.proofs.Times.{times_most, times_nil, times_other, times_same}

abbrev unpinned_at : List Frame → ℕ → Bool
unpinned_at frames j = not (pinned_at frames j)

-- the first i frames are pinned, and frame k comes after them
pub record Passed (frames : List Frame) (n i k : ℕ) : Type 0 where
  pub rest : find (unpinned_at frames) (walk (younger_at frames) (n - i) k) ≡ find (unpinned_at frames) (order_at frames n)
  pub within : (j : ℕ) → times j (walk (younger_at frames) (n - i) k) ≤ times j (order_at frames n)

-- the first i frames of a pool are pinned, frame k comes after them, and it is the victim where it isn't pinned
pub record Reached (p : FramePool) (i k : ℕ) : Type 0 where
  pub passed : Passed p.frames.items p.count i k
  pub within : i < p.count → k < p.count
  pub victim : i < p.count → pinned_at p.frames.items k ≡ false → IsVictim p k

-- the same, of so many frames that are left
record Left (frames : List Frame) (n m k : ℕ) : Type 0 where
  rest : find (unpinned_at frames) (walk (younger_at frames) m k) ≡ find (unpinned_at frames) (order_at frames n)
  within : (j : ℕ) → times j (walk (younger_at frames) m k) ≤ times j (order_at frames n)

left : (frames : List Frame) (n i k m : ℕ) → Passed frames n i k → n - i ≡ m → Left frames n m k
left frames n i k m h e = subst (λ l. Left frames n l k) e (record { rest = h.rest; within = h.within })

passed : (frames : List Frame) (n i k m : ℕ) → Left frames n m k → m ≡ n - i → Passed frames n i k
passed frames n i k m h e =
    let l : Left frames n (n - i) k = subst (λ l. Left frames n l k) e h in
    record { rest = l.rest; within = l.within }

passed_none : (frames : List Frame) (n : ℕ) → Passed frames n 0 (younger_at frames n)
passed_none frames n = passed frames n 0 (younger_at frames n) n (record { rest = refl; within = λ j. omega arith }) (omega arith)

left_more : (frames : List Frame) (n m k : ℕ) → Left frames n (suc m) k → pinned_at frames k ≡ true → Left frames n m (younger_at frames k)
unfolding walk
left_more frames n m k h pinned = record {
  rest = sym (ap (λ b. cond (not b) (Some k) (find (unpinned_at frames) (walk (younger_at frames) m (younger_at frames k)))) pinned) ∙ h.rest;
  within = λ j. omega (arith, times_most j k (walk (younger_at frames) m (younger_at frames k)), h.within j);
}

passed_more : (frames : List Frame) (n i k : ℕ) → Passed frames n i k → i < n → pinned_at frames k ≡ true → Passed frames n (i + 1) (younger_at frames k)
passed_more frames n i k h less pinned =
    passed frames n (i + 1) (younger_at frames k) (n - (i + 1)) (left_more frames n (n - (i + 1)) k (left frames n i k (suc (n - (i + 1))) h (omega (arith, less))) pinned) refl

left_there : (frames : List Frame) (n m k : ℕ) → Left frames n (suc m) k → 1 ≤ times k (order_at frames n)
unfolding walk
left_there frames n m k h = omega (arith, h.within k, times_same k k (walk (younger_at frames) m (younger_at frames k)) refl)

passed_within : (frames : List Frame) (n i k : ℕ) → HasEachOnce (order_at frames n) n → Passed frames n i k → i < n → k < n
passed_within frames n i k once h less =
    let all = all_below n (order_at frames n) once in
    all.each k (left_there frames n (n - (i + 1)) k (left frames n i k (suc (n - (i + 1))) h (omega (arith, less))))

left_found : (frames : List Frame) (n m k : ℕ) → Left frames n (suc m) k → pinned_at frames k ≡ false → find (unpinned_at frames) (order_at frames n) ≡ Some k
unfolding walk
left_found frames n m k h pinned = sym h.rest ∙ ap (λ b. cond (not b) (Some k) (find (unpinned_at frames) (walk (younger_at frames) m (younger_at frames k)))) pinned

passed_found : (frames : List Frame) (n i k : ℕ) → Passed frames n i k → i < n → pinned_at frames k ≡ false → find (unpinned_at frames) (order_at frames n) ≡ Some k
passed_found frames n i k h less pinned = left_found frames n (n - (i + 1)) k (left frames n i k (suc (n - (i + 1))) h (omega (arith, less))) pinned

not_true : (b : Bool) → not b ≡ true → b ≡ false
not_true true e = absurd (true_false (sym e))
not_true false e = refl

not_false : (b : Bool) → not b ≡ false → b ≡ true
not_false true e = refl
not_false false e = absurd (true_false e)

-- ---- where all frames are pinned, there are as many pins as frames
some_none : (k : ℕ) → Some k ≡ None → ⊥
some_none k e = cc

none_found : (t : ℕ → Bool) (xs : List ℕ) → find t xs ≡ None → (k : ℕ) → 1 ≤ times k xs → t k ≡ false
none_found t [] e k some = absurd (omega (arith, some, times_nil k))
none_found t (x ∷ xs) e k some = ⊎_elim
    (λ is. absurd (some_none x (sym (ap (λ b. cond b (Some x) (find t xs)) is) ∙ e)))
    (λ is. ⊎_elim
    (λ same. ap t (sym same) ∙ is)
    (λ ne. none_found t xs (sym (ap (λ b. cond b (Some x) (find t xs)) is) ∙ e) k (omega (arith, some, times_other k x xs ne)))
    (cases_eq x k))
    (cases_Bool (t x))

once_there : (n k : ℕ) (xs : List ℕ) → HasEachOnce xs n → k < n → 1 ≤ times k xs
once_there n k xs once less = omega (arith, once k ∙ ap (λ b. if b then 1 else 0) (lt-ltb k n less))

left_none : (frames : List Frame) (n k : ℕ) → Left frames n 0 k → find (unpinned_at frames) (order_at frames n) ≡ None
unfolding walk
left_none frames n k h = sym h.rest

pub never_past : (frames : List Frame) (n i k : ℕ) → HasEachOnce (order_at frames n) n → Passed frames n i k → n ≤ i → count_below (pinned_at frames) n < n → ⊥
never_past frames n i k once h past fewer =
    let none = left_none frames n k (left frames n i k 0 h (omega (arith, past))) in
    absurd (omega (arith, fewer, count_all (pinned_at frames) n (λ j less. not_false (pinned_at frames j) (none_found (unpinned_at frames) (order_at frames n) none j (once_there n j (order_at frames n) once less)))))

-- ---- the first frame that isn't pinned is free, or no frame is
filtered : (t : ℕ → Bool) (xs : List ℕ) → filter t xs ≡ [] → (k : ℕ) → 1 ≤ times k xs → t k ≡ false
filtered t [] e k some = absurd (omega (arith, some, times_nil k))
filtered t (x ∷ xs) e k some = ⊎_elim
    (λ is. absurd (cons_nil x (filter t xs) (sym (ap (λ b. cond b (x ∷ filter t xs) (filter t xs)) is) ∙ e)))
    (λ is. ⊎_elim
    (λ same. ap t (sym same) ∙ is)
    (λ ne. filtered t xs (sym (ap (λ b. cond b (x ∷ filter t xs) (filter t xs)) is) ∙ e) k (omega (arith, some, times_other k x xs ne)))
    (cases_eq x k))
    (cases_Bool (t x))
  where
    cons_nil : (x : ℕ) (xs : List ℕ) → x ∷ xs ≡ [] → ⊥
    cons_nil x xs e = cc

-- what a filter keeps first passes
first_passes : (t : ℕ → Bool) (xs : List ℕ) (y : ℕ) (ys : List ℕ) → filter t xs ≡ y ∷ ys → t y ≡ true
first_passes t [] y ys e = absurd cc
first_passes t (x ∷ xs) y ys e = ⊎_elim
    (λ is. ap t (sym (heads x y (filter t xs) ys (sym (ap (λ b. cond b (x ∷ filter t xs) (filter t xs)) is) ∙ e))) ∙ is)
    (λ is. first_passes t xs y ys (sym (ap (λ b. cond b (x ∷ filter t xs) (filter t xs)) is) ∙ e))
    (cases_Bool (t x))
  where
    heads : (x y : ℕ) (xs ys : List ℕ) → x ∷ xs ≡ y ∷ ys → x ≡ y
    heads x y xs ys e = cc

none_stand : (t : ℕ → Bool) (x : ℕ) (xs : List ℕ) → StandFirst t (x ∷ xs) → t x ≡ false → filter t (x ∷ xs) ≡ []
none_stand t x xs stand out = by (filter t (x ∷ xs)) refl
  where
    by : (kept : List ℕ) → filter t (x ∷ xs) ≡ kept → filter t (x ∷ xs) ≡ []
    by [] e = e
    by (y ∷ ys) e =
        let all : y ∷ (ys ++ filter (λ k. not (t k)) (x ∷ xs)) ≡ x ∷ xs = sym (ap (λ l. l ++ filter (λ k. not (t k)) (x ∷ xs)) e) ∙ stand in
        let same : y ≡ x = cc in
        absurd (true_false (sym (first_passes t (x ∷ xs) y ys e) ∙ ap t same ∙ out))

module _ (p : FramePool) (k : ℕ) (first : least_recent p ≡ Some k) (bound : block_of p k ≢ None) where
  none_free_in : (xs : List ℕ) → order_of p ≡ xs → NoneFree p
  none_free_in [] e = absurd (some_none k (sym first ∙ ap (find (λ j. not (is_pinned p j))) e))
  none_free_in (x ∷ xs) e =
      let stand : StandFirst (free_at p.frames.items) (x ∷ xs) = subst (StandFirst (free_at p.frames.items)) e p.free_first in
      let found : find (λ j. not (is_pinned p j)) (x ∷ xs) ≡ Some k = sym (ap (find (λ j. not (is_pinned p j))) e) ∙ first in
      λ j less free. ⊎_elim
      (λ is. bound (ap (block_of p) (sym (head_found x xs found (p.free_unpinned x (is_free x is)))) ∙ is_free x is))
      (λ is. true_false (sym (ap is_none free) ∙ filtered (free_at p.frames.items) (x ∷ xs) (none_stand (free_at p.frames.items) x xs stand is) j (subst (λ l. 1 ≤ times j l) e (once_there p.count j (order_of p) p.once less))))
      (cases_Bool (free_at p.frames.items x))
    where
      none_of : (o : Option ℕ) → is_none o ≡ true → o ≡ None
      none_of None e = refl
      none_of (Some b) e = absurd (true_false (sym e))

      is_free : (x : ℕ) → free_at p.frames.items x ≡ true → block_of p x ≡ None
      is_free x e = none_of (block_of p x) e

      head_found : (x : ℕ) (xs : List ℕ) → find (λ j. not (is_pinned p j)) (x ∷ xs) ≡ Some k → is_pinned p x ≡ false → x ≡ k
      head_found x xs found e =
          let at : Some x ≡ Some k = sym (ap (λ b. cond (not b) (Some x) (find (λ j. not (is_pinned p j)) xs)) e) ∙ found in
          cc

is_victim : (p : FramePool) (k : ℕ) → k < frames_in p → is_pinned p k ≡ false → least_recent p ≡ Some k → IsVictim p k
is_victim p k within unpinned first = record { within = within; unpinned = unpinned; first = first; free = by (block_of p k) refl }
  where
    by : (o : Option ℕ) → block_of p k ≡ o → (block_of p k ≡ None) ⊎ NoneFree p
    by None e = inl e
    by (Some b) e = inr (none_free_in p k first (λ f. some_none b (sym e ∙ f)) (order_of p) refl)

-- ---- the frame that a walk reads
reached : (p : FramePool) (i k : ℕ) → Passed p.frames.items p.count i k → Reached p i k
reached p i k h = record {
  passed = h;
  within = passed_within p.frames.items p.count i k p.once h;
  victim = λ less free. is_victim p k (passed_within p.frames.items p.count i k p.once h less) free (passed_found p.frames.items p.count i k h less free);
}

pub read_pinned : (p : FramePool) (i k : ℕ) (f : Frame) → Reached p i k → i < p.count → f ≡ slice_index_or p.frames.items k f → not f.pinned ≡ false → Reached p (i + 1) f.younger
read_pinned p i k f h less is e =
    let here = read_here p k f (omega (arith, h.within less)) is in
    let pinned : pinned_at p.frames.items k ≡ true = ap (λ (g : Frame). g.pinned) (sym here) ∙ not_false f.pinned e in
    subst (Reached p (i + 1)) (sym (ap (λ (g : Frame). g.younger) here)) (reached p (i + 1) (younger_at p.frames.items k) (passed_more p.frames.items p.count i k h.passed less pinned))

-- a frame that isn't pinned
pub read_victim : (p : FramePool) (i k : ℕ) (f : Frame) → Reached p i k → i < p.count → f ≡ slice_index_or p.frames.items k f → not f.pinned ≡ true → IsVictim p k
read_victim p i k f h less is e =
    let here = read_here p k f (omega (arith, h.within less)) is in
    h.victim less (ap (λ (g : Frame). g.pinned) (sym here) ∙ not_true f.pinned e)

pub read_first : (p : FramePool) (f : Frame) → f ≡ slice_index_or p.frames.items p.count f → Reached p 0 f.younger
read_first p f is = subst (Reached p 0) (sym (ap (λ (g : Frame). g.younger) (read_here p p.count f (omega arith) is))) (reached p 0 (younger_at p.frames.items p.count) (passed_none p.frames.items p.count))
