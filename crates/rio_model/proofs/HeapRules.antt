-- Laws of heap maps: a map of blocks alone stays one where a block is added or goes, and its list of blocks gains or loses
-- that block alone.
use Rattle.rio_model.proofs.Common.{◌≡◌, ◌≢◌, ℕ, zero, suc, ◌+◌, ◌-◌, ◌*◌, ◌<◌, ◌≤◌, ◌⊎◌, inl, inr, refl, sym, ap, subst, ◌∙◌, arith, Bool, true, false, cond, ◌&&◌, List, ◌∷◌, cases_eq, nat_tests}
use Rattle.std.proofs.Common.{Some, None, nat_lt, nat_le, eqb}
use Rattle.std.proofs.lemmas.Nat.Bits.{bit_at-lt}
use Rattle.rio_model.specs.Heap.{used, starts, OfBlocks, IsBlock, IsGap, AddsBlock, RemovesBlock, run_length, blocks_from, heap_blocks, with_block, without_block, in_block, block_size}

-- ---- bits

pub used_below : (l : ℕ → ℕ) (t : ℕ) → used l t < 2
unfolding used
used_below l t = bit_at-lt _ _

pub starts_below : (l : ℕ → ℕ) (t : ℕ) → starts l t < 2
unfolding starts
starts_below l t = bit_at-lt _ _

-- ---- a block is added

used_one : (l m : ℕ → ℕ) (t n x : ℕ) → AddsBlock l m t n → used l x ≡ 1 → used m x ≡ 1
used_one l m t n x a u = a.used x ∙ by (nat_le t x && nat_lt x (t + n))
  where
    by : (b : Bool) → cond b 1 (used l x) ≡ 1
    by true = refl
    by false = u

used_in : (l m : ℕ → ℕ) (t n x : ℕ) → AddsBlock l m t n → t ≤ x → x < t + n → used m x ≡ 1
used_in l m t n x a low high = let e = a.used x in grind (arith, nat_tests)

used_out : (l m : ℕ → ℕ) (t n x : ℕ) → AddsBlock l m t n → (x < t) ⊎ (t + n ≤ x) → used m x ≡ used l x
used_out l m t n x a (inl h) = let e = a.used x in grind (arith, nat_tests)
used_out l m t n x a (inr h) = let e = a.used x in grind (arith, nat_tests)

starts_at : (l m : ℕ → ℕ) (t n : ℕ) → AddsBlock l m t n → starts m t ≡ 1
starts_at l m t n a = let e = a.starts t in grind (arith, nat_tests)

starts_off : (l m : ℕ → ℕ) (t n x : ℕ) → AddsBlock l m t n → x ≢ t → starts m x ≡ starts l x
starts_off l m t n x a away = let e = a.starts x in grind (arith, nat_tests)

where_is : (t n x : ℕ) → ((t ≤ x) × (x < t + n)) ⊎ ((x < t) ⊎ (t + n ≤ x))
where_is t n x = grind arith

pub alone_added : (l m : ℕ → ℕ) (p t n : ℕ) → 1 ≤ n → OfBlocks l p → IsGap l (64 * p) t n → AddsBlock l m t n → OfBlocks m p
alone_added l m p t n some h g a = record {
  used_start = λ x within s. start x within s (cases_eq x t);
  first = λ u one. start_of 0 one (λ away low high. absurd (omega arith)) (λ was. h.first u was);
  after = λ x within none one. start_of (suc x) one (λ away low high. middle x none (omega arith) (omega arith)) (λ was. h.after x within (below x none) was);
  past = λ x low high. (used_out l m t n x a (inr (omega (arith, g.within))) ∙ (h.past x low high).0, starts_off l m t n x a (λ e. absurd (omega (arith, g.within, e))) ∙ (h.past x low high).1);
}
  where
    start : (x : ℕ) → x < 64 * p → starts m x ≡ 1 → (x ≡ t) ⊎ (x ≢ t) → used m x ≡ 1
    start x within s (inl e) = used_in l m t n x a (omega arith) (omega arith)
    start x within s (inr e) = used_one l m t n x a (h.used_start x within (sym (starts_off l m t n x a e) ∙ s))

    below : (x : ℕ) → used m x ≡ 0 → used l x ≡ 0
    below x none = by (where_is t n x)
      where
        by : ((t ≤ x) × (x < t + n)) ⊎ ((x < t) ⊎ (t + n ≤ x)) → used l x ≡ 0
        by (inl i) = g.free x i.0 i.1
        by (inr o) = sym (used_out l m t n x a o) ∙ none

    middle : (x : ℕ) → used m x ≡ 0 → t ≤ x → x < t + n → ⊥
    middle x none low high = let one = used_in l m t n x a low high in absurd (omega arith)

    start_of : (x : ℕ) → used m x ≡ 1 → (x ≢ t → t ≤ x → x < t + n → ⊥) → (used l x ≡ 1 → starts l x ≡ 1) → starts m x ≡ 1
    start_of x one out k = by (cases_eq x t)
      where
        far : x ≢ t → ((t ≤ x) × (x < t + n)) ⊎ ((x < t) ⊎ (t + n ≤ x)) → starts m x ≡ 1
        far away (inl i) = absurd (out away i.0 i.1)
        far away (inr o) = starts_off l m t n x a away ∙ k (sym (used_out l m t n x a o) ∙ one)

        by : (x ≡ t) ⊎ (x ≢ t) → starts m x ≡ 1
        by (inl e) = ap (starts m) e ∙ starts_at l m t n a
        by (inr e) = far e (where_is t n x)

-- ---- runs of units

-- whether a unit goes on a block, by cases
cases_on : (l : ℕ → ℕ) (x : ℕ) → ((used l x ≡ 1) × (starts l x ≡ 0)) ⊎ ((used l x ≡ 0) ⊎ (starts l x ≡ 1))
cases_on l x = let u = used_below l x in let s = starts_below l x in grind arith

run_on : (l : ℕ → ℕ) (x k : ℕ) → used l x ≡ 1 → starts l x ≡ 0 → run_length l x (suc k) ≡ suc (run_length l (x + 1) k)
run_on l x k u s = grind (arith, nat_tests)

run_stops : (l : ℕ → ℕ) (x k : ℕ) → (used l x ≡ 0) ⊎ (starts l x ≡ 1) → run_length l x (suc k) ≡ 0
run_stops l x k (inl u) = grind (arith, nat_tests)
run_stops l x k (inr s) = grind (arith, nat_tests)

pub record IsRun (l : ℕ → ℕ) (x k n : ℕ) : Type 0 where
  pub small : n ≤ k
  pub goes_on : (y : ℕ) → x ≤ y → y < x + n → (used l y ≡ 1) × (starts l y ≡ 0)
  pub end : n < k → (used l (x + n) ≡ 0) ⊎ (starts l (x + n) ≡ 1)

pub run_is : (l : ℕ → ℕ) (x k : ℕ) → IsRun l x k (run_length l x k)
run_is l x zero = record { small = omega arith; goes_on = λ y low high. absurd (omega arith); end = λ h. absurd (omega arith) }
run_is l x (suc k) = by (run_is l (x + 1) k) (cases_on l x)
  where
    by : IsRun l (x + 1) k (run_length l (x + 1) k) → ((used l x ≡ 1) × (starts l x ≡ 0)) ⊎ ((used l x ≡ 0) ⊎ (starts l x ≡ 1)) → IsRun l x (suc k) (run_length l x (suc k))
    by rest (inl on) = subst (λ n. IsRun l x (suc k) n) (sym (run_on l x k on.0 on.1)) (more rest)
      where
        more : IsRun l (x + 1) k (run_length l (x + 1) k) → IsRun l x (suc k) (suc (run_length l (x + 1) k))
        more r = record {
          small = omega (arith, r.small);
          goes_on = λ y low high. at y low high (cases_eq y x);
          end = λ h. subst (λ z. (used l z ≡ 0) ⊎ (starts l z ≡ 1)) (omega arith) (r.end (omega arith));
        }
          where
            at : (y : ℕ) → x ≤ y → y < x + suc (run_length l (x + 1) k) → (y ≡ x) ⊎ (y ≢ x) → (used l y ≡ 1) × (starts l y ≡ 0)
            at y low high (inl e) = subst (λ z. (used l z ≡ 1) × (starts l z ≡ 0)) (sym e) on
            at y low high (inr e) = r.goes_on y (omega arith) (omega arith)
    by rest (inr off) = subst (λ n. IsRun l x (suc k) n) (sym (run_stops l x k off)) (record {
      small = omega arith;
      goes_on = λ y low high. absurd (omega arith);
      end = λ h. subst (λ z. (used l z ≡ 0) ⊎ (starts l z ≡ 1)) (omega arith) off;
    })

never_both : (l : ℕ → ℕ) (x : ℕ) → (used l x ≡ 1) × (starts l x ≡ 0) → (used l x ≡ 0) ⊎ (starts l x ≡ 1) → ⊥
never_both l x h (inl u) = omega (arith, h.0)
never_both l x h (inr s) = omega (arith, h.1)

-- a run has one length
pub one_run : (l : ℕ → ℕ) (x k n p : ℕ) → IsRun l x k n → IsRun l x k p → n ≡ p
one_run l x k n p h i = by (grind arith)
  where
    by : (n ≡ p) ⊎ ((n < p) ⊎ (p < n)) → n ≡ p
    by (inl e) = e
    by (inr (inl s)) = absurd (never_both l (x + n) (i.goes_on (x + n) (omega arith) (omega arith)) (h.end (omega (arith, i.small))))
    by (inr (inr s)) = absurd (never_both l (x + p) (h.goes_on (x + p) (omega arith) (omega arith)) (i.end (omega (arith, h.small))))

-- ---- the list of blocks

-- where a block starts, it is that of the list
pub block_run : (l : ℕ → ℕ) (p t n : ℕ) → IsBlock l (t + suc p) t n → n ≡ suc (run_length l (t + 1) p)
block_run l p t n b =
    let run : IsRun l (t + 1) p (n - 1) = record {
      small = omega (arith, b.within, b.some);
      goes_on = λ y low high. (b.filled y (omega arith) (omega (arith, b.some)), b.inner y (omega arith) (omega (arith, b.some)));
      end = λ h. let at : t + n ≡ t + 1 + (n - 1) = omega (arith, b.some) in subst (λ z. (used l z ≡ 0) ⊎ (starts l z ≡ 1)) at (b.end (omega (arith, b.some)));
    } in
    let same = one_run l (t + 1) p (n - 1) (run_length l (t + 1) p) run (run_is l (t + 1) p) in
    omega (arith, same, b.some)

-- in a map of blocks alone each start has a block
pub block_at : (l : ℕ → ℕ) (p t k : ℕ) → OfBlocks l p → 64 * p ≡ t + suc k → starts l t ≡ 1 → IsBlock l (64 * p) t (suc (run_length l (t + 1) k))
block_at l p t k h size start =
    let r = run_is l (t + 1) k in
    record {
      some = omega arith;
      within = omega (arith, r.small);
      start = start;
      filled = λ x low high. at x low high (cases_eq x t);
      inner = λ x low high. (r.goes_on x (omega arith) (omega arith)).1;
      end = λ s. subst (λ z. (used l z ≡ 0) ⊎ (starts l z ≡ 1)) (omega arith) (r.end (omega (arith, size)));
    }
  where
    at : (x : ℕ) → t ≤ x → x < t + suc (run_length l (t + 1) k) → (x ≡ t) ⊎ (x ≢ t) → used l x ≡ 1
    at x low high (inl e) = ap (used l) e ∙ h.used_start t (omega (arith, size)) start
    at x low high (inr e) = ((run_is l (t + 1) k).goes_on x (omega arith) (omega arith)).0

from_start : (l : ℕ → ℕ) (x k : ℕ) → starts l x ≡ 1 → blocks_from l x (suc k) ≡ (x, suc (run_length l (x + 1) k)) ∷ blocks_from l (x + 1) k
from_start l x k s = grind (arith, nat_tests)

from_none : (l : ℕ → ℕ) (x k : ℕ) → starts l x ≡ 0 → blocks_from l x (suc k) ≡ blocks_from l (x + 1) k
from_none l x k s = grind (arith, nat_tests)

-- ---- the list of blocks, where one is added

-- from x on the map has the same starts and the same units in use
same_run : (l m : ℕ → ℕ) (x k n : ℕ) → ((y : ℕ) → x ≤ y → y < x + k → (used m y ≡ used l y) × (starts m y ≡ starts l y)) → IsRun l x k n → IsRun m x k n
same_run l m x k n same r = record {
  small = r.small;
  goes_on = λ y low high. let s = same y low (omega (arith, r.small)) in let g = r.goes_on y low high in (s.0 ∙ g.0, s.1 ∙ g.1);
  end = λ h. let s = same (x + n) (omega arith) (omega arith) in by s.0 s.1 (r.end h);
}
  where
    by : used m (x + n) ≡ used l (x + n) → starts m (x + n) ≡ starts l (x + n) → (used l (x + n) ≡ 0) ⊎ (starts l (x + n) ≡ 1) → (used m (x + n) ≡ 0) ⊎ (starts m (x + n) ≡ 1)
    by u s (inl e) = inl (u ∙ e)
    by u s (inr e) = inr (s ∙ e)

-- a run that ends before t, where l has a free unit and m a start, is the same in both
cut_run : (l m : ℕ → ℕ) (t n x k : ℕ) → AddsBlock l m t n → x ≤ t → t < x + k → used l t ≡ 0 → IsRun l x k (run_length l x k) → IsRun m x k (run_length l x k)
cut_run l m t n x k a low high free r = record {
  small = r.small;
  goes_on = λ y first last. let g = r.goes_on y first last in (used_out l m t n y a (inl (before y last)) ∙ g.0, starts_off l m t n y a (λ e. absurd (omega (arith, before y last, e))) ∙ g.1);
  end = λ h. ends (r.end h) (cases_eq (x + run_length l x k) t);
}
  where
    stops : x + run_length l x k ≤ t
    stops = by (grind arith)
      where
        by : (x + run_length l x k ≤ t) ⊎ (t < x + run_length l x k) → x + run_length l x k ≤ t
        by (inl e) = e
        by (inr e) = absurd (omega (arith, free, (r.goes_on t low e).0))

    before : (y : ℕ) → y < x + run_length l x k → y < t
    before y h = omega (arith, stops)

    ends : (used l (x + run_length l x k) ≡ 0) ⊎ (starts l (x + run_length l x k) ≡ 1) → (x + run_length l x k ≡ t) ⊎ (x + run_length l x k ≢ t) → (used m (x + run_length l x k) ≡ 0) ⊎ (starts m (x + run_length l x k) ≡ 1)
    ends e (inl at) = inr (ap (starts m) at ∙ starts_at l m t n a)
    ends (inl u) (inr away) = inl (used_out l m t n (x + run_length l x k) a (inl (omega (arith, stops))) ∙ u)
    ends (inr s) (inr away) = inr (starts_off l m t n (x + run_length l x k) a away ∙ s)

runs_same : (l m : ℕ → ℕ) (x k : ℕ) → IsRun m x k (run_length l x k) → run_length m x k ≡ run_length l x k
runs_same l m x k r = one_run m x k (run_length m x k) (run_length l x k) (run_is m x k) r

-- the lists from two places on are the same where the maps are
from_same : (l m : ℕ → ℕ) (x k : ℕ) → ((y : ℕ) → x ≤ y → y < x + k → (used m y ≡ used l y) × (starts m y ≡ starts l y)) → blocks_from m x k ≡ blocks_from l x k
from_same l m x zero same = refl
from_same l m x (suc k) same = by (from_same l m (x + 1) k (λ y low high. same y (omega arith) (omega arith))) (grind (arith, starts_below l x))
  where
    here : starts m x ≡ starts l x
    here = (same x (omega arith) (omega arith)).1

    run : run_length m (x + 1) k ≡ run_length l (x + 1) k
    run = runs_same l m (x + 1) k (same_run l m (x + 1) k (run_length l (x + 1) k) (λ y low high. same y (omega arith) (omega arith)) (run_is l (x + 1) k))

    by : blocks_from m (x + 1) k ≡ blocks_from l (x + 1) k → (starts l x ≡ 0) ⊎ (starts l x ≡ 1) → blocks_from m x (suc k) ≡ blocks_from l x (suc k)
    by rest (inl none) = from_none m x k (here ∙ none) ∙ rest ∙ sym (from_none l x k none)
    by rest (inr start) = from_start m x k (here ∙ start) ∙ ap (λ r. (x, suc r) ∷ blocks_from m (x + 1) k) run ∙ ap (λ (bs : List (ℕ × ℕ)). (x, suc (run_length l (x + 1) k)) ∷ bs) rest ∙ sym (from_start l x k start)

-- no unit of a gap starts a block
gap_starts : (l : ℕ → ℕ) (p t n x : ℕ) → OfBlocks l p → IsGap l (64 * p) t n → t ≤ x → x < t + n → starts l x ≡ 0
gap_starts l p t n x h g low high = by (grind (arith, starts_below l x))
  where
    by : (starts l x ≡ 0) ⊎ (starts l x ≡ 1) → starts l x ≡ 0
    by (inl e) = e
    by (inr e) = absurd (omega (arith, h.used_start x (omega (arith, g.within)) e, g.free x low high))

-- behind the first unit of the gap both lists are the same
from_inside : (l m : ℕ → ℕ) (p t n x k : ℕ) → OfBlocks l p → IsGap l (64 * p) t n → AddsBlock l m t n → x + k ≡ 64 * p → t < x → blocks_from m x k ≡ blocks_from l x k
from_inside l m p t n x zero h g a size low = refl
from_inside l m p t n x (suc k) h g a size low = by (from_inside l m p t n (x + 1) k h g a (omega arith) (omega arith)) (grind arith)
  where
    by : blocks_from m (x + 1) k ≡ blocks_from l (x + 1) k → (x < t + n) ⊎ (t + n ≤ x) → blocks_from m x (suc k) ≡ blocks_from l x (suc k)
    by rest (inl inner) =
        let none = gap_starts l p t n x h g (omega arith) inner in
        from_none m x k (starts_off l m t n x a (λ e. absurd (omega (arith, e))) ∙ none) ∙ rest ∙ sym (from_none l x k none)
    by rest (inr outer) = from_same l m x (suc k) (λ y first last. (used_out l m t n y a (inr (omega arith)), starts_off l m t n y a (λ e. absurd (omega (arith, e)))))

-- the first block of a list from x on starts at x or later
put_first : (l : ℕ → ℕ) (t n x k : ℕ) → t < x → with_block (blocks_from l x k) t n ≡ (t, n) ∷ blocks_from l x k
put_first l t n x zero low = refl
put_first l t n x (suc k) low = by (put_first l t n (x + 1) k (omega arith)) (grind (arith, starts_below l x))
  where
    by : with_block (blocks_from l (x + 1) k) t n ≡ (t, n) ∷ blocks_from l (x + 1) k → (starts l x ≡ 0) ⊎ (starts l x ≡ 1) → with_block (blocks_from l x (suc k)) t n ≡ (t, n) ∷ blocks_from l x (suc k)
    by rest (inl none) = ap (λ bs. with_block bs t n) (from_none l x k none) ∙ rest ∙ ap (λ (bs : List (ℕ × ℕ)). (t, n) ∷ bs) (sym (from_none l x k none))
    by rest (inr start) = ap (λ bs. with_block bs t n) (from_start l x k start) ∙ front (x, suc (run_length l (x + 1) k)) (blocks_from l (x + 1) k) low ∙ ap (λ (bs : List (ℕ × ℕ)). (t, n) ∷ bs) (sym (from_start l x k start))
      where
        front : (b : ℕ × ℕ) (bs : List (ℕ × ℕ)) → t < b.0 → with_block (b ∷ bs) t n ≡ (t, n) ∷ b ∷ bs
        front b bs less = grind (arith, nat_tests)

put_later : (b : ℕ × ℕ) (bs : List (ℕ × ℕ)) (t n : ℕ) → b.0 ≤ t → with_block (b ∷ bs) t n ≡ b ∷ with_block bs t n
put_later b bs t n low = grind (arith, nat_tests)

-- the new block is one of m
new_block : (l m : ℕ → ℕ) (p t n : ℕ) → 1 ≤ n → OfBlocks l p → IsGap l (64 * p) t n → AddsBlock l m t n → IsBlock m (64 * p) t n
new_block l m p t n some h g a = record {
  some = some;
  within = g.within;
  start = starts_at l m t n a;
  filled = λ x low high. used_in l m t n x a low high;
  inner = λ x low high. starts_off l m t n x a (λ e. absurd (omega (arith, e))) ∙ gap_starts l p t n x h g (omega arith) high;
  end = λ s. by s (grind (arith, used_below l (t + n)));
}
  where
    last : suc (t + n - 1) ≡ t + n
    last = omega (arith, some)

    free : used l (t + n - 1) ≡ 0
    free = g.free (t + n - 1) (omega (arith, some)) (omega (arith, some))

    by : t + n < 64 * p → (used l (t + n) ≡ 0) ⊎ (used l (t + n) ≡ 1) → (used m (t + n) ≡ 0) ⊎ (starts m (t + n) ≡ 1)
    by s (inl e) = inl (used_out l m t n (t + n) a (inr (omega arith)) ∙ e)
    by s (inr e) = inr (starts_off l m t n (t + n) a (λ same. absurd (omega (arith, same, some))) ∙ ap (starts l) (sym last) ∙ h.after (t + n - 1) (omega (arith, last)) free (ap (used l) last ∙ e))

from_added : (l m : ℕ → ℕ) (p t n x k : ℕ) → 1 ≤ n → OfBlocks l p → IsGap l (64 * p) t n → AddsBlock l m t n → x + k ≡ 64 * p → x ≤ t → blocks_from m x k ≡ with_block (blocks_from l x k) t n
from_added l m p t n x zero some h g a size low = absurd (omega (arith, g.within))
from_added l m p t n x (suc k) some h g a size low = by (cases_eq x t) (λ before. from_added l m p t n (x + 1) k some h g a (omega arith) before)
  where
    at : x ≡ t → blocks_from m x (suc k) ≡ with_block (blocks_from l x (suc k)) t n
    at e =
        let none = gap_starts l p t n x h g (omega arith) (omega (arith, some)) in
        let start : starts m x ≡ 1 = ap (starts m) e ∙ starts_at l m t n a in
        let long : n ≡ suc (run_length m (x + 1) k) = block_run m k x n (subst (λ z. IsBlock m (x + suc k) z n) (sym e) (subst (λ z. IsBlock m z t n) (sym size) (new_block l m p t n some h g a))) in
        let rest = from_inside l m p t n (x + 1) k h g a (omega arith) (omega arith) in
        from_start m x k start ∙ ap (λ (c : ℕ). (x, c) ∷ blocks_from m (x + 1) k) (sym long) ∙ ap (λ (c : ℕ). (c, n) ∷ blocks_from m (x + 1) k) e ∙ ap (λ (bs : List (ℕ × ℕ)). (t, n) ∷ bs) rest ∙ sym (put_first l t n (x + 1) k (omega arith)) ∙ ap (λ bs. with_block bs t n) (sym (from_none l x k none))

    by : (x ≡ t) ⊎ (x ≢ t) → (x + 1 ≤ t → blocks_from m (x + 1) k ≡ with_block (blocks_from l (x + 1) k) t n) → blocks_from m x (suc k) ≡ with_block (blocks_from l x (suc k)) t n
    by (inl e) later = at e
    by (inr e) later = start_or (grind (arith, starts_below l x)) (later (omega arith))
      where
        here : starts m x ≡ starts l x
        here = starts_off l m t n x a e

        run : run_length m (x + 1) k ≡ run_length l (x + 1) k
        run = runs_same l m (x + 1) k (cut_run l m t n (x + 1) k a (omega arith) (omega (arith, g.within, some)) (g.free t (omega arith) (omega (arith, some))) (run_is l (x + 1) k))

        start_or : (starts l x ≡ 0) ⊎ (starts l x ≡ 1) → blocks_from m (x + 1) k ≡ with_block (blocks_from l (x + 1) k) t n → blocks_from m x (suc k) ≡ with_block (blocks_from l x (suc k)) t n
        start_or (inl none) rest = from_none m x k (here ∙ none) ∙ rest ∙ ap (λ bs. with_block bs t n) (sym (from_none l x k none))
        start_or (inr start) rest = from_start m x k (here ∙ start) ∙ ap (λ r. (x, suc r) ∷ blocks_from m (x + 1) k) run ∙ ap (λ (bs : List (ℕ × ℕ)). (x, suc (run_length l (x + 1) k)) ∷ bs) rest ∙ sym (put_later (x, suc (run_length l (x + 1) k)) (blocks_from l (x + 1) k) t n (omega arith)) ∙ ap (λ bs. with_block bs t n) (sym (from_start l x k start))

-- the list of blocks gains the new one alone
pub blocks_added : (l m : ℕ → ℕ) (p t n : ℕ) → 1 ≤ n → OfBlocks l p → IsGap l (64 * p) t n → AddsBlock l m t n → heap_blocks m (64 * p) ≡ with_block (heap_blocks l (64 * p)) t n
blocks_added l m p t n some h g a = from_added l m p t n 0 (64 * p) some h g a (omega arith) (omega arith)

-- ---- a block goes

-- where a block goes, its units are a gap, and putting it back gives the map as it was
pub removed_gap : (l m : ℕ → ℕ) (units t n : ℕ) → IsBlock l units t n → RemovesBlock l m t n → IsGap m units t n
removed_gap l m units t n b a = record { within = b.within; free = λ x low high. let e = a.used x in grind (arith, nat_tests) }

pub removed_adds : (l m : ℕ → ℕ) (units t n : ℕ) → IsBlock l units t n → RemovesBlock l m t n → AddsBlock m l t n
removed_adds l m units t n b a = record { used = λ x. used_by x (where_is t n x); starts = λ x. starts_by x (cases_eq x t) }
  where
    used_by : (x : ℕ) → ((t ≤ x) × (x < t + n)) ⊎ ((x < t) ⊎ (t + n ≤ x)) → used l x ≡ cond (nat_le t x && nat_lt x (t + n)) 1 (used m x)
    used_by x (inl i) = let low : t ≤ x = i.0 in let high : x < t + n = i.1 in let e = b.filled x i.0 i.1 in grind (arith, nat_tests)
    used_by x (inr (inl o)) = let e = a.used x in grind (arith, nat_tests)
    used_by x (inr (inr o)) = let e = a.used x in grind (arith, nat_tests)

    starts_by : (x : ℕ) → (x ≡ t) ⊎ (x ≢ t) → starts l x ≡ cond (eqb x t) 1 (starts m x)
    starts_by x (inl e) = let s : starts l x ≡ 1 = ap (starts l) e ∙ b.start in grind (arith, nat_tests)
    starts_by x (inr e) = let s = a.starts x in grind (arith, nat_tests)

pub alone_removed : (l m : ℕ → ℕ) (p t n : ℕ) → OfBlocks l p → IsBlock l (64 * p) t n → RemovesBlock l m t n → OfBlocks m p
alone_removed l m p t n h b a = record {
  used_start = λ x within s. start x within s (cases_eq x t) (where_is t n x);
  first = λ u one. kept 0 one (λ was. h.first u was);
  after = λ x within none one. kept (suc x) one (λ was. behind x within none was (where_is t n x) (where_is t n (suc x)) one);
  past = λ x low high. (sym (used_out m l t n x back (inr (omega (arith, b.within)))) ∙ (h.past x low high).0, sym (starts_off m l t n x back (λ e. absurd (omega (arith, b.within, b.some, e)))) ∙ (h.past x low high).1);
}
  where
    back : AddsBlock m l t n
    back = removed_adds l m (64 * p) t n b a

    gap : IsGap m (64 * p) t n
    gap = removed_gap l m (64 * p) t n b a

    none_at : starts m t ≡ 0
    none_at = let e = a.starts t in grind (arith, nat_tests)

    start : (x : ℕ) → x < 64 * p → starts m x ≡ 1 → (x ≡ t) ⊎ (x ≢ t) → ((t ≤ x) × (x < t + n)) ⊎ ((x < t) ⊎ (t + n ≤ x)) → used m x ≡ 1
    start x within s (inl e) w = absurd (omega (arith, none_at, ap (starts m) (sym e), s))
    start x within s (inr e) (inl i) = absurd (omega (arith, b.inner x (omega (arith, i.0)) i.1, starts_off m l t n x back e, s))
    start x within s (inr e) (inr o) = sym (used_out m l t n x back o) ∙ h.used_start x within (starts_off m l t n x back e ∙ s)

    -- a unit in use in m is in use in l, and not in the block
    kept : (x : ℕ) → used m x ≡ 1 → (used l x ≡ 1 → starts l x ≡ 1) → starts m x ≡ 1
    kept x one k = sym (starts_off m l t n x back (λ e. absurd (omega (arith, one, gap.free x (omega (arith, e)) (omega (arith, e, b.some)))))) ∙ k (used_one m l t n x back one)

    behind : (x : ℕ) → suc x < 64 * p → used m x ≡ 0 → used l (suc x) ≡ 1 → ((t ≤ x) × (x < t + n)) ⊎ ((x < t) ⊎ (t + n ≤ x)) → ((t ≤ suc x) × (suc x < t + n)) ⊎ ((suc x < t) ⊎ (t + n ≤ suc x)) → used m (suc x) ≡ 1 → starts l (suc x) ≡ 1
    behind x within none was (inr o) w one = h.after x within (used_out m l t n x back o ∙ none) was
    behind x within none was (inl i) (inl j) one = absurd (omega (arith, one, gap.free (suc x) j.0 j.1))
    behind x within none was (inl i) (inr o) one = let at : t + n ≡ suc x = omega (arith, i.0, i.1, o) in ends at (b.end (omega (arith, at)))
      where
        ends : t + n ≡ suc x → (used l (t + n) ≡ 0) ⊎ (starts l (t + n) ≡ 1) → starts l (suc x) ≡ 1
        ends at (inl u) = absurd (omega (arith, ap (used l) at, u, was))
        ends at (inr s) = ap (starts l) (sym at) ∙ s

-- a block that was put into a list, and left out again, leaves the list
put_left_out : (l : ℕ → ℕ) (t n x k : ℕ) → starts l t ≡ 0 → without_block (with_block (blocks_from l x k) t n) t ≡ blocks_from l x k
put_left_out l t n x zero none = grind (arith, nat_tests)
put_left_out l t n x (suc k) none = by (put_left_out l t n (x + 1) k none) (grind (arith, starts_below l x))
  where
    away : starts l x ≡ 1 → x ≢ t
    away s e = absurd (omega (arith, none, ap (starts l) e, s))

    front : (b : ℕ × ℕ) (bs : List (ℕ × ℕ)) → b.0 ≢ t → without_block (with_block bs t n) t ≡ bs → without_block (with_block (b ∷ bs) t n) t ≡ b ∷ bs
    front b bs far rest = by_order (grind (arith, far))
      where
        here : without_block ((t, n) ∷ b ∷ bs) t ≡ b ∷ bs
        here = grind (arith, nat_tests)

        later : without_block (b ∷ with_block bs t n) t ≡ b ∷ without_block (with_block bs t n) t
        later = grind (arith, nat_tests)

        by_order : (t < b.0) ⊎ (b.0 < t) → without_block (with_block (b ∷ bs) t n) t ≡ b ∷ bs
        by_order (inl low) = ap (λ xs. without_block xs t) (first low) ∙ here
          where
            first : t < b.0 → with_block (b ∷ bs) t n ≡ (t, n) ∷ b ∷ bs
            first less = grind (arith, nat_tests)
        by_order (inr high) = ap (λ xs. without_block xs t) (put_later b bs t n (omega arith)) ∙ later ∙ ap (λ (xs : List (ℕ × ℕ)). b ∷ xs) rest

    by : without_block (with_block (blocks_from l (x + 1) k) t n) t ≡ blocks_from l (x + 1) k → (starts l x ≡ 0) ⊎ (starts l x ≡ 1) → without_block (with_block (blocks_from l x (suc k)) t n) t ≡ blocks_from l x (suc k)
    by rest (inl nil) = ap (λ bs. without_block (with_block bs t n) t) (from_none l x k nil) ∙ rest ∙ sym (from_none l x k nil)
    by rest (inr s) = ap (λ bs. without_block (with_block bs t n) t) (from_start l x k s) ∙ front (x, suc (run_length l (x + 1) k)) (blocks_from l (x + 1) k) (away s) rest ∙ sym (from_start l x k s)

-- the list of blocks loses that one alone
pub blocks_removed : (l m : ℕ → ℕ) (p t n : ℕ) → OfBlocks l p → IsBlock l (64 * p) t n → RemovesBlock l m t n → heap_blocks m (64 * p) ≡ without_block (heap_blocks l (64 * p)) t
blocks_removed l m p t n h b a =
    let none : starts m t ≡ 0 = (let e = a.starts t in grind (arith, nat_tests)) in
    let added = blocks_added m l p t n b.some (alone_removed l m p t n h b a) (removed_gap l m (64 * p) t n b a) (removed_adds l m (64 * p) t n b a) in
    sym (ap (λ bs. without_block bs t) added ∙ put_left_out m t n 0 (64 * p) none)

-- ---- what the list of blocks says

-- the block that starts at t has its size in the list
from_size : (l : ℕ → ℕ) (t p x k : ℕ) → x + k ≡ t + suc p → x ≤ t → starts l t ≡ 1 → block_size (blocks_from l x k) t ≡ Some (suc (run_length l (t + 1) p))
from_size l t p x zero size low start = absurd (omega arith)
from_size l t p x (suc k) size low start = by (cases_eq x t) (λ before. from_size l t p (x + 1) k (omega arith) before start)
  where
    by : (x ≡ t) ⊎ (x ≢ t) → (x + 1 ≤ t → block_size (blocks_from l (x + 1) k) t ≡ Some (suc (run_length l (t + 1) p))) → block_size (blocks_from l x (suc k)) t ≡ Some (suc (run_length l (t + 1) p))
    by (inl e) later = ap (λ bs. block_size bs t) (from_start l x k (ap (starts l) e ∙ start)) ∙ here e ∙ ap (λ c. Some (suc (run_length l (c + 1) k))) e ∙ ap (λ c. Some (suc (run_length l (t + 1) c))) (omega (arith, e))
      where
        here : x ≡ t → block_size ((x, suc (run_length l (x + 1) k)) ∷ blocks_from l (x + 1) k) t ≡ Some (suc (run_length l (x + 1) k))
        here same = grind (arith, nat_tests)
    by (inr e) later = start_or (grind (arith, starts_below l x)) (later (omega (arith, e)))
      where
        skip : (b : ℕ × ℕ) (bs : List (ℕ × ℕ)) → b.0 ≢ t → block_size (b ∷ bs) t ≡ block_size bs t
        skip b bs away = grind (arith, nat_tests)

        start_or : (starts l x ≡ 0) ⊎ (starts l x ≡ 1) → block_size (blocks_from l (x + 1) k) t ≡ Some (suc (run_length l (t + 1) p)) → block_size (blocks_from l x (suc k)) t ≡ Some (suc (run_length l (t + 1) p))
        start_or (inl none) rest = ap (λ bs. block_size bs t) (from_none l x k none) ∙ rest
        start_or (inr s) rest = ap (λ bs. block_size bs t) (from_start l x k s) ∙ skip (x, suc (run_length l (x + 1) k)) (blocks_from l (x + 1) k) e ∙ rest

pub block_listed : (l : ℕ → ℕ) (units t n : ℕ) → IsBlock l units t n → block_size (heap_blocks l units) t ≡ Some n
block_listed l units t n b =
    let size : units ≡ t + suc (units - (t + 1)) = omega (arith, b.within, b.some) in
    let long : n ≡ suc (run_length l (t + 1) (units - (t + 1))) = block_run l (units - (t + 1)) t n (subst (λ u. IsBlock l u t n) size b) in
    from_size l t (units - (t + 1)) 0 units (omega (arith, size)) (omega arith) b.start ∙ ap (λ (c : ℕ). Some c) (sym long)

from_nowhere : (l : ℕ → ℕ) (t x k : ℕ) → (t < x) ⊎ ((x + k ≤ t) ⊎ (starts l t ≡ 0)) → block_size (blocks_from l x k) t ≡ None
from_nowhere l t x zero out = refl
from_nowhere l t x (suc k) out = by (from_nowhere l t (x + 1) k (next out (cases_eq x t))) (grind (arith, starts_below l x))
  where
    next : (t < x) ⊎ ((x + suc k ≤ t) ⊎ (starts l t ≡ 0)) → (x ≡ t) ⊎ (x ≢ t) → (t < x + 1) ⊎ ((x + 1 + k ≤ t) ⊎ (starts l t ≡ 0))
    next (inl h) e = inl (omega arith)
    next (inr (inl h)) e = inr (inl (omega arith))
    next (inr (inr h)) e = inr (inr h)

    away : starts l x ≡ 1 → x ≢ t
    away s e = by out
      where
        by : (t < x) ⊎ ((x + suc k ≤ t) ⊎ (starts l t ≡ 0)) → ⊥
        by (inl h) = omega (arith, e)
        by (inr (inl h)) = omega (arith, e)
        by (inr (inr h)) = omega (arith, h, ap (starts l) e, s)

    skip : (b : ℕ × ℕ) (bs : List (ℕ × ℕ)) → b.0 ≢ t → block_size (b ∷ bs) t ≡ block_size bs t
    skip b bs far = grind (arith, nat_tests)

    by : block_size (blocks_from l (x + 1) k) t ≡ None → (starts l x ≡ 0) ⊎ (starts l x ≡ 1) → block_size (blocks_from l x (suc k)) t ≡ None
    by rest (inl none) = ap (λ bs. block_size bs t) (from_none l x k none) ∙ rest
    by rest (inr s) = ap (λ bs. block_size bs t) (from_start l x k s) ∙ skip (x, suc (run_length l (x + 1) k)) (blocks_from l (x + 1) k) (away s) ∙ rest

-- and where none starts, the list has none
pub no_block_listed : (l : ℕ → ℕ) (p t : ℕ) → OfBlocks l p → ((n : ℕ) → IsBlock l (64 * p) t n → ⊥) → block_size (heap_blocks l (64 * p)) t ≡ None
no_block_listed l p t h none = by (grind (arith, starts_below l t))
  where
    by : (64 * p ≤ t) ⊎ ((starts l t ≡ 0) ⊎ ((t < 64 * p) × (starts l t ≡ 1))) → block_size (heap_blocks l (64 * p)) t ≡ None
    by (inl out) = from_nowhere l t 0 (64 * p) (inr (inl (omega (arith, out))))
    by (inr (inl s)) = from_nowhere l t 0 (64 * p) (inr (inr s))
    by (inr (inr s)) = absurd (none (suc (run_length l (t + 1) (64 * p - (t + 1)))) (block_at l p t (64 * p - (t + 1)) h (omega (arith, s.0)) s.1))

from_later : (l : ℕ → ℕ) (x k z : ℕ) → z < x → in_block (blocks_from l x k) z ≡ false
from_later l x zero z low = refl
from_later l x (suc k) z low = by (from_later l (x + 1) k z (omega arith)) (grind (arith, starts_below l x))
  where
    skip : (b : ℕ × ℕ) (bs : List (ℕ × ℕ)) → z < b.0 → in_block (b ∷ bs) z ≡ in_block bs z
    skip b bs less = grind (arith, nat_tests)

    by : in_block (blocks_from l (x + 1) k) z ≡ false → (starts l x ≡ 0) ⊎ (starts l x ≡ 1) → in_block (blocks_from l x (suc k)) z ≡ false
    by rest (inl none) = ap (λ bs. in_block bs z) (from_none l x k none) ∙ rest
    by rest (inr s) = ap (λ bs. in_block bs z) (from_start l x k s) ∙ skip (x, suc (run_length l (x + 1) k)) (blocks_from l (x + 1) k) low ∙ rest

-- past the rest of a block that began before x, a unit is in one of the blocks from x on exactly where it is used
from_used : (l : ℕ → ℕ) (p x k z : ℕ) → OfBlocks l p → x + k ≡ 64 * p → x + run_length l x k ≤ z → z < x + k → in_block (blocks_from l x k) z ≡ eqb (used l z) 1
from_used l p x zero z h size low high = absurd (omega arith)
from_used l p x (suc k) z h size low high = by (cases_eq x z) (cases_on l x) (λ next. from_used l p (x + 1) k z h (omega arith) next (omega arith))
  where
    use_is : (u : ℕ) → used l z ≡ u → eqb u 1 ≡ eqb (used l z) 1
    use_is u e = ap (λ v. eqb v 1) (sym e)

    not_started : (used l x ≡ 0) → starts l x ≡ 0
    not_started u = from_two (grind (arith, starts_below l x))
      where
        from_two : (starts l x ≡ 0) ⊎ (starts l x ≡ 1) → starts l x ≡ 0
        from_two (inl e) = e
        from_two (inr e) = absurd (omega (arith, u, h.used_start x (omega (arith, size)) e))

    head_in : (bs : List (ℕ × ℕ)) (r : ℕ) → x ≤ z → z < x + suc r → in_block ((x, suc r) ∷ bs) z ≡ true
    head_in bs r first last = grind (arith, nat_tests)

    head_out : (bs : List (ℕ × ℕ)) (r : ℕ) → x + suc r ≤ z → in_block ((x, suc r) ∷ bs) z ≡ in_block bs z
    head_out bs r past = grind (arith, nat_tests)

    -- no block goes on behind an unused unit
    fresh : used l x ≡ 0 → 1 ≤ k → run_length l (x + 1) k ≡ 0
    fresh u more = ap (run_length l (x + 1)) long ∙ run_stops l (x + 1) (k - 1) (from_two (grind (arith, used_below l (x + 1))))
      where
        long : k ≡ suc (k - 1)
        long = omega (arith, more)

        next : suc x ≡ x + 1
        next = omega arith

        from_two : (used l (x + 1) ≡ 0) ⊎ (used l (x + 1) ≡ 1) → (used l (x + 1) ≡ 0) ⊎ (starts l (x + 1) ≡ 1)
        from_two (inl e) = inl e
        from_two (inr e) = inr (ap (starts l) (sym next) ∙ h.after x (omega (arith, size, more)) u (ap (used l) next ∙ e))

    started : starts l x ≡ 1 → (x + 1 + run_length l (x + 1) k ≤ z → in_block (blocks_from l (x + 1) k) z ≡ eqb (used l z) 1) → in_block (blocks_from l x (suc k)) z ≡ eqb (used l z) 1
    started s rest = ap (λ bs. in_block bs z) (from_start l x k s) ∙ part (grind arith)
      where
        block : IsBlock l (64 * p) x (suc (run_length l (x + 1) k))
        block = block_at l p x k h (sym size) s

        part : (z < x + suc (run_length l (x + 1) k)) ⊎ (x + suc (run_length l (x + 1) k) ≤ z) → in_block ((x, suc (run_length l (x + 1) k)) ∷ blocks_from l (x + 1) k) z ≡ eqb (used l z) 1
        part (inl i) = head_in (blocks_from l (x + 1) k) (run_length l (x + 1) k) (omega (arith, low)) i ∙ use_is 1 (block.filled z (omega (arith, low)) i)
        part (inr o) = head_out (blocks_from l (x + 1) k) (run_length l (x + 1) k) o ∙ rest (omega (arith, o))

    by : (x ≡ z) ⊎ (x ≢ z) → ((used l x ≡ 1) × (starts l x ≡ 0)) ⊎ ((used l x ≡ 0) ⊎ (starts l x ≡ 1)) → (x + 1 + run_length l (x + 1) k ≤ z → in_block (blocks_from l (x + 1) k) z ≡ eqb (used l z) 1) → in_block (blocks_from l x (suc k)) z ≡ eqb (used l z) 1
    by e (inl on) rest = ap (λ bs. in_block bs z) (from_none l x k on.1) ∙ rest (omega (arith, low, run_on l x k on.0 on.1))
    by (inl e) (inr (inl u)) rest = ap (λ bs. in_block bs z) (from_none l x k (not_started u)) ∙ from_later l (x + 1) k z (omega (arith, e)) ∙ use_is 0 (ap (used l) (sym e) ∙ u)
    by (inr e) (inr (inl u)) rest = ap (λ bs. in_block bs z) (from_none l x k (not_started u)) ∙ rest (omega (arith, e, low, fresh u (omega (arith, e, low, high))))
    by e (inr (inr s)) rest = started s rest

-- a unit is in a block exactly where it is used
pub in_block_used : (l : ℕ → ℕ) (p z : ℕ) → OfBlocks l p → z < 64 * p → in_block (heap_blocks l (64 * p)) z ≡ eqb (used l z) 1
in_block_used l p z h small = from_used l p 0 (64 * p) z h (omega arith) (omega (arith, fresh)) (omega arith)
  where
    long : 64 * p ≡ suc (64 * p - 1)
    long = omega (arith, small)

    from_two : (used l 0 ≡ 0) ⊎ (used l 0 ≡ 1) → (used l 0 ≡ 0) ⊎ (starts l 0 ≡ 1)
    from_two (inl e) = inl e
    from_two (inr e) = inr (h.first (omega (arith, small)) e)

    fresh : run_length l 0 (64 * p) ≡ 0
    fresh = ap (run_length l 0) long ∙ run_stops l 0 (64 * p - 1) (from_two (grind (arith, used_below l 0)))
