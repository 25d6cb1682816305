-- Different numbers below m are at most m.
use Rattle.cached_pages.proofs.Common.{◌≡◌, ◌≢◌, ℕ, suc, ◌<◌, ◌≤◌, ◌⊎◌, if◌then◌else◌, ◌==◌, refl, ◌∙◌, sym, subst, inl, inr, arith, cases_eq, eq-eqb, ne_eqb}
use Rattle.std.specs.Prelude.{zero}

-- what f gives of n numbers is below m, and different
pub record Different (f : ℕ → ℕ) (n m : ℕ) : Type 0 where
  pub below : (k : ℕ) → k < n → f k < m
  pub apart : (j k : ℕ) → j < n → k < n → f j ≡ f k → j ≡ k

-- f with the number x in place of m
moved : (ℕ → ℕ) → ℕ → ℕ → ℕ → ℕ
moved f m x k = if f k == m then x else f k

moved_at : (f : ℕ → ℕ) (m x k : ℕ) → f k ≡ m → moved f m x k ≡ x
unfolding moved
moved_at f m x k e = rw (eq-eqb (f k) m e) refl

moved_off : (f : ℕ → ℕ) (m x k : ℕ) → f k ≢ m → moved f m x k ≡ f k
unfolding moved
moved_off f m x k ne = rw (ne_eqb (f k) m ne) refl

-- the last of n + 1 numbers is taken away, and what had m has its number
one_less : (f : ℕ → ℕ) (n m : ℕ) → Different f (suc n) (suc m) → Different (moved f m (f n)) n m
one_less f n m h = record { below = λ k less. below k less (cases_eq (f k) m); apart = λ j k a b e. apart j k a b e (cases_eq (f j) m) (cases_eq (f k) m) }
  where
    below : (k : ℕ) → k < n → (f k ≡ m) ⊎ (f k ≢ m) → moved f m (f n) k < m
    below k less (inl e) =
        let ne : f n ≢ m = λ d. absurd (omega (arith, less, h.apart k n (omega (arith, less)) (omega arith) (e ∙ sym d))) in
        subst (λ x. x < m) (sym (moved_at f m (f n) k e)) (omega (arith, h.below n (omega arith), ne))
    below k less (inr ne) = subst (λ x. x < m) (sym (moved_off f m (f n) k ne)) (omega (arith, h.below k (omega (arith, less)), ne))

    apart : (j k : ℕ) → j < n → k < n → moved f m (f n) j ≡ moved f m (f n) k → (f j ≡ m) ⊎ (f j ≢ m) → (f k ≡ m) ⊎ (f k ≢ m) → j ≡ k
    apart j k a b e (inl p) (inl q) = h.apart j k (omega (arith, a)) (omega (arith, b)) (p ∙ sym q)
    apart j k a b e (inl p) (inr q) = absurd (omega (arith, b, h.apart n k (omega arith) (omega (arith, b)) (sym (moved_at f m (f n) j p) ∙ e ∙ moved_off f m (f n) k q)))
    apart j k a b e (inr p) (inl q) = absurd (omega (arith, a, h.apart j n (omega (arith, a)) (omega arith) (sym (moved_off f m (f n) j p) ∙ e ∙ moved_at f m (f n) k q)))
    apart j k a b e (inr p) (inr q) = h.apart j k (omega (arith, a)) (omega (arith, b)) (sym (moved_off f m (f n) j p) ∙ e ∙ moved_off f m (f n) k q)

pub pigeons : (f : ℕ → ℕ) (n m : ℕ) → Different f n m → n ≤ m
pigeons f zero m h = omega arith
pigeons f (suc n) zero h = absurd (omega (arith, h.below n (omega arith)))
pigeons f (suc n) (suc m) h = omega (arith, pigeons (moved f m (f n)) n m (one_less f n m h))
