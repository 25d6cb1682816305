-- How often a number is in a list, and the list without it.
use Rattle.std.specs.Prelude.{◌≡◌, ◌≢◌, ℕ, ◌+◌, ◌≤◌, List, [], ◌∷◌, ◌++◌, length, refl}
use Rattle.std.proofs.Common.{◌∙◌, ap, sym, subst, ⊎_elim, arith}
use Rattle.std.proofs.lemmas.Bool.{cases_eq, eq-eqb, ne_eqb}
use Rattle.frame_pool.specs.Orders.{freed_first, times, used_last, without}

pub times_nil : (k : ℕ) → times k [] ≡ 0
unfolding times
times_nil k = refl

pub times_same : (k x : ℕ) (xs : List ℕ) → x ≡ k → times k (x ∷ xs) ≡ 1 + times k xs
unfolding times
times_same k x xs e = rw (eq-eqb x k e) refl

pub times_other : (k x : ℕ) (xs : List ℕ) → x ≢ k → times k (x ∷ xs) ≡ times k xs
unfolding times
times_other k x xs ne = rw (ne_eqb x k ne) (omega arith)

pub times_most : (k x : ℕ) (xs : List ℕ) → times k xs ≤ times k (x ∷ xs)
unfolding times
times_most k x xs = omega arith

-- where a list is without number k, so are its first number and the rest
pub not_first : (k x : ℕ) (xs : List ℕ) → times k (x ∷ xs) ≡ 0 → x ≢ k
not_first k x xs none = λ e. absurd (omega (arith, none, times_same k x xs e))

pub not_later : (k x : ℕ) (xs : List ℕ) → times k (x ∷ xs) ≡ 0 → times k xs ≡ 0
not_later k x xs none = omega (arith, none, times_most k x xs)

pub times_append : (k : ℕ) (xs ys : List ℕ) → times k (xs ++ ys) ≡ times k xs + times k ys
unfolding times
times_append k [] ys = omega arith
times_append k (x ∷ xs) ys = omega (arith, times_append k xs ys)

pub without_same : (k x : ℕ) (xs : List ℕ) → x ≡ k → without k (x ∷ xs) ≡ without k xs
without_same k x xs e = rw (eq-eqb x k e) refl

pub without_other : (k x : ℕ) (xs : List ℕ) → x ≢ k → without k (x ∷ xs) ≡ x ∷ without k xs
without_other k x xs ne = rw (ne_eqb x k ne) refl

pub without_none : (k : ℕ) (xs : List ℕ) → times k xs ≡ 0 → without k xs ≡ xs
without_none k [] none = refl
without_none k (x ∷ xs) none = without_other k x xs (not_first k x xs none) ∙ ap (λ l. x ∷ l) (without_none k xs (not_later k x xs none))

pub times_without : (k : ℕ) (xs : List ℕ) → times k (without k xs) ≡ 0
times_without k [] = times_nil k
times_without k (x ∷ xs) = ⊎_elim
    (λ e. ap (times k) (without_same k x xs e) ∙ times_without k xs)
    (λ ne. ap (times k) (without_other k x xs ne) ∙ times_other k x (without k xs) ne ∙ times_without k xs)
    (cases_eq x k)

pub times_without_other : (j k : ℕ) (xs : List ℕ) → j ≢ k → times j (without k xs) ≡ times j xs
times_without_other j k [] ne = refl
times_without_other j k (x ∷ xs) ne = ⊎_elim
    (λ e. ap (times j) (without_same k x xs e) ∙ times_without_other j k xs ne ∙ sym (times_other j x xs (λ f. ne (sym f ∙ e))))
    (λ e. ap (times j) (without_other k x xs e) ∙ more j x (without k xs) xs (times_without_other j k xs ne))
    (cases_eq x k)
  where
    more : (j x : ℕ) (ys xs : List ℕ) → times j ys ≡ times j xs → times j (x ∷ ys) ≡ times j (x ∷ xs)
    more j x ys xs same = ⊎_elim
        (λ e. omega (arith, times_same j x ys e, times_same j x xs e, same))
        (λ e. times_other j x ys e ∙ same ∙ sym (times_other j x xs e))
        (cases_eq x j)

pub length_without : (k : ℕ) (xs : List ℕ) → length (without k xs) + times k xs ≡ length xs
length_without k [] = ap (λ n. 0 + n) (times_nil k)
length_without k (x ∷ xs) = ⊎_elim
    (λ e. omega (arith, ap length (without_same k x xs e), times_same k x xs e, length_without k xs))
    (λ ne. omega (arith, ap length (without_other k x xs ne), times_other k x xs ne, length_without k xs))
    (cases_eq x k)

-- the list has number k once, and it is moved to an end
pub times_last : (j k : ℕ) (xs : List ℕ) → times k xs ≡ 1 → times j (used_last k xs) ≡ times j xs
times_last j k xs once = ⊎_elim
    (λ e. subst (λ i. times i (used_last k xs) ≡ times i xs) e (omega (arith, once, times_append k (without k xs) (k ∷ []), times_without k xs, times_same k k [] refl, times_nil k)))
    (λ ne. omega (arith, times_append j (without k xs) (k ∷ []), times_without_other j k xs (λ e. ne (sym e)), times_other j k [] ne, times_nil j))
    (cases_eq k j)

pub times_first : (j k : ℕ) (xs : List ℕ) → times k xs ≡ 1 → times j (freed_first k xs) ≡ times j xs
times_first j k xs once = ⊎_elim
    (λ e. subst (λ i. times i (freed_first k xs) ≡ times i xs) e (omega (arith, once, times_same k k (without k xs) refl, times_without k xs)))
    (λ ne. times_other j k (without k xs) ne ∙ times_without_other j k xs (λ e. ne (sym e)))
    (cases_eq k j)
