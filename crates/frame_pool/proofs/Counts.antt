-- How many numbers pass a test.
use Rattle.std.specs.Prelude.{◌≡◌, ◌≢◌, ℕ, zero, suc, ◌+◌, ◌<◌, ◌≤◌, Bool, true, false, if◌then◌else◌, refl}
use Rattle.std.proofs.Common.{◌∙◌, ap, sym, ⊎_elim, arith}
use Rattle.std.proofs.lemmas.Bool.{cases_Bool, cases_eq}
use Rattle.frame_pool.specs.Orders.{count_below}

abbrev one : Bool → ℕ
one b = if b then 1 else 0

one_more : (t : ℕ → Bool) (n : ℕ) → count_below t (suc n) ≡ one (t n) + count_below t n
unfolding count_below
one_more t n = refl

pub count_same : (t u : ℕ → Bool) (n : ℕ) → ((k : ℕ) → k < n → u k ≡ t k) → count_below u n ≡ count_below t n
unfolding count_below
count_same t u zero same = refl
count_same t u (suc n) same = one_more u n ∙ ap (λ b. one b + count_below u n) (same n (omega arith)) ∙ ap (λ m. one (t n) + m) (count_same t u n (λ k less. same k (omega (arith, less)))) ∙ sym (one_more t n)

-- number k is one of those below n, and alone it passes now
pub count_set : (t u : ℕ → Bool) (k n : ℕ) → k < n → t k ≡ false → u k ≡ true → ((j : ℕ) → j ≢ k → u j ≡ t j) → count_below u n ≡ count_below t n + 1
count_set t u k zero less was now same = absurd (omega (arith, less))
count_set t u k (suc n) less was now same = ⊎_elim
    (λ e.
    let rest = count_same t u n (λ j below. same j (λ f. absurd (omega (arith, below, e, f)))) in
    let old : t n ≡ false = ap t e ∙ was in
    let new : u n ≡ true = ap u e ∙ now in
    omega (arith, rest, one_true (u n) new, one_false (t n) old, one_more u n, one_more t n))
    (λ ne.
    let rest = count_set t u k n (omega (arith, less, ne)) was now same in
    omega (arith, rest, ap one (same n ne), one_more u n, one_more t n))
    (cases_eq n k)
  where
    one_true : (b : Bool) → b ≡ true → one b ≡ 1
    one_true b e = ap one e

    one_false : (b : Bool) → b ≡ false → one b ≡ 0
    one_false b e = ap one e

pub count_all : (t : ℕ → Bool) (n : ℕ) → ((k : ℕ) → k < n → t k ≡ true) → count_below t n ≡ n
unfolding count_below
count_all t zero all = refl
count_all t (suc n) all = omega (arith, one_more t n, ap one (all n (omega arith)), count_all t n (λ k less. all k (omega (arith, less))))

pub count_none : (t : ℕ → Bool) (n : ℕ) → ((k : ℕ) → t k ≡ false) → count_below t n ≡ 0
unfolding count_below
count_none t zero none = refl
count_none t (suc n) none = omega (arith, one_more t n, ap one (none n), count_none t n none)

-- number k passes as before
pub count_again : (t u : ℕ → Bool) (k n : ℕ) → u k ≡ t k → ((j : ℕ) → j ≢ k → u j ≡ t j) → count_below u n ≡ count_below t n
count_again t u k n again same = count_same t u n (λ j less. ⊎_elim (λ e. ap u e ∙ again ∙ ap t (sym e)) (λ ne. same j ne) (cases_eq j k))

pub count_most : (t u : ℕ → Bool) (k n : ℕ) → k < n → u k ≡ true → ((j : ℕ) → j ≢ k → u j ≡ t j) → count_below u n ≤ count_below t n + 1
count_most t u k n less now same = ⊎_elim
    (λ was. omega (arith, count_again t u k n (now ∙ sym was) same))
    (λ was. omega (arith, count_set t u k n less was now same))
    (cases_Bool (t k))
