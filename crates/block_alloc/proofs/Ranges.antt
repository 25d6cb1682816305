-- What a test keeps of a range of numbers.
use Rattle.std.proofs.Common.{◌≡◌, ℕ, zero, suc, ◌+◌, ◌-◌, ◌<◌, ◌≤◌, Bool, false, cond, List, [], ◌∷◌, ◌++◌, length, take, refl, sym, ap, ◌∙◌, arith, length-take, ◌⊎◌, inl, inr}
use Rattle.std.specs.List.{filter, range_with_len}
use Rattle.std.proofs.lemmas.List.Elements.{filter-append}
use Rattle.std.proofs.lemmas.List.{take-append-le, take_all, append-nil}
use Rattle.std.proofs.lemmas.Bool.{cases_order}
use Rattle.std.proofs.Math.Seq.{take-append-add}

-- a test that is asked of each number of a range by its place
pub record Agrees (p q : ℕ → Bool) (s n : ℕ) : Type 0 where
  pub each : (i : ℕ) → i < n → p (s + i) ≡ q (s + i)

at_place : (p q : ℕ → Bool) (s n : ℕ) → Agrees p q s n → (i j : ℕ) → i < n → s + i ≡ j → p j ≡ q j
at_place p q s n h i j within is = ap p (sym is) ∙ h.each i within ∙ ap q is

agrees_rest : (p q : ℕ → Bool) (s n : ℕ) → Agrees p q s (suc n) → Agrees p q (s + 1) n
agrees_rest p q s n h = record { each = λ i within. at_place p q s (suc n) h (i + 1) ((s + 1) + i) (omega arith) (omega arith) }

pub filter_same : (p q : ℕ → Bool) (n s : ℕ) → Agrees p q s n → filter p (range_with_len s n) ≡ filter q (range_with_len s n)
filter_same p q zero s h = refl
filter_same p q (suc n) s h =
    let first : p s ≡ q s = at_place p q s (suc n) h 0 s (omega arith) (omega arith) in
    let rest = filter_same p q n (s + 1) (agrees_rest p q s n h) in
    ap (λ b. cond b (s ∷ filter p (range_with_len (s + 1) n)) (filter p (range_with_len (s + 1) n))) first ∙ ap (λ xs. cond (q s) (s ∷ xs) xs) rest

pub filter_none : (p : ℕ → Bool) (n s : ℕ) → Agrees p (λ b. false) s n → filter p (range_with_len s n) ≡ []
filter_none p zero s h = refl
filter_none p (suc n) s h =
    let first : p s ≡ false = at_place p (λ b. false) s (suc n) h 0 s (omega arith) (omega arith) in
    let rest = filter_none p n (s + 1) (agrees_rest p (λ b. false) s n h) in
    ap (λ b. cond b (s ∷ filter p (range_with_len (s + 1) n)) (filter p (range_with_len (s + 1) n))) first ∙ rest

pub range_split : (a b s : ℕ) → range_with_len s (a + b) ≡ range_with_len s a ++ range_with_len (s + a) b
range_split zero b s =
    let count : zero + b ≡ b = omega arith in
    let start : s ≡ s + zero = omega arith in
    ap (range_with_len s) count ∙ ap (λ t. range_with_len t b) start
range_split (suc a) b s =
    let count : suc a + b ≡ suc (a + b) = omega arith in
    let start : (s + 1) + a ≡ s + suc a = omega arith in
    ap (range_with_len s) count ∙ ap (λ xs. s ∷ xs) (range_split a b (s + 1) ∙ ap (λ t. range_with_len (s + 1) a ++ range_with_len t b) start)

pub filter_split : (p : ℕ → Bool) (a b s : ℕ) → filter p (range_with_len s (a + b)) ≡ filter p (range_with_len s a) ++ filter p (range_with_len (s + a) b)
filter_split p a b s = ap (filter p) (range_split a b s) ∙ filter-append p (range_with_len s a) (range_with_len (s + a) b)

-- the first n of two lists, one after the other
take_few : (n : ℕ) (xs ys : List ℕ) → n ≤ length xs → take n xs ++ take (n - length (take n xs)) ys ≡ take n (xs ++ ys)
take_few n xs ys few =
    let none : n - length (take n xs) ≡ 0 = omega (arith, length-take n xs) in
    ap (λ k. take n xs ++ take k ys) none ∙ append-nil (take n xs) ∙ sym (take-append-le n xs ys few)

take_many : (n : ℕ) (xs ys : List ℕ) → length xs ≤ n → take n xs ++ take (n - length (take n xs)) ys ≡ take n (xs ++ ys)
take_many n xs ys many =
    let whole : take n xs ≡ xs = take_all n xs many in
    let size : n ≡ length xs + (n - length xs) = omega arith in
    ap (λ (zs : List ℕ). zs ++ take (n - length zs) ys) whole ∙ sym (take-append-add xs ys (n - length xs)) ∙ ap (λ k. take k (xs ++ ys)) (sym size)

take_cases : (n : ℕ) (xs ys : List ℕ) → (n ≡ length xs) ⊎ ((n < length xs) ⊎ (length xs < n)) → take n xs ++ take (n - length (take n xs)) ys ≡ take n (xs ++ ys)
take_cases n xs ys (inl e) = take_few n xs ys (omega arith)
take_cases n xs ys (inr (inl few)) = take_few n xs ys (omega arith)
take_cases n xs ys (inr (inr many)) = take_many n xs ys (omega arith)

pub take_both : (n : ℕ) (xs ys : List ℕ) → take n xs ++ take (n - length (take n xs)) ys ≡ take n (xs ++ ys)
take_both n xs ys = take_cases n xs ys (cases_order n (length xs))
