-- Digits that write a number, read from the first one on.
use Rattle.std.proofs.Common.{◌≡◌, ◌<◌, ◌≤◌, ◌^◌, ℕ, zero, suc, ◌+◌, ◌%◌, List, [], ◌∷◌, length, drop, slice_index, arith, ap, sym, subst, ◌∙◌}
use Rattle.std.proofs.Math.Nat.{pow-le-pow_right}
use Rattle.std.proofs.lemmas.Bool.Decides.{nat_tests}
use Rattle.std.proofs.lemmas.Fmt.{decimal_injective, decimal_is_IsNumeral, decimal_digit, decimal-digits_value, first_decimal, length-decimal-le}
use Rattle.std.proofs.lemmas.List.{drop_more, drop_all}
use Rattle.std.proofs.lemmas.Str.Parse.{numerals_by_value, tells_digits}
use Rattle.std.specs.Char.{digit_value}
use Rattle.std.specs.Fmt.{decimal}
use Rattle.std.specs.Str.Parse.{AllDigits, digits_value, digits_value_after}
use Rattle.rio_base.specs.Bytes.{IsNumber}

-- digits write one number
pub one_number : (digits : List ℕ) (m n : ℕ) → IsNumber digits m → IsNumber digits n → m ≡ n
one_number digits m n h k = decimal_injective m n (omega (arith, h.1)) (omega (arith, k.1)) (sym h.0 ∙ k.0)

-- so many digits make this number
pub record Parsed (digits : List ℕ) (i number : ℕ) : Type 0 where
  pub small : number < 10 ^ i
  pub value : digits_value_after 10 number (drop i digits) ≡ digits_value 10 digits
  pub whole : AllDigits 10 (drop i digits) → AllDigits 10 digits
  pub parts : AllDigits 10 digits → AllDigits 10 (drop i digits)

pub bounded : (digits : List ℕ) (i number : ℕ) → Parsed digits i number → i ≤ 18 → number < 10 ^ 18
bounded digits i number h few = let most : 10 ^ i ≤ 10 ^ 18 = pow-le-pow_right (omega arith) few in omega (arith, h.small, most)

pub bounded_below : (digits : List ℕ) (i number : ℕ) → Parsed digits i number → i ≤ 17 → number < 10 ^ 17
bounded_below digits i number h few = let most : 10 ^ i ≤ 10 ^ 17 = pow-le-pow_right (omega arith) few in omega (arith, h.small, most)

other_is : (c : ℕ) → c < 256 → 9 < (c + 208) % 256 → digit_value c < 10 → ⊥
other_is c small other digit = grind (arith, nat_tests)

-- ---- digits that write no number

pub number_digits : (digits : List ℕ) (n : ℕ) → IsNumber digits n → AllDigits 10 digits
number_digits digits n h = subst (λ xs. AllDigits 10 xs) (sym h.0) (decimal_is_IsNumeral n (omega (arith, h.1))).0.1

pub number_some : (digits : List ℕ) (n : ℕ) → IsNumber digits n → 0 < length digits
number_some digits n h = subst (λ (xs : List ℕ). 0 < length xs) (sym h.0) (decimal_is_IsNumeral n (omega (arith, h.1))).0.0

pub number_length : (digits : List ℕ) (n : ℕ) → IsNumber digits n → length digits ≤ 18
number_length digits n h = subst (λ (xs : List ℕ). length xs ≤ 18) (sym h.0) (length-decimal-le 18 n (omega arith) h.1 (omega (arith, h.1)))

number_front : (digits : List ℕ) (n : ℕ) → IsNumber digits n → slice_index digits 0 ≡ 48 → length digits ≡ 1
number_front digits zero h first = ap length (h.0 ∙ decimal_digit 0 (omega arith))
number_front digits (suc n) h first =
    let front : 48 < slice_index digits 0 = subst (λ xs. 48 < slice_index xs 0) (sym h.0) (first_decimal (suc n) (omega arith) (omega (arith, h.1))) in
    absurd (omega (arith, front, first))

pub begins_badly : (digits : List ℕ) → ((0 < length digits) × (slice_index digits 0 ≡ 48 → length digits ≡ 1) → ⊥) → (n : ℕ) → IsNumber digits n → ⊥
begins_badly digits bad n h = bad (number_some digits n h, number_front digits n h)

pub no_digit : (digits : List ℕ) (i number c : ℕ) → Parsed digits i number → i < length digits → c ≡ slice_index digits i → c < 256 → 9 < (c + 208) % 256 → (n : ℕ) → IsNumber digits n → ⊥
no_digit digits i number c h inside here small other n is =
    let cut : drop i digits ≡ c ∷ drop (i + 1) digits = drop_more digits i 0 inside ∙ ap (λ x. x ∷ drop (i + 1) digits) (sym here) in
    let left : AllDigits 10 (c ∷ drop (i + 1) digits) = subst (λ xs. AllDigits 10 xs) cut (h.parts (number_digits digits n is)) in
    other_is c small other left.0

-- ---- all digits make the number

pub all_parsed : (digits : List ℕ) (i number : ℕ) → Parsed digits i number → i ≡ length digits → 0 < length digits → length digits ≤ 18 → (slice_index digits 0 ≡ 48 → length digits ≡ 1) → IsNumber digits number
all_parsed digits i number h all some few first =
    let none : drop i digits ≡ [] = drop_all i digits (omega (arith, all)) in
    let value : number ≡ digits_value 10 digits = ap (λ xs. digits_value_after 10 number xs) (sym none) ∙ h.value in
    let digits_all : AllDigits 10 digits = h.whole (subst (λ xs. AllDigits 10 xs) (sym none) tt) in
    let below : number < 10 ^ 18 = bounded digits i number h (omega (arith, all)) in
    let text : decimal (digits_value 10 digits) ≡ digits = decimal-digits_value (numerals_by_value (AllDigits 10) tells_digits) digits digits_all some first (omega (arith, value, below)) in
    (sym (ap decimal value ∙ text), below)
