-- Words that are compared by runs.
use Rattle.cached_pages.proofs.Common.{◌≡◌, ◌∙◌, ◌+◌, ◌*◌, ◌≤◌, Bool, List, ap, arith, false, length, not, refl, sym, true, ℕ}
use Rattle.std.proofs.Common.{[], ◌∷◌, ◌++◌, ◌-◌, ◌^◌, ◌%◌, cond, drop, eqb, eqb-true, map, take, w64}
use Rattle.std.proofs.Math.Seq.{take-add}
use Rattle.std.specs.Str.{bytes_eq}
use Rattle.std.proofs.lemmas.List.{take-append-drop, take_rest}
use Rattle.std.proofs.lemmas.Simd.{length-chunk, length-zip2, mask_l-mod, tops_compared}
use Rattle.std.proofs.lemmas.Slice.Eq.{bytes_eq-Decides}
use lib.Lanes.{mask_l, top, zip2}
use mir.Val.{bits, hbits}

abbrev pub differs : ℕ → ℕ → Bool
differs a b = not (eqb a b)

none_set : (b : Bool) (n : ℕ) → cond (not b) 1 0 + 2 * n ≡ 0 → (b ≡ true) × (n ≡ 0)
none_set true n h = (refl, omega (arith, h))
none_set false n h = absurd (omega (arith, h))

-- no lane differs
none_differ : (xs ys : List ℕ) → length xs ≡ length ys → mask_l (zip2 differs xs ys) ≡ 0 → xs ≡ ys
none_differ [] [] long none = refl
none_differ [] (y ∷ ys) long none = absurd (omega (arith, long))
none_differ (x ∷ xs) [] long none = absurd (omega (arith, long))
none_differ (x ∷ xs) (y ∷ ys) long none =
    let parts = none_set (eqb x y) (mask_l (zip2 differs xs ys)) none in
    λ i. eqb-true x y parts.0 i ∷ none_differ xs ys (omega (arith, long)) parts.1 i

-- a run of both, where no bit of the comparison is set
pub same_run : (at : ℕ) (a b : List ℕ) → at + 16 ≤ length a → at + 16 ≤ length b
    → eqb (mask_l (map (top (hbits w64)) (zip2 (λ x y. cond (differs x y) (2 ^ bits w64 - 1) 0) (take 16 (drop at a)) (take 16 (drop at b)))) % 2 ^ 64) 0 ≡ true
    → take 16 (drop at a) ≡ take 16 (drop at b)
same_run at a b first second told =
    let xs = take 16 (drop at a) in
    let ys = take 16 (drop at b) in
    let left : length xs ≡ 16 = length-chunk at 16 a first in
    let right : length ys ≡ 16 = length-chunk at 16 b second in
    let long : length xs ≡ length ys = left ∙ sym right in
    let lanes : length (zip2 differs xs ys) ≡ 16 = length-zip2 differs xs ys long ∙ left in
    let mask = ap (λ ms. mask_l ms % 2 ^ 64) (tops_compared w64 differs xs ys) ∙ mask_l-mod (zip2 differs xs ys) 64 (omega (arith, lanes)) in
    none_differ xs ys long (sym mask ∙ eqb-true _ _ told)

-- the first words, and the run behind them
pub longer : (at n : ℕ) (a b : List ℕ) → take at a ≡ take at b → take n (drop at a) ≡ take n (drop at b) → take (at + n) a ≡ take (at + n) b
longer at n a b first run = take-add at n a ∙ (λ i. first i ++ run i) ∙ sym (take-add at n b)

-- the first words, and all behind them, as a comparison of two slices tells
pub whole : (at : ℕ) (a b : List ℕ) → take at a ≡ take at b → bytes_eq (take (length a - at) (drop at a)) (take (length b - at) (drop at b)) ≡ true → a ≡ b
whole at a b first told =
    let rest : drop at a ≡ drop at b = sym (take_rest a at) ∙ (bytes_eq-Decides _ _).0 told ∙ take_rest b at in
    sym (take-append-drop at a) ∙ (λ i. first i ++ rest i) ∙ take-append-drop at b
