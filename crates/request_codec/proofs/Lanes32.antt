-- The lesser and the larger of two bytes, in each of 32 lanes.
use Rattle.std.proofs.Common.{◌≡◌, ℕ, ◌<◌, ◌^◌, ◌-◌, Bool, false, cond, ltb, min, max, List, map, length, get_or, ap, ◌∙◌, arith, w8}
use Rattle.std.proofs.lemmas.Bool.Decides.{nat_tests}
use Rattle.std.proofs.lemmas.Simd.{get_or-sel_l, get_or-zip2, length-sel_l, length-zip2, tops_compared}
use lib.Lanes.{sel_l, top, zip2}
use mir.Val.{bits, hbits}

-- in each lane that of x where the test holds, and else that of y
abbrev pub chosen : (ℕ → ℕ → Bool) → List ℕ → List ℕ → List ℕ → List ℕ → List ℕ
chosen t a b x y = sel_l (map (top (hbits w8)) (zip2 (λ m n. cond (t m n) (2 ^ bits w8 - 1) 0) a b)) x y

chosen_is : (t : ℕ → ℕ → Bool) (a b x y : List ℕ) → chosen t a b x y ≡ sel_l (zip2 t a b) x y
chosen_is t a b x y = ap (λ ms. sel_l ms x y) (tops_compared w8 t a b)

pub chosen_long : (t : ℕ → ℕ → Bool) (a b x y : List ℕ) → length a ≡ 32 → length b ≡ 32 → length x ≡ 32 → length y ≡ 32 → length (chosen t a b x y) ≡ 32
chosen_long t a b x y long wide first second =
    let tests : length (zip2 t a b) ≡ 32 = length-zip2 t a b (omega (arith, long, wide)) ∙ long in
    ap length (chosen_is t a b x y) ∙ length-sel_l (zip2 t a b) x y (omega (arith, tests, first)) (omega (arith, tests, second)) ∙ tests

chosen_at : (t : ℕ → ℕ → Bool) (a b x y : List ℕ) → length a ≡ 32 → length b ≡ 32 → length x ≡ 32 → length y ≡ 32 → (j : ℕ) → j < 32 → get_or (chosen t a b x y) j 0 ≡ cond (t (get_or a j 0) (get_or b j 0)) (get_or x j 0) (get_or y j 0)
chosen_at t a b x y long wide first second j below =
    let tests : length (zip2 t a b) ≡ 32 = length-zip2 t a b (omega (arith, long, wide)) ∙ long in
    ap (λ xs. get_or xs j 0) (chosen_is t a b x y)
    ∙ get_or-sel_l (zip2 t a b) x y j 0 (omega (arith, tests, below)) (omega (arith, first, below)) (omega (arith, second, below))
    ∙ ap (λ m. cond m (get_or x j 0) (get_or y j 0)) (get_or-zip2 t a b j 0 0 false (omega (arith, long, below)) (omega (arith, wide, below)))

least : (x y : ℕ) → cond (ltb x y) x y ≡ min x y
least x y = grind (arith, nat_tests)

largest : (x y : ℕ) → cond (ltb x y) y x ≡ max x y
largest x y = grind (arith, nat_tests)

pub lesser_at : (a b : List ℕ) → length a ≡ 32 → length b ≡ 32 → (j : ℕ) → j < 32 → get_or (chosen ltb a b a b) j 0 ≡ min (get_or a j 0) (get_or b j 0)
lesser_at a b long wide j below = chosen_at ltb a b a b long wide long wide j below ∙ least (get_or a j 0) (get_or b j 0)

pub larger_at : (a b : List ℕ) → length a ≡ 32 → length b ≡ 32 → (j : ℕ) → j < 32 → get_or (chosen ltb a b b a) j 0 ≡ max (get_or a j 0) (get_or b j 0)
larger_at a b long wide j below = chosen_at ltb a b b a long wide wide long j below ∙ largest (get_or a j 0) (get_or b j 0)
