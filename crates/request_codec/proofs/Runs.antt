-- Runs of 16 bytes, whose digits are looked up together.
use Rattle.std.proofs.Common.{◌≡◌, ℕ, zero, suc, ◌+◌, ◌*◌, ◌/◌, ◌%◌, ◌^◌, ◌<◌, ◌≤◌, List, [], ◌∷◌, ◌++◌, map, length, get_or, slice_index, take, drop, replicate, bit_and, refl, sym, ap, ◌∙◌, arith, w8, Fits}
use Rattle.std.proofs.lemmas.List.{append_assoc, ext_get_or, get_or-map, length-map}
use Rattle.std.proofs.lemmas.Nat.{and_le_r}
use Rattle.std.proofs.lemmas.Simd.{Each1-all, Each1-weaker, Each1-zip2, Each2-splat, below_from_Fits, chunk-drop, get_or-swz_l_below, length-chunk, length-swz_l, length-zip2, swz_l, SwzOk, SwzOk-from_below, take_more_put_chunk}
use lib.Lanes.{chunk, Each1, pick_l, put_chunk, zip2}
use Rattle.hex.specs.Hex.{encode_with, encode_lower, lower_digits}
use Rattle.request_codec.proofs.EncodedParts.{encode_append}

abbrev pub IsRun : List ℕ → Type 0
IsRun run = (length run ≡ 16) × Each1 (Fits w8) run

pub lane_fits : (xs : List ℕ) (i : ℕ) → Each1 (Fits w8) xs → get_or xs i 0 < 256
lane_fits [] i h = omega arith
lane_fits (x ∷ xs) zero h = h.0.fits
lane_fits (x ∷ xs) (suc i) h = lane_fits xs i h.1

-- ---- the places where digits are looked up

abbrev pub down : ℕ → ℕ → ℕ
down a b = a / 2 ^ b

pub high_ok : (run : List ℕ) → IsRun run → SwzOk w8 16 16 0 (zip2 down run (replicate 16 4))
high_ok run is =
    let small = Each1-weaker (λ a. a < 256) (λ a. a / 16 < 16) (λ a h. omega arith) run (below_from_Fits w8 run is.1) in
    SwzOk-from_below w8 16 1 16 0 (zip2 down run (replicate 16 4)) refl (omega (arith, length-zip2 down run (replicate 16 4) is.0))
    (Each1-zip2 down (λ j. j < 16) run (replicate 16 4) (Each2-splat (λ a b. down a b < 16) run 16 4 small))

pub low_ok : (run : List ℕ) → IsRun run → SwzOk w8 16 16 0 (zip2 bit_and run (replicate 16 15))
low_ok run is =
    let small = Each1-all (λ a. bit_and a 15 < 16) (λ a. omega (arith, and_le_r a 15)) run in
    SwzOk-from_below w8 16 1 16 0 (zip2 bit_and run (replicate 16 15)) refl (omega (arith, length-zip2 bit_and run (replicate 16 15) is.0))
    (Each1-zip2 bit_and (λ j. j < 16) run (replicate 16 15) (Each2-splat (λ a b. bit_and a b < 16) run 16 15 small))

-- the digits at these places
pub looked_up : (g : ℕ → ℕ) (run places : List ℕ) → IsRun run → places ≡ map g run → ((x : ℕ) → x < 256 → g x < 16) → swz_l w8 16 lower_digits 0 places ≡ map (λ x. slice_index lower_digits (g x)) run
looked_up g run places is e small =
    let digit : ℕ → ℕ = λ x. slice_index lower_digits (g x) in
    let size : length places ≡ 16 = ap length e ∙ length-map run g ∙ is.0 in
    let long : length (swz_l w8 16 lower_digits 0 places) ≡ 16 = length-swz_l w8 16 lower_digits 0 places ∙ size in
    ext_get_or 0 _ _ (long ∙ sym (length-map run digit ∙ is.0)) (λ i h.
    let lt : i < 16 = omega (arith, long, h) in
    let within : i < length run = omega (arith, is.0, lt) in
    let place : get_or places i 0 ≡ g (get_or run i 0) = ap (λ l. get_or l i 0) e ∙ get_or-map g run i 0 0 within in
    let below : get_or places i 0 < 16 = omega (arith, place, small (get_or run i 0) (lane_fits run i is.1)) in
    let here : 16 * ((0 + i) / 16) + get_or places i 0 ≡ get_or places i 0 = omega (arith, lt) in
    get_or-swz_l_below w8 16 lower_digits 0 places i (omega (arith, size, lt)) below
    ∙ ap (λ k. get_or lower_digits k 0) (here ∙ place)
    ∙ sym (get_or-map digit run i 0 0 within))

-- ---- the digits of a run

abbrev by_turns : List ℕ
by_turns = 0 ∷ 16 ∷ 1 ∷ 17 ∷ 2 ∷ 18 ∷ 3 ∷ 19 ∷ 4 ∷ 20 ∷ 5 ∷ 21 ∷ 6 ∷ 22 ∷ 7 ∷ 23 ∷ 8 ∷ 24 ∷ 9 ∷ 25 ∷ 10 ∷ 26 ∷ 11 ∷ 27 ∷ 12 ∷ 28 ∷ 13 ∷ 29 ∷ 14 ∷ 30 ∷ 15 ∷ 31 ∷ []

-- a high digit and a low one by turns
pub woven : (run : List ℕ) → length run ≡ 16 → pick_l 0 (map (λ b. slice_index lower_digits (b / 16)) run ++ map (λ b. slice_index lower_digits (b % 16)) run) by_turns ≡ encode_lower run
unfolding encode_with
woven [] long = absurd (omega (arith, long))
woven (a ∷ []) long = absurd (omega (arith, long))
woven (a ∷ b ∷ []) long = absurd (omega (arith, long))
woven (a ∷ b ∷ c ∷ []) long = absurd (omega (arith, long))
woven (a ∷ b ∷ c ∷ d ∷ []) long = absurd (omega (arith, long))
woven (a ∷ b ∷ c ∷ d ∷ e ∷ []) long = absurd (omega (arith, long))
woven (a ∷ b ∷ c ∷ d ∷ e ∷ f ∷ []) long = absurd (omega (arith, long))
woven (a ∷ b ∷ c ∷ d ∷ e ∷ f ∷ g ∷ []) long = absurd (omega (arith, long))
woven (a ∷ b ∷ c ∷ d ∷ e ∷ f ∷ g ∷ h ∷ []) long = absurd (omega (arith, long))
woven (a ∷ b ∷ c ∷ d ∷ e ∷ f ∷ g ∷ h ∷ i ∷ []) long = absurd (omega (arith, long))
woven (a ∷ b ∷ c ∷ d ∷ e ∷ f ∷ g ∷ h ∷ i ∷ j ∷ []) long = absurd (omega (arith, long))
woven (a ∷ b ∷ c ∷ d ∷ e ∷ f ∷ g ∷ h ∷ i ∷ j ∷ k ∷ []) long = absurd (omega (arith, long))
woven (a ∷ b ∷ c ∷ d ∷ e ∷ f ∷ g ∷ h ∷ i ∷ j ∷ k ∷ l ∷ []) long = absurd (omega (arith, long))
woven (a ∷ b ∷ c ∷ d ∷ e ∷ f ∷ g ∷ h ∷ i ∷ j ∷ k ∷ l ∷ m ∷ []) long = absurd (omega (arith, long))
woven (a ∷ b ∷ c ∷ d ∷ e ∷ f ∷ g ∷ h ∷ i ∷ j ∷ k ∷ l ∷ m ∷ n ∷ []) long = absurd (omega (arith, long))
woven (a ∷ b ∷ c ∷ d ∷ e ∷ f ∷ g ∷ h ∷ i ∷ j ∷ k ∷ l ∷ m ∷ n ∷ o ∷ []) long = absurd (omega (arith, long))
woven (a ∷ b ∷ c ∷ d ∷ e ∷ f ∷ g ∷ h ∷ i ∷ j ∷ k ∷ l ∷ m ∷ n ∷ o ∷ p ∷ []) long = refl
woven (a ∷ b ∷ c ∷ d ∷ e ∷ f ∷ g ∷ h ∷ i ∷ j ∷ k ∷ l ∷ m ∷ n ∷ o ∷ p ∷ q ∷ rest) long = absurd (omega (arith, long))

-- ---- run after run

encoded_length : (t bytes : List ℕ) → length (encode_with t bytes) ≡ 2 * length bytes
unfolding encode_with
encoded_length t [] = refl
encoded_length t (b ∷ bytes) = let rest = encoded_length t bytes in omega (arith, rest)

-- the digits of one run more are written
pub run_more : (input output digits : List ℕ) (n m : ℕ) → n + 16 ≤ length input → length output ≡ 2 * length input → digits ≡ encode_lower (chunk n 16 input) → m ≡ n + 16
    → take (2 * n) output ++ encode_lower (drop n input) ≡ encode_lower input → take (2 * m) (put_chunk (2 * n) output digits) ++ encode_lower (drop m input) ≡ encode_lower input
run_more input output digits n m fits len is next front =
    let run : List ℕ = chunk n 16 input in
    let rest : List ℕ = drop (n + 16) input in
    let head : List ℕ = take (2 * n) output in
    let size : length digits ≡ 32 = ap length is ∙ encoded_length lower_digits run ∙ ap (λ k. 2 * k) (length-chunk n 16 input fits) in
    let stored : take (2 * m) (put_chunk (2 * n) output digits) ≡ head ++ digits = take_more_put_chunk (2 * n) output digits (2 * m) (omega (arith, next, size)) (omega (arith, next, fits, len)) in
    let behind : drop m input ≡ rest = ap (λ k. drop k input) next in
    let whole : encode_lower (drop n input) ≡ encode_lower run ++ encode_lower rest = ap encode_lower (chunk-drop n 16 input) ∙ encode_append lower_digits run rest in
    ap (λ xs. xs ++ encode_lower (drop m input)) stored
    ∙ ap (λ xs. (head ++ digits) ++ encode_lower xs) behind
    ∙ append_assoc head digits (encode_lower rest)
    ∙ ap (λ xs. head ++ (xs ++ encode_lower rest)) is
    ∙ ap (λ xs. head ++ xs) (sym whole)
    ∙ front
