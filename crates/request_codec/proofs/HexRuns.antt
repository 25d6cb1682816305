-- Runs of hexadecimal digits, as vectors decode them.
use Rattle.std.proofs.Common.{◌≡◌, ◌≢◌, ℕ, suc, ◌+◌, ◌-◌, ◌*◌, ◌/◌, ◌%◌, ◌^◌, ◌<◌, ◌≤◌, min, max, Bool, true, false, cond, leb, ltb, List, [], ◌∷◌, map, length, get_or, slice_index, take, drop, replicate, Option, Some, None, MatchOption, bit_and, inl, inr, refl, sym, ap, ap₂, subst, ◌∙◌, arith, w8, Fits}
use Rattle.std.proofs.lemmas.Bool.{cases_lt, leb-false, leb-true, ltb-false, ltb-true}
use Rattle.std.proofs.lemmas.List.{get_or-take, length-map, length-take-le}
use Rattle.std.proofs.lemmas.Simd.{below_from_Fits, get_or-chunk, get_or-put_chunk_at, get_or-put_chunk_below, get_or-replicate, get_or-zip2, get_or_wider, length-chunk, length-put_chunk, length-replicate, length-zip2, mask_l-mod, tops_compared, zip2_splat_left}
use lib.Lanes.{chunk, digits_l, Each1, mask_l, number_l, put_chunk, top, zip2}
use mir.Val.{bits, hbits}
use Rattle.request_codec.specs.declared.hex_digits.Seen.{Seen}
use Rattle.hex.specs.Hex.{hex_digit_value}
use Rattle.request_codec.specs.Digits.{IsDecoded, IsNone, IsOther, ReadsDigits, ReadsRun}
use Rattle.request_codec.specs.Form.{AreDigitsOf, IsHexOf}
use Rattle.request_codec.proofs.Digits.{HasOther, DecodedInto, reads_by, rank_of}
use Rattle.request_codec.proofs.FarSteps.{unmarked}
use Rattle.request_codec.proofs.Runs.{lane_fits}

-- ---- what is read of each lane

-- a lane of a vector and a splat
splatted : (f : ℕ → ℕ → ℕ) (xs : List ℕ) (n y j : ℕ) → length xs ≡ n → j < n → get_or (zip2 f xs (replicate n y)) j 0 ≡ f (get_or xs j 0) y
splatted f xs n y j long below =
    get_or-zip2 f xs (replicate n y) j 0 0 0 (omega (arith, long, below)) (omega (arith, length-replicate {A = ℕ} n y, below))
    ∙ ap (f (get_or xs j 0)) (get_or-replicate n j y 0 below)

-- the same byte, as letters count from 10 on
as_read : (o : Option ℕ) (value rank letter : ℕ) → letter ≡ rank + 3 → MatchOption o (IsNone value rank) (λ v. (value ≡ v) × (v < 16) × (7 ≤ rank)) → MatchOption o (IsOther letter value) (λ v. (value ≡ v) × (v < 16) × (10 ≤ letter))
as_read None value rank letter is h = elim h [ inl large ↦ inr large | inr low ↦ inl (omega (arith, is, low)) ]
as_read (Some v) value rank letter is h = (h.0, h.1, omega (arith, is, h.2))

abbrev pub letter_of : ℕ → ℕ
letter_of c = (rank_of c + 3) % 256

pub reads_digits : (c letter value : ℕ) → c < 256 → letter ≡ letter_of c → value ≡ min ((c + 208) % 256) (letter_of c) → ReadsDigits c letter value
reads_digits c letter value small is_letter is_value =
    let rank : ℕ = rank_of c in
    let plain : letter_of c ≡ rank + 3 = omega (arith, and_at_most c) in
    as_read (hex_digit_value c) value rank letter (is_letter ∙ plain) (reads_by c (record { value = value; rank = rank }) small refl is_value)
  where
    and_at_most : (c : ℕ) → rank_of c ≤ 223
    and_at_most c = Rattle.std.proofs.lemmas.Nat.and_le_r ((c + 198) % 256) 223

abbrev plus : ℕ → ℕ → ℕ
plus a b = (a + b) % 256

abbrev minus : ℕ → ℕ → ℕ
minus a b = (a + (256 - b)) % 256

abbrev letters : List ℕ → List ℕ
letters digits = zip2 plus (zip2 bit_and (zip2 minus digits (replicate 32 58)) (replicate 32 223)) (replicate 32 3)

abbrev decimals : List ℕ → List ℕ
decimals digits = zip2 minus digits (replicate 32 48)

splat_long : (f : ℕ → ℕ → ℕ) (xs : List ℕ) (n y : ℕ) → length xs ≡ n → length (zip2 f xs (replicate n y)) ≡ n
splat_long f xs n y long = length-zip2 f xs (replicate n y) (long ∙ sym (length-replicate {A = ℕ} n y)) ∙ long

pub run_read : (digits values : List ℕ) → length digits ≡ 32 → Each1 (Fits w8) digits → length values ≡ 32 → ((j : ℕ) → j < 32 → slice_index values j ≡ min (slice_index (decimals digits) j) (slice_index (letters digits) j)) → ReadsRun digits (letters digits) values
run_read digits values long fits many lane =
    let ranks : List ℕ = zip2 minus digits (replicate 32 58) in
    let folded : List ℕ = zip2 bit_and ranks (replicate 32 223) in
    let ranks_long : length ranks ≡ 32 = splat_long minus digits 32 58 long in
    let folded_long : length folded ≡ 32 = splat_long bit_and ranks 32 223 ranks_long in
    let letter : (j : ℕ) → j < 32 → get_or (letters digits) j 0 ≡ letter_of (get_or digits j 0) = λ j below.
    splatted plus folded 32 3 j folded_long below
    ∙ ap (λ x. plus x 3) (splatted bit_and ranks 32 223 j ranks_long below ∙ ap (λ x. bit_and x 223) (splatted minus digits 32 58 j long below)) in
    record {
      many = splat_long plus folded 32 3 folded_long;
      long = many;
      each = λ j below. reads_digits (get_or digits j 0) (get_or (letters digits) j 0) (get_or values j 0) (lane_fits digits j fits) (letter j below)
          (lane j below ∙ ap₂ min (splatted minus digits 32 48 j long below) (letter j below));
    }

-- the same with numbers that are these
pub run_read_by : (a b c d : ℕ) → a ≡ 58 → b ≡ 223 → c ≡ 3 → d ≡ 48 → (digits values : List ℕ) → length digits ≡ 32 → Each1 (Fits w8) digits → length values ≡ 32 → ((j : ℕ) → j < 32 → slice_index values j ≡ min (slice_index (zip2 minus digits (replicate 32 d)) j) (slice_index (zip2 plus (zip2 bit_and (zip2 minus digits (replicate 32 a)) (replicate 32 b)) (replicate 32 c)) j)) → ReadsRun digits (zip2 plus (zip2 bit_and (zip2 minus digits (replicate 32 a)) (replicate 32 b)) (replicate 32 c)) values
run_read_by a b c d is_a is_b is_c is_d digits values long fits many lane =
    let same : zip2 plus (zip2 bit_and (zip2 minus digits (replicate 32 a)) (replicate 32 b)) (replicate 32 c) ≡ letters digits = (λ i. zip2 plus (zip2 bit_and (zip2 minus digits (replicate 32 (is_a i))) (replicate 32 (is_b i))) (replicate 32 (is_c i))) in
    subst (λ l. ReadsRun digits l values) (sym same) (run_read digits values long fits many (λ j below. lane j below ∙ (λ i. min (slice_index (zip2 minus digits (replicate 32 (is_d i))) j) (slice_index (same i) j))))

-- ---- two values joined

two : (p : ℕ) (xs : List ℕ) → length xs ≡ 2 → number_l p xs ≡ get_or xs 0 0 + p * get_or xs 1 0
two p [] h = absurd (omega (arith, h))
two p (x ∷ []) h = absurd (omega (arith, h))
two p (x ∷ y ∷ []) h = omega arith
two p (x ∷ y ∷ z ∷ xs) h = absurd (omega (arith, h))

byte_in_word : (a b : ℕ) → a < 256 → b < 256 → (a + 256 * b) * 4097 % 65536 / 256 ≡ (a * 16 + b) % 256
byte_in_word a b small less = omega (arith, small, less)

abbrev times : ℕ → ℕ → ℕ
times a b = a * b % 65536

abbrev down : ℕ → ℕ → ℕ
down a b = a / 2 ^ b

abbrev words : List ℕ → List ℕ
words xs = digits_l 65536 16 (number_l 256 xs)

abbrev pub tops : ℕ → List ℕ → List ℕ
tops weight xs = zip2 down (zip2 times (words xs) (replicate 16 weight)) (replicate 16 8)

word_at : (xs : List ℕ) (k : ℕ) → length xs ≡ 32 → Each1 (λ x. x < 256) xs → k < 16 → get_or (words xs) k 0 ≡ get_or xs (2 * k) 0 + 256 * get_or xs (2 * k + 1) 0
word_at xs k long small below =
    let pair : List ℕ = chunk (2 * k) 2 xs in
    let size : length pair ≡ 2 = length-chunk (2 * k) 2 xs (omega (arith, long, below)) in
    let place : 2 * k + 0 ≡ 2 * k = omega arith in
    let first : get_or pair 0 0 ≡ get_or xs (2 * k) 0 = get_or-chunk (2 * k) 2 xs 0 0 (omega arith) ∙ ap (λ i. get_or xs i 0) place in
    let second : get_or pair 1 0 ≡ get_or xs (2 * k + 1) 0 = get_or-chunk (2 * k) 2 xs 1 0 (omega arith) in
    get_or_wider 256 2 65536 16 xs k refl small below ∙ two 256 pair size ∙ ap₂ (λ a b. a + 256 * b) first second

pub top_at : (xs : List ℕ) (k : ℕ) → length xs ≡ 32 → Each1 (Fits w8) xs → k < 16 → get_or (tops 4097 xs) k 0 ≡ (get_or xs (2 * k) 0 * 16 + get_or xs (2 * k + 1) 0) % 256
top_at xs k long fits below =
    let words_long : length (words xs) ≡ 16 = refl in
    let products : List ℕ = zip2 times (words xs) (replicate 16 4097) in
    let products_long : length products ≡ 16 = splat_long times (words xs) 16 4097 words_long in
    splatted down products 16 8 k products_long below
    ∙ ap (λ x. x / 2 ^ 8) (splatted times (words xs) 16 4097 k words_long below ∙ ap (λ x. x * 4097 % 65536) (word_at xs k long (below_from_Fits w8 xs fits) below))
    ∙ byte_in_word (get_or xs (2 * k) 0) (get_or xs (2 * k + 1) 0) (lane_fits xs (2 * k) fits) (lane_fits xs (2 * k + 1) fits)

-- ---- the test in the end

some_marked : (p : ℕ → Bool) (xs : List ℕ) → mask_l (map p xs) ≢ 0 → (j : ℕ) × (j < length xs) × (p (get_or xs j 0) ≡ true)
some_marked p [] some = absurd (some refl)
some_marked p (x ∷ xs) some = step (p x) refl (λ rest. some_marked p xs rest)
  where
    step : (b : Bool) → p x ≡ b → (mask_l (map p xs) ≢ 0 → (j : ℕ) × (j < length xs) × (p (get_or xs j 0) ≡ true)) → (j : ℕ) × (j < length (x ∷ xs)) × (p (get_or (x ∷ xs) j 0) ≡ true)
    step true here behind = (0, omega arith, here)
    step false here behind =
        let rest : mask_l (map p xs) ≢ 0 = λ none. some (rw here (omega (arith, none))) in
        let at = behind rest in
        (suc at.0, omega (arith, at.1), at.2)

pub some_low : (least : List ℕ) → length least ≡ 32 → mask_l (map (λ x. ltb x 10) least) ≢ 0 → (j : ℕ) × (j < 32) × (get_or least j 0 < 10)
some_low least long some = let at = some_marked (λ x. ltb x 10) least some in (at.0, omega (arith, at.1, long), ltb-true (get_or least at.0 0) 10 at.2)

pub some_high : (largest : List ℕ) → length largest ≡ 32 → mask_l (map (λ x. leb 16 x) largest) ≢ 0 → (j : ℕ) × (j < 32) × (16 ≤ get_or largest j 0)
some_high largest long some = let at = some_marked (λ x. leb 16 x) largest some in (at.0, omega (arith, at.1, long), leb-true 16 (get_or largest at.0 0) at.2)

pub none_low : (least : List ℕ) → length least ≡ 32 → mask_l (map (λ x. ltb x 10) least) ≡ 0 → (j : ℕ) → j < 32 → 10 ≤ get_or least j 0
none_low least long none j below = ltb-false (get_or least j 0) 10 (unmarked (λ x. ltb x 10) least none j (omega (arith, long, below)))

pub none_high : (largest : List ℕ) → length largest ≡ 32 → mask_l (map (λ x. leb 16 x) largest) ≡ 0 → (j : ℕ) → j < 32 → get_or largest j 0 < 16
none_high largest long none j below = leb-false 16 (get_or largest j 0) (unmarked (λ x. leb 16 x) largest none j (omega (arith, long, below)))

-- a mask of a comparison whose left side is a splat
pub mask_from : (t : ℕ → ℕ → Bool) (y n : ℕ) (xs : List ℕ) → length xs ≡ n → n ≤ 64 → mask_l (map (top (hbits w8)) (zip2 (λ a b. cond (t a b) (2 ^ bits w8 - 1) 0) (replicate n y) xs)) % 2 ^ 64 ≡ mask_l (map (λ x. t y x) xs)
mask_from t y n xs long few =
    ap (λ ms. mask_l ms % 2 ^ 64) (tops_compared w8 t (replicate n y) xs ∙ zip2_splat_left t y n xs long) ∙ mask_l-mod (map (λ x. t y x) xs) 64 (omega (arith, length-map xs (λ x. t y x), long, few))

-- ---- run after run

-- the first n bytes are decoded, by what was read in each lane
pub record RunsDecoded (digits out least largest : List ℕ) (n : ℕ) : Type 0 where
  pub within : n ≤ length out
  pub many : length least ≡ 32
  pub long : length largest ≡ 32
  pub good : ((j : ℕ) → j < 32 → (10 ≤ slice_index least j) × (slice_index largest j < 16)) → (k : ℕ) → k < n → AreDigitsOf (slice_index digits (2 * k)) (slice_index digits (2 * k + 1)) (slice_index out k)
  pub bad : (j : ℕ) → j < 32 → IsOther (slice_index least j) (slice_index largest j) → HasOther digits n

pub runs_none : (digits out : List ℕ) → RunsDecoded digits out (replicate 32 255) (replicate 32 0) 0
runs_none digits out = record {
  within = omega arith;
  many = length-replicate {A = ℕ} 32 255;
  long = length-replicate {A = ℕ} 32 0;
  good = λ fine k below. absurd (omega (arith, below));
  bad = λ j below other.
      let most : ℕ = 255 in
      let none : ℕ = 0 in
      let high : get_or (replicate 32 most) j 0 ≡ most = get_or-replicate 32 j most 0 below in
      let low : get_or (replicate 32 none) j 0 ≡ none = get_or-replicate 32 j none 0 below in
      absurd (elim other [ inl less ↦ omega (arith, less, high) | inr more ↦ omega (arith, more, low) ]);
}

found : (o : Option ℕ) (letter value : ℕ) → MatchOption o (IsOther letter value) (λ v. (value ≡ v) × (v < 16) × (10 ≤ letter)) → 10 ≤ letter → value < 16 → o ≡ Some value
found None letter value h high small = absurd (elim h [ inl low ↦ omega (arith, low, high) | inr large ↦ omega (arith, large, small) ])
found (Some v) letter value h high small = ap Some (sym h.0)

not_found : (o : Option ℕ) (letter value : ℕ) → MatchOption o (IsOther letter value) (λ v. (value ≡ v) × (v < 16) × (10 ≤ letter)) → IsOther letter value → o ≡ None
not_found None letter value h other = refl
not_found (Some v) letter value h other = absurd (elim other [ inl low ↦ omega (arith, low, h.2) | inr large ↦ omega (arith, large, h.0, h.1) ])

later : (digits : List ℕ) (n m : ℕ) → n ≤ m → HasOther digits n → HasOther digits m
later digits n m le h = let below = h.below in record { at = h.at; below = omega (arith, below, le); other = h.other }

-- a byte of the run is no digit
other_in_run : (digits : List ℕ) (n j : ℕ) → j < 32 → hex_digit_value (get_or (chunk (2 * n) 32 digits) j 0) ≡ None → HasOther digits (n + 16)
other_in_run digits n j below none =
    let here : hex_digit_value (get_or digits (2 * n + j) 0) ≡ None = ap hex_digit_value (sym (get_or-chunk (2 * n) 32 digits j 0 below)) ∙ none in
    let at : ℕ = n + j / 2 in
    elim (cases_lt (j % 2) 1) [
      | inl even ↦
          let place : 2 * n + j ≡ 2 * at = omega (arith, even) in
          record { at = at; below = omega (arith, below); other = inl (subst (λ i. hex_digit_value (get_or digits i 0) ≡ None) place here) }
      | inr odd ↦
          let place : 2 * n + j ≡ 2 * at + 1 = omega (arith, odd) in
          record { at = at; below = omega (arith, below); other = inr (subst (λ i. hex_digit_value (get_or digits i 0) ≡ None) place here) }
    ]

-- one run more
module _ (digits out least largest letters values bytes low high : List ℕ) (n : ℕ) (fits : n + 16 ≤ length out) (reads : ReadsRun (chunk (2 * n) 32 digits) letters values)
    (size : length bytes ≡ 16) (joins : (k : ℕ) → k < 16 → slice_index bytes k ≡ (slice_index values (2 * k) * 16 + slice_index values (2 * k + 1)) % 256)
    (many : length low ≡ 32) (low_lane : (j : ℕ) → j < 32 → slice_index low j ≡ min (slice_index least j) (slice_index letters j))
    (long : length high ≡ 32) (high_lane : (j : ℕ) → j < 32 → slice_index high j ≡ max (slice_index largest j) (slice_index values j))
    (old : RunsDecoded digits out least largest n) where
  abbrev AllFine : Type 0
  AllFine = (j : ℕ) → j < 32 → (10 ≤ slice_index low j) × (slice_index high j < 16)

  fine_before : AllFine → (j : ℕ) → j < 32 → (10 ≤ slice_index least j) × (slice_index largest j < 16)
  fine_before fine j below =
      let here = fine j below in
      (omega (arith, here.0, low_lane j below), omega (arith, here.1, high_lane j below))

  digit_here : AllFine → (i : ℕ) → i < 32 → (hex_digit_value (slice_index digits (2 * n + i)) ≡ Some (slice_index values i)) × (slice_index values i < 16)
  digit_here fine i below =
      let here = fine i below in
      let fits_letter : 10 ≤ get_or letters i 0 = omega (arith, here.0, low_lane i below) in
      let small : get_or values i 0 < 16 = omega (arith, here.1, high_lane i below) in
      let lane : hex_digit_value (get_or (chunk (2 * n) 32 digits) i 0) ≡ Some (get_or values i 0) = found _ (get_or letters i 0) (get_or values i 0) (reads.each i below) fits_letter small in
      (ap hex_digit_value (sym (get_or-chunk (2 * n) 32 digits i 0 below)) ∙ lane, small)

  digits_here : AllFine → (k : ℕ) → k < 16 → AreDigitsOf (slice_index digits (2 * (n + k))) (slice_index digits (2 * (n + k) + 1)) (slice_index (put_chunk n out bytes) (n + k))
  digits_here fine k below =
      let upper = digit_here fine (2 * k) (omega (arith, below)) in
      let lower = digit_here fine (2 * k + 1) (omega (arith, below)) in
      let first : 2 * n + 2 * k ≡ 2 * (n + k) = omega arith in
      let second : 2 * n + (2 * k + 1) ≡ 2 * (n + k) + 1 = omega arith in
      let byte : get_or (put_chunk n out bytes) (n + k) 0 ≡ get_or bytes k 0 = get_or-put_chunk_at n out bytes k 0 (omega (arith, size, below)) (omega (arith, size, fits)) in
      record {
        high_value = get_or values (2 * k) 0;
        low_value = get_or values (2 * k + 1) 0;
        is_high = ap (λ i. hex_digit_value (get_or digits i 0)) (sym first) ∙ upper.0;
        is_low = ap (λ i. hex_digit_value (get_or digits i 0)) (sym second) ∙ lower.0;
        value = byte ∙ joins k below ∙ omega (arith, upper.1, lower.1);
      }

  good_on : AllFine → (k : ℕ) → k < n + 16 → AreDigitsOf (slice_index digits (2 * k)) (slice_index digits (2 * k + 1)) (slice_index (put_chunk n out bytes) k)
  good_on fine k below = elim (cases_lt k n) [
    | inl early ↦ subst (λ b. AreDigitsOf (slice_index digits (2 * k)) (slice_index digits (2 * k + 1)) b) (sym (get_or-put_chunk_below n out bytes k 0 early)) (old.good (fine_before fine) k early)
    | inr late ↦
        let place : n + (k - n) ≡ k = omega (arith, late) in
        subst (λ i. AreDigitsOf (slice_index digits (2 * i)) (slice_index digits (2 * i + 1)) (slice_index (put_chunk n out bytes) i)) place (digits_here fine (k - n) (omega (arith, late, below)))
  ]

  bad_on : (j : ℕ) → j < 32 → IsOther (slice_index low j) (slice_index high j) → HasOther digits (n + 16)
  bad_on j below other =
      let before : IsOther (get_or least j 0) (get_or largest j 0) → HasOther digits (n + 16) = λ h. later digits n (n + 16) (omega arith) (old.bad j below h) in
      let now : IsOther (get_or letters j 0) (get_or values j 0) → HasOther digits (n + 16) = λ h. other_in_run digits n j below (not_found _ (get_or letters j 0) (get_or values j 0) (reads.each j below) h) in
      elim other [
        | inl less ↦ elim (cases_lt (get_or least j 0) 10) [
          | inl early ↦ before (inl early)
          | inr fine ↦ now (inl (omega (arith, less, fine, low_lane j below)))
        ]
        | inr more ↦ elim (cases_lt (get_or largest j 0) 16) [
          | inl fine ↦ now (inr (omega (arith, more, fine, high_lane j below)))
          | inr early ↦ before (inr early)
        ]
      ]

  pub run_decoded : (m : ℕ) → m ≡ n + 16 → RunsDecoded digits (put_chunk n out bytes) low high m
  run_decoded m is = subst (λ i. RunsDecoded digits (put_chunk n out bytes) low high i) (sym is) (record {
    within = omega (arith, fits, length-put_chunk n out bytes);
    many = many;
    long = long;
    good = good_on;
    bad = bad_on;
  })

-- ---- what is told in the end

pub runs_are_decoded : (digits out least largest : List ℕ) (n : ℕ) → RunsDecoded digits out least largest n → ((j : ℕ) → j < 32 → (10 ≤ slice_index least j) × (slice_index largest j < 16)) → IsDecoded digits out n
runs_are_decoded digits out least largest n h fine = record { within = h.within; each = h.good fine }

pub no_digits : (digits out least largest : List ℕ) (n j : ℕ) → length digits ≡ 2 * length out → RunsDecoded digits out least largest n → j < 32 → IsOther (slice_index least j) (slice_index largest j) → (bytes : List ℕ) → IsHexOf digits bytes → ⊥
no_digits digits out least largest n j even h below other bytes is =
    let there : HasOther digits n = h.bad j below other in
    let inside = there.below in
    let digits_there = is.each there.at (omega (arith, is.two, even, inside, h.within)) in
    elim there.other [ inl none ↦ cc (none, digits_there.is_high) | inr none ↦ cc (none, digits_there.is_low) ]

-- behind the runs each two digits are decoded alone
pub decoded_from : (digits out : List ℕ) (seen : Seen) (n : ℕ) (rest : List ℕ) → length digits ≡ 2 * length out → IsDecoded digits out n → seen.largest ≡ 0 → seen.least ≡ 255 → rest ≡ drop (2 * n) digits → DecodedInto digits out seen n rest
decoded_from digits out seen n rest even h largest least is =
    let size : length (take n out) ≡ n = length-take-le n out h.within in
    record {
      fits = even;
      within = h.within;
      front = record {
        within = let within = h.within in omega (arith, size, even, within);
        left = is ∙ ap (λ k. drop (2 * k) digits) (sym size);
        good = λ small fine k below.
            let inside : k < n = omega (arith, below, size) in
            subst (λ b. AreDigitsOf (slice_index digits (2 * k)) (slice_index digits (2 * k + 1)) b) (sym (get_or-take n out k 0 inside)) (h.each k inside);
        bad = λ none. absurd (elim none [ inl large ↦ omega (arith, large, largest) | inr little ↦ omega (arith, little, least) ]);
      };
    }
