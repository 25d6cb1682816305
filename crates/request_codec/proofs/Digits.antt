-- Hexadecimal digits, as the decoder reads them.
use Rattle.std.proofs.Common.{◌≡◌, ◌<◌, ◌≤◌, ℕ, zero, suc, ◌+◌, ◌-◌, ◌*◌, ◌%◌, min, Bool, true, false, ◌&&◌, ◌||◌, ◌==◌, nat_lt, nat_le, List, [], ◌∷◌, ◌++◌, length, take, drop, Option, Some, None, MatchOption, MatchBool, ◌⊎◌, bit_and, refl, arith, slice_index, slice_set, ap, inl, inr, sym, subst, ◌∙◌}
use Rattle.std.proofs.lemmas.Bool.Decides.{nat_tests, Decides-below_and}
use Rattle.std.proofs.lemmas.Bool.{cases_lt}
use Rattle.std.proofs.lemmas.List.{get_or_append_left, get_or-drop, length-drop, length-append, length-set, length-take-le, drop-drop, take_all}
use Rattle.std.proofs.lemmas.Grind.{take-set_at}
use Rattle.std.proofs.Math.Seq.{drop-append_seam, get_or-append_seam}
use Rattle.hex.specs.Hex.{hex_digit_value}
use Rattle.request_codec.specs.declared.hex_digits.Digit.{Digit}
use Rattle.request_codec.specs.declared.hex_digits.Seen.{Seen}
use Rattle.request_codec.specs.Digits.{IsNone, Reads, Sees, byte_of}
use Rattle.request_codec.specs.Form.{AreDigitsOf, IsHexOf}

-- what the decoder takes a byte for
abbrev pub rank_of : ℕ → ℕ
rank_of c = bit_and ((c + 198) % 256) 223

abbrev pub value_of : ℕ → ℕ
value_of c = min ((c + 208) % 256) ((rank_of c + 3) % 256)

abbrev is_read : Option ℕ → ℕ → ℕ → Bool
is_read None value rank = nat_le 16 value || nat_lt rank 7
is_read (Some v) value rank = value == v && (nat_lt v 16 && nat_le 7 rank)

abbrev reads : ℕ → Bool
reads c = is_read (hex_digit_value c) (value_of c) (rank_of c)

abbrev reads_below : ℕ → Bool
reads_below zero = true
reads_below (suc n) = reads n && reads_below n

reads_each : (c : ℕ) → c < 256 → reads c ≡ true
reads_each = (Decides-below_and reads (λ c. reads c ≡ true) reads_below (λ c. ((λ h. h), (λ h. h))) refl (λ _. refl) 256).0 refl

abbrev IsRead : Option ℕ → ℕ → ℕ → Type 0
IsRead o value rank = MatchOption o (IsNone value rank) (λ v. (value ≡ v) × (v < 16) × (7 ≤ rank))

is_read_by : (o : Option ℕ) (value rank : ℕ) → is_read o value rank ≡ true → IsRead o value rank
is_read_by None value rank h = grind (arith, nat_tests, h)
is_read_by (Some v) value rank h = grind (arith, nat_tests, h)

pub reads_by : (c : ℕ) (d : Digit) → c < 256 → d.rank ≡ rank_of c → d.value ≡ value_of c → Reads c d
reads_by c d small is_rank is_value =
    subst (λ r. IsRead (hex_digit_value c) d.value r) (sym is_rank) (subst (λ v. IsRead (hex_digit_value c) v (rank_of c)) (sym is_value) (is_read_by (hex_digit_value c) (value_of c) (rank_of c) (reads_each c small)))

found : (o : Option ℕ) (value rank : ℕ) → IsRead o value rank → value < 16 → 7 ≤ rank → o ≡ Some value
found None value rank h small high = absurd (elim h [ inl large ↦ omega (arith, large, small) | inr low ↦ omega (arith, low, high) ])
found (Some v) value rank h small high = ap Some (sym h.0)

not_found : (o : Option ℕ) (value rank : ℕ) → IsRead o value rank → IsNone value rank → o ≡ None
not_found None value rank h none = refl
not_found (Some v) value rank h none = absurd (elim none [ inl large ↦ omega (arith, large, h.0, h.1) | inr low ↦ omega (arith, low, h.2) ])

digit_of : (c : ℕ) (d : Digit) → Reads c d → d.value < 16 → 7 ≤ d.rank → hex_digit_value c ≡ Some d.value
digit_of c d h small high = found (hex_digit_value c) d.value d.rank h small high

other_of : (c : ℕ) (d : Digit) → Reads c d → IsNone d.value d.rank → hex_digit_value c ≡ None
other_of c d h none = not_found (hex_digit_value c) d.value d.rank h none

-- what is none among those seen is so before the last two, or it is one of them
which_is_none : (before : Seen) (high low : Digit) (after : Seen) → Sees before high low after → IsNone after.largest after.least → IsNone before.largest before.least ⊎ (IsNone high.value high.rank ⊎ IsNone low.value low.rank)
which_is_none before high low after h (inl large) =
    let greatest = h.largest in
    elim (cases_lt before.largest 16) [
      | inl small ↦ elim (cases_lt high.value 16) [ inl fine ↦ inr (inr (inl (omega (arith, greatest, large, small, fine)))) | inr wrong ↦ inr (inl (inl wrong)) ]
      | inr early ↦ inl (inl early)
    ]
which_is_none before high low after h (inr little) =
    let least = h.least in
    elim (cases_lt before.least 7) [
      | inl early ↦ inl (inr early)
      | inr fine ↦ elim (cases_lt high.rank 7) [ inl wrong ↦ inr (inl (inr wrong)) | inr right ↦ inr (inr (inr (omega (arith, least, little, fine, right)))) ]
    ]

-- one of the first n pairs has a byte that is no digit
pub record HasOther (digits : List ℕ) (n : ℕ) : Type 0 where
  pub at : ℕ
  pub below : at < n
  pub other : (hex_digit_value (slice_index digits (2 * at)) ≡ None) ⊎ (hex_digit_value (slice_index digits (2 * at + 1)) ≡ None)

-- these bytes are decoded, and these digits are left
pub record Decoded (digits bytes : List ℕ) (seen : Seen) (rest : List ℕ) : Type 0 where
  pub within : 2 * length bytes ≤ length digits
  pub left : rest ≡ drop (2 * length bytes) digits
  pub good : seen.largest < 16 → 7 ≤ seen.least → (k : ℕ) → k < length bytes → AreDigitsOf (slice_index digits (2 * k)) (slice_index digits (2 * k + 1)) (slice_index bytes k)
  pub bad : IsNone seen.largest seen.least → HasOther digits (length bytes)

pub decoded_none : (digits : List ℕ) (seen : Seen) → seen.largest ≡ 0 → seen.least ≡ 255 → Decoded digits [] seen digits
decoded_none digits seen largest least = record {
  within = omega arith;
  left = refl;
  good = λ small high k below. absurd (omega (arith, below));
  bad = λ none. absurd (elim none [ inl large ↦ omega (arith, large, largest) | inr little ↦ omega (arith, little, least) ]);
}

-- a byte of the next pair is the digit that stands there
next_digit : (digits rest pair more : List ℕ) (n j : ℕ) → rest ≡ drop (2 * n) digits → rest ≡ pair ++ more → j < length pair → slice_index pair j ≡ slice_index digits (2 * n + j)
next_digit digits rest pair more n j left split inside =
    sym (get_or_append_left pair more 0 j inside) ∙ sym (ap (λ (xs : List ℕ). slice_index xs j) split) ∙ ap (λ (xs : List ℕ). slice_index xs j) left ∙ get_or-drop (2 * n) digits j 0

next_digits : (digits rest pair more : List ℕ) (n : ℕ) (high low : Digit) → rest ≡ drop (2 * n) digits → rest ≡ pair ++ more → length pair ≡ 2 → Reads (slice_index pair 0) high → Reads (slice_index pair 1) low → Reads (slice_index digits (2 * n)) high × Reads (slice_index digits (2 * n + 1)) low
next_digits digits rest pair more n high low left split two is_high is_low =
    let first : slice_index pair 0 ≡ slice_index digits (2 * n + 0) = next_digit digits rest pair more n 0 left split (omega arith) in
    let second : slice_index pair 1 ≡ slice_index digits (2 * n + 1) = next_digit digits rest pair more n 1 left split (omega arith) in
    let place : 2 * n + 0 ≡ 2 * n = omega arith in
    (subst (λ c. Reads c high) (first ∙ ap (λ k. slice_index digits k) place) is_high, subst (λ c. Reads c low) second is_low)

next_left : (digits rest pair more : List ℕ) (n : ℕ) → rest ≡ drop (2 * n) digits → rest ≡ pair ++ more → length pair ≡ 2 → more ≡ drop (2 * (n + 1)) digits
next_left digits rest pair more n left split two =
    let cut : drop 2 rest ≡ more = ap (drop 2) split ∙ ap (λ k. drop k (pair ++ more)) (sym two) ∙ drop-append_seam pair more in
    let place : 2 * n + 2 ≡ 2 * (n + 1) = omega arith in
    sym cut ∙ ap (drop 2) left ∙ drop-drop 2 (2 * n) digits ∙ ap (λ k. drop k digits) place

next_good : (digits bytes : List ℕ) (before : Seen) (high low : Digit) (after : Seen) → Sees before high low after → Reads (slice_index digits (2 * length bytes)) high → Reads (slice_index digits (2 * length bytes + 1)) low
    → (before.largest < 16 → 7 ≤ before.least → (k : ℕ) → k < length bytes → AreDigitsOf (slice_index digits (2 * k)) (slice_index digits (2 * k + 1)) (slice_index bytes k))
    → after.largest < 16 → 7 ≤ after.least → (k : ℕ) → k < length bytes + 1 → AreDigitsOf (slice_index digits (2 * k)) (slice_index digits (2 * k + 1)) (slice_index (bytes ++ byte_of high low ∷ []) k)
next_good digits bytes before high low after sees is_high is_low good small fine k below =
    let made : List ℕ = bytes ++ byte_of high low ∷ [] in
    let greatest = sees.largest in
    let least = sees.least in
    elim (cases_lt k (length bytes)) [
      | inl earlier ↦ subst (λ b. AreDigitsOf (slice_index digits (2 * k)) (slice_index digits (2 * k + 1)) b) (sym (get_or_append_left bytes (byte_of high low ∷ []) 0 k earlier)) (good (omega (arith, greatest, small)) (omega (arith, least, fine)) k earlier)
      | inr later ↦
          let same : length bytes ≡ k = omega (arith, later, below) in
          let small_high : high.value < 16 = omega (arith, greatest, small) in
          let small_low : low.value < 16 = omega (arith, greatest, small) in
          let new : slice_index made (length bytes) ≡ byte_of high low = get_or-append_seam bytes (byte_of high low) [] 0 in
          subst (λ j. AreDigitsOf (slice_index digits (2 * j)) (slice_index digits (2 * j + 1)) (slice_index made j)) same (record {
            high_value = high.value;
            low_value = low.value;
            is_high = digit_of (slice_index digits (2 * length bytes)) high is_high small_high (omega (arith, least, fine));
            is_low = digit_of (slice_index digits (2 * length bytes + 1)) low is_low small_low (omega (arith, least, fine));
            value = new ∙ omega (arith, small_high, small_low);
          })
    ]

next_bad : (digits : List ℕ) (n : ℕ) (before : Seen) (high low : Digit) (after : Seen) → Sees before high low after → Reads (slice_index digits (2 * n)) high → Reads (slice_index digits (2 * n + 1)) low → (IsNone before.largest before.least → HasOther digits n) → IsNone after.largest after.least → HasOther digits (n + 1)
next_bad digits n before high low after sees is_high is_low bad none =
    elim (which_is_none before high low after sees none) [
      | inl early ↦ let old : HasOther digits n = bad early in let below = old.below in record { at = old.at; below = omega (arith, below); other = old.other }
      | inr last ↦ elim last [
        | inl first ↦ record { at = n; below = omega arith; other = inl (other_of (slice_index digits (2 * n)) high is_high first) }
        | inr second ↦ record { at = n; below = omega arith; other = inr (other_of (slice_index digits (2 * n + 1)) low is_low second) }
      ]
    ]

pub decoded_more : (digits bytes : List ℕ) (before : Seen) (high low : Digit) (after : Seen) (rest pair more made : List ℕ) → Decoded digits bytes before rest → rest ≡ pair ++ more → length pair ≡ 2 → Reads (slice_index pair 0) high → Reads (slice_index pair 1) low → Sees before high low after → made ≡ bytes ++ byte_of high low ∷ []
    → Decoded digits made after more
decoded_more digits bytes before high low after rest pair more made old split two is_high is_low sees is =
    let n : ℕ = length bytes in
    let values = next_digits digits rest pair more n high low old.left split two is_high is_low in
    let size : length rest ≡ 2 + length more = ap length split ∙ length-append pair more ∙ ap (λ k. k + length more) two in
    let ahead : length rest ≡ length digits - 2 * n = ap length old.left ∙ length-drop (2 * n) digits in
    let one_more : length (bytes ++ byte_of high low ∷ []) ≡ n + 1 = length-append bytes (byte_of high low ∷ []) in
    subst (λ xs. Decoded digits xs after more) (sym is) (record {
      within = omega (arith, one_more, size, ahead);
      left = next_left digits rest pair more n old.left split two ∙ ap (λ k. drop (2 * k) digits) (sym one_more);
      good = λ small fine k below. next_good digits bytes before high low after sees values.0 values.1 old.good small fine k (omega (arith, one_more, below));
      bad = λ none. subst (λ k. HasOther digits k) (sym one_more) (next_bad digits n before high low after sees values.0 values.1 old.bad none);
    })

-- the first n bytes are decoded, and these digits are left
pub record DecodedInto (digits out : List ℕ) (seen : Seen) (n : ℕ) (rest : List ℕ) : Type 0 where
  pub fits : length digits ≡ 2 * length out
  pub within : n ≤ length out
  pub front : Decoded digits (take n out) seen rest

pub decoded_into_none : (digits out : List ℕ) (seen : Seen) → length digits ≡ 2 * length out → seen.largest ≡ 0 → seen.least ≡ 255 → DecodedInto digits out seen 0 digits
decoded_into_none digits out seen fits largest least = record { fits = fits; within = omega arith; front = decoded_none digits seen largest least }

-- two digits more are left for a byte that is there
pub room_for_two : (digits out : List ℕ) (seen : Seen) (n : ℕ) (rest pair more : List ℕ) → DecodedInto digits out seen n rest → rest ≡ pair ++ more → length pair ≡ 2 → n < length out
room_for_two digits out seen n rest pair more h split two =
    let size : length rest ≡ 2 + length more = ap length split ∙ length-append pair more ∙ ap (λ k. k + length more) two in
    let count : length (take n out) ≡ n = length-take-le n out h.within in
    let ahead : length rest ≡ length digits - 2 * n = ap length h.front.left ∙ length-drop (2 * length (take n out)) digits ∙ ap (λ k. length digits - 2 * k) count in
    omega (arith, size, ahead, h.fits)

pub decoded_into_more : (digits out : List ℕ) (before : Seen) (high low : Digit) (after : Seen) (n i m : ℕ) (rest pair more : List ℕ) → DecodedInto digits out before n rest → rest ≡ pair ++ more → length pair ≡ 2 → Reads (slice_index pair 0) high → Reads (slice_index pair 1) low → Sees before high low after → i ≡ n → m ≡ n + 1
    → DecodedInto digits (slice_set out i (byte_of high low)) after m more
decoded_into_more digits out before high low after n i m rest pair more old split two is_high is_low sees here next =
    let set : List ℕ = slice_set out i (byte_of high low) in
    let kept : length set ≡ length out = length-set out i (byte_of high low) in
    let inside : n < length out = room_for_two digits out before n rest pair more old split two in
    let made : take m set ≡ take n out ++ byte_of high low ∷ [] = ap (λ j. take m (slice_set out j (byte_of high low))) here ∙ take-set_at out n m (byte_of high low) next inside in
    record {
      fits = old.fits ∙ ap (λ k. 2 * k) (sym kept);
      within = omega (arith, next, inside, kept);
      front = decoded_more digits (take n out) before high low after rest pair more (take m set) old.front split two is_high is_low sees made;
    }

all_decoded : (digits bytes : List ℕ) (seen : Seen) (n : ℕ) (rest : List ℕ) → Decoded digits bytes seen rest → length rest < 2 → length digits ≡ 2 * n → length digits ≡ 2 * length bytes
all_decoded digits bytes seen n rest h short even =
    let ahead : length rest ≡ length digits - 2 * length bytes = ap length h.left ∙ length-drop (2 * length bytes) digits in
    omega (arith, ahead, h.within, short, even)

pub all_digits : (digits bytes : List ℕ) (seen : Seen) (n : ℕ) (rest : List ℕ) → Decoded digits bytes seen rest → length rest < 2 → length digits ≡ 2 * n → seen.largest < 16 → 7 ≤ seen.least → IsHexOf digits bytes
all_digits digits bytes seen n rest h short even small fine = record { two = all_decoded digits bytes seen n rest h short even; each = h.good small fine }

pub not_all_digits : (digits bytes : List ℕ) (seen : Seen) (n : ℕ) (rest : List ℕ) → Decoded digits bytes seen rest → length rest < 2 → length digits ≡ 2 * n → IsNone seen.largest seen.least → (others : List ℕ) → IsHexOf digits others → ⊥
not_all_digits digits bytes seen n rest h short even none others is =
    let all : length digits ≡ 2 * length bytes = all_decoded digits bytes seen n rest h short even in
    let other : HasOther digits (length bytes) = h.bad none in
    let below = other.below in
    let digits_there = is.each other.at (omega (arith, is.two, all, below)) in
    elim other.other [ inl none ↦ cc (none, digits_there.is_high) | inr none ↦ cc (none, digits_there.is_low) ]

-- by whether all that was seen are digits
by_seen : (b : Bool) (seen : Seen) (P Q : Type 0) → MatchBool b ((seen.largest < 16) × (7 ≤ seen.least)) (IsNone seen.largest seen.least) → (seen.largest < 16 → 7 ≤ seen.least → P) → (IsNone seen.largest seen.least → Q) → MatchBool b P Q
by_seen true seen P Q h good bad = good h.0 h.1
by_seen false seen P Q h good bad = bad h

pub decoded_all : (digits out : List ℕ) (seen : Seen) (n : ℕ) (rest : List ℕ) (b : Bool) → MatchBool b ((seen.largest < 16) × (7 ≤ seen.least)) (IsNone seen.largest seen.least) → DecodedInto digits out seen n rest → length rest < 2 → MatchBool b (IsHexOf digits out) ((bytes : List ℕ) → IsHexOf digits bytes → ⊥)
decoded_all digits out seen n rest b told h short =
    let all : length digits ≡ 2 * length (take n out) = all_decoded digits (take n out) seen (length out) rest h.front short h.fits in
    let whole : take n out ≡ out = take_all n out (omega (arith, all, h.fits, length-take-le n out h.within)) in
    by_seen b seen _ _ told
    (λ small fine. subst (λ xs. IsHexOf digits xs) whole (all_digits digits (take n out) seen (length out) rest h.front short h.fits small fine))
    (λ none. not_all_digits digits (take n out) seen (length out) rest h.front short h.fits none)
