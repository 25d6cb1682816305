-- Few digits, as the crate `hex` decodes them.
use Rattle.std.specs.Prelude.{◌≡◌, ◌<◌, ◌+◌, ◌*◌, ◌/◌, ◌%◌, ℕ, zero, suc, Bool, true, is_ok, is_some, List, [], ◌∷◌, length, slice_index, Option, Some, None, Result, Ok, Err, MatchBool, MatchResult, refl}
use Rattle.std.proofs.Common.{◌∙◌, ap, arith, sym, subst, inl, inr}
use Rattle.std.proofs.lemmas.Bool.{cases_eq}
use Rattle.std.specs.Result.{result_unwrap_or}
use Rattle.hex.specs.declared.error.FromHexError.{FromHexError}
use Rattle.hex.specs.Hex.{◌>>=◌, decode_pairs, decode_sized, digit_or_error, hex_digit_value, is_hex_digit, pair_value, value_at}
use Rattle.hex.proofs.HexLemmas.{decode_of-even, decode_pairs-err, decode_sized-twice}
use Rattle.request_codec.specs.Form.{AreDigitsOf, IsHexOf}

-- ---- what was decoded

-- what an `Ok` behind another one shows
bind_ok : {A B : Type 0} (r : Result A FromHexError) (f : A → Result B FromHexError) (y : B) → (r >>= f) ≡ Ok y → (x : A) × (r ≡ Ok x) × (f x ≡ Ok y)
bind_ok (Ok x) f y h = (x, refl, h)
bind_ok (Err e) f y h = cc h

digit_read : (c i : ℕ) (o : Option ℕ) (v : ℕ) → digit_or_error c i o ≡ Ok v → o ≡ Some v
digit_read c i (Some w) v h = ap Some (ap (λ (r : Result ℕ FromHexError). result_unwrap_or r 0) h)
digit_read c i None v h = cc h

pair_read : (a b i v : ℕ) → pair_value a b i ≡ Ok v → AreDigitsOf a b v
pair_read a b i v h =
    let high = bind_ok (value_at a i) _ v h in
    let low = bind_ok (value_at b (i + 1)) _ v high.2 in
    let value : high.0 * 16 + low.0 ≡ v = ap (λ (r : Result ℕ FromHexError). result_unwrap_or r 0) low.2 in
    record {
      high_value = high.0;
      low_value = low.0;
      is_high = digit_read a i (hex_digit_value a) high.0 high.1;
      is_low = digit_read b (i + 1) (hex_digit_value b) low.0 low.1;
      value = omega (arith, value);
    }

-- two digits more in front, and their byte
two_more : (a b v : ℕ) (digits bytes : List ℕ) → AreDigitsOf a b v → IsHexOf digits bytes → IsHexOf (a ∷ b ∷ digits) (v ∷ bytes)
two_more a b v digits bytes pair h = record { two = omega (arith, h.two); each = each }
  where
    each : (k : ℕ) → k < length (v ∷ bytes) → AreDigitsOf (slice_index (a ∷ b ∷ digits) (2 * k)) (slice_index (a ∷ b ∷ digits) (2 * k + 1)) (slice_index (v ∷ bytes) k)
    each zero less = pair
    each (suc k) less =
        let first : suc (suc (2 * k)) ≡ 2 * (suc k) = omega arith in
        let second : suc (suc (2 * k + 1)) ≡ 2 * (suc k) + 1 = omega arith in
        subst (λ n. AreDigitsOf (slice_index (a ∷ b ∷ digits) (2 * (suc k))) (slice_index (a ∷ b ∷ digits) n) (slice_index bytes k)) second
        (subst (λ n. AreDigitsOf (slice_index (a ∷ b ∷ digits) n) (slice_index digits (2 * k + 1)) (slice_index bytes k)) first (h.each k (omega (arith, less))))

pairs_read : (i : ℕ) (digits bytes : List ℕ) → decode_pairs i digits ≡ Ok bytes → IsHexOf digits bytes
unfolding decode_pairs
pairs_read i [] bytes h = subst (λ (l : List ℕ). IsHexOf [] l) (ap (λ (r : Result (List ℕ) FromHexError). result_unwrap_or r []) h) (record { two = refl; each = λ k less. absurd (omega (arith, less)) })
pairs_read i (a ∷ []) bytes h = cc h
pairs_read i (a ∷ b ∷ rest) bytes h =
    let pair = bind_ok (pair_value a b i) _ bytes h in
    let more = bind_ok (decode_pairs (i + 2) rest) _ bytes pair.2 in
    let is : pair.0 ∷ more.0 ≡ bytes = ap (λ (r : Result (List ℕ) FromHexError). result_unwrap_or r []) more.2 in
    subst (λ (l : List ℕ). IsHexOf (a ∷ b ∷ rest) l) is (two_more a b pair.0 rest more.0 (pair_read a b i pair.0 pair.1) (pairs_read (i + 2) rest more.0 more.1))

-- ---- what was refused

-- each byte of digits is one
each_digit : (digits bytes : List ℕ) (k : ℕ) → IsHexOf digits bytes → k < length digits → is_hex_digit (slice_index digits k) ≡ true
each_digit digits bytes k h less =
    let pair = h.each (k / 2) (omega (arith, h.two, less)) in
    elim (cases_eq (k % 2) 0) [
      | inl even ↦
          let place : 2 * (k / 2) ≡ k = omega (arith, even) in
          subst (λ n. is_hex_digit (slice_index digits n) ≡ true) place (ap (λ (o : Option ℕ). is_some o) pair.is_high)
      | inr odd ↦
          let place : 2 * (k / 2) + 1 ≡ k = omega (arith, odd) in
          subst (λ n. is_hex_digit (slice_index digits n) ≡ true) place (ap (λ (o : Option ℕ). is_some o) pair.is_low)
    ]

pairs_refused : (digits bytes : List ℕ) (e : FromHexError) → length digits % 2 ≡ 0 → decode_pairs 0 digits ≡ Err e → IsHexOf digits bytes → ⊥
pairs_refused digits bytes e even h is =
    let other = decode_pairs-err 0 digits e even h in
    cc (other.3, each_digit digits bytes other.0 is other.2)

-- ---- whether all are digits

by_pairs : (digits now : List ℕ) (r : Result Unit FromHexError) (told : Bool) (d : Result (List ℕ) FromHexError) → decode_pairs 0 digits ≡ d → length digits % 2 ≡ 0 → MatchResult d (λ bytes. (r ≡ Ok tt) × (now ≡ bytes)) (λ e. r ≡ Err e) → told ≡ is_ok r
    → MatchBool told (IsHexOf digits now) ((bytes : List ℕ) → IsHexOf digits bytes → ⊥)
by_pairs digits now r told (Ok bytes) is even h tells =
    subst (λ (b : Bool). MatchBool b (IsHexOf digits now) ((bytes : List ℕ) → IsHexOf digits bytes → ⊥)) (sym (tells ∙ ap is_ok h.0)) (subst (λ (l : List ℕ). IsHexOf digits l) (sym h.1) (pairs_read 0 digits bytes is))
by_pairs digits now r told (Err e) is even h tells =
    subst (λ (b : Bool). MatchBool b (IsHexOf digits now) ((bytes : List ℕ) → IsHexOf digits bytes → ⊥)) (sym (tells ∙ ap is_ok h)) (λ bytes are. pairs_refused digits bytes e even is are)

pub few_decoded : (digits out now : List ℕ) (r : Result Unit FromHexError) (told : Bool) → length digits ≡ 2 * length out → MatchResult (decode_sized digits (length out)) (λ bytes. (r ≡ Ok tt) × (now ≡ bytes)) (λ e. r ≡ Err e) → told ≡ is_ok r
    → MatchBool told (IsHexOf digits now) ((bytes : List ℕ) → IsHexOf digits bytes → ⊥)
few_decoded digits out now r told fits h tells =
    let even : length digits % 2 ≡ 0 = omega (arith, fits) in
    let pairs : decode_sized digits (length out) ≡ decode_pairs 0 digits = decode_sized-twice digits (length out) fits ∙ decode_of-even digits even in
    by_pairs digits now r told (decode_pairs 0 digits) refl even (subst (λ (d : Result (List ℕ) FromHexError). MatchResult d (λ bytes. (r ≡ Ok tt) × (now ≡ bytes)) (λ e. r ≡ Err e)) pairs h) tells
