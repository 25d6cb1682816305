-- Words in hexadecimal digits.
use Rattle.std.proofs.Common.{◌≡◌, ◌<◌, ◌^◌, ℕ, ◌+◌, ◌*◌, List, length, get_or, slice_index, arith, sym, subst, Some, inl, inr}
use Rattle.std.proofs.lemmas.Bool.{cases_lt}
use Rattle.std.proofs.lemmas.Bool.Decides.{nat_tests}
use Rattle.std.proofs.lemmas.List.{get_or_past}
use Rattle.std.proofs.lemmas.Nat.{be_bytes_8}
use Rattle.std.specs.Int.{w64, to_be_bytes, from_be_bytes}
use Rattle.request_codec.specs.Form.{AreDigitsOf, IsHexOf, Value}
use Rattle.hex.specs.Hex.{hex_digit_value}

hex_below : (c v : ℕ) → hex_digit_value c ≡ Some v → v < 16
hex_below c v h = grind (arith, nat_tests)

hex_bytes : (digits bytes : List ℕ) → IsHexOf digits bytes → (i : ℕ) → get_or bytes i 0 < 256
hex_bytes digits bytes h i =
    elim (cases_lt i (length bytes)) [
      | inl inside ↦
          let two : AreDigitsOf (slice_index digits (2 * i)) (slice_index digits (2 * i + 1)) (slice_index bytes i) = h.each i inside in
          omega (arith, two.value, hex_below (slice_index digits (2 * i)) two.high_value two.is_high, hex_below (slice_index digits (2 * i + 1)) two.low_value two.is_low)
      | inr past ↦ omega (arith, get_or_past bytes i 0 past)
    ]

pub value_is : (digits bytes : List ℕ) (v : ℕ) → length digits ≡ 16 → v ≡ from_be_bytes w64 bytes → v < 2 ^ 64 → IsHexOf digits bytes → Value v digits
value_is digits bytes v size is fits hex = (subst (λ xs. IsHexOf digits xs) (sym (be_bytes_8 bytes v (omega (arith, hex.two, size)) (hex_bytes digits bytes hex) is)) hex, fits)

pub no_value : (digits : List ℕ) → ((bytes : List ℕ) → IsHexOf digits bytes → ⊥) → (v : ℕ) → Value v digits → ⊥
no_value digits none v h = none (to_be_bytes w64 v) h.0
