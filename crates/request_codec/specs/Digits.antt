-- Bytes read as hexadecimal digits.
use Rattle.std.specs.Prelude.{◌≡◌, ◌≤◌, ◌<◌, ◌+◌, ◌*◌, ◌%◌, ℕ, ◌⊎◌, List, length, slice_index, max, min, MatchOption}
use Rattle.hex.specs.Hex.{hex_digit_value}
use Rattle.request_codec.specs.declared.hex_digits.Digit.{Digit}
use Rattle.request_codec.specs.declared.hex_digits.Seen.{Seen}
use Rattle.request_codec.specs.Form.{AreDigitsOf}

-- not that of a digit
abbrev pub IsNone : ℕ → ℕ → Type 0
IsNone value rank = (16 ≤ value) ⊎ (rank < 7)

-- the byte is this digit, in either case, or none
abbrev pub Reads : ℕ → Digit → Type 0
Reads c d = MatchOption (hex_digit_value c) (IsNone d.value d.rank) (λ v. (d.value ≡ v) × (v < 16) × (7 ≤ d.rank))

-- two digits more were seen
pub record Sees (before : Seen) (high low : Digit) (after : Seen) : Type 0 where
  pub largest : after.largest ≡ max (max before.largest high.value) low.value
  pub least : after.least ≡ min (min before.least high.rank) low.rank

-- the byte of two digits
abbrev pub byte_of : Digit → Digit → ℕ
byte_of high low = (high.value * 16 + low.value) % 256

-- ---- runs of digits

-- what no digit is read as: letters count from 10 on, and other digits for more
abbrev pub IsOther : ℕ → ℕ → Type 0
IsOther letter value = (letter < 10) ⊎ (16 ≤ value)

-- the byte is a digit of this value, in either case, or none
abbrev pub ReadsDigits : ℕ → ℕ → ℕ → Type 0
ReadsDigits c letter value = MatchOption (hex_digit_value c) (IsOther letter value) (λ v. (value ≡ v) × (v < 16) × (10 ≤ letter))

-- 32 bytes are read so, each in its lane
pub record ReadsRun (digits letters values : List ℕ) : Type 0 where
  pub many : length letters ≡ 32
  pub long : length values ≡ 32
  pub each : (j : ℕ) → j < 32 → ReadsDigits (slice_index digits j) (slice_index letters j) (slice_index values j)

-- the first n bytes are what two digits each stand for
pub record IsDecoded (digits out : List ℕ) (n : ℕ) : Type 0 where
  pub within : n ≤ length out
  pub each : (k : ℕ) → k < n → AreDigitsOf (slice_index digits (2 * k)) (slice_index digits (2 * k + 1)) (slice_index out k)
