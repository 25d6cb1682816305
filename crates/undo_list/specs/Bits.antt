-- Bits of words of 64: runs of equal ones, ones that are stored, and marks of numbers.
use Rattle.std.specs.Prelude.{◌≡◌, ℕ, ◌+◌, ◌<◌, ◌≤◌, ◌⊎◌, ◌/◌, ◌%◌, List, slice_index}
use Rattle.std.specs.Int.{bit_at}

-- n bits from a bit on are 0, and the next one is not
pub record IsZeros (word bit n : ℕ) : Type 0 where
  pub within : bit + n ≤ 64
  pub each : (i : ℕ) → bit ≤ i → i < bit + n → bit_at word i ≡ 0
  pub end : bit + n < 64 → bit_at word (bit + n) ≡ 1

-- n bits from a bit on are 1, and the next one is not
pub record IsOnes (word bit n : ℕ) : Type 0 where
  pub within : bit + n ≤ 64
  pub each : (i : ℕ) → bit ≤ i → i < bit + n → bit_at word i ≡ 1
  pub end : bit + n < 64 → bit_at word (bit + n) ≡ 0

-- the bits from one to before another are v, and all other bits as before
pub record WithBits (word new from to v : ℕ) : Type 0 where
  pub inside : (i : ℕ) → from ≤ i → i < to → bit_at new i ≡ v
  pub outside : (i : ℕ) → i < 64 → (i < from) ⊎ (to ≤ i) → bit_at new i ≡ bit_at word i

-- ---- marks of numbers, a bit for each, 64 to a word

-- 1 where a number is marked, else 0
unfoldable pub mark_of : List ℕ → ℕ → ℕ
mark_of marks i = bit_at (slice_index marks (i / 64)) (i % 64)

-- the numbers from one to before another become marked
pub record MarksRun (old new : List ℕ) (from to : ℕ) : Type 0 where
  pub inside : (i : ℕ) → from ≤ i → i < to → mark_of new i ≡ 1
  pub outside : (i : ℕ) → (i < from) ⊎ (to ≤ i) → mark_of new i ≡ mark_of old i

-- the first number from one on that is not marked, or the end
pub record IsUnmarkedFrom (marks : List ℕ) (from to n : ℕ) : Type 0 where
  pub low : from ≤ n
  pub high : n ≤ to
  pub before : (i : ℕ) → from ≤ i → i < n → mark_of marks i ≡ 1
  pub here : n < to → mark_of marks n ≡ 0
