-- How far a block reaches, as its units are read, and runs of units of one page.
use Rattle.std.specs.Prelude.{◌≡◌, ℕ, ◌<◌, ◌≢◌, ◌+◌, ◌*◌, ◌/◌, ◌%◌, ◌≤◌, ◌⊎◌, Option, Some, None}
use Rattle.std.specs.Int.{bit_at}
use Rattle.rio_model.specs.Heap.{IsBlock, starts, used}

-- the units behind the first one, before x, are in its block
pub record Within (l : ℕ → ℕ) (t x : ℕ) : Type 0 where
  pub each : (y : ℕ) → t < y → y < x → (used l y ≡ 1) × (starts l y ≡ 0)

-- no block starts at a unit, or one of n units does
abbrev pub BlockAt : (ℕ → ℕ) → ℕ → ℕ → Option ℕ → Type 0
BlockAt l units t None = (n : ℕ) → IsBlock l units t n → ⊥
BlockAt l units t (Some n) = IsBlock l units t n

-- ---- runs of units of one page

-- n units from a bit on go on a block, used and no start, and the next one does not
pub record GoesOn (used starts bit n : ℕ) : Type 0 where
  pub within : bit + n ≤ 64
  pub each : (i : ℕ) → bit ≤ i → i < bit + n → (bit_at used i ≡ 1) × (bit_at starts i ≡ 0)
  pub end : bit + n < 64 → (bit_at used (bit + n) ≡ 0) ⊎ (bit_at starts (bit + n) ≡ 1)

-- the units behind one of a page go on its block up to before x, and there the page ends or the block does
pub record ReachesInPage (used starts unit x : ℕ) : Type 0 where
  pub low : unit < x
  pub most : x ≤ 64 * (unit / 64 + 1)
  pub each : (y : ℕ) → unit < y → y < x → (bit_at used (y % 64) ≡ 1) × (bit_at starts (y % 64) ≡ 0)
  pub end : x % 64 ≢ 0 → (bit_at used (x % 64) ≡ 0) ⊎ (bit_at starts (x % 64) ≡ 1)
