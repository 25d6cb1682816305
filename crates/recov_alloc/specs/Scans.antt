-- What the search for the lowest gap has seen.
use Rattle.std.specs.Prelude.{◌≡◌, ◌≢◌, ℕ, ◌+◌, ◌-◌, ◌*◌, ◌<◌, ◌≤◌, List, slice_index}
use Rattle.std.specs.Int.{bit_at}
use Rattle.rio_model.specs.Heap.{used}
use Rattle.recov_alloc.specs.declared.fitting.Scan.{Scan}
use Rattle.recov_alloc.specs.declared.fitting.Scan.TheVariants.{Found, Run}

-- the free units just before x are k, less than n, and no gap of n lies before x
pub record Before (l : ℕ → ℕ) (n x k : ℕ) : Type 0 where
  pub small : k < n
  pub within : k ≤ x
  pub free : (y : ℕ) → x ≤ y + k → y < x → used l y ≡ 0
  pub edge : k < x → used l (x - k - 1) ≢ 0
  pub none : (s : ℕ) → s + n ≤ x → ((y : ℕ) → s ≤ y → y < s + n → used l y ≡ 0) → ⊥

-- the lowest gap of n units starts at t and ends by x
pub record FoundBy (l : ℕ → ℕ) (n x t : ℕ) : Type 0 where
  pub within : t + n ≤ x
  pub free : (y : ℕ) → t ≤ y → y < t + n → used l y ≡ 0
  pub lowest : (s : ℕ) → s < t → ((y : ℕ) → s ≤ y → y < s + n → used l y ≡ 0) → ⊥

abbrev pub ScanEnds : (ℕ → ℕ) → ℕ → ℕ → Scan → Type 0
ScanEnds l n x (Found t) = FoundBy l n x t
ScanEnds l n x (Run k) = Before l n x k

-- the free units that a word leaves are less than n, and lie before x
abbrev pub RunFits : ℕ → ℕ → Scan → Type 0
RunFits n x (Found t) = Unit {0}
RunFits n x (Run k) = (k < n) × (k ≤ x)

-- the pages from one to before another have no free unit, by the map words of all, of which each page has two
pub record AllFull (words : List ℕ) (from to : ℕ) : Type 0 where
  pub each : (i u : ℕ) → from ≤ i → i < to → u < 64 → bit_at (slice_index words (2 * i)) u ≡ 1
