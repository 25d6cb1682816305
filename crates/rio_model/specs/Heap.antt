-- The heap map of a region, as it stands in the words at its places: used units, the starts of blocks, and the lowest gap.
-- Data page j has its 64 units in words 2 * j (used) and 2 * j + 1 (starts), unit u of the page at bit u.
use Rattle.std.specs.Prelude.{◌≡◌, ℕ, zero, suc, ◌+◌, ◌-◌, ◌*◌, ◌/◌, ◌%◌, ◌<◌, ◌≤◌, ◌⊎◌, ◌&&◌, ◌==◌, nat_le, nat_lt, if◌then◌else◌, List, [], ◌∷◌, Option, Some, None, Bool, false, ◌||◌}
use Rattle.std.specs.Int.{bit_at}
use Rattle.rio_base.specs.Regions.{RegionContent}
use Rattle.rio_model.specs.Undo.{map_pages, live, before, undo_records, saving, IsRegion}

-- whether a unit is used: 1 or 0
unfoldable pub used : (ℕ → ℕ) → ℕ → ℕ
used l t = bit_at (l (2 * (t / 64))) (t % 64)

-- whether a block starts at a unit: 1 or 0
unfoldable pub starts : (ℕ → ℕ) → ℕ → ℕ
starts l t = bit_at (l (2 * (t / 64) + 1)) (t % 64)

-- the units of a region
abbrev pub units_of : RegionContent → ℕ
units_of f = 64 * f 2

-- ---- blocks

-- the map of n data pages is of blocks alone: no start on an unused unit, no used unit after an unused one or at unit 0
-- without a start, no bit past the last data page
pub record OfBlocks (l : ℕ → ℕ) (n : ℕ) : Type 0 where
  pub used_start : (t : ℕ) → t < 64 * n → starts l t ≡ 1 → used l t ≡ 1
  pub first : 0 < n → used l 0 ≡ 1 → starts l 0 ≡ 1
  pub after : (t : ℕ) → suc t < 64 * n → used l t ≡ 0 → used l (suc t) ≡ 1 → starts l (suc t) ≡ 1
  pub past : (t : ℕ) → 64 * n ≤ t → t < 64 * (256 * map_pages n) → (used l t ≡ 0) × (starts l t ≡ 0)

-- a region of n words keeps the format, and the heap map of its words of before is of blocks alone
pub record IsSoundRegion (n : ℕ) (f : RegionContent) : Type 0 where
  pub region : IsRegion n f
  pub heap : OfBlocks (before f) (f 2)

-- a block of n units starts at t: it runs to the unit before the next start or the next unused unit
pub record IsBlock (l : ℕ → ℕ) (units t n : ℕ) : Type 0 where
  pub some : 1 ≤ n
  pub within : t + n ≤ units
  pub start : starts l t ≡ 1
  pub filled : (x : ℕ) → t ≤ x → x < t + n → used l x ≡ 1
  pub inner : (x : ℕ) → t < x → x < t + n → starts l x ≡ 0
  pub end : t + n < units → (used l (t + n) ≡ 0) ⊎ (starts l (t + n) ≡ 1)

-- how many of the next n units, from t on, go on a block
abbrev pub run_length : (ℕ → ℕ) → ℕ → ℕ → ℕ
run_length l t zero = 0
run_length l t (suc n) = if (used l t == 1) && (starts l t == 0) then suc (run_length l (t + 1) n) else 0

-- the blocks that start in the next n units, from t on: first unit and units of each, in rising order
abbrev pub blocks_from : (ℕ → ℕ) → ℕ → ℕ → List (ℕ × ℕ)
blocks_from l t zero = []
blocks_from l t (suc n) = if starts l t == 1 then (t, suc (run_length l (t + 1) n)) ∷ blocks_from l (t + 1) n else blocks_from l (t + 1) n

abbrev pub heap_blocks : (ℕ → ℕ) → ℕ → List (ℕ × ℕ)
heap_blocks l units = blocks_from l 0 units

-- a block put in its place by its first unit
abbrev pub with_block : List (ℕ × ℕ) → ℕ → ℕ → List (ℕ × ℕ)
with_block [] t n = (t, n) ∷ []
with_block (b ∷ blocks) t n = if nat_lt t b.0 then (t, n) ∷ b ∷ blocks else b ∷ with_block blocks t n

-- the block with this first unit left out
abbrev pub without_block : List (ℕ × ℕ) → ℕ → List (ℕ × ℕ)
without_block [] t = []
without_block (b ∷ blocks) t = if b.0 == t then blocks else b ∷ without_block blocks t

-- a unit is in some block
abbrev pub in_block : List (ℕ × ℕ) → ℕ → Bool
in_block [] x = false
in_block (b ∷ blocks) x = (nat_le b.0 x && nat_lt x (b.0 + b.1)) || in_block blocks x

-- how many units the block with this first unit has
abbrev pub block_size : List (ℕ × ℕ) → ℕ → Option ℕ
block_size [] t = None
block_size (b ∷ blocks) t = if b.0 == t then Some b.1 else block_size blocks t

-- ---- gaps

-- n units from t on are there and in no block
pub record IsGap (l : ℕ → ℕ) (units t n : ℕ) : Type 0 where
  pub within : t + n ≤ units
  pub free : (x : ℕ) → t ≤ x → x < t + n → used l x ≡ 0

-- the lowest of them
pub record IsFirstFit (l : ℕ → ℕ) (units n t : ℕ) : Type 0 where
  pub gap : IsGap l units t n
  pub lowest : (s : ℕ) → s < t → IsGap l units s n → ⊥

-- there is none, or this is the lowest
abbrev pub Finds : (ℕ → ℕ) → ℕ → ℕ → Option ℕ → Type 0
Finds l units n None = (s : ℕ) → IsGap l units s n → ⊥
Finds l units n (Some t) = IsFirstFit l units n t

-- ---- one block more or less

-- a block is added, and no other bit changes
pub record AddsBlock (l m : ℕ → ℕ) (t n : ℕ) : Type 0 where
  pub used : (x : ℕ) → used m x ≡ (if nat_le t x && nat_lt x (t + n) then 1 else used l x)
  pub starts : (x : ℕ) → starts m x ≡ (if x == t then 1 else starts l x)

-- a block is gone, and no other bit changes
pub record RemovesBlock (l m : ℕ → ℕ) (t n : ℕ) : Type 0 where
  pub used : (x : ℕ) → used m x ≡ (if nat_le t x && nat_lt x (t + n) then 0 else used l x)
  pub starts : (x : ℕ) → starts m x ≡ (if x == t then 0 else starts l x)

-- no place but the map words of these units differs
pub record OffBlock (l m : ℕ → ℕ) (t n : ℕ) : Type 0 where
  pub each : (q : ℕ) → (q < 2 * (t / 64)) ⊎ (2 * ((t + n - 1) / 64) + 1 < q) → m q ≡ l q

-- the data pages that a block touches
abbrev pub touched_pages : ℕ → ℕ → ℕ
touched_pages t n = (t + n - 1) / 64 - t / 64 + 1

-- a block of n units is taken at t, under a record of its map words
pub record Allocates (f g : RegionContent) (n t : ℕ) : Type 0 where
  pub fit : IsFirstFit (live f) (units_of f) n t
  pub added : AddsBlock (live f) (live g) t n
  pub others : OffBlock (live f) (live g) t n
  pub records : undo_records g ≡ saving (live f) (2 * (t / 64)) (2 * touched_pages t n) ∷ undo_records f

-- the block of n units at t is given back, under a record of its map words
pub record Releases (f g : RegionContent) (n t : ℕ) : Type 0 where
  pub block : IsBlock (live f) (units_of f) t n
  pub removed : RemovesBlock (live f) (live g) t n
  pub others : OffBlock (live f) (live g) t n
  pub records : undo_records g ≡ saving (live f) (2 * (t / 64)) (2 * touched_pages t n) ∷ undo_records f
