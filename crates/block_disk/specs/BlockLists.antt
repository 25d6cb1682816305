-- Lists of blocks, and which of them are pending.
use Rattle.std.specs.Prelude.{◌≡◌, ◌<◌, ◌+◌, ◌==◌, ◌++◌, ℕ, Bool, false, List, [], ◌∷◌, map, length, take, drop, Vec, if◌then◌else◌}
use Rattle.std.specs.List.{list_any}
use Rattle.std.specs.declared.alloc.Global.{Global}
use Rattle.rio_base.specs.Disks.{block_at, is_pending}

-- the words of each block
abbrev pub rows : List (Vec ℕ Global) → List (List ℕ)
rows all = map (λ v. v.items) all

-- each block has 512 words
abbrev pub AreWhole : List (List ℕ) → Type 0
AreWhole blocks = (b : ℕ) → b < length blocks → length (block_at blocks b) ≡ 512

-- a block whose write failed: the front half of the new words, over the old ones
abbrev pub torn_words : List ℕ → List ℕ → List ℕ
torn_words new old = take 256 new ++ drop 256 old

-- each block that isn't pending reads as it was synced last
abbrev pub AreSettled : List Bool → List (List ℕ) → List (List ℕ) → Type 0
AreSettled pending blocks synced = (b : ℕ) → b < length blocks → is_pending pending b ≡ false → block_at synced b ≡ block_at blocks b

-- how many marks are set
unfoldable pub marked : List Bool → ℕ
marked [] = 0
marked (mark ∷ marks) = (if mark then 1 else 0) + marked marks

-- these are the numbers of the pending blocks, each once
pub record Lists (numbers : List ℕ) (pending : List Bool) : Type 0 where
  pub each : (b : ℕ) → is_pending pending b ≡ list_any (λ n. n == b) numbers
  pub once : length numbers ≡ marked pending

-- each pending block has the words that are given for it, and each other block is as before
pub record Replaced (pending : List Bool) (words : ℕ → List ℕ) (old new : List (List ℕ)) : Type 0 where
  pub count : length new ≡ length old
  pub blocks : (b : ℕ) → b < length old → block_at new b ≡ (if is_pending pending b then words b else block_at old b)
