-- What a disk holds. Blocks have 512 words. A written block is pending until a sync has confirmed it.
use Rattle.std.specs.Prelude.{◌≡◌, ℕ, ◌+◌, ◌-◌, ◌*◌, ◌/◌, ◌^◌, min, max, Bool, true, false, List, [], length, map, take, drop, slice_index_or, slice_set, replicate, Option, Some, Result, MatchResult, ◌≤◌}
use Rattle.std.specs.List.{range_with_len}
use Rattle.rio_base.specs.Blocks.{Around}
use Rattle.rio_base.specs.Failures.{Rose}

-- how many calls of a disk failed, up to the largest u64, and how far that count can rise, where it is told
pub record FaultCount : Type 0 where
  pub count : ℕ
  pub limit : Option ℕ

pub record DiskContents : Type 0 where
  -- the blocks, as they read
  pub blocks : List (List ℕ)
  -- which of them are pending
  pub pending : List Bool
  pub faults : FaultCount
  -- how many writes were made, failed ones too, up to the largest u64
  pub writes : ℕ
  -- what is kept beside the blocks, where it is told
  pub around : Option Around

abbrev pub block_at : List (List ℕ) → ℕ → List ℕ
block_at blocks b = slice_index_or blocks b []

-- the blocks that words make, 512 each. Words of a last part of a block are left out
abbrev pub blocks_of : List ℕ → List (List ℕ)
blocks_of words = map (λ b. take 512 (drop (512 * b) words)) (range_with_len 0 (length words / 512))

abbrev pub is_pending : List Bool → ℕ → Bool
is_pending marks b = slice_index_or marks b false

-- a count that rose by n, up to the largest u64
abbrev pub raised : ℕ → ℕ → ℕ
raised count n = max count (min (count + n) (2 ^ 64 - 1))

-- the disk after block b was written with these words
abbrev pub with_written : DiskContents → ℕ → List ℕ → FaultCount → DiskContents
with_written d b words faults = record d { blocks = slice_set d.blocks b words; pending = slice_set d.pending b true; writes = raised d.writes 1; faults = faults }

-- the count of faults doesn't fall, and how far it can rise doesn't rise
pub record FaultsLast (old new : FaultCount) : Type 0 where
  pub later : old.count ≤ new.count
  pub limit : (most : ℕ) → old.limit ≡ Some most → (next : ℕ) × (new.limit ≡ Some next) × (next ≤ most)

-- a fault comes only where the count of faults rose
pub record HasFaultCause {T E : Type 0} (answer : Result T E) (old new : FaultCount) : Type 0 where
  pub last : FaultsLast old new
  pub cause : MatchResult answer (λ _. Unit {0}) (λ _. Rose old.count new.count)

-- a write of block b: after Ok it reads as these words, after Failed as any. It is pending after both
abbrev pub WritesDisk : {E : Type 0} → Result (Unit {0}) E → ℕ → List ℕ → DiskContents → DiskContents → Type 0
WritesDisk answer b words old new =
    MatchResult answer (λ _. new ≡ with_written old b words new.faults) (λ _. (torn : List ℕ) × (length torn ≡ 512) × (new ≡ with_written old b torn new.faults))

-- the disk after a write of block b was cut off: it may have been on its way
abbrev pub with_torn : DiskContents → ℕ → DiskContents
with_torn d b = record d { pending = slice_set d.pending b true }

-- nothing is pending
abbrev pub with_synced : DiskContents → FaultCount → DiskContents
with_synced d faults = record d { pending = replicate (length d.blocks) false; faults = faults }
