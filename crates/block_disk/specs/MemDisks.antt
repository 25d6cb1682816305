-- The disk in memory: its blocks, which of its calls are to fail, and what a crash makes of it.
use Rattle.std.specs.Prelude.{◌≡◌, ◌<◌, ℕ, ◌+◌, ◌*◌, ◌-◌, ◌/◌, ◌==◌, ◌&&◌, nat_lt, if◌then◌else◌, Bool, true, false, List, [], ◌∷◌, length, replicate, slice_set, Some, None, ◌≤◌, Result, Ok, Err}
use Rattle.rio_base.specs.Disks.{DiskContents, block_at, blocks_of, is_pending, raised}
use Rattle.std.proofs.Common.{arith, subst}
use Rattle.block_disk.specs.BlockLists.{rows, torn_words}
use Rattle.block_disk.specs.declared.mem_disk.MemDisk.{MemDisk}
use Rattle.block_disk.specs.declared.disk_choice.DiskChoice.{DiskChoice}
use Rattle.block_disk.specs.declared.disk_choice.DiskChoice.TheVariants.{AsRead, AsSynced, Filled}

pub record MemDiskState : Type 0 where
  -- the blocks as they read, and as they were synced last
  pub blocks : List (List ℕ)
  pub synced : List (List ℕ)
  -- which of them are pending
  pub pending : List Bool
  -- how many calls were made, how many of them failed, and how many wrote, each up to the largest u64
  pub calls : ℕ
  pub faults : ℕ
  pub writes : ℕ
  -- the calls that are to fail, by their numbers from 1
  pub failing : List ℕ
  -- the next so many reads of this block are to fail
  pub failing_block : ℕ
  pub failing_reads : ℕ

abbrev pub state_of : MemDisk → MemDiskState
state_of d = record {
  blocks = rows d.blocks.items;
  synced = rows d.synced.items;
  pending = d.pending.marks.items;
  calls = d.calls;
  faults = d.faults;
  writes = d.writes;
  failing = d.failing.items;
  failing_block = d.failing_block.0;
  failing_reads = d.failing_reads;
}

-- a disk of zeros, with nothing pending
abbrev pub new_state : ℕ → MemDiskState
new_state blocks = record {
  blocks = replicate blocks (replicate 512 0);
  synced = replicate blocks (replicate 512 0);
  pending = replicate blocks false;
  calls = 0;
  faults = 0;
  writes = 0;
  failing = [];
  failing_block = 0;
  failing_reads = 0;
}

-- a disk of these words, with nothing pending
abbrev pub words_state : List ℕ → MemDiskState
words_state words = record (new_state (length words / 512)) { blocks = blocks_of words; synced = blocks_of words }

-- ---- which calls fail

-- how many of these calls are still to come, after so many
unfoldable pub upcoming : ℕ → List ℕ → ℕ
upcoming calls [] = 0
upcoming calls (call ∷ failing) = (if nat_lt calls call then 1 else 0) + upcoming calls failing

-- how far the count of faults can rise
abbrev pub most_faults : MemDiskState → ℕ
most_faults s = s.faults + (upcoming s.calls s.failing + s.failing_reads)

-- the next read of block b is to fail
abbrev pub is_read_due : MemDiskState → ℕ → Bool
is_read_due s b = (s.failing_block == b) && nat_lt 0 s.failing_reads

-- how many reads are to fail still, after one of block b
abbrev pub reads_left : MemDiskState → ℕ → ℕ
reads_left s b = if s.failing_block == b then s.failing_reads - 1 else s.failing_reads

-- no call is to fail
abbrev pub FailsNever : MemDiskState → Type 0
FailsNever s = (s.failing ≡ []) × (s.failing_reads ≡ 0)

abbrev pub faults_after : {T E : Type 0} → Result T E → ℕ → ℕ
faults_after (Ok _) faults = faults
faults_after (Err _) faults = raised faults 1

-- what every disk has
abbrev pub contents_of : MemDiskState → DiskContents
contents_of s = record { blocks = s.blocks; pending = s.pending; faults = record { count = s.faults; limit = Some (most_faults s) }; writes = s.writes; around = None }

-- one call is counted, as failed where it did
abbrev pub counted : {T E : Type 0} → Result T E → MemDiskState → MemDiskState
counted answer s = record s { calls = raised s.calls 1; faults = faults_after answer s.faults }

-- what a block reads as after its write: the new words, or torn where the write failed
abbrev pub written_words : {T E : Type 0} → Result T E → List ℕ → List ℕ → List ℕ
written_words (Ok _) new old = new
written_words (Err _) new old = torn_words new old

-- block b reads as these words and is pending, and one more write is counted
abbrev pub with_block : ℕ → List ℕ → MemDiskState → MemDiskState
with_block b words s = record s { blocks = slice_set s.blocks b words; pending = slice_set s.pending b true; writes = raised s.writes 1 }

-- ---- crashes

-- the word of which each byte is this one
abbrev pub filled_word : ℕ → ℕ
filled_word byte = byte * 0x0101_0101_0101_0101

-- what a block reads as after a crash, by whether it was pending, how it read and how it was synced last
abbrev pub crashed_block : Bool → DiskChoice → List ℕ → List ℕ → List ℕ
crashed_block false choice read synced = read
crashed_block true AsRead read synced = read
crashed_block true AsSynced read synced = synced
crashed_block true (Filled byte) read synced = replicate 512 (filled_word byte)

-- a crash: each block reads by the choice, is synced so, and isn't pending. The rest stays
pub record Crashed (choice : DiskChoice) (old new : MemDiskState) : Type 0 where
  pub count : length new.blocks ≡ length old.blocks
  pub blocks : (b : ℕ) → b < length old.blocks → block_at new.blocks b ≡ crashed_block (is_pending old.pending b) choice (block_at old.blocks b) (block_at old.synced b)
  pub rest : new ≡ record old { blocks = new.blocks; synced = new.blocks; pending = replicate (length old.blocks) false }

-- no more calls failed than can
pub within_most : (s : MemDiskState) (most : ℕ) → (contents_of s).faults.limit ≡ Some most → s.faults ≤ most
within_most s most e = subst (λ n. s.faults ≤ n) (some_is (most_faults s) most e) (omega arith)
  where
    some_is : (x y : ℕ) → Some x ≡ Some y → x ≡ y
    some_is x y e = cc
