-- A disk that is a file of a host: what the file holds, and why there is no disk.
use Rattle.std.specs.Prelude.{◌≡◌, ◌<◌, ◌≤◌, ℕ, ◌+◌, ◌*◌, ◌/◌, ◌%◌, ◌^◌, Bool, false, true, List, [], length, take, drop, slice_index, Option, Some, None, is_some}
use Rattle.std.specs.FinMap.{get, remove}
use Rattle.rio_base.specs.Blocks.{Around}
use Rattle.rio_base.specs.Bytes.{bytes_of}
use Rattle.rio_base.specs.Disks.{DiskContents, block_at, blocks_of, is_pending}
use Rattle.rio_base.specs.Hosts.{Asked, Files, HasSize, IsFile, bytes_in}
use Rattle.rio_base.proofs.WordBlocks.{block_is, block_long, blocks_many}
use Rattle.std.proofs.Common.{arith, ap, ◌∙◌}
use Rattle.block_disk.specs.declared.host_disk_fail.HostDiskFail.{HostDiskFail}
use Rattle.block_disk.specs.declared.host_disk_fail.HostDiskFail.TheVariants.{Absent, BadLength, Fault, Memory}

-- ---- which files are disks

abbrev pub least_blocks : ℕ
least_blocks = 4

abbrev pub most_blocks : ℕ
most_blocks = 32768

-- a file of so many bytes can be a disk
pub record IsDiskLength (size : ℕ) : Type 0 where
  pub whole : size % 4096 ≡ 0
  pub least : 4096 * least_blocks ≤ size
  pub most : size ≤ 4096 * most_blocks

-- these are the words of a file that is a disk
pub record AreFileWords (told : Option Files) (name words : List ℕ) : Type 0 where
  pub bytes : IsFile told name (bytes_of words)
  pub long : IsDiskLength (8 * length words)
  pub fit : (i : ℕ) → slice_index words i < 2 ^ 64

-- why no disk was made of a file. `rose` is that the host's count of faults rose
abbrev pub FailsAs : HostDiskFail → Option Files → List ℕ → Type 0 → Type 0
FailsAs Absent told name rose = HasSize told name None
FailsAs BadLength told name rose = (size : ℕ) × HasSize told name (Some size) × (IsDiskLength size → ⊥)
FailsAs Fault told name rose = rose
FailsAs Memory told name rose = (size : ℕ) × HasSize told name (Some size) × IsDiskLength size

-- the file is there, and has so many bytes at least, where the host tells its files
abbrev pub IsLong : Option Files → List ℕ → ℕ → Type 0
IsLong None name n = Unit {0}
IsLong (Some files) name n = (whole : List ℕ) × (get files name ≡ Some whole) × (n ≤ length whole)

-- ---- what the file holds, where the host tells its files

-- the file is there, and has 8 bytes for each word
pub record FitsFile (told : Option Files) (name words : List ℕ) : Type 0 where
  pub there : (files : Files) → told ≡ Some files → is_some (get files name) ≡ true
  pub long : (files : Files) → told ≡ Some files → length (bytes_in files name) ≡ 8 * length words

-- the bytes of block b of the file are those of block b of the words
abbrev pub HasBlock : Option Files → List ℕ → List ℕ → ℕ → Type 0
HasBlock told name words b = (files : Files) → told ≡ Some files → (x : ℕ) → x < 4096 → slice_index (bytes_in files name) (4096 * b + x) ≡ slice_index (bytes_of words) (4096 * b + x)

-- the file has each block but those that are marked as unwritten
pub record OnHost (told : Option Files) (name words : List ℕ) (unwritten : List Bool) : Type 0 where
  pub fits : FitsFile told name words
  pub written : (b : ℕ) → is_pending unwritten b ≡ false → HasBlock told name words b

-- the file has the bytes of each block that isn't pending, and is as long as all of them
pub record HasSettled (told : Option Files) (name : List ℕ) (d : DiskContents) : Type 0 where
  pub there : (files : Files) → told ≡ Some files → is_some (get files name) ≡ true
  pub long : (files : Files) → told ≡ Some files → length (bytes_in files name) ≡ 4096 * length d.blocks
  pub settled : (files : Files) → told ≡ Some files → (b : ℕ) → b < length d.blocks → is_pending d.pending b ≡ false → take 4096 (drop (4096 * b) (bytes_in files name)) ≡ bytes_of (block_at d.blocks b)

-- ---- what every disk has

-- what is beside the blocks: the file's name, the other files, and how often these were asked for
abbrev pub around_of : Option Files → Asked → List ℕ → Option Around
around_of None asked name = None
around_of (Some files) asked name = Some (record { file = name; others = get (remove files name); asked = remove asked name })

abbrev pub file_contents : Option Files → Asked → ℕ → List ℕ → List ℕ → List Bool → ℕ → DiskContents
file_contents told asked faults name words pending writes = record { blocks = blocks_of words; pending = pending; faults = record { count = faults; limit = None }; writes = writes; around = around_of told asked name }

-- no bound on the faults is told
pub limit_none : (faults most : ℕ) → None ≡ Some most → faults ≤ most
limit_none faults most e = absurd (none_some most e)
  where
    none_some : (x : ℕ) → None ≡ Some x → ⊥
    none_some x e = cc

-- a mark for each block
pub count_marks : (pending : List Bool) (words : List ℕ) → 512 * length pending ≡ length words → length pending ≡ length (blocks_of words)
count_marks pending words whole = omega (arith, blocks_many words, whole)

-- each block has 512 words
pub whole_blocks : (words : List ℕ) (b : ℕ) → b < length (blocks_of words) → length (block_at (blocks_of words) b) ≡ 512
whole_blocks words b less =
    let within : b < length words / 512 = omega (arith, less, blocks_many words) in
    ap length (block_is words b within) ∙ block_long words b within

-- a `u32` counts the blocks
pub few_blocks : (words : List ℕ) → IsDiskLength (8 * length words) → length (blocks_of words) < 2 ^ 32
few_blocks words long = omega (arith, blocks_many words, long.most)
