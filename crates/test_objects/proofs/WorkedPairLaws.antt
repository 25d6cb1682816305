-- A small memory and disk, on which the definitions of what they read as and stand for are tried.
use Rattle.std.specs.Prelude.{◌≡◌, ◌≢◌, ◌<◌, ℕ, Bool, true, false, length}
use Rattle.rio_base.specs.Disks.{block_at, is_pending}
use Rattle.rio_base.specs.Machine.{Contents}
use Rattle.rio_model.specs.Registry.{file_at, frames_of, index_at, shadow_at, size_at, tag_at, tag_of}

-- 32 frames over 64 blocks. Entry 3 is of block 9, which is metadata: dirty, with shadow 2. Entry 31 is of block 50, the first
-- 6 bytes of page 1 of file 2: dirty or not, with no shadow. No other entry is valid. The blocks 9 and 51 are pending
pub record IsPair (dirty : Bool) (c : Contents) : Type 0 where
  pub frames : frames_of c.words ≡ 32
  pub three : tag_at c.words 3 ≡ tag_of 9 true false
  pub shadow : shadow_at c.words 3 ≡ 2
  pub last : tag_at c.words 31 ≡ tag_of 50 dirty true
  pub file : file_at c.words 31 ≡ 2
  pub index : index_at c.words 31 ≡ 1
  pub size : size_at c.words 31 ≡ 6
  pub bare : shadow_at c.words 31 ≡ 0
  pub empty : (k : ℕ) → k < 32 → k ≢ 3 → k ≢ 31 → tag_at c.words k ≡ 0
  pub blocks : length c.disk ≡ 64
  pub whole : (b : ℕ) → b < 64 → length (block_at c.disk b) ≡ 512
  pub nine : is_pending c.pending 9 ≡ true
  pub other : is_pending c.pending 51 ≡ true
  pub settled : (b : ℕ) → b ≢ 9 → b ≢ 51 → is_pending c.pending b ≡ false
