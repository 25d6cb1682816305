-- Machines that tests begin with: a fresh image, a machine whose pages can be written back, and one with two cached blocks.
use Rattle.std.specs.Prelude.{◌≡◌, ◌<◌, ℕ, ◌≢◌, ◌⊎◌, length, None, true, List, false}
use Rattle.rio_base.specs.Machine.{Contents, Running}
use Rattle.rio_base.specs.Image.{HasHeader}
use Rattle.rio_model.specs.Cover.{Coherent}
use Rattle.rio_model.specs.Registry.{IsValid, frames_of, gate_of, is_dirty, is_valid, scratch_of, tag_at, tag_block, tag_of}

-- ---- a fresh image, over a disk of 64 blocks

-- no entry has a tag, no page is open and no update
pub record IsBlank (frames : ℕ) (c : Contents) (r : Running) : Type 0 where
  pub coherent : Coherent c (length r.scratch)
  pub closed : c.open_page ≡ None
  pub shut : gate_of c.words ≡ 0
  pub sized : frames_of c.words ≡ frames
  pub empty : (k : ℕ) → k < frames_of c.words → tag_at c.words k ≡ 0
  pub blocks : length c.disk ≡ 64

-- ---- pages that can be written back

-- a machine with 64 frames over 8 blocks, with no page open and no update
pub record Ready (c : Contents) (r : Running) : Type 0 where
  pub coherent : Coherent c (length r.scratch)
  pub closed : c.open_page ≡ None
  pub shut : gate_of c.words ≢ 1
  pub frames : frames_of c.words ≡ 64
  pub blocks : length c.disk ≡ 8

-- a header of such a machine, with the gate 0
pub record IsTestHeader (words : List ℕ) : Type 0 where
  pub header : HasHeader words
  pub frames : frames_of words ≡ 64
  pub scratch : scratch_of words ≡ 1
  pub gate : gate_of words ≡ 0

-- a tag that is not valid, or dirty and of one of the 8 blocks
abbrev pub NoneOrDirty : ℕ → Type 0
NoneOrDirty tag = is_valid tag ≡ true → (is_dirty tag ≡ true) × (tag_block tag < 8)

-- ---- two cached blocks of metadata

-- entries 3 and 4 have the dirty metadata blocks 5 and 6, and no other entry is valid
pub record HasTwo (c : Contents) (r : Running) : Type 0 where
  pub coherent : Coherent c (length r.scratch)
  pub closed : c.open_page ≡ None
  pub frames : frames_of c.words ≡ 64
  pub three : tag_at c.words 3 ≡ tag_of 5 true false
  pub four : tag_at c.words 4 ≡ tag_of 6 true false
  pub only : (k : ℕ) → IsValid c.words k → (k ≡ 3) ⊎ (k ≡ 4)
