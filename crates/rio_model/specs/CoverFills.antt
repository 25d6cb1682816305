-- An entry that is made, and a word of a frame that is stored.
use Rattle.std.specs.Prelude.{◌≡◌, ◌≢◌, ℕ, ◌<◌, Bool, true, false, List}
use Rattle.rio_base.specs.Machine.{Contents}
use Rattle.rio_base.specs.Volume.{put}
use Rattle.rio_model.specs.Registry.{EntryKeeps, IsValid, OneEntry, frames_of, gate_of, is_dirty, is_valid, shadow_at, tag_at, tag_block}
use Rattle.rio_model.specs.Cover.{Coherent, is_loose, reads, stands}

-- ---- an entry is made

pub record Made (k b : ℕ) (dirty : Bool) (old new : List ℕ) : Type 0 where
  pub one : OneEntry k old new
  pub within : k < frames_of old
  pub was : is_valid (tag_at old k) ≡ false
  pub free : (j : ℕ) → IsValid old j → tag_block (tag_at old j) ≢ b
  pub valid : is_valid (tag_at new k) ≡ true
  pub block : tag_block (tag_at new k) ≡ b
  pub is : is_dirty (tag_at new k) ≡ dirty
  pub shadow : shadow_at new k ≡ 0
  pub keeps : EntryKeeps new k

-- ---- a word of a frame

-- a word of the frame of entry k, which is dirty, is stored
pub record Puts (k b w v : ℕ) (old new : Contents) : Type 0 where
  pub reading : reads new ≡ put (reads old) b w v
  pub standing : gate_of old.words ≢ 1 → stands new ≡ put (stands old) b w v
  pub hidden : gate_of old.words ≡ 1 → shadow_at old.words k ≢ 0 → stands new ≡ stands old
  pub firm : (c : ℕ) → is_loose new c ≡ true → is_loose old c ≡ true
  pub coherent : (n : ℕ) → Coherent old n → Coherent new n
