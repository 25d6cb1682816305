-- What a pair of files is: a memory image and a disk, and the state that they stand for.
use Rattle.std.specs.Prelude.{◌≡◌, ◌+◌, ◌*◌, ◌<◌, ◌≤◌, ◌⊎◌, ◌++◌, ℕ, List, [], length, slice_index, Option, Some, None}
use Rattle.std.specs.FinMap.{get}
use Rattle.rio_base.specs.Bytes.{word_at}
use Rattle.rio_base.specs.Disks.{block_at}
use Rattle.rio_base.specs.Hosts.{Files, HasSize, IsFile}
use Rattle.rio_base.specs.Machine.{Contents}
use Rattle.block_disk.specs.HostDisks.{IsDiskLength}
use Rattle.rio_model.specs.declared.state.State.{State}
use Rattle.rio_model.specs.Cover.{stands}
use Rattle.rio_model.specs.Placed.{volume_layout}
use Rattle.rio_model.specs.Registry.{HasLayout}
use Rattle.rio_model.specs.Standing.{Restored, StandsFor}
use Rattle.rio_model.specs.VolumeFails.{FailsPair}
use Rattle.rio_model.specs.RuleNumbers.{volume_rule}
use Rattle.rio_model.specs.declared.rules.VolumeRule.TheVariants.{Superblock}
use Rattle.pair_files.specs.Images.{HoldsImage, IsImageOf}

-- ---- bytes that are a pair

-- these blocks of 512 words stand in these bytes, one behind the other
pub record AreBlocksIn (bytes : List ℕ) (blocks : List (List ℕ)) : Type 0 where
  pub count : length bytes ≡ 4096 * length blocks
  pub whole : (b : ℕ) → b < length blocks → length (block_at blocks b) ≡ 512
  pub words : (b w : ℕ) → b < length blocks → w < 512 → slice_index (block_at blocks b) w ≡ word_at bytes (512 * b + w)

-- a machine with these protected words and these blocks. Nothing is pending, and no page is open
abbrev pub pair_machine : List ℕ → List (List ℕ) → Contents
pair_machine words blocks = record { words = words; open_page = None; disk = blocks; pending = []; faults = record { count = 0; limit = None }; writes = 0; around = None }

-- the bytes of an image that keeps rules 1 to 4 and those of a whole number of blocks, where the machine with these words and
-- blocks stands for state s
pub record IsPair (image disk : List ℕ) (s : State) : Type 0 where
  pub words : List ℕ
  pub scratch : List ℕ
  pub blocks : List (List ℕ)
  pub in_image : IsImageOf image (words ++ scratch)
  pub in_disk : AreBlocksIn disk blocks
  pub stands : StandsFor (pair_machine words blocks) (length scratch) s

-- ---- files that are

-- the bytes of the file of this name, where the host tells its files and it is there
abbrev pub file_of : Option Files → List ℕ → Option (List ℕ)
file_of None name = None
file_of (Some files) name = get files name

-- the files of these two names have these bytes, which are such a pair
pub record HasPair (told : Option Files) (image disk image_bytes disk_bytes : List ℕ) (s : State) : Type 0 where
  pub image_file : file_of told image ≡ Some image_bytes
  pub disk_file : file_of told disk ≡ Some disk_bytes
  pub pair : IsPair image_bytes disk_bytes s

-- the image keeps its rules, and of the volume's this one fails first, which block b tells. No volume has as many blocks as a
-- disk of another length
pub record BreaksVolume (told : Option Files) (image disk : List ℕ) (rule b : ℕ) : Type 0 where
  pub words : List ℕ
  pub holds : HoldsImage told image words
  pub fails : ((rule ≡ volume_rule Superblock) × (b ≡ 0) × (size : ℕ) × HasSize told disk (Some size) × (IsDiskLength size → ⊥))
      ⊎ ((bytes : List ℕ) × (blocks : List (List ℕ)) × IsFile told disk bytes × AreBlocksIn bytes blocks × FailsPair (pair_machine words blocks) rule b)

-- ---- a disk that only a reboot wrote

-- the image has at least as many frames as the disk has blocks. Word 2 of an image is the count of frames
abbrev pub IsRoomy : List ℕ → List ℕ → Type 0
IsRoomy image disk = length disk ≤ 4096 * word_at image 2

-- of a pair that stands for s, the bytes `now` are those of the disk with each page that counts and is wanted put at its block.
-- The entries are those of the words that the image's sizes say are protected
pub record IsRestored (image disk now : List ℕ) (s : State) : Type 0 where
  pub words : List ℕ
  pub scratch : List ℕ
  pub in_image : IsImageOf image (words ++ scratch)
  pub layout : HasLayout words scratch
  pub old : List (List ℕ)
  pub new : List (List ℕ)
  pub in_disk : AreBlocksIn disk old
  pub in_now : AreBlocksIn now new
  pub restored : Restored (volume_layout s.shape (stands (pair_machine words old))) words old new
