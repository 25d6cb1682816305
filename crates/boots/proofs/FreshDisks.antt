-- A disk that is made of the words of a fresh volume reads as one.
use Rattle.std.proofs.Common.{◌≡◌, ℕ, ◌/◌, ◌<◌, List, length, sym, ap, subst, ◌∙◌, arith}
use Rattle.std.specs.Prelude.{IfOk, Result, Ok, Err}
use Rattle.rio_base.specs.declared.places.VolumeShape.{VolumeShape}
use Rattle.rio_base.specs.Disks.{blocks_of, is_pending}
use Rattle.rio_base.specs.Layout.{HasSuperblock}
use Rattle.rio_base.specs.Shapes.{IsServed}
use Rattle.rio_model.specs.Cover.{home_word}
use Rattle.rio_model.proofs.CoverSteps.{none_pending}
use Rattle.image_codec.specs.Volume.{block_words, fresh_volume_words}
use Rattle.block_disk.specs.declared.mem_disk.MemDisk.{MemDisk}
use Rattle.block_disk.specs.MemDisks.{MemDiskState, state_of, words_state}
use Rattle.rio_base.proofs.WordBlocks.{block_is, block_long, blocks_many, blocks_word}
use Rattle.block_disk.specs.BlockLists.{AreWhole}
use Rattle.pair_files.proofs.FreshVolumes.{AreMarked, volume_is, volume_long, volume_same}
use Rattle.boots.specs.Parts.{IsFreshDisk}

disk_is : (shape : VolumeShape) (words : List ℕ) (s : MemDiskState) → IsServed shape → words ≡ fresh_volume_words shape.blocks shape.inodes → HasSuperblock (block_words words) shape → AreMarked shape (block_words words) → s ≡ words_state words → IsFreshDisk shape s.blocks s.pending
disk_is shape words s h is superblock marked e = record {
  count = ap (λ (t : MemDiskState). length t.blocks) e ∙ blocks_many words ∙ many;
  whole = subst (λ (t : MemDiskState). AreWhole t.blocks) (sym e) whole_blocks;
  volume = volume_same shape (block_words words) (home_word s.blocks) h (λ b w within small. ap (λ (t : MemDiskState). home_word t.blocks b w) e ∙ blocks_word words b w (subst (λ n. b < n) (sym many) within) small) (volume_is shape words h is superblock marked);
  settled = λ b. ap (λ (t : MemDiskState). is_pending t.pending b) e ∙ none_pending (length words / 512) b;
}
  where
    whole_blocks : AreWhole (blocks_of words)
    whole_blocks b less = let within : b < length words / 512 = omega (arith, less, blocks_many words) in ap length (block_is words b within) ∙ block_long words b within

    many : length words / 512 ≡ shape.blocks
    many = let long = volume_long words shape.blocks shape.inodes is in omega (arith, long)

-- one that is made of these words
pub disk_made : {E : Type 0} (shape : VolumeShape) (words given : List ℕ) (r : Result MemDisk E) → IsServed shape → words ≡ fresh_volume_words shape.blocks shape.inodes → HasSuperblock (block_words words) shape → AreMarked shape (block_words words) → given ≡ words
    → IfOk r (λ d. state_of d ≡ words_state given) → IfOk r (λ d. IsFreshDisk shape (state_of d).blocks (state_of d).pending)
disk_made shape words given (Ok d) h is superblock marked same e = disk_is shape words (state_of d) h is superblock marked (e ∙ ap words_state same)
disk_made shape words given (Err e) h is superblock marked same made = tt

pub disk_words : {E : Type 0} (blocks inodes : ℕ) (words given : List ℕ) (r : Result MemDisk E) → words ≡ fresh_volume_words blocks inodes → given ≡ words → IfOk r (λ d. state_of d ≡ words_state given) → IfOk r (λ d. state_of d ≡ words_state (fresh_volume_words blocks inodes))
disk_words blocks inodes words given (Ok d) is same e = e ∙ ap words_state (same ∙ is)
disk_words blocks inodes words given (Err e) is same made = tt
