-- A disk that is made of the words of a fresh volume reads as one, and so does whatever reads as that disk.
use Rattle.std.proofs.Common.{◌≡◌, ℕ, ◌/◌, ◌<◌, Bool, List, length, refl, sym, ap, subst, ◌∙◌, arith}
use Rattle.std.specs.Prelude.{IfOk, Result, Ok, Err, Some}
use Rattle.rio_base.specs.declared.places.VolumeShape.{VolumeShape}
use Rattle.rio_base.specs.Blocks.{BlockWords}
use Rattle.rio_base.specs.Disks.{is_pending}
use Rattle.rio_base.specs.Layout.{HasSuperblock}
use Rattle.rio_base.specs.Shapes.{IsServed}
use Rattle.rio_model.specs.Cover.{home_word}
use Rattle.rio_model.proofs.CoverSteps.{none_pending}
use Rattle.rio_model.specs.Fresh.{IsFreshVolume}
use Rattle.image_codec.specs.Volume.{block_words, fresh_volume_words}
use Rattle.block_disk.specs.declared.mem_disk.MemDisk.{MemDisk}
use Rattle.block_disk.specs.MemDisks.{MemDiskState, contents_of, state_of, upcoming, words_state}
use Rattle.pair_files.proofs.FreshVolumes.{AreMarked, volume_is, volume_long, volume_same}
use Rattle.rio_base.proofs.WordBlocks.{blocks_many, blocks_word}
use Rattle.test_servers.specs.FreshMachines.{IsFreshDisk}

unfailing : (words : List ℕ) → (contents_of (words_state words)).faults ≡ record { count = 0; limit = Some 0 }
unfolding upcoming
unfailing words = refl

disk_is : (shape : VolumeShape) (words : List ℕ) (s : MemDiskState) → IsServed shape → words ≡ fresh_volume_words shape.blocks shape.inodes → HasSuperblock (block_words words) shape → AreMarked shape (block_words words) → s ≡ words_state words → IsFreshDisk shape s.blocks s.pending
disk_is shape words s h is superblock marked e = record {
  count = ap (λ (t : MemDiskState). length t.blocks) e ∙ blocks_many words ∙ many;
  volume = volume_same shape (block_words words) (home_word s.blocks) h (λ b w within small. ap (λ (t : MemDiskState). home_word t.blocks b w) e ∙ blocks_word words b w (subst (λ n. b < n) (sym many) within) small) (volume_is shape words h is superblock marked);
  settled = λ b. ap (λ (t : MemDiskState). is_pending t.pending b) e ∙ none_pending (length words / 512) b;
}
  where
    many : length words / 512 ≡ shape.blocks
    many = let long = volume_long words shape.blocks shape.inodes is in omega (arith, long)

-- one that is made of these words
pub disk_made : {E : Type 0} (shape : VolumeShape) (words given : List ℕ) (r : Result MemDisk E) → IsServed shape → words ≡ fresh_volume_words shape.blocks shape.inodes → HasSuperblock (block_words words) shape → AreMarked shape (block_words words) → given ≡ words
    → IfOk r (λ d. state_of d ≡ words_state given) → IfOk r (λ d. IsFreshDisk shape (state_of d).blocks (state_of d).pending)
disk_made shape words given (Ok d) h is superblock marked same e = disk_is shape words (state_of d) h is superblock marked (e ∙ ap words_state same)
disk_made shape words given (Err e) h is superblock marked same made = tt

pub disk_unfailing : {E : Type 0} (given : List ℕ) (r : Result MemDisk E) → IfOk r (λ d. state_of d ≡ words_state given) → IfOk r (λ d. (contents_of (state_of d)).faults ≡ record { count = 0; limit = Some 0 })
disk_unfailing given (Ok d) e = ap (λ (t : MemDiskState). (contents_of t).faults) e ∙ unfailing given
disk_unfailing given (Err e) made = tt

-- the same blocks
pub disk_same : (shape : VolumeShape) (blocks now : List (List ℕ)) (pending marks : List Bool) → IsFreshDisk shape blocks pending → now ≡ blocks → marks ≡ pending → IsFreshDisk shape now marks
disk_same shape blocks now pending marks h same settled = rw (same, settled) h

-- what reads as the disk
pub reads_fresh : (shape : VolumeShape) (blocks : List (List ℕ)) (pending : List Bool) (f : BlockWords) → IsServed shape → IsFreshDisk shape blocks pending → ((b w : ℕ) → w < 512 → f b w ≡ home_word blocks b w) → IsFreshVolume shape f
reads_fresh shape blocks pending f h disk reading = volume_same shape (home_word blocks) f h (λ b w within small. reading b w small) disk.volume
