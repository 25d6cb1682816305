-- The words of an inode edited as one run.
use Rattle.std.proofs.Common.{◌≡◌, ℕ, ◌≤◌, List, length, slice_index, ap, subst, ◌∙◌, arith}
use Rattle.std.proofs.lemmas.List.FromFn.{length-map-range_with_len}
use Rattle.rio_base.specs.declared.places.VolumeShape.{VolumeShape}
use Rattle.rio_base.specs.Blocks.{BlockWords, IsSpan, Seen}
use Rattle.rio_base.specs.Layout.{IsIno, inode_block, inode_place}
use Rattle.rio_base.specs.Shapes.{HasShape}
use Rattle.rio_base.specs.Volume.{OldOrRun, put_run}
use Rattle.inode_table.specs.declared.inode.Inode.{Inode}
use Rattle.inode_table.specs.Inodes.{inode_words, word_of_inode}
use Rattle.inode_table.proofs.InodeRules.{stored_word}

words_long : (n : Inode) → length (inode_words n) ≡ 16
unfolding inode_words
words_long n = length-map-range_with_len (word_of_inode n) 0 16

-- ---- a run of the words of inode i, which is stored where it lies

pub span_at : (shape : VolumeShape) (s : Seen) (i : ℕ) (n : Inode) (words : List ℕ) (b p : ℕ) → HasShape shape s → IsIno shape i → b ≡ inode_block i → p ≡ inode_place i → words ≡ inode_words n → IsSpan s b p (length words)
span_at shape s i n words b p h ino block place all = record {
  block = let room = h.sizes.blocks_from in omega (arith, block, h.count, ino.from, ino.to, room);
  within = omega (arith, place, ap length all ∙ words_long n);
}

pub run_at : (f g : BlockWords) (i : ℕ) (n : Inode) (words : List ℕ) (b p : ℕ) → b ≡ inode_block i → p ≡ inode_place i → words ≡ inode_words n → g ≡ put_run f b p (length words) words → g ≡ put_run f (inode_block i) (inode_place i) 16 (inode_words n)
run_at f g i n words b p block place all run = run ∙ (λ t. put_run f (block t) (place t) (length (all t)) (all t)) ∙ ap (λ (m : ℕ). put_run f (inode_block i) (inode_place i) m (inode_words n)) (words_long n)

pub front_at : (f g : BlockWords) (i : ℕ) (n : Inode) (words : List ℕ) (b p : ℕ) → b ≡ inode_block i → p ≡ inode_place i → words ≡ inode_words n → OldOrRun f g b p words (length words) → OldOrRun f g (inode_block i) (inode_place i) (inode_words n) 16
front_at f g i n words b p block place all run = (run.0, subst (λ (m : ℕ). run.0 ≤ m) (ap length all ∙ words_long n) run.1, run.2 ∙ (λ t. put_run f (block t) (place t) run.0 (all t)))

-- ---- for tests

-- the kind of inode 1, whose words begin block 2
pub kind_of_run : (f g : BlockWords) (n : ℕ) (words : List ℕ) → n ≡ 16 → g ≡ put_run f 2 0 n words → slice_index words 0 ≤ 3 → g 2 0 ≤ 3
kind_of_run f g n words all stored few = let is : g 2 0 ≡ slice_index words 0 = ap (λ (k : BlockWords). k 2 0) (stored ∙ ap (λ x. put_run f 2 0 x words) all) ∙ stored_word f 1 0 words (omega arith) in omega (arith, is, few)
