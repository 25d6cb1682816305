-- Rule 1 by the first words of the superblock.
use Rattle.volume_check.proofs.Common.{List, ap, arith, inl, sym, slice_index, ℕ, ◌%◌, ◌+◌, ◌/◌, ◌<◌, ◌∙◌, ◌≡◌, ◌≤◌, BlockWords, IsRun, IsServed, VolumeShape}
use Rattle.rio_base.specs.Layout.{volume_magic}
use Rattle.rio_model.specs.VolumeFails.{SaysShape}

-- word k of the superblock
word_at : (f : BlockWords) (words : List ℕ) (k : ℕ) → IsRun f 0 0 4 words → k < 4 → slice_index words k ≡ f 0 k
word_at f words k run few = let e : 0 + k ≡ k = omega arith in run.each k few ∙ ap (f 0) e

-- what a shape that is said says of the words
pub says_magic : (f : BlockWords) (words : List ℕ) (count : ℕ) (shape : VolumeShape) → IsRun f 0 0 4 words → SaysShape f count shape → slice_index words 0 ≡ volume_magic
says_magic f words count shape run says = word_at f words 0 run (omega arith) ∙ says.words.magic

pub says_version : (f : BlockWords) (words : List ℕ) (count : ℕ) (shape : VolumeShape) → IsRun f 0 0 4 words → SaysShape f count shape → slice_index words 1 ≡ 1
says_version f words count shape run says = word_at f words 1 run (omega arith) ∙ says.words.version ∙ says.served.version

pub says_blocks : (f : BlockWords) (words : List ℕ) (count : ℕ) (shape : VolumeShape) → IsRun f 0 0 4 words → SaysShape f count shape → slice_index words 2 ≡ count
says_blocks f words count shape run says = word_at f words 2 run (omega arith) ∙ says.words.blocks ∙ sym says.blocks

pub says_inodes : (f : BlockWords) (words : List ℕ) (count : ℕ) (shape : VolumeShape) → IsRun f 0 0 4 words → SaysShape f count shape → shape.inodes ≡ slice_index words 3
says_inodes f words count shape run says = sym (word_at f words 3 run (omega arith) ∙ says.words.inodes)

-- and a shape that the words say
pub says_shape : (f : BlockWords) (words : List ℕ) (count : ℕ) (shape : VolumeShape) → IsRun f 0 0 4 words → slice_index words 0 ≡ volume_magic → slice_index words 1 ≡ 1 → slice_index words 2 ≡ count → IsServed shape → shape.inodes ≡ slice_index words 3 → shape.blocks ≡ count → SaysShape f count shape
says_shape f words count shape run magic version blocks served inodes all = record {
  served = served;
  words = record {
    magic = sym (word_at f words 0 run (omega arith)) ∙ magic;
    version = sym (word_at f words 1 run (omega arith)) ∙ version ∙ sym served.version;
    blocks = sym (word_at f words 2 run (omega arith)) ∙ blocks ∙ sym all;
    inodes = sym (word_at f words 3 run (omega arith)) ∙ sym inodes;
  };
  blocks = sym all;
}

-- a disk of fewer or more blocks than a volume has says none
pub few_say_none : (f : BlockWords) (count : ℕ) → count < 4 → (shape : VolumeShape) → SaysShape f count shape → ⊥
few_say_none f count few shape says =
    let same = says.blocks in
    let from = says.served.sizes.blocks_from in
    let inodes = says.served.sizes.inodes_from in
    omega (arith, few, same, from, inodes)

pub many_say_none : (f : BlockWords) (count : ℕ) → 32768 < count → (shape : VolumeShape) → SaysShape f count shape → ⊥
many_say_none f count many shape says =
    let same = says.blocks in
    let to = says.served.sizes.blocks_to in
    omega (arith, many, same, to)

-- the shape of version 1
pub is_served : (shape : VolumeShape) → shape.version ≡ 1 → 0 < shape.inodes → shape.inodes ≤ 32768 → shape.inodes % 32 ≡ 0 → 3 + shape.inodes / 32 ≤ shape.blocks → shape.blocks ≤ 32768 → IsServed shape
is_served shape one some most whole from to = record {
  version = one;
  sizes = record {
    version = inl one;
    inodes_from = least shape.inodes some whole;
    inodes_to = most;
    inode_blocks = whole;
    blocks_from = from;
    blocks_second = λ two. absurd (let e = sym one ∙ two in omega (arith, e));
    blocks_to = to;
  };
}
  where
    least : (n : ℕ) → 0 < n → n % 32 ≡ 0 → 32 ≤ n
    least n some whole = omega (arith, some, whole)
