-- The words of a fresh volume make one, and so is whatever reads as it.
use Rattle.std.proofs.Common.{◌≡◌, ◌≢◌, ℕ, ◌+◌, ◌-◌, ◌*◌, ◌/◌, ◌%◌, ◌<◌, ◌≤◌, ◌==◌, ◌⊎◌, Bool, true, false, cond, List, length, refl, ap, subst, ◌∙◌, arith, inl, inr, eqb-true}
use Rattle.std.specs.Prelude.{nat_lt, if◌then◌else◌, slice_index}
use Rattle.std.specs.Int.{bit_at}
use Rattle.std.proofs.lemmas.Bool.{cases_eq}
use Rattle.std.proofs.lemmas.Bool.Decides.{nat_tests}
use Rattle.std.proofs.lemmas.List.FromFn.{get_or-map-range_with_len, length-map-range_with_len}
use Rattle.rio_base.specs.declared.places.VolumeShape.{VolumeShape}
use Rattle.rio_base.specs.Bitmap.{bitmap_block, used_bit}
use Rattle.rio_base.proofs.Bitmap.{first_bitmap}
use Rattle.rio_base.specs.Blocks.{BlockWords}
use Rattle.rio_base.specs.Layout.{HasSuperblock, inode_block, inode_place}
use Rattle.rio_base.specs.Rules.{true_false}
use Rattle.rio_base.specs.Shapes.{IsServed, more_bitmap, reserved}
use Rattle.rio_model.specs.Fresh.{IsFreshVolume}
use Rattle.rio_model.specs.VolumeRules.{bitmap_bits}
use Rattle.rio_model.proofs.WordRules.{differs}
use Rattle.image_codec.specs.Volume.{block_words, fresh_volume_word, fresh_volume_words}

-- ---- the words of a fresh volume

pub volume_long : (words : List ℕ) (blocks inodes : ℕ) → words ≡ fresh_volume_words blocks inodes → length words ≡ 512 * blocks
volume_long words blocks inodes is = ap (λ (l : List ℕ). length l) is ∙ length-map-range_with_len (λ i. fresh_volume_word blocks inodes (i / 512) (i % 512)) 0 (512 * blocks)

word_is : (words : List ℕ) (blocks inodes b w : ℕ) → words ≡ fresh_volume_words blocks inodes → b < blocks → w < 512 → block_words words b w ≡ fresh_volume_word blocks inodes b w
word_is words blocks inodes b w is within small =
    ap (λ (l : List ℕ). slice_index l (512 * b + w)) is
    ∙ get_or-map-range_with_len (λ i. fresh_volume_word blocks inodes (i / 512) (i % 512)) 0 (512 * blocks) (512 * b + w) (512 * b + w) 0 (omega (arith, within, small)) (omega arith)
    ∙ ap (λ c. fresh_volume_word blocks inodes c ((512 * b + w) % 512)) (own b w small) ∙ ap (fresh_volume_word blocks inodes b) (place b w small)
  where
    own : (b w : ℕ) → w < 512 → (512 * b + w) / 512 ≡ b
    own b w small = omega (arith, small)

    place : (b w : ℕ) → w < 512 → (512 * b + w) % 512 ≡ w
    place b w small = omega (arith, small)

past_both : (a b c : Bool) (p q r : ℕ) → a ≡ false → b ≡ false → (c ≡ true → r ≡ 0) → cond a p (cond b q (cond c r 0)) ≡ 0
past_both true b c p q r ea eb zero = absurd (true_false ea)
past_both false true c p q r ea eb zero = absurd (true_false eb)
past_both false false true p q r ea eb zero = zero refl
past_both false false false p q r ea eb zero = refl

-- word w of the block of the root
abbrev root_word : ℕ → ℕ
root_word w = if w == 0 then 1 else 0

-- no word of an inode but the first of the root is set
zero_word : (blocks inodes b w : ℕ) → 2 ≤ b → (b ≢ 2) ⊎ (w ≢ 0) → fresh_volume_word blocks inodes b w ≡ 0
zero_word blocks inodes b w from out = past_both (b == 0) (b == 1) (b == 2) _ _ (root_word w) (differs b 0 (λ e. omega (arith, from, e))) (differs b 1 (λ e. omega (arith, from, e))) (λ e. third out (eqb-true b 2 e))
  where
    third : (b ≢ 2) ⊎ (w ≢ 0) → b ≡ 2 → root_word w ≡ 0
    third (inl away) two = absurd (away two)
    third (inr off) two = ap (λ t. if t then 1 else 0) (differs w 0 off)

first_only : (i : ℕ) → 1 < i → (inode_block i ≢ 2) ⊎ (inode_place i + 0 ≢ 0)
first_only i past = elim (cases_eq ((i - 1) / 32) 0) [
  | inl first ↦ inr (λ e. omega (arith, e, first, past))
  | inr later ↦ inl (λ e. omega (arith, e, later))
]

-- ---- sizes

first_reserved : (shape : VolumeShape) → IsServed shape → reserved shape ≡ 2 + shape.inodes / 32
unfolding more_bitmap
first_reserved shape h = ap (λ v. 2 + shape.inodes / 32 + cond (v == 2) 7 0) h.version ∙ none
  where
    none : 2 + shape.inodes / 32 + 0 ≡ 2 + shape.inodes / 32
    none = omega arith

first_bits : (shape : VolumeShape) → IsServed shape → bitmap_bits shape ≡ 32768
unfolding more_bitmap
first_bits shape h = ap (λ v. 32768 * (1 + cond (v == 2) 7 0)) h.version

reserved_low : (shape : VolumeShape) (b : ℕ) → IsServed shape → b < reserved shape → b < 32768
reserved_low shape b h low = let few = first_reserved shape h in let from = h.sizes.blocks_from in let to = h.sizes.blocks_to in omega (arith, low, few, from, to)

bits_low : (shape : VolumeShape) (b : ℕ) → IsServed shape → b < bitmap_bits shape → b < 32768
bits_low shape b h within = subst (λ n. b < n) (first_bits shape h) within

-- the block of an inode is one of the volume's
inode_within : (shape : VolumeShape) (i : ℕ) → IsServed shape → i ≤ shape.inodes → inode_block i < shape.blocks
inode_within shape i h within = let from = h.sizes.blocks_from in let whole = h.sizes.inode_blocks in let least = h.sizes.inodes_from in omega (arith, within, from, whole, least)

inode_small : (i : ℕ) → inode_place i + 0 < 512
inode_small i = omega arith

low_within : (shape : VolumeShape) (b : ℕ) → IsServed shape → b ≤ 2 → b < shape.blocks
low_within shape b h low = let from = h.sizes.blocks_from in omega (arith, low, from)

-- ---- what these words are

-- the bit of block b where the first n are used
abbrev bit_of : ℕ → ℕ → ℕ
bit_of b n = if nat_lt b n then 1 else 0

bit_low : (b n : ℕ) → b < n → bit_of b n ≡ 1
bit_low b n less = grind (arith, nat_tests, less)

bit_high : (b n : ℕ) → n ≤ b → bit_of b n ≡ 0
bit_high b n more = grind (arith, nat_tests, more)

abbrev pub AreMarked : VolumeShape → BlockWords → Type 0
AreMarked shape f = (b : ℕ) → b < 32768 → used_bit shape f b ≡ bit_of b (reserved shape)

pub volume_is : (shape : VolumeShape) (words : List ℕ) → IsServed shape → words ≡ fresh_volume_words shape.blocks shape.inodes → HasSuperblock (block_words words) shape → AreMarked shape (block_words words) → IsFreshVolume shape (block_words words)
volume_is shape words h is superblock marked = record {
  superblock = record { sizes = h.sizes; words = superblock };
  low = λ b low. marked b (reserved_low shape b h low) ∙ bit_low b (reserved shape) low;
  high = λ b past within. marked b (bits_low shape b h within) ∙ bit_high b (reserved shape) past;
  root_kind = word_is words shape.blocks shape.inodes 2 0 is (low_within shape 2 h (omega arith)) (omega arith);
  root_size = word_is words shape.blocks shape.inodes 2 1 is (low_within shape 2 h (omega arith)) (omega arith);
  others = λ i past within. word_is words shape.blocks shape.inodes (inode_block i) (inode_place i + 0) is (inode_within shape i h within) (inode_small i) ∙ zero_word shape.blocks shape.inodes (inode_block i) (inode_place i + 0) (omega arith) (first_only i past);
}

-- a fresh volume is known by the words of its blocks
pub volume_same : (shape : VolumeShape) (f g : BlockWords) → IsServed shape → ((b w : ℕ) → b < shape.blocks → w < 512 → g b w ≡ f b w) → IsFreshVolume shape f → IsFreshVolume shape g
volume_same shape f g h same v = record {
  superblock = record {
    sizes = h.sizes;
    words = record {
      magic = front 0 (omega arith) ∙ v.superblock.words.magic;
      version = front 1 (omega arith) ∙ v.superblock.words.version;
      blocks = front 2 (omega arith) ∙ v.superblock.words.blocks;
      inodes = front 3 (omega arith) ∙ v.superblock.words.inodes;
    };
  };
  low = λ b low. bit b (reserved_low shape b h low) ∙ v.low b low;
  high = λ b past within. bit b (bits_low shape b h within) ∙ v.high b past within;
  root_kind = same 2 0 (low_within shape 2 h (omega arith)) (omega arith) ∙ v.root_kind;
  root_size = same 2 1 (low_within shape 2 h (omega arith)) (omega arith) ∙ v.root_size;
  others = λ i past within. same (inode_block i) (inode_place i + 0) (inode_within shape i h within) (inode_small i) ∙ v.others i past within;
}
  where
    front : (w : ℕ) → w < 512 → g 0 w ≡ f 0 w
    front w small = same 0 w (low_within shape 0 h (omega arith)) small

    bit : (b : ℕ) → b < 32768 → used_bit shape g b ≡ used_bit shape f b
    bit b first =
        let one : bitmap_block shape b ≡ 1 = first_bitmap shape b first in
        ap (λ x. bit_at x (b % 64)) (same (bitmap_block shape b) (b % 32768 / 64) (low_within shape (bitmap_block shape b) h (omega (arith, one))) (omega arith))
