-- Which block is told of a rule on inodes: on a fresh volume of any shape with one or two inodes of no kind that there is, that of the
-- lesser one.
use Rattle.rio_model.proofs.Common.{BlockWords, IsIno, VolumeShape, ap, arith, bit_at, cases_eq, cond, inl, inode_block, inr, put, refl, subst, sym, used_bit, ℕ, ◌%◌, ◌+◌, ◌/◌, ◌<◌, ◌==◌, ◌∙◌, ◌≡◌, ◌≢◌, ◌≤◌}
use Rattle.rio_base.specs.Bitmap.{bitmap_block}
use Rattle.rio_base.specs.Layout.{HasSuperblock, inode_kind, inode_place}
use Rattle.rio_base.specs.Shapes.{IsServed, more_bitmap}
use Rattle.rio_model.specs.Fresh.{IsFreshVolume}
use Rattle.rio_model.specs.Placed.{volume_layout}
use Rattle.rio_model.specs.VolumeFails.{FailsVolume}
use Rattle.rio_model.specs.VolumeRules.{IsMapped, bitmap_bits, KindAt}
use Rattle.rio_model.proofs.FreshPair.{FailsOnly}
use Rattle.rio_model.proofs.FreshReads.{fresh_reads}
use Rattle.rio_model.proofs.PlacedRules.{cases_lt, reserved_same}
use Rattle.rio_model.proofs.VolumeFailRules.{one_fails}
use Rattle.rio_model.proofs.WordRules.{put_beside, put_here, put_other}

-- the kind of inode i is another
abbrev pub with_kind : BlockWords → ℕ → ℕ → BlockWords
with_kind f i v = put f (inode_block i) (inode_place i + 0) v

kind_here : (f : BlockWords) (i v : ℕ) → inode_kind (with_kind f i v) i ≡ v
kind_here f i v = put_here f (inode_block i) (inode_place i + 0) v

kind_other : (f : BlockWords) (i v j : ℕ) → 1 ≤ i → 1 ≤ j → j ≢ i → inode_kind (with_kind f i v) j ≡ inode_kind f j
kind_other f i v j some one away = elim (cases_eq (inode_block j) (inode_block i)) [
  | inl same ↦ put_beside f (inode_block i) (inode_place i + 0) v (inode_block j) (inode_place j + 0) (λ e. away (omega (arith, some, one, same, e)))
  | inr apart ↦ put_other f (inode_block i) (inode_place i + 0) v (inode_block j) (inode_place j + 0) apart
]

-- ---- the rules 1 and 2

-- the superblock and the marks are as they were
record SameTop (shape : VolumeShape) (f g : BlockWords) : Type 0 where
  superblock : HasSuperblock f shape → HasSuperblock g shape
  bits : (b : ℕ) → b < bitmap_bits shape → used_bit shape g b ≡ used_bit shape f b

no_more : (shape : VolumeShape) → IsServed shape → more_bitmap shape ≡ 0
unfolding more_bitmap
no_more shape served = ap (λ v. cond (v == 2) 7 0) served.version

bits_at : (shape : VolumeShape) (b : ℕ) → IsServed shape → b < bitmap_bits shape → bitmap_block shape b ≡ 1
unfolding bitmap_block
bits_at shape b served within = elim (cases_lt b 32768) [
  | inl few ↦ ap (λ t. cond t 1 (1 + shape.inodes / 32 + b / 32768)) few.1
  | inr many ↦ absurd (let past = many.0 in let one = no_more shape served in omega (arith, within, past, one))
]

kind_top : (shape : VolumeShape) (f : BlockWords) (i v : ℕ) → IsServed shape → SameTop shape f (with_kind f i v)
kind_top shape f i v served = record {
  superblock = λ h. record { magic = word 0 ∙ h.magic; version = word 1 ∙ h.version; blocks = word 2 ∙ h.blocks; inodes = word 3 ∙ h.inodes };
  bits = λ b within. ap (λ x. bit_at x (b % 64)) (put_other f (inode_block i) (inode_place i + 0) v (bitmap_block shape b) (b % 32768 / 64) (λ e. let at = bits_at shape b served within in omega (arith, e, at)));
}
  where
    word : (w : ℕ) → with_kind f i v 0 w ≡ f 0 w
    word w = put_other f (inode_block i) (inode_place i + 0) v 0 w (λ e. omega (arith, e))

-- ---- rule 3

kind_fails : (shape : VolumeShape) (f g : BlockWords) (i : ℕ) → IsServed shape → IsFreshVolume shape f → SameTop shape f g → IsIno shape i → 3 < inode_kind g i → ((j : ℕ) → 1 ≤ j → j < i → inode_kind g j ≡ inode_kind f j) → FailsOnly g shape.blocks 3 (inode_block i)
kind_fails shape f g i served h top ino unknown same = (fails, λ q c other. one_fails g shape.blocks q 3 c (inode_block i) other fails)
  where
    mapped : IsMapped shape f
    mapped = (fresh_reads shape f 0 0 h).mapped

    kept : (j : ℕ) → IsIno shape j → j < i → KindAt (volume_layout shape g) j
    kept j at less = let before = mapped.laid.kinds.each j at in let is = same j at.from less in (subst (λ k. k ≤ 3) (sym is) before.0, λ e. is ∙ before.1 e)

    fails : FailsVolume g shape.blocks 3 (inode_block i)
    fails = inr (
      shape,
      record { served = served; words = top.superblock h.superblock.words; blocks = refl },
      inr (
        reserved_same shape f g served.sizes top.bits mapped.reserved_marked,
        inl (refl, record { ino = i; is_ino = ino; fails = λ keeps. let known : inode_kind g i ≤ 3 = keeps.0 in omega (arith, known, unknown); before = kept; block = refl }),
      ),
    )

-- one inode is of no kind that there is
pub unknown_kind : (shape : VolumeShape) (f : BlockWords) (i v : ℕ) → IsServed shape → IsFreshVolume shape f → IsIno shape i → 3 < v → FailsOnly (with_kind f i v) shape.blocks 3 (inode_block i)
unknown_kind shape f i v served h ino unknown = kind_fails shape f (with_kind f i v) i served h (kind_top shape f i v served) ino (subst (λ k. 3 < k) (sym (kind_here f i v)) unknown) (λ j some less. kind_other f i v j ino.from some (λ e. omega (arith, e, less)))

-- two inodes are
pub two_unknown_kinds : (shape : VolumeShape) (f : BlockWords) (i j v w : ℕ) → IsServed shape → IsFreshVolume shape f → IsIno shape i → i < j → 3 < v → FailsOnly (with_kind (with_kind f i v) j w) shape.blocks 3 (inode_block i)
two_unknown_kinds shape f i j v w served h ino less unknown = kind_fails shape f (with_kind g j w) i served h top ino (subst (λ k. 3 < k) (sym (kind_other g j w i (omega (arith, less)) ino.from (λ e. omega (arith, e, less)) ∙ kind_here f i v)) unknown)
    (λ x some lesser. kind_other g j w x (omega (arith, less)) some (λ e. omega (arith, e, less, lesser)) ∙ kind_other f i v x ino.from some (λ e. omega (arith, e, lesser)))
  where
    g : BlockWords
    g = with_kind f i v

    one : SameTop shape f g
    one = kind_top shape f i v served

    other : SameTop shape g (with_kind g j w)
    other = kind_top shape g j w served

    top : SameTop shape f (with_kind g j w)
    top = record { superblock = λ s. other.superblock (one.superblock s); bits = λ b within. other.bits b within ∙ one.bits b within }
