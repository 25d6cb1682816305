-- A volume that is looked at inode by inode.
use Rattle.rio_model.proofs.Common.{ℕ, ◌+◌, ◌<◌, ◌≤◌, refl, sym, subst, arith, inl, inr, cases_eq, inode_block, BlockWords, IsIno, VolumeShape}
use Rattle.rio_base.specs.Blocks.{Looks, Seen}
use Rattle.rio_model.specs.VolumeRules.{IsMapped}
use Rattle.volume_check.specs.Rules.{FailsBy}

-- ---- what a look leaves

pub mapped_on : (shape : VolumeShape) (s t : Seen) → Looks s t → IsMapped shape s.words → IsMapped shape t.words
mapped_on shape s t looks h = subst (λ (f : BlockWords). IsMapped shape f) (sym looks.words) h

-- ---- inode by inode

-- the first k inodes keep this
abbrev pub KeepTo : VolumeShape → (ℕ → Type 0) → ℕ → Type 0
KeepTo shape keeps k = (j : ℕ) → IsIno shape j → j ≤ k → keeps j

pub keep_none : (shape : VolumeShape) (keeps : ℕ → Type 0) → KeepTo shape keeps 0
keep_none shape keeps j ino none = absurd (let from = ino.from in omega (arith, from, none))

pub keep_more : (shape : VolumeShape) (keeps : ℕ → Type 0) (k : ℕ) → KeepTo shape keeps k → keeps (k + 1) → KeepTo shape keeps (k + 1)
keep_more shape keeps k before here j ino to = elim (cases_eq j (k + 1)) [
  | inl last ↦ subst keeps (sym last) here
  | inr other ↦ before j ino (omega (arith, to, other))
]

pub keep_all : (shape : VolumeShape) (keeps : ℕ → Type 0) (k : ℕ) → shape.inodes ≤ k → KeepTo shape keeps k → (i : ℕ) → IsIno shape i → keeps i
keep_all shape keeps k all h i ino = h i ino (let to = ino.to in omega (arith, to, all))

pub next_ino : (shape : VolumeShape) (k : ℕ) → k < shape.inodes → IsIno shape (k + 1)
next_ino shape k small = record { from = omega arith; to = omega (arith, small) }

pub fails_next : (number : ℕ) (shape : VolumeShape) (keeps : ℕ → Type 0) (k : ℕ) → k < shape.inodes → KeepTo shape keeps k → ¬ keeps (k + 1) → FailsBy number shape keeps number (inode_block (k + 1))
fails_next number shape keeps k small before fails = (refl, record { ino = k + 1; is_ino = next_ino shape k small; fails = fails; before = λ j ino less. before j ino (omega (arith, less)); block = refl })
