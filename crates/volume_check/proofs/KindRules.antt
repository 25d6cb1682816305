-- Rules 3 and 4 of an inode as it is held.
use Rattle.volume_check.proofs.Common.{arith, inl, inr, refl, subst, sym, ℕ, ◌+◌, ◌-◌, ◌<◌, ◌∙◌, ◌≡◌, ◌≤◌, None, Option, Some, IsIno, Ino, Seen, VolumeShape, inode_block}
use Rattle.rio_model.specs.VolumeFails.{FailsFirst}
use Rattle.rio_model.specs.VolumeRules.{KindRule, SizeFits, SizeRule, KindAt, SizeAt}
use Rattle.volume_check.specs.declared.failures.CheckFail.{CheckFail}
use Rattle.volume_check.specs.declared.failures.CheckFail.TheVariants.{BadVolume}
use Rattle.volume_check.specs.Looking.{Refuses}
use Rattle.volume_check.specs.InodeRules.{Finds, KeepsKind, KeepsSize}
use Rattle.volume_check.specs.Rules.{FailsInodes}
use Rattle.volume_check.specs.Inodes.{HasInodes, layout_of, said}
use Rattle.volume_check.specs.declared.inodes.Inodes.{Inodes}
use Rattle.volume_check.proofs.Counts.{kind_said, size_said}

-- ---- what an inode says and what is held of it

pub kind_from : (s : Seen) (n : Inodes) → HasInodes s n → (i : ℕ) → IsIno n.shape i → KeepsKind n i → KindAt (layout_of s n) i
kind_from s n h i ino k = let e = kind_said s n i h ino in (subst (λ x. x ≤ 3) e k.0, λ root. sym e ∙ k.1 root)

pub kind_to : (s : Seen) (n : Inodes) → HasInodes s n → (i : ℕ) → IsIno n.shape i → KindAt (layout_of s n) i → KeepsKind n i
kind_to s n h i ino k = let e = kind_said s n i h ino in (subst (λ x. x ≤ 3) (sym e) k.0, λ root. e ∙ k.1 root)

pub size_from : (s : Seen) (n : Inodes) → HasInodes s n → (i : ℕ) → IsIno n.shape i → KeepsSize n i → SizeAt (layout_of s n) i
size_from s n h i ino k used =
    let kind = kind_said s n i h ino in
    let size = size_said s n i h ino in
    subst (λ x. SizeFits x ((layout_of s n).node i).size) kind (subst (λ x. SizeFits (said n i 0) x) size (k (omega (arith, kind, used))))

pub size_to : (s : Seen) (n : Inodes) → HasInodes s n → (i : ℕ) → IsIno n.shape i → SizeAt (layout_of s n) i → KeepsSize n i
size_to s n h i ino k used =
    let kind = kind_said s n i h ino in
    let size = size_said s n i h ino in
    subst (λ x. SizeFits x (said n i 1)) (sym kind) (subst (λ x. SizeFits ((layout_of s n).node i).kind x) (sym size) (k (omega (arith, kind, used))))

-- ---- an inode that breaks a rule, or none

pub none_found : (shape : VolumeShape) (keeps : ℕ → Type 0) → ((k : ℕ) → k < shape.inodes → keeps (k + 1)) → Finds shape keeps None
none_found shape keeps all = λ i ino.
    let from = ino.from in
    let to = ino.to in
    let e : (i - 1) + 1 ≡ i = omega (arith, from) in
    subst keeps e (all (i - 1) (omega (arith, from, to)))

pub one_found : (shape : VolumeShape) (keeps : ℕ → Type 0) (i : Ino) (k : ℕ) → i.0 ≡ k + 1 → k < shape.inodes → ((j : ℕ) → j < k → keeps (j + 1)) → ¬ keeps i.0 → Finds shape keeps (Some i)
one_found shape keeps i k is within before breaks = (
  record { from = (omega (arith, is)); to = (omega (arith, is, within)) },
  breaks,
  λ j ino less.
      let from = ino.from in
      let e : (j - 1) + 1 ≡ j = omega (arith, from) in
      subst keeps e (before (j - 1) (omega (arith, from, less, is))),
)

pub first_of : (shape : VolumeShape) (keeps : ℕ → Type 0) (i : Ino) (b : ℕ) → b ≡ inode_block i.0 → Finds shape keeps (Some i) → FailsFirst shape keeps b
first_of shape keeps i b is h = record { ino = i.0; is_ino = h.0; fails = h.1; before = h.2; block = is }

-- ---- the rules

finds_as : (shape : VolumeShape) (keeps holds : ℕ → Type 0) (r : Option Ino) → ((i : ℕ) → IsIno shape i → keeps i → holds i) → ((i : ℕ) → IsIno shape i → holds i → keeps i) → Finds shape keeps r → Finds shape holds r
finds_as shape keeps holds None on back h = λ i ino. on i ino (h i ino)
finds_as shape keeps holds (Some i) on back h = (h.0, λ k. h.1 (back i.0 h.0 k), λ j ino less. on j ino (h.2 j ino less))

pub kinds_keep : (s : Seen) (n : Inodes) → HasInodes s n → Finds n.shape (KeepsKind n) None → KindRule (layout_of s n)
kinds_keep s n h all = record { each = finds_as n.shape (KeepsKind n) (KindAt (layout_of s n)) None (kind_from s n h) (kind_to s n h) all }

pub sizes_keep : (s : Seen) (n : Inodes) → HasInodes s n → Finds n.shape (KeepsSize n) None → SizeRule (layout_of s n)
sizes_keep s n h all = record { each = finds_as n.shape (KeepsSize n) (SizeAt (layout_of s n)) None (size_from s n h) (size_to s n h) all }

pub kind_breaks : (s : Seen) (n : Inodes) (i : Ino) (fail : CheckFail) → HasInodes s n → Finds n.shape (KeepsKind n) (Some i) → fail ≡ BadVolume 3 (record { 0 = inode_block i.0 }) → Refuses (FailsInodes (layout_of s n)) fail
kind_breaks s n i fail h first is = subst (λ (x : CheckFail). Refuses (FailsInodes (layout_of s n)) x) (sym is) (inl (refl, first_of n.shape (KindAt (layout_of s n)) i (inode_block i.0) refl (finds_as n.shape (KeepsKind n) (KindAt (layout_of s n)) (Some i) (kind_from s n h) (kind_to s n h) first)))

pub size_breaks : (s : Seen) (n : Inodes) (i : Ino) (fail : CheckFail) → HasInodes s n → Finds n.shape (KeepsKind n) None → Finds n.shape (KeepsSize n) (Some i) → fail ≡ BadVolume 4 (record { 0 = inode_block i.0 }) → Refuses (FailsInodes (layout_of s n)) fail
size_breaks s n i fail h kinds first is = subst (λ (x : CheckFail). Refuses (FailsInodes (layout_of s n)) x) (sym is) (inr (kinds_keep s n h kinds, refl, first_of n.shape (SizeAt (layout_of s n)) i (inode_block i.0) refl (finds_as n.shape (KeepsSize n) (SizeAt (layout_of s n)) (Some i) (size_from s n h) (size_to s n h) first)))
