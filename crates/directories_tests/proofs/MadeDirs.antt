-- Directories without names are made, and one of them is read.
use Rattle.std.proofs.Common.{◌≡◌, ℕ, ◌≤◌, arith, inl, inr, sym, ap, ◌∙◌}
use Rattle.std.proofs.lemmas.Bool.{cases_eq}
use Rattle.rio_base.specs.declared.places.VolumeShape.{VolumeShape}
use Rattle.rio_base.specs.Blocks.{Seen}
use Rattle.rio_base.specs.Layout.{IsIno, inode_kind}
use Rattle.rio_base.specs.Volume.{Kept}
use Rattle.rio_model.specs.Held.{Held, HasEntry, held_of, held_ino}
use Rattle.rio_model.specs.Placed.{volume_layout}
use Rattle.rio_model.specs.VolumeReady.{Ready}
use Rattle.directories.proofs.CanRead.{dir_ino}
use Rattle.test_objects.specs.TestVolumes.{HasNodes}
use Rattle.directories_tests.specs.TestDirs.{DirsReady, IsTestDir}

pub dirs_made : (shape : VolumeShape) (x : Seen) (k : Kept) → Ready shape x k → HasNodes shape x.words 1 9 → DirsReady shape x k
dirs_made shape x k ready nodes = record {
  ready = ready;
  entries = record {
    each = λ d j has. (absurd (none d j has), absurd (none d j has));
  };
  dirs = dir;
  apart = λ i at a b in_a in_b same. absurd (none i a (record { dir = dir i at; within = in_a }));
}
  where
    none : (d j : ℕ) → HasEntry (held_of shape x.words) d j → ⊥
    none d j has = let within = has.within in let empty = nodes.empty d in omega (arith, within, empty)

    dir : (i : ℕ) → IsTestDir i → (held_of shape x.words i).kind ≡ 1
    dir i at = elim (cases_eq i 1) [
      | inl root ↦ ap (λ j. (held_of shape x.words j).kind) root ∙ nodes.root
      | inr other ↦ (let from = at.from in nodes.made i (omega (arith, from, other)) at.to)
    ]

-- ---- the inode of a directory

pub test_ino : (shape : VolumeShape) (x : Seen) (k : Kept) (i : ℕ) → DirsReady shape x k → IsTestDir i → IsIno shape i
test_ino shape x k i h at = dir_ino shape x.words i (h.dirs i at)

pub test_kind : (shape : VolumeShape) (x : Seen) (k : Kept) (i : ℕ) → DirsReady shape x k → IsTestDir i → inode_kind x.words i ≤ 3
test_kind shape x k i h at =
    let is : inode_kind x.words i ≡ 1 = sym (ap (λ (m : Held). m.kind) (held_ino (volume_layout shape x.words) x.words i (test_ino shape x k i h at))) ∙ h.dirs i at in
    omega (arith, is)
