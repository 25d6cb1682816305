-- Inodes that are used, and those that are free.
use Rattle.request_ends.proofs.Common.{◌≡◌, ◌≢◌, ℕ, ◌<◌, ◌⊎◌, false, refl, ap, ◌∙◌, arith, inl, inr, get, cases_eq, VolumeShape, BlockWords, IsIno, inode_kind, State, held_of, reads_dir, reads_file, reads_region, ReadsAs, IsMapped}
use Rattle.std.specs.Prelude.{is_none}
use Rattle.region_view.proofs.UsedInodes.{kind_held}
use Rattle.rio_model.proofs.PlacedRules.{root_ino}

-- a used inode is a node of the state
pub used_node : (shape : VolumeShape) (f : BlockWords) (s : State) (i : ℕ) → ReadsAs shape f s → IsIno shape i → 0 < inode_kind f i → is_none (get s.nodes i) ≡ false
used_node shape f s i reads ino used = by (cases_eq (held_of shape f i).kind 1) (cases_eq (held_of shape f i).kind 2)
  where
    by : ((held_of shape f i).kind ≡ 1) ⊎ ((held_of shape f i).kind ≢ 1) → ((held_of shape f i).kind ≡ 2) ⊎ ((held_of shape f i).kind ≢ 2) → is_none (get s.nodes i) ≡ false
    by (inl dir) _ = ap is_none (reads.reads.nodes i ∙ reads_dir (held_of shape f i) dir)
    by (inr no_dir) (inl file) = ap is_none (reads.reads.nodes i ∙ reads_file (held_of shape f i) file)
    by (inr no_dir) (inr no_file) =
        let few = (reads.mapped.laid.kinds.each i ino).0 in
        let same = kind_held shape f i ino in
        ap is_none (reads.reads.nodes i ∙ reads_region (held_of shape f i) (omega (arith, few, same, used, no_dir, no_file)))

pub free_held : (shape : VolumeShape) (f : BlockWords) (i : ℕ) → IsIno shape i → inode_kind f i ≡ 0 → (held_of shape f i).kind ≡ 0
free_held shape f i ino free = kind_held shape f i ino ∙ free

-- the root is a directory
pub root_held : (shape : VolumeShape) (f : BlockWords) → IsMapped shape f → (held_of shape f 1).kind ≡ 1
root_held shape f mapped = kind_held shape f 1 (root_ino shape mapped.laid.shape_fits) ∙ (mapped.laid.kinds.each 1 (root_ino shape mapped.laid.shape_fits)).1 refl
