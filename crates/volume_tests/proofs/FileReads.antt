-- The volume with one file keeps every rule, and reads as the state with that file.
use Rattle.rio_model.proofs.Common.{BlockWords, List, [], Some, ap, arith, cases_eq, cond, get, inl, inr, length, nat_lt, refl, subst, sym, used_bit, ℕ, ◌%◌, ◌*◌, ◌+◌, ◌/◌, ◌<◌, ◌∙◌, ◌∷◌, ◌≡◌, ◌≢◌, ◌≤◌, ◌⊎◌}
use Rattle.std.specs.Prelude.{◌^◌, codes}
use Rattle.std.proofs.lemmas.List.FromFn.{length-map-range_with_len}
use Rattle.rio_base.specs.Layout.{HasSuperblock, half, inode_size}
use Rattle.rio_model.specs.Held.{HasEntry, byte_in, byte_of, bytes_in, entry_ino, entry_name, held_bytes, held_of}
use Rattle.rio_model.specs.Paths.{IsName}
use Rattle.rio_model.specs.Placed.{Owned}
use Rattle.rio_model.specs.VolumeReads.{Reads, ReadsAs, node_in}
use Rattle.rio_model.specs.VolumeRules.{EntryRule, IsLaid, IsMapped, RegionRule, bitmap_bits}
use Rattle.rio_model.proofs.VolumeReadRules.{reads_dir, reads_file, reads_none}
use Rattle.volume_tests.proofs.FileState.{file_is, file_state, file_tree, name_is, name_only, no_more, root_is}
use Rattle.volume_tests.proofs.FileVolume.{HasFile, file_layout, file_shape, held_kind, held_none, names_apart, root_held_size, root_next, root_word}
use Rattle.volume_tests.proofs.SmallHeld.{letter_is_name}
use Rattle.volume_tests.proofs.SmallVolumes.{Fits, HasTwo, InOrder, IsSmall, small_laid, small_mapped, small_owned}

-- ---- the volume

-- besides, the superblock says the shape, and the blocks 0 to 5 are marked, and no other
pub record IsFileVolume (f : BlockWords) : Type 0 where
  pub file : HasFile f
  pub superblock : HasSuperblock f file_shape
  pub marked : (b : ℕ) → b < 6 → used_bit file_shape f b ≡ 1
  pub unmarked : (b : ℕ) → 6 ≤ b → b < bitmap_bits file_shape → used_bit file_shape f b ≡ 0

-- ---- the rules 1 to 7, as of a small volume

pub file_two : (f : BlockWords) → HasFile f → HasTwo f 64 2 5000
file_two f h = record { root_kind = h.root_kind; root_size = h.root_size; kind = h.kind; size = h.size; others = λ i from to. inl (h.others i from to) }

pub file_order : (f : BlockWords) → HasFile f → InOrder f 5000
unfolding half
file_order f h = record { root = ap (λ w. w % 2 ^ 32) h.root_page; each = λ p within. by p within (cases_eq p 0) }
  where
    by : (p : ℕ) → p < 2 → (p ≡ 0) ⊎ (p ≢ 0) → half (f 2 (16 + (2 + p / 2))) p ≡ 4 + p
    by p within (inl e) = subst (λ x. half (f 2 (16 + (2 + x / 2))) x ≡ 4 + x) (sym e) (ap (λ w. w % 2 ^ 32) h.numbers)
    by p within (inr off) = subst (λ x. half (f 2 (16 + (2 + x / 2))) x ≡ 4 + x) (let second : 1 ≡ p = omega (arith, within, off) in second) (ap (λ w. w / 2 ^ 32 % 2 ^ 32) h.numbers)

-- with so many bytes in the root
pub file_fits : (root : ℕ) → 0 < root → root ≤ 4096 → root % 64 ≡ 0 → Fits root 2 5000
file_fits root some small whole = record {
  some = some;
  one_page = small;
  whole = whole;
  known = inl refl;
  sized = record { most = omega arith; directory = λ e. absurd (omega (arith, e)); region = λ e. absurd (omega (arith, e)); region_pages = λ e. absurd (omega (arith, e)) };
  room = omega arith;
}

pub one_row : Fits 64 2 5000
one_row = file_fits 64 (omega arith) (omega arith) refl

pub file_small : (f : BlockWords) → IsFileVolume f → IsSmall f 64 2 5000
file_small f h = record { superblock = h.superblock; two = file_two f h.file; order = file_order f h.file; marked = h.marked; unmarked = h.unmarked }

-- a block that counts is 3, 4 or 5
pub counts_within : (f : BlockWords) (b : ℕ) → HasFile f → Owned (file_layout f) b → (3 ≤ b) × (b < 6)
counts_within f b h own = small_owned f 64 2 5000 b (file_two f h) (file_order f h) one_row own

pub file_laid : (f : BlockWords) → HasFile f → IsLaid (file_layout f)
file_laid f h = small_laid f 64 2 5000 (file_two f h) (file_order f h) one_row

pub file_mapped : (f : BlockWords) → IsFileVolume f → IsMapped file_shape f
file_mapped f h = small_mapped f 64 2 5000 (file_small f h) one_row

-- ---- the rules 8 and 11

-- the one entry
entry_only : (f : BlockWords) (d j : ℕ) → HasFile f → HasEntry (held_of file_shape f) d j → (d ≡ 1) × (j ≡ 0)
entry_only f d j h has =
    let dir = held_kind f d h has.dir in
    let few : 64 * j < 64 = subst (λ z. 64 * j < z) (ap (λ x. (held_of file_shape f x).size) dir ∙ root_held_size f h) has.within in
    (dir, omega (arith, few))

has_entry : (f : BlockWords) → HasFile f → HasEntry (held_of file_shape f) 1 0
has_entry f h = record { dir = h.root_kind; within = subst (λ z. 64 * 0 < z) (sym (root_held_size f h)) (omega arith) }

first_name : (f : BlockWords) → HasFile f → entry_name (held_of file_shape f 1) 0 ≡ codes "f"
unfolding byte_of
first_name f h = ap (λ w. bytes_in (held_of file_shape f 1).word 8 (w / 2 ^ 32 % 2 ^ 8)) (root_word f h ∙ h.row) ∙ ap (λ w. byte_of w 0 ∷ []) (root_next f h ∙ h.name)

entry_named : (f : BlockWords) (d j : ℕ) → HasFile f → HasEntry (held_of file_shape f) d j → entry_name (held_of file_shape f d) j ≡ codes "f"
entry_named f d j h has = let at = entry_only f d j h has in ap (λ x. entry_name (held_of file_shape f x) j) at.0 ∙ ap (entry_name (held_of file_shape f 1)) at.1 ∙ first_name f h

entry_to : (f : BlockWords) (d j : ℕ) → HasFile f → HasEntry (held_of file_shape f) d j → entry_ino (held_of file_shape f d) j ≡ 2
entry_to f d j h has = let at = entry_only f d j h has in ap (λ x. entry_ino (held_of file_shape f x) j) at.0 ∙ ap (entry_ino (held_of file_shape f 1)) at.1 ∙ ap (λ w. w % 2 ^ 32) (root_word f h ∙ h.row)

file_entries : (f : BlockWords) → HasFile f → EntryRule (held_of file_shape f)
file_entries f h = record {
  each = λ d j has. (subst IsName (sym (entry_named f d j h has)) (letter_is_name 102 (omega arith) (omega arith)), subst (λ i. 0 < (held_of file_shape f i).kind) (sym (entry_to f d j h has)) (subst (λ k. 0 < k) (sym h.kind) (omega arith)));
}

file_regions : (f : BlockWords) → HasFile f → RegionRule (held_of file_shape f)
file_regions f h = record { each = λ i three. absurd (by i three (cases_eq i 1) (cases_eq i 2)) }
  where
    no : (k i : ℕ) → (held_of file_shape f i).kind ≡ k → k ≢ 3 → (held_of file_shape f i).kind ≡ 3 → ⊥
    no k i is other three = other (sym is ∙ three)

    by : (i : ℕ) → (held_of file_shape f i).kind ≡ 3 → (i ≡ 1) ⊎ (i ≢ 1) → (i ≡ 2) ⊎ (i ≢ 2) → ⊥
    by i three (inl e) d = no 1 i (ap (λ x. (held_of file_shape f x).kind) e ∙ h.root_kind) (λ s. absurd (omega (arith, s))) three
    by i three (inr a) (inl e) = no 2 i (ap (λ x. (held_of file_shape f x).kind) e ∙ h.kind) (λ s. absurd (omega (arith, s))) three
    by i three (inr a) (inr b) = no 0 i (held_none f i h a b) (λ s. absurd (omega (arith, s))) three

-- ---- the state

-- the bytes of the file, by the blocks
abbrev pub file_bytes : BlockWords → List ℕ
file_bytes f = held_bytes (held_of file_shape f 2)

pub file_long : (f : BlockWords) → HasFile f → length (file_bytes f) ≡ 5000
file_long f h = length-map-range_with_len (byte_in (held_of file_shape f 2).word) 0 (held_of file_shape f 2).size ∙ ap (λ k. cond (nat_lt 0 k) (inode_size f 2) 0) h.kind ∙ h.size

reads_file_state : (f : BlockWords) (pages scratch : ℕ) → HasFile f → Reads (held_of file_shape f) (file_state (file_bytes f) pages scratch)
reads_file_state f pages scratch h = record {
  nodes = λ i. node i (cases_eq i 1) (cases_eq i 2);
  entries = λ d j has. ap (λ x. get (file_state (file_bytes f) pages scratch).names (x, entry_name (held_of file_shape f d) j)) (entry_only f d j h has).0
      ∙ ap (λ (n : List ℕ). get (file_state (file_bytes f) pages scratch).names (1, n)) (entry_named f d j h has)
      ∙ name_is (file_bytes f) pages scratch
      ∙ ap Some (sym (entry_to f d j h has));
  names = λ d name i e.
      let at = name_only (file_bytes f) pages scratch d i name e in
      let has = subst (λ x. HasEntry (held_of file_shape f) x 0) (sym at.0) (has_entry f h) in
      (0, has, entry_named f d 0 h has ∙ sym at.1);
  idle = refl;
}
  where
    node : (i : ℕ) → (i ≡ 1) ⊎ (i ≢ 1) → (i ≡ 2) ⊎ (i ≢ 2) → get (file_state (file_bytes f) pages scratch).nodes i ≡ node_in (held_of file_shape f i)
    node i (inl e) d = subst (λ x. get (file_state (file_bytes f) pages scratch).nodes x ≡ node_in (held_of file_shape f x)) (sym e) (root_is (file_bytes f) pages scratch ∙ sym (reads_dir (held_of file_shape f 1) h.root_kind))
    node i (inr a) (inl e) = subst (λ x. get (file_state (file_bytes f) pages scratch).nodes x ≡ node_in (held_of file_shape f x)) (sym e) (file_is (file_bytes f) pages scratch ∙ sym (reads_file (held_of file_shape f 2) h.kind))
    node i (inr a) (inr b) = no_more (file_bytes f) pages scratch i a b ∙ sym (reads_none (held_of file_shape f i) (held_none f i h a b))

pub file_reads : (f : BlockWords) (pages scratch : ℕ) → IsFileVolume f → ReadsAs file_shape f (file_state (file_bytes f) pages scratch)
file_reads f pages scratch h = record {
  sizes = refl;
  mapped = file_mapped f h;
  entries = file_entries f h.file;
  apart = names_apart f h.file;
  tree = file_tree (file_bytes f) pages scratch;
  regions = file_regions f h.file;
  reads = reads_file_state f pages scratch h.file;
}
