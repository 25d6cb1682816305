-- One inode among others, and whether it is an open region.
use Rattle.request_ends.proofs.Common.{◌≡◌, ◌≢◌, ℕ, ◌<◌, ◌==◌, ◌&&◌, ◌⊎◌, Bool, true, false, List, [], ◌∷◌, refl, sym, ap, subst, ◌∙◌, arith, inl, inr, slice_index_or, slice_index, get, cases_eq, nat_tests, Ino, VolumeShape, BlockWords, State, held_of, reads_dir, reads_file, reads_region, ReadsAs}
use Rattle.std.proofs.Common.{◌||◌}
use Rattle.std.specs.Prelude.{length}
use Rattle.std.proofs.lemmas.List.{get_or-map, length-map}
use Rattle.node_pages.specs.Changes.{is_among as is_block_among}
use Rattle.node_pages.proofs.Skipped.{among_at as block_at, among_none as block_none}
use Rattle.rio_requests.specs.Answers.{is_among, is_open}
use Rattle.file_tree.specs.Walks.{ino_numbers}
use Rattle.file_tree.proofs.LookedAt.{file_left}

-- among numbers, whatever they number
same_among : (xs : List ℕ) (i : ℕ) → is_among xs i ≡ is_block_among xs i
same_among [] i = refl
same_among (j ∷ rest) i = ap (λ b. (j == i) || b) (same_among rest i)

pub as_many : (inodes : List Ino) → length (ino_numbers inodes) ≡ length inodes
as_many inodes = length-map inodes (λ (i : Ino). i.0)

pub number_at : (inodes : List Ino) (t : ℕ) (d : Ino) → t < length inodes → (slice_index_or inodes t d).0 ≡ slice_index (ino_numbers inodes) t
number_at inodes t d few = sym (get_or-map (λ (i : Ino). i.0) inodes t d 0 few)

pub among_at : (inodes : List Ino) (t : ℕ) (d : Ino) (i : ℕ) → t < length inodes → (slice_index_or inodes t d).0 ≡ i → is_among (ino_numbers inodes) i ≡ true
among_at inodes t d i few is = same_among (ino_numbers inodes) i ∙ block_at (ino_numbers inodes) t i (subst (λ (n : ℕ). t < n) (sym (as_many inodes)) few) (sym (number_at inodes t d few) ∙ is)

pub among_none : (inodes : List Ino) (i : ℕ) → ((t : ℕ) → t < length inodes → slice_index (ino_numbers inodes) t ≢ i) → is_among (ino_numbers inodes) i ≡ false
among_none inodes i none = same_among (ino_numbers inodes) i ∙ block_none (ino_numbers inodes) i (λ t few. none t (let many = as_many inodes in omega (arith, few, many)))

-- ---- an open region, by the kind of the node

no_region : (k : ℕ) (b : Bool) → k ≢ 3 → ((k == 3) && b) ≡ false
no_region k b other = let test : (k == 3) ≡ false = grind (arith, nat_tests, other) in ap (λ t. t && b) test

pub open_read : (shape : VolumeShape) (f : BlockWords) (s : State) (busy : List ℕ) (i k : ℕ) → ReadsAs shape f s → 0 < (held_of shape f i).kind → k ≡ (held_of shape f i).kind → is_open busy i (get s.nodes i) ≡ ((k == 3) && is_among busy i)
open_read shape f s busy i k reads used is = by (cases_eq (held_of shape f i).kind 1) (cases_eq (held_of shape f i).kind 3)
  where
    by : ((held_of shape f i).kind ≡ 1) ⊎ ((held_of shape f i).kind ≢ 1) → ((held_of shape f i).kind ≡ 3) ⊎ ((held_of shape f i).kind ≢ 3) → is_open busy i (get s.nodes i) ≡ ((k == 3) && is_among busy i)
    by (inl dir) _ = ap (is_open busy i) (reads.reads.nodes i ∙ reads_dir (held_of shape f i) dir) ∙ sym (no_region k (is_among busy i) (λ three. (omega (arith, three, is, dir))))
    by (inr no_dir) (inl region) = ap (is_open busy i) (reads.reads.nodes i ∙ reads_region (held_of shape f i) region) ∙ sym (let test : (k == 3) ≡ true = grind (arith, nat_tests, is, region) in ap (λ t. t && is_among busy i) test)
    by (inr no_dir) (inr other) = ap (is_open busy i) (reads.reads.nodes i ∙ reads_file (held_of shape f i) (file_left shape f s i reads used no_dir other)) ∙ sym (no_region k (is_among busy i) (λ three. (other (sym is ∙ three))))
