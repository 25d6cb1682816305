-- Memory with the two pages of a file, over a disk of which the first page's block is pending: it stands for the state with that
-- file, whatever that block holds, and for no other.
use Rattle.rio_model.proofs.Common.{Contents, List, None, Option, Some, ap, arith, cases_eq, false, get, inl, inr, is_pending, length, refl, slice_index, subst, sym, true, ℕ, ◌*◌, ◌+◌, ◌<◌, ◌∙◌, ◌≡◌, ◌≢◌, ◌≤◌, ◌⊎◌}
use Rattle.std.specs.Prelude.{codes, if◌then◌else◌}
use Rattle.rio_model.specs.declared.node.Node.{Node}
use Rattle.rio_model.specs.declared.node.Node.TheVariants.{File}
use Rattle.rio_model.specs.declared.state.State.{State}
use Rattle.rio_model.specs.Cover.{MayLeave, entry_of_block, name_at, name_in, stands, stands_on}
use Rattle.rio_model.specs.CoverLookups.{cover_same}
use Rattle.rio_model.specs.Placed.{Layout, volume_layout}
use Rattle.rio_model.specs.Registry.{file_at, index_at, is_data, page_of_entry, size_at, tag_at, tag_block}
use Rattle.rio_model.specs.Standing.{EntriesFit, EntryFits, MayBear, Restorable, StandsFor, StandsWith}
use Rattle.rio_model.specs.VolumeReads.{ReadsAs}
use Rattle.rio_model.proofs.StandingStates.{AreWhole, one_shape, stands_one, stands_with_reads}
use Rattle.volume_tests.proofs.FilePair.{IsFilePair, first_found, of_five, of_four, second_valid, valid_two}
use Rattle.volume_tests.proofs.FileReads.{IsFileVolume, file_bytes, file_reads}
use Rattle.volume_tests.proofs.FileState.{file_is, file_state, name_is}
use Rattle.volume_tests.proofs.FileVolume.{file_layout, file_shape, first_may_bear, second_bears, second_may_bear}
use Rattle.volume_tests.proofs.SmallVolumes.{file_served}

-- ---- the pair

-- entry k names page p of the file, of which so many bytes at least are in use
pub record NamesFile (words : List ℕ) (k p least : ℕ) : Type 0 where
  pub file : file_at words k ≡ 2
  pub index : index_at words k ≡ p
  pub size : least ≤ size_at words k

-- the pair, whose memory is an image with so many words of scratch. Both entries name their pages, what counts is a volume that
-- keeps its rules, and of the disk at most block 4 is pending
pub record IsFileImage (c : Contents) (n : ℕ) : Type 0 where
  pub pair : IsFilePair c
  pub image : Restorable c n
  pub whole : AreWhole c
  pub volume : IsFileVolume (stands c)
  pub first : NamesFile c.words 0 0 4096
  pub second : NamesFile c.words 1 1 904
  pub told : (b : ℕ) → b ≢ 4 → is_pending c.pending b ≡ false

-- ---- what it stands for

-- the dirty page counts for the pending block
pending_hidden : (c : Contents) (n : ℕ) (disk : List (List ℕ)) → IsFileImage c n → MayLeave c disk → stands_on c disk ≡ stands c
pending_hidden c n disk h leaves = λ i b w. at b w (cases_eq b 4) i
  where
    some_none : (o : Option ℕ) (k : ℕ) → o ≡ Some k → o ≡ None → ⊥
    some_none o k some none = cc

    four : (b : ℕ) → b ≡ 4 → entry_of_block c.words b ≡ Some 0
    four b e = ap (entry_of_block c.words) e ∙ first_found c.words h.pair.pages

    at : (b w : ℕ) → (b ≡ 4) ⊎ (b ≢ 4) → stands_on c disk b w ≡ stands c b w
    at b w d = cover_same (page_of_entry c.words) c.words c.disk (page_of_entry c.words) c.words disk b w (record {
      entry = refl;
      pages = λ k x e small. refl;
      homes = λ x none small. elim d [
        | inl e ↦ absurd (some_none _ 0 (four b e) none)
        | inr away ↦ ap (λ (xs : List ℕ). slice_index xs x) (leaves.kept b (h.told b away))
      ];
    })

-- a tag of data, so the entry bears its name
bears : (words : List ℕ) (k b : ℕ) (l : Layout) → is_data (tag_at words k) ≡ true → tag_block (tag_at words k) ≡ b → b < l.shape.blocks → MayBear l b (Some (name_at words k)) → EntryFits l words k
bears words k b l named is low may = record {
  within = subst (λ x. x < l.shape.blocks) (sym is) low;
  named = subst (λ x. MayBear l x (name_in words (Some k))) (sym is) (subst (MayBear l b) (sym (ap (λ t. if t then Some (name_at words k) else None) named)) may);
}

entries_fit : (c : Contents) (n : ℕ) → IsFileImage c n → EntriesFit (file_layout (stands c)) c.words
entries_fit c n h = record { each = λ k v. by k (valid_two c.words k h.pair.pages v) }
  where
    by : (k : ℕ) → (k ≡ 0) ⊎ (k ≡ 1) → EntryFits (file_layout (stands c)) c.words k
    by k (inl e) = subst (EntryFits (file_layout (stands c)) c.words) (sym e) (bears c.words 0 4 (file_layout (stands c)) (ap (λ t. is_data t) h.pair.pages.first) (of_four c.words h.pair.pages) (omega arith) (first_may_bear (stands c) (name_at c.words 0) h.volume.file h.first.file h.first.index h.first.size))
    by k (inr e) = subst (EntryFits (file_layout (stands c)) c.words) (sym e) (bears c.words 1 5 (file_layout (stands c)) (ap (λ t. is_data t) h.pair.pages.second) (of_five c.words h.pair.pages) (omega arith) (second_may_bear (stands c) (name_at c.words 1) h.volume.file h.second.file h.second.index h.second.size))

-- the state with the file, of a memory of so many pages
pub file_stands : (c : Contents) (n pages scratch : ℕ) → IsFileImage c n → 512 * pages ≡ length c.words + n → 512 * scratch ≡ n → StandsFor c n (file_state (file_bytes (stands c)) pages scratch)
file_stands c n pages scratch h pages_are scratch_are = record {
  image = h.image;
  served = file_served;
  blocks = h.pair.count;
  pages = pages_are;
  scratch_pages = scratch_are;
  each = λ disk leaves. let same = pending_hidden c n disk h leaves in record {
    reads = subst (λ f. ReadsAs file_shape f (file_state (file_bytes (stands c)) pages scratch)) (sym same) (file_reads (stands c) pages scratch h.volume);
    entries = subst (λ f. EntriesFit (file_layout f) c.words) (sym same) (entries_fit c n h);
  };
}

-- and no other state
pub file_only : (c : Contents) (n : ℕ) (s : State) → IsFileImage c n → StandsFor c n s → s ≡ file_state (file_bytes (stands c)) s.pages s.scratch
file_only c n s h k = stands_one c n s (file_state (file_bytes (stands c)) s.pages s.scratch) h.whole k (file_stands c n s.pages s.scratch h k.pages k.scratch_pages)

-- none without the file
pub no_file_not : (c : Contents) (n : ℕ) (s : State) → IsFileImage c n → get s.nodes 2 ≡ None → StandsFor c n s → ⊥
no_file_not c n s h none k = no _ (file_bytes (stands c)) none (ap (λ (t : State). get t.nodes 2) (file_only c n s h k) ∙ file_is (file_bytes (stands c)) s.pages s.scratch)
  where
    no : (o : Option Node) (bytes : List ℕ) → o ≡ None → o ≡ Some (File bytes) → ⊥
    no o bytes none some = cc

-- none where it has other bytes
pub other_bytes_not : (c : Contents) (n : ℕ) (s : State) (bytes : List ℕ) → IsFileImage c n → get s.nodes 2 ≡ Some (File bytes) → bytes ≢ file_bytes (stands c) → StandsFor c n s → ⊥
other_bytes_not c n s bytes h is differs k = differs (same _ bytes (file_bytes (stands c)) is (ap (λ (t : State). get t.nodes 2) (file_only c n s h k) ∙ file_is (file_bytes (stands c)) s.pages s.scratch))
  where
    same : (o : Option Node) (x y : List ℕ) → o ≡ Some (File x) → o ≡ Some (File y) → x ≡ y
    same o x y a b = cc

-- none where its name is missing
pub no_name_not : (c : Contents) (n : ℕ) (s : State) → IsFileImage c n → get s.names (1, codes "f") ≡ None → StandsFor c n s → ⊥
no_name_not c n s h none k = no _ none (ap (λ (t : State). get t.names (1, codes "f")) (file_only c n s h k) ∙ name_is (file_bytes (stands c)) s.pages s.scratch)
  where
    no : (o : Option ℕ) → o ≡ None → o ≡ Some 2 → ⊥
    no o none some = cc

-- ---- where it stands for no state

-- the second page bears another page's name
pub misnamed_stands_not : (c : Contents) (n : ℕ) (s : State) → IsFilePair c → AreWhole c → IsFileVolume (stands c) → index_at c.words 1 ≢ 1 → StandsFor c n s → ⊥
misnamed_stands_not c n s h whole volume other k = other (second_bears (stands c) (name_at c.words 1) volume.file may).1
  where
    with_reads : StandsWith c s c.disk
    with_reads = stands_with_reads c n s whole k

    fits : EntryFits (file_layout (stands c)) c.words 1
    fits = subst (λ sh. EntryFits (volume_layout sh (stands c)) c.words 1) (one_shape (stands c) s.shape file_shape with_reads.reads.mapped.superblock.words volume.superblock) (with_reads.entries.each 1 (second_valid c.words h.pages))

    may : MayBear (file_layout (stands c)) 5 (Some (name_at c.words 1))
    may = subst (MayBear (file_layout (stands c)) 5) (ap (λ t. if is_data t then Some (name_at c.words 1) else None) h.pages.second) (subst (λ b. MayBear (file_layout (stands c)) b (name_in c.words (Some 1))) (of_five c.words h.pages) fits.named)
