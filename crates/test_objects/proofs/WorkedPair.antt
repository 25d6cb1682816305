-- The definitions of what memory and disk read as and stand for, tried by name on the worked pair.
use Rattle.std.specs.Prelude.{◌≡◌, ◌≢◌, ℕ, ◌+◌, ◌*◌, ◌^◌, ◌<◌, ◌⊎◌, Bool, true, false, if◌then◌else◌, List, [], length, slice_index, slice_set, Option, Some, None, refl}
use Rattle.std.proofs.Common.{◌∙◌, ap, sym, subst, inl, inr, arith, eq-eqb, get_or-set_same, get_or-set_other}
use Rattle.std.proofs.lemmas.Bool.{cases_eq}
use Rattle.std.proofs.lemmas.List.{length-set}
use Rattle.std.specs.Int.{bit_at}
use Rattle.rio_base.specs.declared.places.PageName.{PageName}
use Rattle.rio_base.specs.declared.places.VolumeShape.{VolumeShape}
use Rattle.rio_base.proofs.Bitmap.{first_bitmap}
use Rattle.rio_base.specs.Bitmap.{used_bit}
use Rattle.rio_base.specs.Disks.{block_at, is_pending}
use Rattle.rio_base.specs.Image.{registry_pages}
use Rattle.rio_base.specs.Machine.{Contents}
use Rattle.rio_base.specs.Rules.{true_false}
use Rattle.rio_model.specs.Cover.{Coherent, MayLeave, dirty_entry, entry_of_block, frame_page, has_dirty, home_word, is_loose, name_at, name_in, reads, stands, stands_on}
use Rattle.rio_model.proofs.Cover.{Named}
use Rattle.rio_model.specs.Standing.{Sound}
use Rattle.rio_model.specs.CoverChanges.{place_bare}
use Rattle.rio_model.proofs.CoverChanges.{place_shadow}
use Rattle.rio_model.specs.CoverLookups.{cover_at, cover_home, found_is}
use Rattle.rio_model.proofs.CoverLookups.{found_at, found_free}
use Rattle.rio_model.specs.Registry.{BlockRule, IsValid, file_at, frames_of, gate_of, index_at, is_data, is_dirty, is_valid, page_of_entry, shadow_at, size_at, tag_at, tag_block, tag_of}
use Rattle.test_objects.proofs.WorkedPairLaws.{IsPair}

-- the tag of a block is valid
pub valid_tag : (block : ℕ) (dirty named : Bool) → is_valid (tag_of block dirty named) ≡ true
valid_tag block true true = eq-eqb _ 1 (omega arith)
valid_tag block true false = eq-eqb _ 1 (omega arith)
valid_tag block false true = eq-eqb _ 1 (omega arith)
valid_tag block false false = eq-eqb _ 1 (omega arith)

-- ---- the entries

three_valid : (dirty : Bool) (c : Contents) → IsPair dirty c → IsValid c.words 3
three_valid dirty c h = record { within = omega (arith, h.frames); valid = ap (λ t. is_valid t) h.three ∙ valid_tag 9 true false }

last_valid : (dirty : Bool) (c : Contents) → IsPair dirty c → IsValid c.words 31
last_valid dirty c h = record { within = omega (arith, h.frames); valid = ap (λ t. is_valid t) h.last ∙ valid_tag 50 dirty true }

of_nine : (dirty : Bool) (c : Contents) → IsPair dirty c → tag_block (tag_at c.words 3) ≡ 9
of_nine dirty c h = ap (λ t. tag_block t) h.three ∙ omega arith

block_50 : (dirty : Bool) → tag_block (tag_of 50 dirty true) ≡ 50
block_50 true = omega arith
block_50 false = omega arith

of_fifty : (dirty : Bool) (c : Contents) → IsPair dirty c → tag_block (tag_at c.words 31) ≡ 50
of_fifty dirty c h = ap (λ t. tag_block t) h.last ∙ block_50 dirty

marked : (dirty : Bool) → is_dirty (tag_of 50 dirty true) ≡ dirty
marked true = refl
marked false = refl

-- entries 3 and 31 alone are valid
valid_two : (dirty : Bool) (c : Contents) (k : ℕ) → IsPair dirty c → IsValid c.words k → (k ≡ 3) ⊎ (k ≡ 31)
valid_two dirty c k h v = by (cases_eq k 3) (cases_eq k 31)
  where
    by : (k ≡ 3) ⊎ (k ≢ 3) → (k ≡ 31) ⊎ (k ≢ 31) → (k ≡ 3) ⊎ (k ≡ 31)
    by (inl e) d = inl e
    by (inr n) (inl e) = inr e
    by (inr n) (inr m) = absurd (true_false (sym v.valid ∙ ap (λ t. is_valid t) (h.empty k (subst (λ f. k < f) h.frames v.within) n m)))

-- no two of one block
apart : (dirty : Bool) (c : Contents) → IsPair dirty c → BlockRule c.words
apart dirty c h = λ j k v w same. by j k (valid_two dirty c j h v) (valid_two dirty c k h w) same
  where
    block : (j : ℕ) (i b : ℕ) → j ≡ i → tag_block (tag_at c.words i) ≡ b → tag_block (tag_at c.words j) ≡ b
    block j i b e is = ap (λ x. tag_block (tag_at c.words x)) e ∙ is

    by : (j k : ℕ) → (j ≡ 3) ⊎ (j ≡ 31) → (k ≡ 3) ⊎ (k ≡ 31) → tag_block (tag_at c.words j) ≡ tag_block (tag_at c.words k) → j ≡ k
    by j k (inl a) (inl b) same = a ∙ sym b
    by j k (inr a) (inr b) same = a ∙ sym b
    by j k (inl a) (inr b) same = let e : 9 ≡ 50 = sym (block j 3 9 a (of_nine dirty c h)) ∙ same ∙ block k 31 50 b (of_fifty dirty c h) in absurd (omega (arith, e))
    by j k (inr a) (inl b) same = let e : 50 ≡ 9 = sym (block j 31 50 a (of_fifty dirty c h)) ∙ same ∙ block k 3 9 b (of_nine dirty c h) in absurd (omega (arith, e))

pub nine_has : (dirty : Bool) (c : Contents) → IsPair dirty c → entry_of_block c.words 9 ≡ Some 3
nine_has dirty c h = found_at c.words 9 3 (apart dirty c h) (three_valid dirty c h) (of_nine dirty c h)

pub fifty_has : (dirty : Bool) (c : Contents) → IsPair dirty c → entry_of_block c.words 50 ≡ Some 31
fifty_has dirty c h = found_at c.words 50 31 (apart dirty c h) (last_valid dirty c h) (of_fifty dirty c h)

-- no other block has an entry
pub none_has : (dirty : Bool) (c : Contents) (b : ℕ) → IsPair dirty c → b ≢ 9 → b ≢ 50 → entry_of_block c.words b ≡ None
none_has dirty c b h nine fifty = found_free c.words b (λ j v same. by j (valid_two dirty c j h v) same)
  where
    by : (j : ℕ) → (j ≡ 3) ⊎ (j ≡ 31) → tag_block (tag_at c.words j) ≡ b → ⊥
    by j (inl e) same = nine (sym same ∙ ap (λ x. tag_block (tag_at c.words x)) e ∙ of_nine dirty c h)
    by j (inr e) same = fifty (sym same ∙ ap (λ x. tag_block (tag_at c.words x)) e ∙ of_fifty dirty c h)

-- ---- what blocks read as and stand for. The registry has one page, so shadow page 2 is page 3, and frame k page 18 + k

frame_is : (words : List ℕ) (k : ℕ) → frames_of words ≡ 32 → frame_page words k ≡ 18 + k
unfolding frame_page registry_pages
frame_is words k e = omega (arith, e)

shadow_is : (words : List ℕ) (s : ℕ) → frames_of words ≡ 32 → s ≡ 2 → registry_pages (frames_of words) + s ≡ 3
unfolding registry_pages
shadow_is words s e is = omega (arith, e, is)

-- block 9 reads as its frame, whatever the gate
pub nine_reads : (dirty : Bool) (c : Contents) (w : ℕ) → IsPair dirty c → w < 512 → reads c 9 w ≡ slice_index c.words (512 * 21 + w)
nine_reads dirty c w h less = cover_at (frame_page c.words) c.words c.disk 9 w 3 (nine_has dirty c h) less ∙ ap (λ p. slice_index c.words (512 * p + w)) (frame_is c.words 3 h.frames)

-- it stands as its shadow page while the gate is 1
pub nine_stands_old : (dirty : Bool) (c : Contents) (w : ℕ) → IsPair dirty c → gate_of c.words ≡ 1 → w < 512 → stands c 9 w ≡ slice_index c.words (512 * 3 + w)
nine_stands_old dirty c w h one less =
    cover_at (page_of_entry c.words) c.words c.disk 9 w 3 (nine_has dirty c h) less
    ∙ ap (λ p. slice_index c.words (512 * p + w)) (place_shadow c.words 3 one (λ e. absurd (omega (arith, e, h.shadow))) ∙ shadow_is c.words (shadow_at c.words 3) h.frames h.shadow)

-- and as its frame else
pub nine_stands_new : (dirty : Bool) (c : Contents) (w : ℕ) → IsPair dirty c → gate_of c.words ≡ 0 → w < 512 → stands c 9 w ≡ slice_index c.words (512 * 21 + w)
nine_stands_new dirty c w h shut less =
    cover_at (page_of_entry c.words) c.words c.disk 9 w 3 (nine_has dirty c h) less
    ∙ ap (λ p. slice_index c.words (512 * p + w)) (place_bare c.words 3 (inl (λ e. absurd (omega (arith, e, shut)))) ∙ frame_is c.words 3 h.frames)

-- block 50 has no shadow, so it stands as its frame whatever the gate
fifty_page : (dirty : Bool) (c : Contents) → IsPair dirty c → page_of_entry c.words 31 ≡ 49
fifty_page dirty c h = place_bare c.words 31 (inr h.bare) ∙ frame_is c.words 31 h.frames

pub fifty_stands : (dirty : Bool) (c : Contents) (w : ℕ) → IsPair dirty c → w < 512 → stands c 50 w ≡ slice_index c.words (512 * 49 + w)
fifty_stands dirty c w h less =
    cover_at (page_of_entry c.words) c.words c.disk 50 w 31 (fifty_has dirty c h) less
    ∙ ap (λ p. slice_index c.words (512 * p + w)) (fifty_page dirty c h)

-- a block without entry reads as the disk's
pub other_reads : (dirty : Bool) (c : Contents) (b w : ℕ) → IsPair dirty c → b ≢ 9 → b ≢ 50 → w < 512 → reads c b w ≡ slice_index (block_at c.disk b) w
other_reads dirty c b w h nine fifty less = cover_home (frame_page c.words) c.words c.disk b w (none_has dirty c b h nine fifty) less

-- and stands as that of whatever disk is under it
pub other_stands_on : (dirty : Bool) (c : Contents) (disk : List (List ℕ)) (b w : ℕ) → IsPair dirty c → b ≢ 9 → b ≢ 50 → w < 512 → stands_on c disk b w ≡ slice_index (block_at disk b) w
other_stands_on dirty c disk b w h nine fifty less = cover_home (page_of_entry c.words) c.words disk b w (none_has dirty c b h nine fifty) less

-- ---- loose blocks

clean_without : (words : List ℕ) (b : ℕ) → entry_of_block words b ≡ None → has_dirty words b ≡ false
clean_without words b e = ap (λ o. dirty_entry words o) e

-- block 51 is pending, and has no entry
pub other_is_loose : (dirty : Bool) (c : Contents) → IsPair dirty c → is_loose c 51 ≡ true
unfolding is_loose
other_is_loose dirty c h = rw (h.other, clean_without c.words 51 (none_has dirty c 51 h (λ e. absurd (omega (arith, e))) (λ e. absurd (omega (arith, e))))) refl

nine_dirty : (dirty : Bool) (c : Contents) → IsPair dirty c → has_dirty c.words 9 ≡ true
nine_dirty dirty c h = ap (λ o. dirty_entry c.words o) (nine_has dirty c h) ∙ ap (λ t. is_dirty t) h.three

-- block 9 is pending too, but will be written
pub nine_is_firm : (dirty : Bool) (c : Contents) → IsPair dirty c → is_loose c 9 ≡ false
unfolding is_loose
nine_is_firm dirty c h = rw (h.nine, nine_dirty dirty c h) refl

-- a block that isn't pending
pub settled_is_firm : (dirty : Bool) (c : Contents) (b : ℕ) → IsPair dirty c → b ≢ 9 → b ≢ 51 → is_loose c b ≡ false
unfolding is_loose
settled_is_firm dirty c b h nine other = rw (h.settled b nine other) refl

-- ---- what a stop may leave

-- any words in a pending block
pub may_differ : (dirty : Bool) (c : Contents) (words : List ℕ) → IsPair dirty c → length words ≡ 512 → MayLeave c (slice_set c.disk 51 words)
may_differ dirty c words h long = record {
  count = length-set c.disk 51 words;
  whole = λ b less. by_place b (subst (λ n. b < n) (length-set c.disk 51 words ∙ h.blocks) less) (cases_eq b 51);
  kept = λ b settled. get_or-set_other c.disk 51 b words [] (λ e. absurd (true_false (sym h.other ∙ sym (ap (is_pending c.pending) e) ∙ settled)));
}
  where
    by_place : (b : ℕ) → b < 64 → (b ≡ 51) ⊎ (b ≢ 51) → length (block_at (slice_set c.disk 51 words) b) ≡ 512
    by_place b less (inl same) = subst (λ x. length (block_at (slice_set c.disk 51 words) x) ≡ 512) (sym same) (ap (λ (l : List ℕ). length l) (get_or-set_same c.disk 51 words [] (omega (arith, h.blocks))) ∙ long)
    by_place b less (inr away) = ap (λ (l : List ℕ). length l) (get_or-set_other c.disk 51 b words [] (λ e. absurd (away e))) ∙ h.whole b less

-- and the disk as it reads
pub may_stay : (dirty : Bool) (c : Contents) → IsPair dirty c → MayLeave c c.disk
may_stay dirty c h = record { count = refl; whole = λ b less. h.whole b (subst (λ n. b < n) h.blocks less); kept = λ b settled. refl }

-- then block 51 stands as these words
pub other_differs : (dirty : Bool) (c : Contents) (words : List ℕ) (w : ℕ) → IsPair dirty c → w < 512 → stands_on c (slice_set c.disk 51 words) 51 w ≡ slice_index words w
other_differs dirty c words w h less =
    other_stands_on dirty c (slice_set c.disk 51 words) 51 w h (λ e. absurd (omega (arith, e))) (λ e. absurd (omega (arith, e))) less
    ∙ ap (λ (l : List ℕ). slice_index l w) (get_or-set_same c.disk 51 words [] (omega (arith, h.blocks)))

-- no disk that differs in another block
pub differs_nowhere_else : (dirty : Bool) (c : Contents) (disk : List (List ℕ)) → IsPair dirty c → block_at disk 52 ≢ block_at c.disk 52 → MayLeave c disk → ⊥
differs_nowhere_else dirty c disk h differs m = differs (m.kept 52 (h.settled 52 (λ e. absurd (omega (arith, e))) (λ e. absurd (omega (arith, e)))))

-- ---- sound pairs. The bits of the blocks lie in the first word of block 1, which has no entry and isn't pending

bit_is : (dirty : Bool) (c : Contents) (shape : VolumeShape) (disk : List (List ℕ)) (bits : ℕ) → IsPair dirty c → home_word disk 1 0 ≡ bits → used_bit shape (stands_on c disk) 51 ≡ bit_at bits 51
bit_is dirty c shape disk bits h e =
    ap (λ b. bit_at (stands_on c disk b 0) 51) (first_bitmap shape 51 (omega arith))
    ∙ ap (λ x. bit_at x 51) (other_stands_on dirty c disk 1 0 h (λ q. absurd (omega (arith, q))) (λ q. absurd (omega (arith, q))) (omega arith) ∙ e)

-- block 51 is pending, so it must not be in use
pub sound_where_free : (c : Contents) (shape : VolumeShape) → IsPair true c → home_word c.disk 1 0 ≡ 2 ^ 9 → Sound c shape
sound_where_free c shape h free = record {
  written = λ disk m b pending used. by_block disk m b pending used (cases_eq b 9) (cases_eq b 51);
  clean = λ k v e. absurd (no_clean k (valid_two true c k h v) e);
}
  where
    no_clean : (k : ℕ) → (k ≡ 3) ⊎ (k ≡ 31) → is_dirty (tag_at c.words k) ≡ false → ⊥
    no_clean k (inl is) e = true_false (sym (ap (λ x. is_dirty (tag_at c.words x)) is ∙ ap (λ t. is_dirty t) h.three) ∙ e)
    no_clean k (inr is) e = true_false (sym (ap (λ x. is_dirty (tag_at c.words x)) is ∙ ap (λ t. is_dirty t) h.last) ∙ e)

    unused : (disk : List (List ℕ)) → MayLeave c disk → used_bit shape (stands_on c disk) 51 ≡ 0
    unused disk m = bit_is true c shape disk (2 ^ 9) h (ap (λ (l : List ℕ). slice_index l 0) (m.kept 1 (h.settled 1 (λ e. absurd (omega (arith, e))) (λ e. absurd (omega (arith, e))))) ∙ free)

    by_block : (disk : List (List ℕ)) → MayLeave c disk → (b : ℕ) → is_pending c.pending b ≡ true → used_bit shape (stands_on c disk) b ≡ 1 → (b ≡ 9) ⊎ (b ≢ 9) → (b ≡ 51) ⊎ (b ≢ 51) → has_dirty c.words b ≡ true
    by_block disk m b pending used (inl nine) o = ap (has_dirty c.words) nine ∙ nine_dirty true c h
    by_block disk m b pending used (inr n) (inl other) = let one : 1 ≡ 0 = sym used ∙ ap (used_bit shape (stands_on c disk)) other ∙ unused disk m in absurd (omega (arith, one))
    by_block disk m b pending used (inr n) (inr o) = absurd (true_false (sym pending ∙ h.settled b n o))

-- where it is in use, no page is there from which it will be written
pub unsound_where_used : (dirty : Bool) (c : Contents) (shape : VolumeShape) → IsPair dirty c → home_word c.disk 1 0 ≡ 2 ^ 51 → Sound c shape → ⊥
unsound_where_used dirty c shape h used s =
    true_false (sym (s.written c.disk (may_stay dirty c h) 51 h.other (bit_is dirty c shape c.disk (2 ^ 51) h used)) ∙ clean_without c.words 51 (none_has dirty c 51 h (λ e. absurd (omega (arith, e))) (λ e. absurd (omega (arith, e)))))

last_clean : (c : Contents) → IsPair false c → is_dirty (tag_at c.words 31) ≡ false
last_clean c h = ap (λ t. is_dirty t) h.last

-- a clean page that isn't the disk's block
pub unsound_where_stale : (c : Contents) (shape : VolumeShape) → IsPair false c → slice_index c.words (512 * 49) ≢ home_word c.disk 50 0 → Sound c shape → ⊥
unsound_where_stale c shape h differs s =
    differs (sym (ap (λ p. slice_index c.words (512 * p + 0)) (fifty_page false c h)) ∙ s.clean 31 (last_valid false c h) (last_clean c h) 0 (omega arith) ∙ ap (λ b. home_word c.disk b 0) (of_fifty false c h))

-- nor is it coherent
pub incoherent_where_stale : (c : Contents) (n : ℕ) → IsPair false c → slice_index c.words (512 * 49) ≢ home_word c.disk 50 0 → Coherent c n → ⊥
incoherent_where_stale c n h differs s =
    differs (sym (ap (λ p. slice_index c.words (512 * p + 0)) (frame_is c.words 31 h.frames)) ∙ (s.entries 31).clean (last_valid false c h) (last_clean c h) 0 (omega arith) ∙ ap (λ b. home_word c.disk b 0) (of_fifty false c h))

-- ---- names

-- block 50 bears this page of file 2, and block 9 no name
abbrev pub bears_page : ℕ → ℕ → Option PageName → Type 0
bears_page index b name = ((b ≡ 9) × (name ≡ None)) ⊎ ((b ≡ 50) × (name ≡ Some (record { file = record { 0 = 2 }; index = index; size = 6 })))

nine_named : (dirty : Bool) (c : Contents) → IsPair dirty c → name_in c.words (Some 3) ≡ None
nine_named dirty c h = ap (λ t. if is_data t then Some (name_at c.words 3) else None) h.three

page_name : ℕ → ℕ → ℕ → PageName
page_name file index size = record { file = record { 0 = file }; index = index; size = size }

data_tag : (dirty : Bool) → is_data (tag_of 50 dirty true) ≡ true
data_tag true = refl
data_tag false = refl

fifty_named : (dirty : Bool) (c : Contents) → IsPair dirty c → name_in c.words (Some 31) ≡ Some (record { file = record { 0 = 2 }; index = 1; size = 6 })
unfolding page_name
fifty_named dirty c h = named ∙ ap Some same
  where
    named : name_in c.words (Some 31) ≡ Some (name_at c.words 31)
    named = ap (λ (d : Bool). if d then Some (name_at c.words 31) else None) (ap (λ t. is_data t) h.last ∙ data_tag dirty)

    same : page_name (file_at c.words 31) (index_at c.words 31) (size_at c.words 31) ≡ page_name 2 1 6
    same = rw (h.file, h.index, h.size) refl

-- the names that the entries bear
pub named_so : (dirty : Bool) (c : Contents) → IsPair dirty c → Named c.words 64 (bears_page 1)
named_so dirty c h = record { each = λ b k e. let found = found_is c.words b k e in by b k (valid_two dirty c k h found.0) found.1 }
  where
    by : (b k : ℕ) → (k ≡ 3) ⊎ (k ≡ 31) → tag_block (tag_at c.words k) ≡ b → (b < 64) × bears_page 1 b (name_in c.words (Some k))
    by b k (inl is) same = let e : b ≡ 9 = sym same ∙ ap (λ x. tag_block (tag_at c.words x)) is ∙ of_nine dirty c h in (omega (arith, e), inl (e, ap (λ x. name_in c.words (Some x)) is ∙ nine_named dirty c h))
    by b k (inr is) same = let e : b ≡ 50 = sym same ∙ ap (λ x. tag_block (tag_at c.words x)) is ∙ of_fifty dirty c h in (omega (arith, e), inr (e, ap (λ x. name_in c.words (Some x)) is ∙ fifty_named dirty c h))

index_in : Option PageName → ℕ
index_in None = 0
index_in (Some name) = name.index

-- not the next page's
pub not_named_so : (dirty : Bool) (c : Contents) → IsPair dirty c → Named c.words 64 (bears_page 2) → ⊥
unfolding index_in
not_named_so dirty c h n = wrong (n.each 50 31 (fifty_has dirty c h)).1
  where
    wrong : bears_page 2 50 (name_in c.words (Some 31)) → ⊥
    wrong (inl p) = absurd (omega (arith, p.0))
    wrong (inr p) = let e : 2 ≡ 1 = ap index_in (sym p.1 ∙ fifty_named dirty c h) in absurd (omega (arith, e))

-- and both lie behind the first 9 blocks
pub not_among_so_few : (dirty : Bool) (c : Contents) → IsPair dirty c → Named c.words 9 (bears_page 1) → ⊥
not_among_so_few dirty c h n = absurd (omega (arith, (n.each 9 3 (nine_has dirty c h)).0))
