-- Memory with the two pages of a file over a disk, the first of them dirty: what a reboot has to bring to the disk is tried on it.
use Rattle.rio_model.proofs.Common.{Contents, List, None, Some, ap, arith, cases_eq, false, inl, inr, length, refl, slice_index, slice_set, subst, sym, true, true_false, ℕ, ◌*◌, ◌+◌, ◌<◌, ◌∙◌, ◌≡◌, ◌≢◌, ◌⊎◌}
use Rattle.std.proofs.Common.{get_or-set_other, get_or-set_same}
use Rattle.rio_base.specs.Disks.{block_at}
use Rattle.rio_base.specs.Image.{entry_at, registry_pages}
use Rattle.rio_base.specs.Machine.{WritesBlock}
use Rattle.rio_base.specs.Memory.{page_at}
use Rattle.rio_model.specs.Cover.{entry_of_block, frame_page, home_word, stands}
use Rattle.rio_model.specs.CoverChanges.{place_bare}
use Rattle.rio_model.specs.CoverLookups.{cover_at, cover_home}
use Rattle.rio_model.specs.Placed.{Owned}
use Rattle.rio_model.specs.Registry.{BlockRule, IsValid, frames_of, gate_of, is_dirty, is_valid, page_of_entry, tag_at, tag_block, tag_of}
use Rattle.rio_model.specs.Standing.{AllHome, Endures, IsHome, IsSettled, IsWanted, Restorable, Restored, none_apart}
use Rattle.rio_model.proofs.CoverLookups.{found_at}
use Rattle.volume_tests.proofs.FileVolume.{HasFile, file_layout, first_owned, second_owned}
use Rattle.rio_model.proofs.RebootSteps.{endures_written}

-- ---- the pair

-- 32 frames, no update open. Entry 0 is of block 4, and dirty; entry 1 is of block 5, and clean. Both are of data, and no other entry
-- is valid
pub record HasPages (words : List ℕ) : Type 0 where
  pub frames : frames_of words ≡ 32
  pub shut : gate_of words ≡ 0
  pub first : tag_at words 0 ≡ tag_of 4 true true
  pub second : tag_at words 1 ≡ tag_of 5 false true
  pub empty : (k : ℕ) → 1 < k → k < 32 → tag_at words k ≡ 0

-- the blocks that count are the volume with the file, and the disk has as many blocks
pub record IsFilePair (c : Contents) : Type 0 where
  pub pages : HasPages c.words
  pub volume : HasFile (stands c)
  pub count : length c.disk ≡ 16

-- ---- its entries. The registry has one page, so frame k is page 18 + k

pub first_valid : (words : List ℕ) → HasPages words → IsValid words 0
first_valid words h = record { within = omega (arith, h.frames); valid = ap (λ t. is_valid t) h.first }

pub second_valid : (words : List ℕ) → HasPages words → IsValid words 1
second_valid words h = record { within = omega (arith, h.frames); valid = ap (λ t. is_valid t) h.second }

pub of_four : (words : List ℕ) → HasPages words → tag_block (tag_at words 0) ≡ 4
of_four words h = ap (λ t. tag_block t) h.first

pub of_five : (words : List ℕ) → HasPages words → tag_block (tag_at words 1) ≡ 5
of_five words h = ap (λ t. tag_block t) h.second

pub valid_two : (words : List ℕ) (k : ℕ) → HasPages words → IsValid words k → (k ≡ 0) ⊎ (k ≡ 1)
valid_two words k h v = by (cases_eq k 0) (cases_eq k 1)
  where
    by : (k ≡ 0) ⊎ (k ≢ 0) → (k ≡ 1) ⊎ (k ≢ 1) → (k ≡ 0) ⊎ (k ≡ 1)
    by (inl e) d = inl e
    by (inr n) (inl e) = inr e
    by (inr n) (inr m) = absurd (true_false (sym v.valid ∙ ap (λ t. is_valid t) (h.empty k (omega (arith, n, m)) (subst (λ f. k < f) h.frames v.within))))

block_of : (words : List ℕ) (j k b : ℕ) → j ≡ k → tag_block (tag_at words k) ≡ b → tag_block (tag_at words j) ≡ b
block_of words j k b e is = ap (λ x. tag_block (tag_at words x)) e ∙ is

blocks_apart : (words : List ℕ) → HasPages words → BlockRule words
blocks_apart words h = λ j k v w same. by j k (valid_two words j h v) (valid_two words k h w) same
  where
    by : (j k : ℕ) → (j ≡ 0) ⊎ (j ≡ 1) → (k ≡ 0) ⊎ (k ≡ 1) → tag_block (tag_at words j) ≡ tag_block (tag_at words k) → j ≡ k
    by j k (inl a) (inl b) same = a ∙ sym b
    by j k (inr a) (inr b) same = a ∙ sym b
    by j k (inl a) (inr b) same = let e : 4 ≡ 5 = sym (block_of words j 0 4 a (of_four words h)) ∙ same ∙ block_of words k 1 5 b (of_five words h) in absurd (omega (arith, e))
    by j k (inr a) (inl b) same = let e : 5 ≡ 4 = sym (block_of words j 1 5 a (of_five words h)) ∙ same ∙ block_of words k 0 4 b (of_four words h) in absurd (omega (arith, e))

frame_is : (words : List ℕ) (k : ℕ) → HasPages words → page_of_entry words k ≡ 18 + k
unfolding frame_page registry_pages
frame_is words k h = place_bare words k (inl (λ e. absurd (omega (arith, e, h.shut)))) ∙ omega (arith, h.frames)

pub first_found : (words : List ℕ) → HasPages words → entry_of_block words 4 ≡ Some 0
first_found words h = found_at words 4 0 (blocks_apart words h) (first_valid words h) (of_four words h)

-- ---- pages that the disk has

-- the page of entry k is the disk's block b, word by word
abbrev pub AreSame : Contents → ℕ → ℕ → Type 0
AreSame c k b = (w : ℕ) → w < 512 → slice_index c.words (512 * (18 + k) + w) ≡ home_word c.disk b w

same_home : (c : Contents) (k b : ℕ) → HasPages c.words → tag_block (tag_at c.words k) ≡ b → AreSame c k b → IsHome c k
same_home c k b h is same = record {
  same = λ w less. ap (λ p. slice_index c.words (512 * p + w)) (frame_is c.words k h) ∙ same w less ∙ ap (λ x. home_word c.disk x w) (sym is);
}

home_same : (c : Contents) (k b : ℕ) → HasPages c.words → tag_block (tag_at c.words k) ≡ b → IsHome c k → AreSame c k b
home_same c k b h is home = λ w less. ap (λ p. slice_index c.words (512 * p + w)) (sym (frame_is c.words k h)) ∙ home.same w less ∙ ap (λ x. home_word c.disk x w) is

pub first_home : (c : Contents) → IsFilePair c → AreSame c 0 4 → IsHome c 0
first_home c h same = same_home c 0 4 h.pages (of_four c.words h.pages) same

pub second_home : (c : Contents) → IsFilePair c → AreSame c 1 5 → IsHome c 1
second_home c h same = same_home c 1 5 h.pages (of_five c.words h.pages) same

-- one word that differs is enough
pub first_not_home : (c : Contents) (w : ℕ) → IsFilePair c → w < 512 → slice_index c.words (512 * 18 + w) ≢ home_word c.disk 4 w → IsHome c 0 → ⊥
first_not_home c w h less differs home = differs (home_same c 0 4 h.pages (of_four c.words h.pages) home w less)

-- the dirty page is settled whatever the disk has, and the clean one where it is the disk's block
pub first_settled : (c : Contents) → IsFilePair c → IsSettled c 0
first_settled c h = record { clean = λ v clean. absurd (true_false (sym (ap (λ t. is_dirty t) h.pages.first) ∙ clean)) }

pub second_settled : (c : Contents) → IsFilePair c → AreSame c 1 5 → IsSettled c 1
second_settled c h same = record { clean = λ v clean. second_home c h same }

pub second_not_settled : (c : Contents) (w : ℕ) → IsFilePair c → w < 512 → slice_index c.words (512 * 19 + w) ≢ home_word c.disk 5 w → IsSettled c 1 → ⊥
second_not_settled c w h less differs settled =
    differs (home_same c 1 5 h.pages (of_five c.words h.pages) (settled.clean (second_valid c.words h.pages) (ap (λ t. is_dirty t) h.pages.second)) w less)

-- ---- what is to be on the disk

first_wanted : (c : Contents) → IsFilePair c → IsWanted (file_layout (stands c)) c.words 0
first_wanted c h = inr (subst (Owned (file_layout (stands c))) (sym (of_four c.words h.pages)) (first_owned (stands c) h.volume))

second_wanted : (c : Contents) → IsFilePair c → IsWanted (file_layout (stands c)) c.words 1
second_wanted c h = inr (subst (Owned (file_layout (stands c))) (sym (of_five c.words h.pages)) (second_owned (stands c) h.volume))

-- all of it is, where both pages are
pub pages_home : (c : Contents) → IsFilePair c → IsHome c 0 → IsHome c 1 → AllHome (file_layout (stands c)) c
pages_home c h first second = record { each = λ k v wanted. by k (valid_two c.words k h.pages v) }
  where
    by : (k : ℕ) → (k ≡ 0) ⊎ (k ≡ 1) → IsHome c k
    by k (inl e) = subst (IsHome c) (sym e) first
    by k (inr e) = subst (IsHome c) (sym e) second

pub first_missing : (c : Contents) (w : ℕ) → IsFilePair c → w < 512 → slice_index c.words (512 * 18 + w) ≢ home_word c.disk 4 w → AllHome (file_layout (stands c)) c → ⊥
first_missing c w h less differs all = first_not_home c w h less differs (all.each 0 (first_valid c.words h.pages) (first_wanted c h))

-- the disk that a reboot leaves has both pages, and else its old blocks
pub pages_restored : (c : Contents) (new : List (List ℕ)) → IsFilePair c → length new ≡ 16 → block_at new 4 ≡ page_at c.words 18 → block_at new 5 ≡ page_at c.words 19
    → ((b : ℕ) → b ≢ 4 → b ≢ 5 → block_at new b ≡ block_at c.disk b) → Restored (file_layout (stands c)) c.words c.disk new
pages_restored c new h count first second others = record {
  count = count ∙ sym h.count;
  put = λ k v wanted. put k (valid_two c.words k h.pages v);
  others = λ b none. others b (λ e. none 0 (first_valid c.words h.pages) (first_wanted c h) (of_four c.words h.pages ∙ sym e)) (λ e. none 1 (second_valid c.words h.pages) (second_wanted c h) (of_five c.words h.pages ∙ sym e));
}
  where
    at : (k j b p : ℕ) → k ≡ j → tag_block (tag_at c.words j) ≡ b → page_of_entry c.words j ≡ p → block_at new b ≡ page_at c.words p → block_at new (tag_block (tag_at c.words k)) ≡ page_at c.words (page_of_entry c.words k)
    at k j b p e is page same = ap (λ x. block_at new (tag_block (tag_at c.words x))) e ∙ ap (block_at new) is ∙ same ∙ ap (page_at c.words) (sym page) ∙ ap (λ x. page_at c.words (page_of_entry c.words x)) (sym e)

    put : (k : ℕ) → (k ≡ 0) ⊎ (k ≡ 1) → block_at new (tag_block (tag_at c.words k)) ≡ page_at c.words (page_of_entry c.words k)
    put k (inl e) = at k 0 4 18 e (of_four c.words h.pages) (frame_is c.words 0 h.pages) first
    put k (inr e) = at k 1 5 19 e (of_five c.words h.pages) (frame_is c.words 1 h.pages) second

-- so a disk without the dirty page is not restored
pub unwritten_not_restored : (c : Contents) (new : List (List ℕ)) → IsFilePair c → block_at new 4 ≢ page_at c.words 18 → Restored (file_layout (stands c)) c.words c.disk new → ⊥
unwritten_not_restored c new h differs r =
    differs (ap (block_at new) (sym (of_four c.words h.pages)) ∙ r.put 0 (first_valid c.words h.pages) (first_wanted c h) ∙ ap (page_at c.words) (frame_is c.words 0 h.pages))

-- nor one whose free block changed
pub stray_not_restored : (c : Contents) (new : List (List ℕ)) → IsFilePair c → block_at new 9 ≢ block_at c.disk 9 → Restored (file_layout (stands c)) c.words c.disk new → ⊥
stray_not_restored c new h differs r = differs (r.others 9 (λ k v wanted is. other k (valid_two c.words k h.pages v) is))
  where
    other : (k : ℕ) → (k ≡ 0) ⊎ (k ≡ 1) → tag_block (tag_at c.words k) ≡ 9 → ⊥
    other k (inl e) is = let nine : 4 ≡ 9 = sym (block_of c.words k 0 4 e (of_four c.words h.pages)) ∙ is in absurd (omega (arith, nine))
    other k (inr e) is = let nine : 5 ≡ 9 = sym (block_of c.words k 1 5 e (of_five c.words h.pages)) ∙ is in absurd (omega (arith, nine))

-- ---- what a step of a reboot keeps

-- word 0 of the page of entry 0 stands
first_stands : (c : Contents) → HasPages c.words → stands c 4 0 ≡ slice_index c.words (512 * 18 + 0)
first_stands c h = cover_at (page_of_entry c.words) c.words c.disk 4 0 0 (first_found c.words h) (omega arith) ∙ ap (λ p. slice_index c.words (512 * p + 0)) (frame_is c.words 0 h)

entry_low : (k : ℕ) → k < 32 → entry_at k < 1024
unfolding entry_at
entry_low k less = omega (arith, less)

-- a store to it leaves the entries
stored_pages : (words : List ℕ) (value : ℕ) → HasPages words → HasPages (slice_set words (512 * 18) value)
stored_pages words value h = record {
  frames = other 2 (omega arith) ∙ h.frames;
  shut = other 4 (omega arith) ∙ h.shut;
  first = entry 0 (omega arith) ∙ h.first;
  second = entry 1 (omega arith) ∙ h.second;
  empty = λ k past less. entry k less ∙ h.empty k past less;
}
  where
    other : (i : ℕ) → i < 1024 → slice_index (slice_set words (512 * 18) value) i ≡ slice_index words i
    other i low = get_or-set_other words (512 * 18) i value 0 (λ e. omega (arith, e, low))

    entry : (k : ℕ) → k < 32 → tag_at (slice_set words (512 * 18) value) k ≡ tag_at words k
    entry k less = other (entry_at k) (entry_low k less)

-- it is no step of a reboot, since another word stands then
pub store_does_not_endure : (c : Contents) (value : ℕ) → IsFilePair c → 512 * 18 < length c.words → value ≢ slice_index c.words (512 * 18) → Endures none_apart c (record c { words = slice_set c.words (512 * 18) value }) → ⊥
store_does_not_endure c value h room differs e =
    differs (sym (get_or-set_same c.words (512 * 18) value 0 room) ∙ sym (first_stands (record c { words = slice_set c.words (512 * 18) value }) (stored_pages c.words value h.pages)) ∙ e.standing 4 0 refl ∙ first_stands c h.pages)

-- nor is a step that makes the dirty entry invalid while the disk's block is another
pub clearing_does_not_endure : (c new : Contents) → IsFilePair c → entry_of_block new.words 4 ≡ None → new.disk ≡ c.disk → slice_index c.words (512 * 18) ≢ home_word c.disk 4 0 → Endures none_apart c new → ⊥
clearing_does_not_endure c new h none disk differs e =
    differs (sym (first_stands c h.pages) ∙ sym (e.standing 4 0 refl) ∙ cover_home (page_of_entry new.words) new.words new.disk 4 0 none (omega arith) ∙ ap (λ d. home_word d 4 0) disk)

-- a write of the dirty page as its block is one
pub writing_endures : (c new : Contents) (n : ℕ) → IsFilePair c → Restorable c n → WritesBlock 4 c new → length (block_at c.disk 4) ≡ 512 → Endures none_apart c new
writing_endures c new n h image writes whole = endures_written n 4 0 c new image writes (first_valid c.words h.pages) (ap (λ t. is_dirty t) h.pages.first) (sym (of_four c.words h.pages)) whole
