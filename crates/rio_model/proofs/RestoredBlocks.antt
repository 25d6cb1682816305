-- The disk's blocks that a reboot leaves, from what its steps keep.
use Rattle.rio_model.proofs.Common.{Bool, List, None, Option, Some, ap, arith, cases_Bool, drop, false, inl, inr, length, refl, slice_index, subst, sym, true, Contents, ℕ, ◌*◌, ◌+◌, ◌<◌, ◌∙◌, ◌≡◌, ◌≢◌, ◌≤◌, ◌⊎◌}
use Rattle.std.specs.Prelude.{slice_index_or}
use Rattle.std.proofs.lemmas.List.{ext_get_or, get_or_past, length-drop, length-take-le}
use Rattle.rio_base.specs.Disks.{block_at}
use Rattle.rio_base.specs.Image.{registry_pages}
use Rattle.rio_base.specs.Memory.{page_at}
use Rattle.rio_model.specs.Cover.{entry_of_block, frame_page, home_word, stands}
use Rattle.rio_model.specs.CoverLookups.{cover_at, cover_home, found_is}
use Rattle.rio_model.specs.Placed.{Layout}
use Rattle.rio_model.specs.Registry.{IsValid, frames_of, gate_of, page_of_entry, shadow_at, tag_at, tag_block}
use Rattle.rio_model.specs.Standing.{AreStale, Endures, EntriesFit, IsWanted, Restorable, Restored, is_stale, stale_block}
use Rattle.rio_model.proofs.CoverChanges.{place_cases}
use Rattle.rio_model.proofs.CoverLookups.{found_at}
use Rattle.rio_model.proofs.RebootClears.{stands_empty}
use Rattle.rio_model.proofs.RebootSteps.{page_word}
use Rattle.rio_model.proofs.StandingStates.{AreWhole, stale_unwanted}

-- the page that counts lies in memory
pub counted_within : (c : Contents) (n k : ℕ) → Restorable c n → IsValid c.words k → 512 * page_of_entry c.words k + 512 ≤ length c.words
unfolding frame_page registry_pages
counted_within c n k i v = from (place_cases c.words k)
  where
    few : shadow_at c.words k ≤ 16
    few = (i.rules.shadows k v.within).most v.valid

    from : (((gate_of c.words ≢ 1) ⊎ (shadow_at c.words k ≡ 0)) × (page_of_entry c.words k ≡ frame_page c.words k)) ⊎ ((gate_of c.words ≡ 1) × (shadow_at c.words k ≢ 0) × (page_of_entry c.words k ≡ registry_pages (frames_of c.words) + shadow_at c.words k)) → 512 * page_of_entry c.words k + 512 ≤ length c.words
    from (inl h) = omega (arith, h.1, i.protected, v.within)
    from (inr h) = omega (arith, h.2, i.protected, few, i.sizes.least_frames)

page_whole : (words : List ℕ) (p : ℕ) → 512 * p + 512 ≤ length words → length (page_at words p) ≡ 512
page_whole words p within = length-take-le 512 (drop (512 * p) words) (let long = length-drop (512 * p) words in omega (arith, long, within))

-- two blocks of 512 words each
same_block : (xs ys : List ℕ) → length xs ≡ 512 → length ys ≡ 512 → ((w : ℕ) → w < 512 → slice_index xs w ≡ slice_index ys w) → xs ≡ ys
same_block xs ys long also same = ext_get_or 0 xs ys (long ∙ sym also) (λ w less. same w (subst (λ n. w < n) long less))

-- no entry is valid any more, what stands is what stood but for stale blocks, and these are as they were. The marks are of all
-- entries that are not wanted, and of no other
pub restored_by : (marks : List Bool) (l : Layout) (n : ℕ) (old new : Contents) → AreWhole old → AreWhole new → length new.disk ≡ length old.disk → Restorable old n → EntriesFit l old.words → AreStale l marks old.words
    → ((k : ℕ) → IsValid old.words k → slice_index_or marks k false ≡ false → IsWanted l old.words k)
    → Endures (stale_block marks old.words) old new
    → ((k : ℕ) → k < frames_of new.words → tag_at new.words k ≡ 0)
    → ((b : ℕ) → stale_block marks old.words b ≡ true → block_at new.disk b ≡ block_at old.disk b)
    → Restored l old.words old.disk new.disk
restored_by marks l n old new whole still count image fits stale wanted e empty kept = record {
  count = count;
  put = λ k v want. same_block _ _ (still _ (room k v)) (page_whole old.words _ (counted_within old n k image v)) (λ w less.
      now (tag_block (tag_at old.words k)) w (fresh k v want) less
      ∙ cover_at (page_of_entry old.words) old.words old.disk _ w k (found k v) less
      ∙ sym (page_word old.words (page_of_entry old.words k) w less));
  others = λ b none. off b none (order b (length old.disk));
}
  where
    found : (k : ℕ) → IsValid old.words k → entry_of_block old.words (tag_block (tag_at old.words k)) ≡ Some k
    found k v = found_at old.words _ k image.rules.blocks v refl

    room : (k : ℕ) → IsValid old.words k → tag_block (tag_at old.words k) < length new.disk
    room k v = subst (λ m. tag_block (tag_at old.words k) < m) (sym count) (image.on_disk k v)

    unmarked : (k : ℕ) → IsValid old.words k → IsWanted l old.words k → (slice_index_or marks k false ≡ true) ⊎ (slice_index_or marks k false ≡ false) → slice_index_or marks k false ≡ false
    unmarked k v want (inl marked) = absurd (stale_unwanted l marks old.words k fits stale v marked (inr want))
    unmarked k v want (inr clear) = clear

    fresh : (k : ℕ) → IsValid old.words k → IsWanted l old.words k → stale_block marks old.words (tag_block (tag_at old.words k)) ≡ false
    fresh k v want = ap (is_stale marks) (found k v) ∙ unmarked k v want (cases_Bool (slice_index_or marks k false))

    -- a block that is not stale holds what stood of it
    now : (b w : ℕ) → stale_block marks old.words b ≡ false → w < 512 → home_word new.disk b w ≡ stands old b w
    now b w out less = sym (stands_empty new.words new.disk (page_of_entry new.words) b w empty less) ∙ e.standing b w out

    order : (b m : ℕ) → (b < m) ⊎ (m ≤ b)
    order b m = grind arith

    alone : (b : ℕ) → b < length old.disk → stale_block marks old.words b ≡ false → entry_of_block old.words b ≡ None → block_at new.disk b ≡ block_at old.disk b
    alone b less out none = same_block _ _ (still b (subst (λ m. b < m) (sym count) less)) (whole b less) (λ w small. now b w out small ∙ cover_home (page_of_entry old.words) old.words old.disk b w none small)

    by_entry : (b : ℕ) → b < length old.disk → stale_block marks old.words b ≡ false → ((k : ℕ) → IsValid old.words k → IsWanted l old.words k → tag_block (tag_at old.words k) ≢ b) → (o : Option ℕ) → entry_of_block old.words b ≡ o → block_at new.disk b ≡ block_at old.disk b
    by_entry b less out none None f = alone b less out f
    by_entry b less out none (Some k) f = let at = found_is old.words b k f in absurd (none k at.0 (wanted k at.0 (sym (ap (is_stale marks) f) ∙ out)) at.1)

    by_mark : (b : ℕ) → b < length old.disk → ((k : ℕ) → IsValid old.words k → IsWanted l old.words k → tag_block (tag_at old.words k) ≢ b) → (stale_block marks old.words b ≡ true) ⊎ (stale_block marks old.words b ≡ false) → block_at new.disk b ≡ block_at old.disk b
    by_mark b less none (inl marked) = kept b marked
    by_mark b less none (inr out) = by_entry b less out none (entry_of_block old.words b) refl

    off : (b : ℕ) → ((k : ℕ) → IsValid old.words k → IsWanted l old.words k → tag_block (tag_at old.words k) ≢ b) → (b < length old.disk) ⊎ (length old.disk ≤ b) → block_at new.disk b ≡ block_at old.disk b
    off b none (inl less) = by_mark b less none (cases_Bool (stale_block marks old.words b))
    off b none (inr past) = get_or_past new.disk b _ (subst (λ m. m ≤ b) (sym count) past) ∙ sym (get_or_past old.disk b _ past)
