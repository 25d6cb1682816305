-- A plain reader of memory and disk: where entries and pages lie, and the blocks as one list.
use Rattle.std.specs.Prelude.{◌≡◌, ◌≢◌, ℕ, suc, ◌+◌, ◌-◌, ◌*◌, ◌/◌, ◌%◌, ◌<◌, ◌≤◌, ◌⊎◌, Bool, true, false, if◌then◌else◌, List, [], ◌∷◌, ◌++◌, length, slice_index, slice_index_or, take, drop, Some, None, refl}
use Rattle.std.proofs.Common.{◌∙◌, ap, sym, subst, inl, inr, arith, length-append, length-drop, length-take-le, get_or-take}
use Rattle.std.proofs.lemmas.Bool.{cases_eq}
use Rattle.std.proofs.lemmas.List.{get_or_append_left, get_or-append_right, get_or-drop}
use borrow.Rule.Slice.PartMut.{put_mid}
use Rattle.rio_base.specs.Blocks.{BlockWords}
use Rattle.rio_base.specs.Disks.{block_at}
use Rattle.rio_base.specs.Image.{entry_at, registry_pages}
use Rattle.rio_base.specs.Memory.{FrontStored, page_at}
use Rattle.rio_model.specs.Cover.{entry_of_block, frame_page, holds, last_of}
use Rattle.rio_model.specs.CoverChanges.{place_bare}
use Rattle.rio_model.proofs.CoverChanges.{place_cases, place_shadow}
use Rattle.rio_model.specs.CoverLookups.{cover_at, cover_home, found_is}
use Rattle.rio_model.specs.Registry.{frames_of, gate_of, page_of_entry, shadow_at}
use Rattle.test_objects.specs.Covers.{AreBlocks, InLimits, PutsBlock, blocks_by, page_by}

-- ---- places

pub entry_place : (k : ℕ) → entry_at k ≡ 512 * (1 + k / 102) + 5 * (k % 102)
unfolding entry_at
entry_place k = refl

pub registry_size : (frames : ℕ) → registry_pages frames ≡ (frames + 101) / 102
unfolding registry_pages
registry_size frames = refl

pub frame_place : (words : List ℕ) (k : ℕ) → frame_page words k ≡ registry_pages (frames_of words) + (17 + k)
unfolding frame_page
frame_place words k = refl

pub place_of_frame : (words : List ℕ) (k : ℕ) → (gate_of words ≢ 1) ⊎ (shadow_at words k ≡ 0) → page_of_entry words k ≡ frame_page words k
place_of_frame words k h = place_bare words k h

pub place_of_shadow : (words : List ℕ) (k : ℕ) → gate_of words ≡ 1 → shadow_at words k ≢ 0 → page_of_entry words k ≡ registry_pages (frames_of words) + shadow_at words k
place_of_shadow words k one some = place_shadow words k one some

-- ---- the entry of a block

-- one more entry is looked at
pub last_more : (t : ℕ → Bool) (n : ℕ) → last_of t (n + 1) ≡ (if t n then Some n else last_of t n)
unfolding last_of
last_more t n = subst (λ m. last_of t m ≡ (if t n then Some n else last_of t n)) one refl
  where
    one : suc n ≡ n + 1
    one = omega arith

pub last_first : (t : ℕ → Bool) → last_of t 0 ≡ None
unfolding last_of
last_first t = refl

pub entry_is_last : (words : List ℕ) (b : ℕ) → entry_of_block words b ≡ last_of (holds words b) (frames_of words)
unfolding entry_of_block
entry_is_last words b = refl

pub entry_within : (words : List ℕ) (b k : ℕ) → entry_of_block words b ≡ Some k → k < frames_of words
entry_within words b k e = (found_is words b k e).0.within

-- ---- blocks in their places

-- a slice of 512 words is replaced
block_stored : (xs ys from : List ℕ) (a k b : ℕ) → ys ≡ from → a ≡ 512 * b → k ≡ 512 → length from ≡ 512 → 512 * b + 512 ≤ length xs → FrontStored (512 * b) 512 from xs (put_mid a k xs ys)
block_stored xs ys from a k b same place size len fits =
    subst (λ (zs : List ℕ). FrontStored (512 * b) 512 from xs (put_mid a k xs zs)) (sym same) (subst (λ (c : ℕ). FrontStored (512 * b) 512 from xs (put_mid c k xs from)) (sym place) (subst (λ (m : ℕ). FrontStored (512 * b) 512 from xs (put_mid (512 * b) m xs from)) (sym size) (stored xs from (512 * b) 512 (sym len) fits)))
  where
    stored : (xs from : List ℕ) (at n : ℕ) → n ≡ length from → at + n ≤ length xs → FrontStored at n from xs (put_mid at n xs from)
    stored xs from at n len fits =
        let front : length (take at xs) ≡ at = length-take-le at xs (omega arith) in
        record {
          count = omega (arith, length-append (take at xs) (from ++ drop n (drop at xs)), length-append from (drop n (drop at xs)), front, length-drop n (drop at xs), length-drop at xs);
          front = λ i less. get_or-append_right (take at xs) (from ++ drop n (drop at xs)) at (at + i) 0 front (omega arith) ∙ ap (λ j. slice_index_or (from ++ drop n (drop at xs)) j 0) (omega arith) ∙ get_or_append_left from (drop n (drop at xs)) 0 i (omega arith);
          below = λ i less. get_or_append_left (take at xs) (from ++ drop n (drop at xs)) 0 i (omega arith) ∙ get_or-take at xs i 0 less;
          above = λ i more. get_or-append_right (take at xs) (from ++ drop n (drop at xs)) at i 0 front (omega arith) ∙ get_or-append_right from (drop n (drop at xs)) n (i - at) 0 (sym len) (omega arith) ∙ get_or-drop n (drop at xs) (i - at - n) 0 ∙ get_or-drop at xs (n + (i - at - n)) 0 ∙ ap (λ j. slice_index_or xs j 0) (omega arith);
        }

-- the words of a block are put in their place
pub block_put : (to new from : List ℕ) (b : ℕ) → new ≡ from → length from ≡ 512 → 512 * b + 512 ≤ length to → FrontStored (512 * b) 512 from to (put_mid (512 * b) ((512 * b + 512) - 512 * b) to new)
block_put to new from b same len fits = block_stored to new from (512 * b) ((512 * b + 512) - 512 * b) b same refl (omega arith) len fits

-- the slice of a page's words
pub page_taken : (p : ℕ) (words : List ℕ) → take (512 * p + 512 - 512 * p) (drop (512 * p) words) ≡ page_at words p
page_taken p words =
    let count : 512 * p + 512 - 512 * p ≡ 512 = omega arith in
    ap (λ (n : ℕ). take n (drop (512 * p) words)) count

word_at : (words : List ℕ) (p w : ℕ) → w < 512 → slice_index (page_at words p) w ≡ slice_index words (512 * p + w)
word_at words p w small = get_or-take 512 (drop (512 * p) words) w 0 small ∙ get_or-drop (512 * p) words w 0

-- these words are put where the block is
puts : (blocks : BlockWords) (b : ℕ) (from old new : List ℕ) → FrontStored (512 * b) 512 from old new → ((w : ℕ) → w < 512 → slice_index from w ≡ blocks b w) → PutsBlock blocks b old new
puts blocks b from old new h same = record { count = h.count; here = λ w less. h.front w less ∙ same w less; below = h.below; above = h.above }

-- a block that has an entry
pub puts_page : (shadows : Bool) (words : List ℕ) (disk : List (List ℕ)) (b k page : ℕ) (from old new : List ℕ) → FrontStored (512 * b) 512 from old new → from ≡ page_at words page → entry_of_block words b ≡ Some k → page ≡ page_by shadows words k → PutsBlock (blocks_by shadows words disk) b old new
puts_page shadows words disk b k page from old new h taken found is =
    puts (blocks_by shadows words disk) b from old new h (λ w less. ap (λ (l : List ℕ). slice_index l w) taken ∙ word_at words page w less ∙ ap (λ p. slice_index words (512 * p + w)) is ∙ sym (cover_at (page_by shadows words) words disk b w k found less))

-- a block that has none
pub puts_home : (shadows : Bool) (words : List ℕ) (disk : List (List ℕ)) (b : ℕ) (old new : List ℕ) → FrontStored (512 * b) 512 (block_at disk b) old new → entry_of_block words b ≡ None → PutsBlock (blocks_by shadows words disk) b old new
puts_home shadows words disk b old new h none =
    puts (blocks_by shadows words disk) b (block_at disk b) old new h (λ w less. sym (cover_home (page_by shadows words) words disk b w none less))

-- a list before another one, taken out
pub front_of : (xs rest : List ℕ) (n : ℕ) → n ≡ length xs → take n (xs ++ rest) ≡ xs
front_of xs rest n is = ap (λ m. take m (xs ++ rest)) is ∙ whole xs
  where
    whole : (ys : List ℕ) → take (length ys) (ys ++ rest) ≡ ys
    whole [] = refl
    whole (y ∷ ys) = ap (λ zs. y ∷ zs) (whole ys)

pub blocks_none : (blocks : BlockWords) (words : List ℕ) → AreBlocks blocks 0 words
blocks_none blocks words = record { each = λ b w less small. absurd (omega (arith, less)) }

-- one more block
pub blocks_more : (blocks : BlockWords) (b : ℕ) (old new : List ℕ) → PutsBlock blocks b old new → AreBlocks blocks b old → AreBlocks blocks (b + 1) new
blocks_more blocks b old new h before = record { each = λ c w less small. by_place c w less small (cases_eq c b) }
  where
    by_place : (c w : ℕ) → c < b + 1 → w < 512 → (c ≡ b) ⊎ (c ≢ b) → slice_index new (512 * c + w) ≡ blocks c w
    by_place c w less small (inl same) = subst (λ x. slice_index new (512 * x + w) ≡ blocks x w) (sym same) (h.here w small)
    by_place c w less small (inr away) = h.below (512 * c + w) (omega (arith, less, small, away)) ∙ before.each c w (omega (arith, less, away)) small

-- ---- within the limits

-- the page of a valid entry ends with the last frame, or before
page_by_ends : (shadows : Bool) (words : List ℕ) (k : ℕ) → k < frames_of words → shadow_at words k ≤ 16 → page_by shadows words k + 1 ≤ 17 + registry_pages (frames_of words) + frames_of words
page_by_ends false words k less few = omega (arith, less, frame_place words k)
page_by_ends true words k less few = by (place_cases words k)
  where
    by : (((gate_of words ≢ 1) ⊎ (shadow_at words k ≡ 0)) × (page_of_entry words k ≡ frame_page words k)) ⊎ ((gate_of words ≡ 1) × (shadow_at words k ≢ 0) × (page_of_entry words k ≡ registry_pages (frames_of words) + shadow_at words k)) → page_of_entry words k + 1 ≤ 17 + registry_pages (frames_of words) + frames_of words
    by (inl h) = omega (arith, less, h.1, frame_place words k)
    by (inr h) = omega (arith, few, less, h.2)

pub no_more_frames : (words : List ℕ) → InLimits words → 8192 < frames_of words → ⊥
no_more_frames words h more = absurd (omega (arith, h.frames, more))

pub no_other_shadow : (words : List ℕ) (b k : ℕ) → InLimits words → entry_of_block words b ≡ Some k → 16 < shadow_at words k → ⊥
no_other_shadow words b k h found more = absurd (omega (arith, h.shadows k (found_is words b k found).0, more))

pub no_page_behind : (shadows : Bool) (words : List ℕ) (b k page : ℕ) → InLimits words → entry_of_block words b ≡ Some k → page ≡ page_by shadows words k → length words < 512 * page + 512 → ⊥
no_page_behind shadows words b k page h found is more =
    let v = (found_is words b k found).0 in
    absurd (omega (arith, h.pages, is, more, page_by_ends shadows words k v.within (h.shadows k v)))
