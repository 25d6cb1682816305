-- A region keeps the format where its records are as they have to be and its heap map, once they are put back, is of blocks alone.
use Rattle.rio_model.proofs.Common.{◌≡◌, ℕ, ◌+◌, ◌*◌, ◌<◌, ◌≤◌, ◌∙◌, List, sym, ap, subst, arith, drop, length, slice_index}
use Rattle.std.proofs.Common.{take, length-drop}
use Rattle.std.proofs.lemmas.List.{get_or-drop, get_or-take, length-take-le}
use Rattle.rio_base.specs.Regions.{RegionContent}
use Rattle.rio_model.specs.Heap.{IsSoundRegion, OfBlocks}
use Rattle.rio_model.specs.Held.{Held}
use Rattle.rio_model.specs.Undo.{IsRegion, UndoRecord, Within, before, before_by, map_pages, region_words, saved_word, taken, undo_records, word_or}
use Rattle.rio_model.specs.VolumeRules.{RegionAt}
use Rattle.volume_check.specs.RegionWords.{Begins, HasPages, HasRecords}
use Rattle.volume_check.proofs.HeapUnits.{of_blocks_on}
use Rattle.volume_check.proofs.RecordWalks.{records_on}

-- what is no region keeps the format of one
pub region_none : (held : ℕ → Held) (i k : ℕ) → (held i).kind ≡ k → (k ≡ 3 → ⊥) → RegionAt held i
region_none held i k is other three = absurd (other (sym is ∙ three))

-- how many places there are
abbrev pub places_of : ℕ → ℕ
places_of pages = 512 * (map_pages pages + pages)

region_of : (n : ℕ) (f : RegionContent) (undo pages : ℕ) → HasPages n f undo pages → HasRecords f (512 * undo) (places_of pages) → IsRegion n f
region_of n f undo pages h r = record {
  magic = h.magic;
  undo = subst (λ u. 1 ≤ u) (sym h.undo_is) h.undo_some;
  data_pages = subst (λ d. 1 ≤ d) (sym h.pages_is) h.pages_some;
  size = h.size ∙ ap (λ u. region_words u pages) (sym h.undo_is) ∙ ap (λ d. region_words (f 1) d) (sym h.pages_is);
  links = r.links;
  room = subst (λ u. taken (undo_records f) ≤ 512 * u) (sym h.undo_is) r.fits;
  within = subst (λ d. Within (places_of d) (undo_records f)) (sym h.pages_is) r.within;
}

records_of : (n : ℕ) (f : RegionContent) (undo pages : ℕ) → HasPages n f undo pages → IsRegion n f → HasRecords f (512 * undo) (places_of pages)
records_of n f undo pages h r = record {
  links = r.links;
  fits = subst (λ u. taken (undo_records f) ≤ 512 * u) h.undo_is r.room;
  within = subst (λ d. Within (places_of d) (undo_records f)) h.pages_is r.within;
}

-- ---- the words before the data, in two parts, and the second with the records put back

pub record Parts (f : RegionContent) (undo pages : ℕ) (front map : List ℕ) : Type 0 where
  pub front_is : (y : ℕ) → y < 512 * (1 + undo) → slice_index front y ≡ f y
  pub map_is : (q : ℕ) → q < 512 * map_pages pages → slice_index map q ≡ f (512 * (1 + undo) + q)

-- the records of the front are put back over the map
abbrev pub IsBack : List ℕ → List ℕ → List ℕ → Type 0
IsBack front map back = (q : ℕ) → q < length map → slice_index back q ≡ before_by (undo_records (slice_index front)) (slice_index map) q

pub map_long : (undo pages : ℕ) (words map : List ℕ) → length words ≡ 512 * (1 + undo + map_pages pages) → map ≡ drop (512 * (1 + undo)) words → length map ≡ 512 * map_pages pages
map_long undo pages words map long is = ap length is ∙ length-drop (512 * (1 + undo)) words ∙ omega (arith, long)

pub front_long : (undo pages : ℕ) (words front : List ℕ) → length words ≡ 512 * (1 + undo + map_pages pages) → front ≡ take (512 * (1 + undo)) words → length front ≡ 512 * (1 + undo)
front_long undo pages words front long is = ap length is ∙ length-take-le (512 * (1 + undo)) words (omega (arith, long))

pub parts : (f : RegionContent) (undo pages : ℕ) (words front map : List ℕ) → Begins f words → length words ≡ 512 * (1 + undo + map_pages pages) → front ≡ take (512 * (1 + undo)) words → map ≡ drop (512 * (1 + undo)) words → Parts f undo pages front map
parts f undo pages words front map begins long front_is map_is = record {
  front_is = λ y small. ap (λ (xs : List ℕ). slice_index xs y) front_is ∙ get_or-take (512 * (1 + undo)) words y 0 small ∙ begins.each y (omega (arith, small, long));
  map_is = λ q small. ap (λ (xs : List ℕ). slice_index xs q) map_is ∙ get_or-drop (512 * (1 + undo)) words q 0 ∙ begins.each (512 * (1 + undo) + q) (omega (arith, small, long));
}

-- the words of before, as they are in the map
before_is : (n : ℕ) (f : RegionContent) (undo pages : ℕ) (front map back : List ℕ) → HasPages n f undo pages → Parts f undo pages front map → length map ≡ 512 * map_pages pages → IsBack front map back → undo_records (slice_index front) ≡ undo_records f → (q : ℕ) → q < 512 * map_pages pages → slice_index back q ≡ before f q
before_is n f undo pages front map back h p long put same q small =
    put q (omega (arith, small, long)) ∙ ap (λ (rs : List UndoRecord). before_by rs (slice_index map) q) same ∙ ap (word_or (saved_word (undo_records f) q)) (p.map_is q small ∙ ap (λ u. f (512 * (1 + u) + q)) (sym h.undo_is))

pub sound_by : (n : ℕ) (f : RegionContent) (undo pages : ℕ) (front map back : List ℕ) → HasPages n f undo pages → Parts f undo pages front map → length map ≡ 512 * map_pages pages → IsBack front map back → HasRecords (slice_index front) (512 * undo) (places_of pages) → OfBlocks (slice_index back) pages → IsSoundRegion n f
sound_by n f undo pages front map back h p long put r blocks =
    let moved = records_on (slice_index front) f (512 * undo) (places_of pages) (λ y small. sym (p.front_is y (omega (arith, small)))) r in
    record {
      region = region_of n f undo pages h moved.0;
      heap = subst (λ d. OfBlocks (before f) d) (sym h.pages_is) (of_blocks_on (slice_index back) (before f) pages (λ q small. sym (before_is n f undo pages front map back h p long put (sym moved.1) q small)) blocks);
    }

pub sound_records : (n : ℕ) (f : RegionContent) (undo pages : ℕ) (front map : List ℕ) → HasPages n f undo pages → Parts f undo pages front map → IsSoundRegion n f → HasRecords (slice_index front) (512 * undo) (places_of pages)
sound_records n f undo pages front map h p s = (records_on f (slice_index front) (512 * undo) (places_of pages) (λ y small. p.front_is y (omega (arith, small))) (records_of n f undo pages h s.region)).0

pub sound_heap : (n : ℕ) (f : RegionContent) (undo pages : ℕ) (front map back : List ℕ) → HasPages n f undo pages → Parts f undo pages front map → length map ≡ 512 * map_pages pages → IsBack front map back → IsSoundRegion n f → OfBlocks (slice_index back) pages
sound_heap n f undo pages front map back h p long put s =
    let moved = records_on f (slice_index front) (512 * undo) (places_of pages) (λ y small. p.front_is y (omega (arith, small))) (records_of n f undo pages h s.region) in
    of_blocks_on (before f) (slice_index back) pages (λ q small. before_is n f undo pages front map back h p long put moved.1 q small) (subst (λ d. OfBlocks (before f) d) h.pages_is s.heap)

-- ---- the header as it was read

pub pages_there : (n m : ℕ) (f : RegionContent) (words : List ℕ) → n ≡ m → 3 ≤ length words → Begins f words → IsRegion n f → HasPages m (slice_index words) (f 1) (f 2)
pages_there n m f words same long begins r = record {
  magic = begins.each 0 (omega (arith, long)) ∙ r.magic;
  undo_is = begins.each 1 (omega (arith, long));
  pages_is = begins.each 2 (omega (arith, long));
  undo_some = r.undo;
  pages_some = r.data_pages;
  size = sym same ∙ r.size;
}

pub pages_back : (n m : ℕ) (f : RegionContent) (undo pages : ℕ) (words : List ℕ) → n ≡ m → 3 ≤ length words → Begins f words → HasPages m (slice_index words) undo pages → HasPages n f undo pages
pages_back n m f undo pages words same long begins h = record {
  magic = sym (begins.each 0 (omega (arith, long))) ∙ h.magic;
  undo_is = sym (begins.each 1 (omega (arith, long))) ∙ h.undo_is;
  pages_is = sym (begins.each 2 (omega (arith, long))) ∙ h.pages_is;
  undo_some = h.undo_some;
  pages_some = h.pages_some;
  size = same ∙ h.size;
}
