-- A fresh image keeps the rules of an image, and memory and any disk are coherent with it.
use Rattle.std.specs.Prelude.{◌≡◌, ℕ, ◌+◌, ◌-◌, ◌*◌, ◌<◌, ◌≤◌, true, false, List, length, slice_index, take, drop, None}
use Rattle.std.proofs.Common.{◌∙◌, ap, sym, subst, arith, get_or-take, length-drop}
use Rattle.std.proofs.lemmas.List.FromFn.{get_or-map-range_with_len, length-map-range_with_len}
use Rattle.rio_base.specs.Image.{AreImageSizes, entry_at, image_pages, registry_pages}
use Rattle.rio_base.specs.Machine.{Contents, Running}
use Rattle.rio_base.specs.Rules.{true_false}
use Rattle.image_codec.specs.Image.{IsImage, fresh_image_word, fresh_image_words}
use Rattle.rio_model.specs.Registry.{HasLayout, IsValid, KeepsRegistry, frames_of, gate_of, is_valid, tag_at}
use Rattle.rio_model.proofs.RegistryRules.{layout_of}
use Rattle.test_servers.specs.FreshMachines.{IsFreshMemory}

-- where no entry has a tag, none is valid
abbrev NoTags : List ℕ → Type 0
NoTags words = (k : ℕ) → k < frames_of words → tag_at words k ≡ 0

none_valid : (words : List ℕ) (k : ℕ) → NoTags words → IsValid words k → ⊥
none_valid words k empty v = true_false (sym v.valid ∙ ap (λ t. is_valid t) (empty k v.within))

not_valid : (words : List ℕ) (k : ℕ) → NoTags words → k < frames_of words → is_valid (tag_at words k) ≡ true → ⊥
not_valid words k empty less e = none_valid words k empty (record { within = less; valid = e })

-- so they keep the rules of an image, with no update open
keeps_rules : (words : List ℕ) → gate_of words ≡ 0 → NoTags words → KeepsRegistry words
keeps_rules words shut empty = record {
  gate = omega (arith, shut);
  tags = λ k less. record { invalid = λ e. empty k less; bits = λ e. absurd (not_valid words k empty less e) };
  blocks = λ j k v w same. absurd (none_valid words j empty v);
  metadata = λ k less. record { of_file = λ e d. absurd (not_valid words k empty less e); at_index = λ e d. absurd (not_valid words k empty less e); of_size = λ e d. absurd (not_valid words k empty less e) };
  names = λ k less. record { file_from = λ e d. absurd (not_valid words k empty less e); file_to = λ e d. absurd (not_valid words k empty less e); index_to = λ e d. absurd (not_valid words k empty less e) };
  sizes = λ k less e d. absurd (not_valid words k empty less e);
  shadows = λ k less. record { most = λ e. absurd (not_valid words k empty less e); of_data = λ e d. absurd (not_valid words k empty less e) };
  apart = λ j k v w same some. absurd (none_valid words j empty v);
}

-- ---- the words of a fresh image with one page of scratch

image_long : (words : List ℕ) (frames : ℕ) → words ≡ fresh_image_words frames 1 → length words ≡ 512 * image_pages frames 1
image_long words frames is = ap (λ (l : List ℕ). length l) is ∙ length-map-range_with_len (fresh_image_word frames 1) 0 (512 * image_pages frames 1)

-- a word of the header
header_is : (words : List ℕ) (frames i : ℕ) → words ≡ fresh_image_words frames 1 → i < 512 → slice_index words i ≡ fresh_image_word frames 1 i
header_is words frames i is low = ap (λ (l : List ℕ). slice_index l i) is ∙ get_or-map-range_with_len (fresh_image_word frames 1) 0 (512 * image_pages frames 1) i i 0 (omega (arith, low)) (omega arith)

-- entry k lies in the registry
within_registry : (k frames : ℕ) → k < frames → entry_at k + 5 ≤ 512 * (1 + registry_pages frames)
unfolding entry_at registry_pages
within_registry k frames h = omega (arith, h)

front_word : (words front : List ℕ) (i : ℕ) → front ≡ take (length words - 512) words → i < length words - 512 → slice_index front i ≡ slice_index words i
front_word words front i is less = ap (λ (l : List ℕ). slice_index l i) is ∙ get_or-take (length words - 512) words i 0 less

-- a machine that has them
pub fresh_memory : (frames : ℕ) (words : List ℕ) (c : Contents) (r : Running) → AreImageSizes frames 1 → IsImage words → words ≡ fresh_image_words frames 1 → ((k : ℕ) → k < frames → slice_index words (entry_at k) ≡ 0)
    → c.words ≡ take (length words - 512) words → c.open_page ≡ None
    → r.protected ≡ length words - 512 → r.scratch ≡ drop (length words - 512) words → r.stopped ≡ false → r.stop_set ≡ false → r.armed ≡ None → IsFreshMemory frames c r
fresh_memory frames words c r sizes image is empty front closed count rest running unset unarmed =
    let long : length words ≡ 512 * image_pages frames 1 = image_long words frames is in
    let two : slice_index words 2 ≡ frames = header_is words frames 2 is (omega arith) in
    let three : slice_index words 3 ≡ 1 = header_is words frames 3 is (omega arith) in
    let four : slice_index words 4 ≡ 0 = header_is words frames 4 is (omega arith) in
    let at : (i : ℕ) → i < 512 → slice_index c.words i ≡ slice_index words i = λ i less. front_word words c.words i front (omega (arith, less, long, sizes.least_frames)) in
    let layout : HasLayout c.words r.scratch = rw (front, rest) (layout_of words frames 1 two three sizes long) in
    let sized : frames_of c.words ≡ frames = at 2 (omega arith) ∙ two in
    let shut : gate_of c.words ≡ 0 = at 4 (omega arith) ∙ four in
    let none : NoTags c.words = λ k less. front_word words c.words (entry_at k) front (omega (arith, long, within_registry k frames (subst (λ f. k < f) sized less))) ∙ empty k (subst (λ f. k < f) sized less) in
    record {
      coherent = record {
        header = record { magic = at 0 (omega arith) ∙ image.header.magic; version = at 1 (omega arith) ∙ image.header.version };
        sizes = layout.sizes;
        protected = layout.protected;
        scratch_pages = layout.scratch_pages;
        rules = keeps_rules c.words shut none;
        entries = λ k. record {
          on_disk = λ v. absurd (none_valid c.words k none v);
          clean = λ v e. absurd (none_valid c.words k none v);
          unedited = λ v e. absurd (none_valid c.words k none v);
        };
      };
      closed = closed;
      shut = shut;
      sized = sized;
      empty = none;
      protected = omega (arith, count, long);
      scratch = ap (λ (l : List ℕ). length l) rest ∙ scratch_long words frames long;
      running = running;
      unset = unset;
      unarmed = unarmed;
    }
  where
    scratch_long : (words : List ℕ) (frames : ℕ) → length words ≡ 512 * image_pages frames 1 → length (drop (length words - 512) words) ≡ 512
    scratch_long words frames long = omega (arith, length-drop (length words - 512) words, long)

-- where memory has these words, and the machine is as one is made
pub memory_on : (frames : ℕ) (words all : List ℕ) (c made : Contents) (r run : Running) → AreImageSizes frames 1 → IsImage words → words ≡ fresh_image_words frames 1 → ((k : ℕ) → k < frames → slice_index words (entry_at k) ≡ 0) → all ≡ words
    → c ≡ made → made.words ≡ take (length all - 512) all → made.open_page ≡ None
    → r ≡ run → run.protected ≡ length all - 512 → run.scratch ≡ drop (length all - 512) all → run.stopped ≡ false → run.stop_set ≡ false → run.armed ≡ None → IsFreshMemory frames c r
memory_on frames words all c made r run sizes image is empty same ec front closed er count rest running unset unarmed =
    fresh_memory frames words c r sizes image is empty
    (ap (λ (x : Contents). x.words) ec ∙ front ∙ ap (λ (l : List ℕ). take (length l - 512) l) same)
    (ap (λ (x : Contents). x.open_page) ec ∙ closed)
    (ap (λ (x : Running). x.protected) er ∙ count ∙ ap (λ (l : List ℕ). length l - 512) same)
    (ap (λ (x : Running). x.scratch) er ∙ rest ∙ ap (λ (l : List ℕ). drop (length l - 512) l) same)
    (ap (λ (x : Running). x.stopped) er ∙ running)
    (ap (λ (x : Running). x.stop_set) er ∙ unset)
    (ap (λ (x : Running). x.armed) er ∙ unarmed)
