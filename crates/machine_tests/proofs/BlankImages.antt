-- A fresh image keeps the rules of an image, memory and any disk are coherent with it, and a cache of it can be walked.
use Rattle.std.specs.Prelude.{◌≡◌, ℕ, ◌-◌, ◌*◌, ◌<◌, ◌==◌, true, false, List, length, slice_index, take, drop, Option, Some, None, is_some, refl}
use Rattle.std.proofs.Common.{◌∙◌, ap, sym, subst, arith, get_or-take}
use Rattle.rio_base.specs.Image.{AreImageSizes, entry_at, image_pages}
use Rattle.rio_base.specs.Machine.{Contents, Running}
use Rattle.rio_base.specs.Rules.{true_false}
use Rattle.image_codec.specs.Image.{IsImage}
use Rattle.rio_model.specs.Cover.{entry_of_block}
use Rattle.rio_model.specs.CoverLookups.{found_is}
use Rattle.rio_model.specs.Registry.{HasLayout, IsValid, KeepsRegistry, frames_of, gate_of, is_valid, tag_at}
use Rattle.rio_model.proofs.RegistryRules.{layout_of}
use Rattle.cached_pages.specs.Caches.{IsFresh, cache_seen}
use Rattle.cached_pages.specs.declared.tables.CacheTables.{CacheTables}
use Rattle.machine_tests.specs.TestMachines.{IsBlank}
use Rattle.machine_tests.specs.Walks.{Walks}
use Rattle.machine_tests.proofs.TestImages.{within_registry}

-- where no entry has a tag, none is valid
abbrev pub NoTags : List ℕ → Type 0
NoTags words = (k : ℕ) → k < frames_of words → tag_at words k ≡ 0

none_valid : (words : List ℕ) (k : ℕ) → NoTags words → IsValid words k → ⊥
none_valid words k empty v = true_false (sym v.valid ∙ ap (λ t. is_valid t) (empty k v.within))

not_valid : (words : List ℕ) (k : ℕ) → NoTags words → k < frames_of words → is_valid (tag_at words k) ≡ true → ⊥
not_valid words k empty less e = none_valid words k empty (record { within = less; valid = e })

-- so they keep the rules of an image, with no update open
pub keeps_rules : (words : List ℕ) → gate_of words ≡ 0 → NoTags words → KeepsRegistry words
keeps_rules words shut empty = record {
  gate = omega (arith, shut);
  tags = λ k less. record { invalid = λ e. empty k less; bits = λ e. absurd (not_valid words k empty less e) };
  blocks = λ j k v w same. absurd (none_valid words j empty v);
  metadata = λ k less. record { of_file = λ e d. absurd (not_valid words k empty less e); at_index = λ e d. absurd (not_valid words k empty less e); of_size = λ e d. absurd (not_valid words k empty less e) };
  names = λ k less. record { file_from = λ e d. absurd (not_valid words k empty less e); file_to = λ e d. absurd (not_valid words k empty less e); index_to = λ e d. absurd (not_valid words k empty less e) };
  sizes = λ k less e d. absurd (not_valid words k empty less e);
  shadows = λ k less. record { most = λ e. absurd (not_valid words k empty less e); of_data = λ e d. absurd (not_valid words k empty less e) };
  apart = λ j k v w same some. absurd (none_valid words j empty v);
}

pages : (words : List ℕ) (frames : ℕ) → IsImage words → slice_index words 2 ≡ frames → slice_index words 3 ≡ 1 → length words ≡ 512 * image_pages frames 1
pages words frames image two three = omega (arith, subst (λ f. 8 * length words ≡ 4096 * image_pages f 1) two (subst (λ s. 8 * length words ≡ 4096 * image_pages (slice_index words 2) s) three image.geometry.pages))

front_word : (words front : List ℕ) (i : ℕ) → front ≡ take (length words - 512) words → i < length words - 512 → slice_index front i ≡ slice_index words i
front_word words front i is less = ap (λ (l : List ℕ). slice_index l i) is ∙ get_or-take (length words - 512) words i 0 less

pub blank : (words : List ℕ) (frames : ℕ) (c : Contents) (r : Running) → IsImage words → slice_index words 2 ≡ frames → slice_index words 3 ≡ 1 → slice_index words 4 ≡ 0
    → ((k : ℕ) → k < frames → slice_index words (entry_at k) ≡ 0) → AreImageSizes frames 1
    → c.words ≡ take (length words - 512) words → r.scratch ≡ drop (length words - 512) words → c.open_page ≡ None → length c.disk ≡ 64 → IsBlank frames c r
blank words frames c r image two three four empty sizes front rest closed blocks =
    let long = pages words frames image two three in
    let at : (i : ℕ) → i < 512 → slice_index c.words i ≡ slice_index words i = λ i less. front_word words c.words i front (omega (arith, less, long, sizes.least_frames)) in
    let layout : HasLayout c.words r.scratch = rw (front, rest) (layout_of words frames 1 two three sizes long) in
    let sized : frames_of c.words ≡ frames = at 2 (omega arith) ∙ two in
    let shut : gate_of c.words ≡ 0 = at 4 (omega arith) ∙ four in
    let none : NoTags c.words = λ k less. front_word words c.words (entry_at k) front (omega (arith, long, within_registry k frames (subst (λ f. k < f) sized less))) ∙ empty k (subst (λ f. k < f) sized less) in
    record {
      coherent = record {
        header = record { magic = at 0 (omega arith) ∙ image.header.magic; version = at 1 (omega arith) ∙ image.header.version };
        sizes = layout.sizes;
        protected = layout.protected;
        scratch_pages = layout.scratch_pages;
        rules = keeps_rules c.words shut none;
        entries = λ k. record {
          on_disk = λ v. absurd (none_valid c.words k none v);
          clean = λ v e. absurd (none_valid c.words k none v);
          unedited = λ v e. absurd (none_valid c.words k none v);
        };
      };
      closed = closed;
      shut = shut;
      sized = sized;
      empty = none;
      blocks = blocks;
    }

-- where memory has these words
pub blank_on : (words all : List ℕ) (frames : ℕ) (c : Contents) (r : Running) → all ≡ words → IsImage words → slice_index words 2 ≡ frames → slice_index words 3 ≡ 1 → slice_index words 4 ≡ 0
    → ((k : ℕ) → k < frames → slice_index words (entry_at k) ≡ 0) → AreImageSizes frames 1
    → c.words ≡ take (length all - 512) all → r.scratch ≡ drop (length all - 512) all → c.open_page ≡ None → length c.disk ≡ 64 → IsBlank frames c r
blank_on words all frames c r is image two three four empty sizes front rest closed blocks =
    blank words frames c r image two three four empty sizes (subst (λ l. c.words ≡ take (length l - 512) l) is front) (subst (λ l. r.scratch ≡ drop (length l - 512) l) is rest) closed blocks

-- tables for this machine
pub fresh_for : (frames : ℕ) (c : Contents) (r : Running) (t : CacheTables) → IsBlank frames c r → IsFresh frames 64 t → IsFresh (frames_of c.words) (length c.disk) t
fresh_for frames c r t h fresh = subst (λ n. IsFresh (frames_of c.words) n t) (sym h.blocks) (subst (λ f. IsFresh f 64 t) (sym h.sized) fresh)

-- no block is cached, so none under another name
no_name : (words : List ℕ) (b : ℕ) (o : Option ℕ) → NoTags words → entry_of_block words b ≡ o → is_some o ≡ true → ⊥
no_name words b None empty e some = true_false (sym some)
no_name words b (Some k) empty e some = none_valid words k empty (found_is words b k e).0

pub blank_walks : (frames : ℕ) (c : Contents) (r : Running) → IsBlank frames c r → Walks (cache_seen c)
blank_walks frames c r h = record {
  count = h.blocks;
  named = λ b cached. absurd (no_name c.words b (entry_of_block c.words b) h.empty refl cached);
}

pub blank_idle : (frames : ℕ) (c : Contents) (r : Running) → IsBlank frames c r → (gate_of c.words == 1) ≡ false
blank_idle frames c r h = ap (λ g. g == 1) h.shut
