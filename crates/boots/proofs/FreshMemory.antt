-- A fresh image over a fresh volume stands for the root alone.
use Rattle.std.specs.Prelude.{◌≡◌, ℕ, ◌+◌, ◌-◌, ◌*◌, ◌<◌, ◌≤◌, true, List, length, slice_index, take, drop}
use Rattle.std.proofs.Common.{◌∙◌, ap, sym, subst, refl, arith, get_or-take}
use Rattle.std.proofs.lemmas.List.FromFn.{get_or-map-range_with_len, length-map-range_with_len}
use Rattle.std.proofs.lemmas.List.{length-take}
use Rattle.rio_base.specs.Image.{AreImageSizes, entry_at, image_pages, registry_pages}
use Rattle.rio_base.specs.Machine.{Contents}
use Rattle.rio_base.specs.Rules.{true_false}
use Rattle.rio_base.specs.Shapes.{IsServed}
use Rattle.rio_base.specs.declared.places.VolumeShape.{VolumeShape}
use Rattle.image_codec.specs.Image.{IsImage, fresh_image_word, fresh_image_words}
use Rattle.image_codec.specs.Volume.{fresh_volume_words}
use Rattle.block_disk.specs.MemDisks.{MemDiskState, contents_of, words_state}
use Rattle.machine_bench.specs.Benches.{made_contents}
use Rattle.rio_model.specs.Fresh.{fresh_state}
use Rattle.rio_model.specs.Registry.{HasLayout, IsValid, KeepsRegistry, frames_of, gate_of, is_valid, scratch_of, tag_at}
use Rattle.rio_model.specs.Standing.{Restorable}
use Rattle.rio_model.proofs.FreshPair.{fresh_stands}
use Rattle.rio_model.proofs.RegistryRules.{layout_of}
use Rattle.boots.specs.Parts.{IsFreshDisk, PartsStand}

-- ---- an image without entries

-- where no entry has a tag, none is valid
abbrev NoTags : List ℕ → Type 0
NoTags words = (k : ℕ) → k < frames_of words → tag_at words k ≡ 0

none_valid : (words : List ℕ) (k : ℕ) → NoTags words → IsValid words k → ⊥
none_valid words k empty v = true_false (sym v.valid ∙ ap (λ t. is_valid t) (empty k v.within))

not_valid : (words : List ℕ) (k : ℕ) → NoTags words → k < frames_of words → is_valid (tag_at words k) ≡ true → ⊥
not_valid words k empty less e = none_valid words k empty (record { within = less; valid = e })

-- so they keep the rules of an image, with no update open
keeps_rules : (words : List ℕ) → gate_of words ≡ 0 → NoTags words → KeepsRegistry words
keeps_rules words shut empty = record {
  gate = omega (arith, shut);
  tags = λ k less. record { invalid = λ e. empty k less; bits = λ e. absurd (not_valid words k empty less e) };
  blocks = λ j k v w same. absurd (none_valid words j empty v);
  metadata = λ k less. record { of_file = λ e d. absurd (not_valid words k empty less e); at_index = λ e d. absurd (not_valid words k empty less e); of_size = λ e d. absurd (not_valid words k empty less e) };
  names = λ k less. record { file_from = λ e d. absurd (not_valid words k empty less e); file_to = λ e d. absurd (not_valid words k empty less e); index_to = λ e d. absurd (not_valid words k empty less e) };
  sizes = λ k less e d. absurd (not_valid words k empty less e);
  shadows = λ k less. record { most = λ e. absurd (not_valid words k empty less e); of_data = λ e d. absurd (not_valid words k empty less e) };
  apart = λ j k v w same some. absurd (none_valid words j empty v);
}

-- ---- the words of a fresh image

image_long : (words : List ℕ) (frames scratch : ℕ) → words ≡ fresh_image_words frames scratch → length words ≡ 512 * image_pages frames scratch
image_long words frames scratch is = ap (λ (l : List ℕ). length l) is ∙ length-map-range_with_len (fresh_image_word frames scratch) 0 (512 * image_pages frames scratch)

-- a word of the header
header_is : (words : List ℕ) (frames scratch i : ℕ) → words ≡ fresh_image_words frames scratch → i < 512 → slice_index words i ≡ fresh_image_word frames scratch i
header_is words frames scratch i is low = ap (λ (l : List ℕ). slice_index l i) is ∙ get_or-map-range_with_len (fresh_image_word frames scratch) 0 (512 * image_pages frames scratch) i i 0 (omega (arith, low)) (omega arith)

-- entry k lies in the registry
within_registry : (k frames : ℕ) → k < frames → entry_at k + 5 ≤ 512 * (1 + registry_pages frames)
unfolding entry_at registry_pages
within_registry k frames h = omega (arith, h)

front_word : (words : List ℕ) (scratch i : ℕ) → i < length words - 512 * scratch → slice_index (take (length words - 512 * scratch) words) i ≡ slice_index words i
front_word words scratch i less = get_or-take (length words - 512 * scratch) words i 0 less

-- its protected words are those of an image without entries
pub record IsBareImage (front : List ℕ) (scratch : ℕ) : Type 0 where
  pub image : (c : Contents) → c.words ≡ front → Restorable c (512 * scratch)
  pub bare : NoTags front

bare_image : (words : List ℕ) (frames scratch : ℕ) → AreImageSizes frames scratch → IsImage words → words ≡ fresh_image_words frames scratch → ((k : ℕ) → k < frames → slice_index words (entry_at k) ≡ 0) → IsBareImage (take (length words - 512 * scratch) words) scratch
bare_image words frames scratch sizes image is empty = record { image = λ c same. restorable c same; bare = none }
  where
    front : List ℕ
    front = take (length words - 512 * scratch) words

    long : length words ≡ 512 * image_pages frames scratch
    long = image_long words frames scratch is

    two : slice_index words 2 ≡ frames
    two = header_is words frames scratch 2 is (omega arith)

    three : slice_index words 3 ≡ scratch
    three = header_is words frames scratch 3 is (omega arith)

    at : (i : ℕ) → i < 512 → slice_index (take (length words - 512 * scratch) words) i ≡ slice_index words i
    at i less = front_word words scratch i (omega (arith, less, long, sizes.least_frames))

    layout : HasLayout (take (length words - 512 * scratch) words) (drop (length words - 512 * scratch) words)
    layout = layout_of words frames scratch two three sizes long

    sized : frames_of (take (length words - 512 * scratch) words) ≡ frames
    sized = at 2 (omega arith) ∙ two

    shut : gate_of (take (length words - 512 * scratch) words) ≡ 0
    shut = at 4 (omega arith) ∙ header_is words frames scratch 4 is (omega arith)

    own : scratch_of (take (length words - 512 * scratch) words) ≡ scratch
    own = at 3 (omega arith) ∙ three

    none : NoTags (take (length words - 512 * scratch) words)
    none k less = front_word words scratch (entry_at k) (omega (arith, long, within_registry k frames (subst (λ f. k < f) sized less))) ∙ empty k (subst (λ f. k < f) sized less)

    restorable : (c : Contents) → c.words ≡ take (length words - 512 * scratch) words → Restorable c (512 * scratch)
    restorable c same = rw same (record {
      header = record { magic = at 0 (omega arith) ∙ image.header.magic; version = at 1 (omega arith) ∙ image.header.version };
      sizes = layout.sizes;
      protected = layout.protected;
      scratch_pages = ap (λ n. 512 * n) (sym own);
      rules = keeps_rules (take (length words - 512 * scratch) words) shut none;
      on_disk = λ k v. absurd (none_valid (take (length words - 512 * scratch) words) k none v);
    })

-- ---- memory and disk

pub fresh_parts : (frames scratch : ℕ) (shape : VolumeShape) (words all : List ℕ) (disk : MemDiskState) → AreImageSizes frames scratch → IsServed shape → IsImage words → words ≡ fresh_image_words frames scratch → ((k : ℕ) → k < frames → slice_index words (entry_at k) ≡ 0) → all ≡ words
    → IsFreshDisk shape disk.blocks disk.pending → disk ≡ words_state (fresh_volume_words shape.blocks shape.inodes) → PartsStand all disk scratch 0 (fresh_state shape (image_pages frames scratch) scratch)
fresh_parts frames scratch shape words all disk sizes served image is empty same fresh made = subst (λ (ws : List ℕ). PartsStand ws disk scratch 0 (fresh_state shape (image_pages frames scratch) scratch)) (sym same) (record {
  stands = λ whole. fresh_stands (made_contents words scratch (contents_of disk)) (512 * scratch) shape (image_pages frames scratch) scratch (record {
    whole = fresh.whole;
    image = bare.image (made_contents words scratch (contents_of disk)) refl;
    bare = bare.bare;
    volume = fresh.volume;
    count = fresh.count;
    told = fresh.settled;
    served = served;
    pages_are = pages;
    scratch_are = refl;
  });
  whole_pages = omega (arith, long);
  room = room;
  never = (ap (λ (d : MemDiskState). d.failing) made, ap (λ (d : MemDiskState). d.failing_reads) made);
  counted = let none = ap (λ (d : MemDiskState). d.faults) made in omega (arith, none);
  few = omega arith;
})
  where
    bare : IsBareImage (take (length words - 512 * scratch) words) scratch
    bare = bare_image words frames scratch sizes image is empty

    long : length words ≡ 512 * image_pages frames scratch
    long = image_long words frames scratch is

    room : 512 * scratch < length words
    room = omega (arith, long)

    pages : 512 * image_pages frames scratch ≡ length (take (length words - 512 * scratch) words) + 512 * scratch
    pages = omega (arith, long, length-take (length words - 512 * scratch) words)

pub fresh_long : (words all : List ℕ) (frames scratch : ℕ) → words ≡ fresh_image_words frames scratch → all ≡ words → length all ≡ 512 * image_pages frames scratch
fresh_long words all frames scratch is same = ap (λ (l : List ℕ). length l) same ∙ image_long words frames scratch is
