-- The rules of the registry after one entry changes.
use Rattle.rio_model.proofs.Common.{length, slice_index, ◌∙◌, ap, sym, arith, subst, inl, inr, cases_eq, eq-eqb}
use Rattle.std.specs.Prelude.{◌≡◌, ◌≢◌, ℕ, ◌+◌, ◌-◌, ◌*◌, ◌%◌, ◌^◌, ◌<◌, ◌≤◌, ◌==◌, ◌⊎◌, true, List, take, drop}
use Rattle.std.proofs.Common.{length-take-le, get_or-take}
use Rattle.std.proofs.lemmas.List.{length-drop}
use Rattle.rio_base.specs.Image.{AreImageSizes, image_pages, registry_pages}
use Rattle.rio_base.specs.Memory.{page_at}
use Rattle.rio_model.specs.Registry.{IsValid, KeepsRegistry, OneEntry, frames_of, is_data, is_dirty, is_valid, shadow_at, tag_at, tag_block, with_dirty, without_dirty, HasLayout, page_of_entry, EntryKeeps}
use Rattle.rio_model.proofs.CoverLookups.{entry_one, frames_one, header_one, tag_one}

-- its words
abbrev pub entry_page : List ℕ → ℕ → List ℕ
entry_page words k = page_at words (page_of_entry words k)

-- ---- laws

-- the first words of an image that has so many pages besides
split_layout : (words : List ℕ) (frames scratch at : ℕ) → slice_index words 2 ≡ frames → slice_index words 3 ≡ scratch → AreImageSizes frames scratch
    → at ≡ 512 * (17 + registry_pages frames + frames) → length words ≡ at + 512 * scratch → HasLayout (take at words) (drop at words)
split_layout words frames scratch at two three sizes count long = record {
  sizes = rw (frames_are, scratch_is) sizes;
  protected = length-take-le at words (omega (arith, long)) ∙ count ∙ ap (λ f. 512 * (17 + registry_pages f + f)) (sym frames_are);
  scratch_pages = length-drop at words ∙ rest ∙ ap (λ s. 512 * s) (sym scratch_is);
}
  where
    rest : length words - at ≡ 512 * scratch
    rest = omega (arith, long)

    frames_are : slice_index (take at words) 2 ≡ frames
    frames_are = get_or-take at words 2 0 (omega (arith, count)) ∙ two

    scratch_is : slice_index (take at words) 3 ≡ scratch
    scratch_is = get_or-take at words 3 0 (omega (arith, count)) ∙ three

-- an image's words, of which all but the scratch pages are protected
pub layout_of : (words : List ℕ) (frames scratch : ℕ) → slice_index words 2 ≡ frames → slice_index words 3 ≡ scratch → AreImageSizes frames scratch → length words ≡ 512 * image_pages frames scratch
    → HasLayout (take (length words - 512 * scratch) words) (drop (length words - 512 * scratch) words)
layout_of words frames scratch two three sizes long =
    split_layout words frames scratch (length words - 512 * scratch) two three sizes (omega (arith, long)) (omega (arith, long))

pub entry_keeps : (words : List ℕ) (k : ℕ) → KeepsRegistry words → k < frames_of words → EntryKeeps words k
entry_keeps words k h less = record { tag = h.tags k less; metadata = h.metadata k less; name = h.names k less; size = h.sizes k less; shadow = h.shadows k less }

pub entry_moved : (k j : ℕ) (old new : List ℕ) → OneEntry k old new → j ≢ k → EntryKeeps old j → EntryKeeps new j
entry_moved k j old new one n h =
    let t = tag_one k j old new one n in
    let f = entry_one k j 1 old new one n (omega arith) in
    let i = entry_one k j 2 old new one n (omega arith) in
    let s = entry_one k j 3 old new one n (omega arith) in
    let d = entry_one k j 4 old new one n (omega arith) in
    record {
      tag = rw t h.tag;
      metadata = rw (t, f, i, s) h.metadata;
      name = rw (t, f, i) h.name;
      size = rw (t, s) h.size;
      shadow = rw (t, d) h.shadow;
    }

pub valid_moved : (k j : ℕ) (old new : List ℕ) → OneEntry k old new → j ≢ k → IsValid new j → IsValid old j
valid_moved k j old new one n v = record { within = subst (λ f. j < f) (frames_one k old new one) v.within; valid = ap is_valid (sym (tag_one k j old new one n)) ∙ v.valid }

-- what entry k has to keep beside the others
pub record Apart (k : ℕ) (old new : List ℕ) : Type 0 where
  pub blocks : (j : ℕ) → j ≢ k → IsValid old j → IsValid new k → tag_block (tag_at old j) ≢ tag_block (tag_at new k)
  pub shadows : (j : ℕ) → j ≢ k → IsValid old j → IsValid new k → shadow_at new k ≢ 0 → shadow_at old j ≢ shadow_at new k

pub registry_one : (k : ℕ) (old new : List ℕ) → KeepsRegistry old → OneEntry k old new → EntryKeeps new k → Apart k old new → KeepsRegistry new
registry_one k old new h one mine apart = record {
  gate = subst (λ g. g ≤ 1) (sym (header_one k old new 4 one (omega arith))) h.gate;
  tags = λ j less. (each j (cases_eq j k) less).tag;
  metadata = λ j less. (each j (cases_eq j k) less).metadata;
  names = λ j less. (each j (cases_eq j k) less).name;
  sizes = λ j less. (each j (cases_eq j k) less).size;
  shadows = λ j less. (each j (cases_eq j k) less).shadow;
  blocks = λ i j v w same. two i j v w same (cases_eq i k) (cases_eq j k);
  apart = λ i j v w same some. two_shadows i j v w same some (cases_eq i k) (cases_eq j k);
}
  where
    each : (j : ℕ) → (j ≡ k) ⊎ (j ≢ k) → j < frames_of new → EntryKeeps new j
    each j (inl e) less = subst (EntryKeeps new) (sym e) mine
    each j (inr n) less = entry_moved k j old new one n (entry_keeps old j h (subst (λ f. j < f) (frames_one k old new one) less))

    two : (i j : ℕ) → IsValid new i → IsValid new j → tag_block (tag_at new i) ≡ tag_block (tag_at new j) → (i ≡ k) ⊎ (i ≢ k) → (j ≡ k) ⊎ (j ≢ k) → i ≡ j
    two i j v w same (inl e) (inl d) = e ∙ sym d
    two i j v w same (inl e) (inr n) = absurd (apart.blocks j n (valid_moved k j old new one n w) (subst (IsValid new) e v) (ap tag_block (sym (tag_one k j old new one n)) ∙ sym same ∙ ap (λ m. tag_block (tag_at new m)) e))
    two i j v w same (inr n) (inl d) = absurd (apart.blocks i n (valid_moved k i old new one n v) (subst (IsValid new) d w) (ap tag_block (sym (tag_one k i old new one n)) ∙ same ∙ ap (λ m. tag_block (tag_at new m)) d))
    two i j v w same (inr n) (inr m) = h.blocks i j (valid_moved k i old new one n v) (valid_moved k j old new one m w) (ap tag_block (sym (tag_one k i old new one n)) ∙ same ∙ ap tag_block (tag_one k j old new one m))

    two_shadows : (i j : ℕ) → IsValid new i → IsValid new j → shadow_at new i ≡ shadow_at new j → shadow_at new i ≢ 0 → (i ≡ k) ⊎ (i ≢ k) → (j ≡ k) ⊎ (j ≢ k) → i ≡ j
    two_shadows i j v w same some (inl e) (inl d) = e ∙ sym d
    two_shadows i j v w same some (inl e) (inr n) = absurd (apart.shadows j n (valid_moved k j old new one n w) (subst (IsValid new) e v) (λ z. some (ap (shadow_at new) e ∙ z)) (sym (entry_one k j 4 old new one n (omega arith)) ∙ sym same ∙ ap (shadow_at new) e))
    two_shadows i j v w same some (inr n) (inl d) = absurd (apart.shadows i n (valid_moved k i old new one n v) (subst (IsValid new) d w) (λ z. some (same ∙ ap (shadow_at new) d ∙ z)) (sym (entry_one k i 4 old new one n (omega arith)) ∙ same ∙ ap (shadow_at new) d))
    two_shadows i j v w same some (inr n) (inr m) = h.apart i j (valid_moved k i old new one n v) (valid_moved k j old new one m w) (sym (entry_one k i 4 old new one n (omega arith)) ∙ same ∙ entry_one k j 4 old new one m (omega arith)) (λ z. some (entry_one k i 4 old new one n (omega arith) ∙ z))

-- ---- tags

pub dirtied_valid : (t : ℕ) → is_valid (with_dirty t) ≡ is_valid t
dirtied_valid t = ap (λ n. n == 1) (omega arith)

pub dirtied_data : (t : ℕ) → is_data (with_dirty t) ≡ is_data t
dirtied_data t = ap (λ n. n % 2 == 1) (omega arith)

pub dirtied_block : (t : ℕ) → tag_block (with_dirty t) ≡ tag_block t
dirtied_block t = omega arith

pub dirtied_dirty : (t : ℕ) → is_dirty (with_dirty t) ≡ true
dirtied_dirty t = eq-eqb _ 1 (omega arith)

pub dirtied_bits : (t : ℕ) → t % 2 ^ 32 < 8 → with_dirty t % 2 ^ 32 < 8
dirtied_bits t h = omega (arith, h)

pub cleaned_valid : (t : ℕ) → is_valid (without_dirty t) ≡ is_valid t
cleaned_valid t = ap (λ n. n == 1) (omega arith)

pub cleaned_data : (t : ℕ) → is_data (without_dirty t) ≡ is_data t
cleaned_data t = ap (λ n. n % 2 == 1) (omega arith)

pub cleaned_block : (t : ℕ) → tag_block (without_dirty t) ≡ tag_block t
cleaned_block t = omega arith

pub cleaned_bits : (t : ℕ) → t % 2 ^ 32 < 8 → without_dirty t % 2 ^ 32 < 8
cleaned_bits t h = omega (arith, h)
