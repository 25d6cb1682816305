-- An entry gets another shadow, or none.
use Rattle.std.specs.Prelude.{◌≡◌, ◌≢◌, ℕ, ◌+◌, ◌*◌, ◌<◌, ◌≤◌, true, ◌⊎◌, List, slice_index, refl}
use Rattle.std.proofs.Common.{◌∙◌, ap, sym, subst, inl, inr, arith}
use Rattle.std.proofs.lemmas.Bool.{cases_eq}
use Rattle.rio_base.specs.Image.{entry_at, registry_pages}
use Rattle.rio_base.specs.Machine.{Contents}
use Rattle.rio_base.specs.Rules.{true_false}
use Rattle.rio_model.specs.Cover.{Keeps, SameNames, cover_by, entry_of_block, frame_page, reads, stands}
use Rattle.rio_model.specs.CoverChanges.{covers_by, place_bare}
use Rattle.rio_model.proofs.CoverChanges.{found_kept, frame_word_one, page_word_one, place_shadow, reads_kept}
use Rattle.rio_model.proofs.CoverLookups.{behind_one, entry_one, frames_one, header_one, tag_one}
use Rattle.rio_model.specs.CoverLookups.{cover_same}
use Rattle.rio_model.proofs.CoverSteps.{coherent_one, disk_same, firm_by, pending_same}
use Rattle.rio_model.specs.Registry.{EntryKeeps, IsValid, OneEntry, file_at, frames_of, gate_of, index_at, is_data, is_dirty, is_valid, page_of_entry, shadow_at, size_at, tag_at, tag_block}
use Rattle.rio_model.proofs.RegistryRules.{entry_keeps, registry_one}
use Rattle.registry.specs.Entries.{entry_of}
use Rattle.registry.specs.declared.entry.Entry.{Entry}
use Rattle.shadow_pages.specs.Steps.{CanShadow, Clears, IsCopied, StoresWords}

-- entry k has this shadow now, and no other word changes
pub record Reshadowed (k s : ℕ) (old new : List ℕ) : Type 0 where
  pub one : OneEntry k old new
  pub tag : tag_at new k ≡ tag_at old k
  pub file : file_at new k ≡ file_at old k
  pub index : index_at new k ≡ index_at old k
  pub size : size_at new k ≡ size_at old k
  pub shadow : shadow_at new k ≡ s

pub reshadowed : (k s : ℕ) (old new : List ℕ) → OneEntry k old new → entry_of new k ≡ record (entry_of old k) { shadow = s } → Reshadowed k s old new
reshadowed k s old new one e = record {
  one = one;
  tag = ap (λ (x : Entry). x.tag) e;
  file = ap (λ (x : Entry). x.file) e;
  index = ap (λ (x : Entry). x.index) e;
  size = ap (λ (x : Entry). x.size) e;
  shadow = ap (λ (x : Entry). x.shadow) e;
}

-- entry k may have this shadow
pub record FitsShadow (k s : ℕ) (words : List ℕ) : Type 0 where
  pub most : s ≤ 16
  pub of_data : is_data (tag_at words k) ≡ true → s ≡ 0
  pub free : (j : ℕ) → j ≢ k → IsValid words j → s ≢ 0 → shadow_at words j ≢ s

pub tag_all : (k s j : ℕ) (old new : List ℕ) → Reshadowed k s old new → tag_at new j ≡ tag_at old j
tag_all k s j old new r = from (cases_eq j k)
  where
    from : (j ≡ k) ⊎ (j ≢ k) → tag_at new j ≡ tag_at old j
    from (inl e) = subst (λ n. tag_at new n ≡ tag_at old n) (sym e) r.tag
    from (inr n) = tag_one k j old new r.one n

-- where what counts for it reads the same, all is kept
pub keeps_shadow : (k s : ℕ) (old new : Contents) → new ≡ record old { words = new.words } → IsValid old.words k → Reshadowed k s old.words new.words → FitsShadow k s old.words → ((w : ℕ) → w < 512 → slice_index new.words (512 * page_of_entry new.words k + w) ≡ slice_index old.words (512 * page_of_entry old.words k + w)) → Keeps old new
keeps_shadow k s old new rest v r may same = record {
  reads = subst (λ d. cover_by (frame_page new.words) new.words d ≡ reads old) (sym disk) (reads_kept k old.words new.words old.disk r.one v.within (ap is_valid r.tag) (ap tag_block r.tag));
  stands = subst (λ d. cover_by (page_of_entry new.words) new.words d ≡ stands old) (sym disk) (covers_by (page_of_entry old.words) old.words old.disk (page_of_entry new.words) new.words old.disk (λ b w less. cover_same (page_of_entry old.words) old.words old.disk (page_of_entry new.words) new.words old.disk b w (record {
    entry = found b;
    pages = λ j x e small. page j x small (cases_eq j k);
    homes = λ x e small. refl;
  })));
  header = λ i less. header_one k old.words new.words i r.one less;
  firm = firm_by old new (pending_same old new rest) (λ b j f d. (found b ∙ f, ap is_dirty (tag_all k s j old.words new.words r) ∙ d));
  coherent = λ m h. coherent_one m k old new rest r.one v.within h (registry_one k old.words new.words h.rules r.one (mine (entry_keeps old.words k h.rules v.within)) (record {
    blocks = λ j ne w x e. ne (h.rules.blocks j k w v (e ∙ ap tag_block r.tag));
    shadows = λ j ne w x some e. may.free j ne w (λ z. some (r.shadow ∙ z)) (e ∙ r.shadow);
  })) (record {
    on_disk = λ w. rw (r.tag, disk) ((h.entries k).on_disk v);
    clean = λ w c x small. frame_word_one k k x old.words new.words r.one v.within ∙ (h.entries k).clean v (sym (ap is_dirty r.tag) ∙ c) x small ∙ rw (r.tag, disk) refl;
    unedited = λ w c x small. same x small ∙ (h.entries k).unedited v (sym (ap is_dirty r.tag) ∙ c) x small ∙ sym (frame_word_one k k x old.words new.words r.one v.within);
  });
}
  where
    disk : new.disk ≡ old.disk
    disk = disk_same old new rest

    found : (b : ℕ) → entry_of_block new.words b ≡ entry_of_block old.words b
    found b = found_kept k b old.words new.words r.one (ap is_valid r.tag) (ap tag_block r.tag)

    page : (j x : ℕ) → x < 512 → (j ≡ k) ⊎ (j ≢ k) → slice_index new.words (512 * page_of_entry new.words j + x) ≡ slice_index old.words (512 * page_of_entry old.words j + x)
    page j x small (inl e) = subst (λ n. slice_index new.words (512 * page_of_entry new.words n + x) ≡ slice_index old.words (512 * page_of_entry old.words n + x)) (sym e) (same x small)
    page j x small (inr n) = page_word_one k j x old.words new.words r.one v.within (λ e. absurd (n e))

    mine : EntryKeeps old.words k → EntryKeeps new.words k
    mine was = record {
      tag = rw r.tag was.tag;
      metadata = rw (r.tag, r.file, r.index, r.size) was.metadata;
      name = rw (r.tag, r.file, r.index) was.name;
      size = rw (r.tag, r.size) was.size;
      shadow = record { most = λ e. subst (λ n. n ≤ 16) (sym r.shadow) may.most; of_data = λ e d. r.shadow ∙ may.of_data (sym (ap is_data r.tag) ∙ d) };
    }

-- while the gate isn't 1, frames count, whatever shadows there are
idle_page : (k s w : ℕ) (old new : List ℕ) → gate_of old ≢ 1 → k < frames_of old → Reshadowed k s old new → slice_index new (512 * page_of_entry new k + w) ≡ slice_index old (512 * page_of_entry old k + w)
idle_page k s w old new shut within r =
    ap (λ p. slice_index new (512 * p + w)) (place_bare new k (inl (λ e. shut (sym (header_one k old new 4 r.one (omega arith)) ∙ e))))
    ∙ frame_word_one k k w old new r.one within
    ∙ ap (λ p. slice_index old (512 * p + w)) (sym (place_bare old k (inl shut)))

-- a copy of the frame may stand for it
shadow_page : (k s w : ℕ) (old new : List ℕ) → k < frames_of old → 1 ≤ s → shadow_at old k ≡ 0 → IsCopied k s old → Reshadowed k s old new → w < 512 → (gate_of old ≡ 1) ⊎ (gate_of old ≢ 1) → slice_index new (512 * page_of_entry new k + w) ≡ slice_index old (512 * page_of_entry old k + w)
shadow_page k s w old new within some bare copied r small (inr shut) = idle_page k s w old new shut within r
shadow_page k s w old new within some bare copied r small (inl is_open) =
    ap (λ p. slice_index new (512 * p + w)) (place_shadow new k (header_one k old new 4 r.one (omega arith) ∙ is_open) (λ z. absurd (omega (arith, some, r.shadow, z))))
    ∙ ap (λ n. slice_index new (512 * n + w)) place
    ∙ behind_one k old new (512 * (registry_pages (frames_of old) + s) + w) r.one within (omega (arith, some))
    ∙ copied.each w small
    ∙ ap (λ p. slice_index old (512 * p + w)) (sym (place_bare old k (inr bare)))
  where
    place : registry_pages (frames_of new) + shadow_at new k ≡ registry_pages (frames_of old) + s
    place = rw (frames_one k old new r.one, r.shadow) refl

pub names_shadow : (k s : ℕ) (old new : List ℕ) → Reshadowed k s old new → SameNames old new
names_shadow k s old new r = record {
  frames = frames_one k old new r.one;
  tag = λ j less. tag_all k s j old new r;
  file = λ j less. at j 1 (omega arith) r.file (cases_eq j k);
  index = λ j less. at j 2 (omega arith) r.index (cases_eq j k);
  size = λ j less. at j 3 (omega arith) r.size (cases_eq j k);
}
  where
    at : (j x : ℕ) → x < 5 → slice_index new (entry_at k + x) ≡ slice_index old (entry_at k + x) → (j ≡ k) ⊎ (j ≢ k) → slice_index new (entry_at j + x) ≡ slice_index old (entry_at j + x)
    at j x small mine (inl e) = subst (λ n. slice_index new (entry_at n + x) ≡ slice_index old (entry_at n + x)) (sym e) mine
    at j x small mine (inr n) = entry_one k j x old new r.one n small

-- ---- what set_shadow does

-- while the gate isn't 1, a shadow is taken away
pub keeps_taken : (k : ℕ) (old new : Contents) → gate_of old.words ≢ 1 → new ≡ record old { words = new.words } → IsValid old.words k → OneEntry k old.words new.words → entry_of new.words k ≡ record (entry_of old.words k) { shadow = 0 } → Keeps old new
keeps_taken k old new shut rest v one e = keeps_shadow k 0 old new rest v (reshadowed k 0 old.words new.words one e) (record { most = omega arith; of_data = λ d. refl; free = λ j n w z. absurd (z refl) }) (λ w small. idle_page k 0 w old.words new.words shut v.within (reshadowed k 0 old.words new.words one e))

-- a shadow that no other entry has, and that holds a copy of the frame, is given
pub keeps_given : (k s : ℕ) (old new : Contents) → new ≡ record old { words = new.words } → CanShadow k s old.words → IsCopied k s old.words → OneEntry k old.words new.words → entry_of new.words k ≡ record (entry_of old.words k) { shadow = s } → Keeps old new
keeps_given k s old new rest can copied one e = keeps_shadow k s old new rest can.valid (reshadowed k s old.words new.words one e) (record { most = can.to; of_data = λ d. absurd (true_false (sym d ∙ can.metadata)); free = λ j n w z. can.free j w }) (λ w small. shadow_page k s w old.words new.words can.valid.within can.from can.bare copied (reshadowed k s old.words new.words one e) small (cases_eq (gate_of old.words) 1))

pub names_set : (k s : ℕ) (old new : List ℕ) → OneEntry k old new → entry_of new k ≡ record (entry_of old k) { shadow = s } → SameNames old new
names_set k s old new one e = names_shadow k s old new (reshadowed k s old new one e)

pub other_shadow : (k j : ℕ) (old new : List ℕ) → OneEntry k old new → j ≢ k → shadow_at new j ≡ shadow_at old j
other_shadow k j old new one n = entry_one k j 4 old new one n (omega arith)

-- where entry k has no shadow now
pub clears_taken : (k : ℕ) (old new : Contents) → gate_of old.words ≢ 1 → StoresWords old new → IsValid old.words k → OneEntry k old.words new.words → entry_of new.words k ≡ record (entry_of old.words k) { shadow = 0 } → Clears old new
clears_taken k old new shut stores v one e = record {
  keeps = keeps_taken k old new shut stores.rest v one e;
  names = names_set k 0 old.words new.words one e;
  shadows = λ j less. at j (cases_eq j k);
  stores = stores;
}
  where
    at : (j : ℕ) → (j ≡ k) ⊎ (j ≢ k) → (shadow_at new.words j ≡ shadow_at old.words j) ⊎ (shadow_at new.words j ≡ 0)
    at j (inl q) = inr (subst (λ n. shadow_at new.words n ≡ 0) (sym q) (ap (λ (x : Entry). x.shadow) e))
    at j (inr n) = inl (other_shadow k j old.words new.words one n)
