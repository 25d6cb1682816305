-- Frames become the pages that count for their entries, word by word.
use Rattle.std.specs.Prelude.{◌≡◌, ◌≢◌, ℕ, ◌+◌, ◌*◌, ◌<◌, ◌≤◌, ◌⊎◌, true, false, List, length, slice_index, Some, refl}
use Rattle.std.proofs.Common.{◌∙◌, ap, sym, subst, inl, inr, arith}
use Rattle.std.proofs.lemmas.Bool.{cases_eq}
use Rattle.rio_base.specs.Image.{registry_pages}
use Rattle.rio_base.specs.Machine.{Contents, Copied}
use Rattle.rio_model.specs.Cover.{Coherent, Keeps, SameNames, cover_by, entry_of_block, frame_page, is_loose, reads, stands}
use Rattle.rio_model.specs.CoverChanges.{OnePage, SameEntries, covers_by, place_bare}
use Rattle.rio_model.proofs.CoverChanges.{cover_off, entry_same, found_entries, frame_behind, frame_entries, header_same, off_page, place_cases, place_entries, place_shadow, same_entries, tag_same}
use Rattle.rio_model.proofs.CoverFills.{frame_off, frame_past, page_off, registry_same, valid_same}
use Rattle.rio_model.specs.CoverLookups.{cover_same, found_is}
use Rattle.rio_model.proofs.CoverSteps.{disk_same, firm_by, pending_same}
use Rattle.rio_model.specs.Registry.{IsValid, KeepsRegistry, frames_of, gate_of, is_dirty, page_of_entry, shadow_at, tag_at}
use Rattle.shadow_pages.specs.Steps.{IsRestored, Restores}

pub entries_refl : (words : List ℕ) → SameEntries words words
entries_refl words = record { count = refl; each = λ i less. refl }

pub restores_refl : (words : List ℕ) → Restores words words
restores_refl words = record { entries = entries_refl words; counting = λ k w v small. refl; frames = λ k w v small. inl refl }

valid_still : (old new : List ℕ) (k : ℕ) → SameEntries old new → IsValid old k → IsValid new k
valid_still old new k same v = record { within = subst (λ f. k < f) (sym (header_same old new 2 same (omega arith))) v.within; valid = rw (tag_same old new k same v.within) v.valid }

pub restores_trans : (a b c : List ℕ) → Restores a b → Restores b c → Restores a c
restores_trans a b c h i = record {
  entries = record { count = i.entries.count ∙ h.entries.count; each = λ x less. i.entries.each x (subst (λ f. x < 512 * (1 + registry_pages f)) (sym (header_same a b 2 h.entries (omega arith))) less) ∙ h.entries.each x less };
  counting = λ k w v small. page k w v small ∙ h.counting k w v small;
  frames = λ k w v small. at k w v small (i.frames k w (now k v) small) (h.frames k w v small);
}
  where
    now : (k : ℕ) → IsValid a k → IsValid b k
    now k v = valid_still a b k h.entries v

    page : (k w : ℕ) → IsValid a k → w < 512 → slice_index c (512 * page_of_entry a k + w) ≡ slice_index b (512 * page_of_entry a k + w)
    page k w v small = subst (λ p. slice_index c (512 * p + w) ≡ slice_index b (512 * p + w)) (place_entries a b k h.entries v.within) (i.counting k w (now k v) small)

    at : (k w : ℕ) → IsValid a k → w < 512
        → (slice_index c (512 * frame_page b k + w) ≡ slice_index b (512 * frame_page b k + w)) ⊎ (slice_index c (512 * frame_page b k + w) ≡ slice_index b (512 * page_of_entry b k + w))
        → (slice_index b (512 * frame_page a k + w) ≡ slice_index a (512 * frame_page a k + w)) ⊎ (slice_index b (512 * frame_page a k + w) ≡ slice_index a (512 * page_of_entry a k + w))
        → (slice_index c (512 * frame_page a k + w) ≡ slice_index a (512 * frame_page a k + w)) ⊎ (slice_index c (512 * frame_page a k + w) ≡ slice_index a (512 * page_of_entry a k + w))
    at k w v small (inr e) was = inr (ap (λ p. slice_index c (512 * p + w)) (sym (frame_entries a b k h.entries)) ∙ e ∙ ap (λ p. slice_index b (512 * p + w)) (place_entries a b k h.entries v.within) ∙ h.counting k w v small)
    at k w v small (inl e) (inl d) = inl (ap (λ p. slice_index c (512 * p + w)) (sym (frame_entries a b k h.entries)) ∙ e ∙ ap (λ p. slice_index b (512 * p + w)) (frame_entries a b k h.entries) ∙ d)
    at k w v small (inl e) (inr d) = inr (ap (λ p. slice_index c (512 * p + w)) (sym (frame_entries a b k h.entries)) ∙ e ∙ ap (λ p. slice_index b (512 * p + w)) (frame_entries a b k h.entries) ∙ d)

-- ---- what it leaves so

pub restores_names : (old new : List ℕ) → Restores old new → SameNames old new
restores_names old new h = record {
  frames = header_same old new 2 h.entries (omega arith);
  tag = λ k less. tag_same old new k h.entries less;
  file = λ k less. entry_same old new k 1 h.entries less (omega arith);
  index = λ k less. entry_same old new k 2 h.entries less (omega arith);
  size = λ k less. entry_same old new k 3 h.entries less (omega arith);
}

pub restores_shadows : (old new : List ℕ) (k : ℕ) → Restores old new → k < frames_of old → shadow_at new k ≡ shadow_at old k
restores_shadows old new k h less = entry_same old new k 4 h.entries less (omega arith)

pub restores_gate : (old new : List ℕ) → Restores old new → gate_of new ≡ gate_of old
restores_gate old new h = header_same old new 4 h.entries (omega arith)

pub restores_firm : (old new : Contents) (b : ℕ) → new ≡ record old { words = new.words } → Restores old.words new.words → is_loose new b ≡ true → is_loose old b ≡ true
restores_firm old new b rest h loose = firm_by old new (pending_same old new rest) (λ c j f d. (found_entries old.words new.words c h.entries ∙ f, ap is_dirty (tag_same old.words new.words j h.entries (found_is old.words c j f).0.within) ∙ d)) b loose

pub restores_stands : (old new : Contents) → new ≡ record old { words = new.words } → Restores old.words new.words → stands new ≡ stands old
restores_stands old new rest h = subst (λ d. cover_by (page_of_entry new.words) new.words d ≡ stands old) (sym (disk_same old new rest)) (covers_by (page_of_entry old.words) old.words old.disk (page_of_entry new.words) new.words old.disk (λ b w less. cover_same (page_of_entry old.words) old.words old.disk (page_of_entry new.words) new.words old.disk b w (record {
  entry = found_entries old.words new.words b h.entries;
  pages = λ k x e small. let v = (found_is old.words b k e).0 in ap (λ p. slice_index new.words (512 * p + x)) (place_entries old.words new.words k h.entries v.within) ∙ h.counting k x v small;
  homes = λ x e small. refl;
})))

pub restores_coherent : (n : ℕ) (old new : Contents) → new ≡ record old { words = new.words } → Restores old.words new.words → Coherent old n → Coherent new n
restores_coherent n old new rest h s = record {
  header = record { magic = header_same old.words new.words 0 h.entries (omega arith) ∙ s.header.magic; version = header_same old.words new.words 1 h.entries (omega arith) ∙ s.header.version };
  sizes = rw (header_same old.words new.words 2 h.entries (omega arith), header_same old.words new.words 3 h.entries (omega arith)) s.sizes;
  protected = h.entries.count ∙ s.protected ∙ ap (λ f. 512 * (17 + registry_pages f + f)) (sym (header_same old.words new.words 2 h.entries (omega arith)));
  scratch_pages = s.scratch_pages ∙ ap (λ c. 512 * c) (sym (header_same old.words new.words 3 h.entries (omega arith)));
  rules = registry_same old.words new.words h.entries s.rules;
  entries = λ j. record {
    on_disk = λ v. let x = was j v in rw (tag_same old.words new.words j h.entries x.within, disk_same old new rest) ((s.entries j).on_disk x);
    clean = λ v c w small. let x = was j v in frame_now j x (was_clean j v c) w small ∙ (s.entries j).clean x (was_clean j v c) w small ∙ rw (tag_same old.words new.words j h.entries x.within, disk_same old new rest) refl;
    unedited = λ v c w small. let x = was j v in ap (λ p. slice_index new.words (512 * p + w)) (place_entries old.words new.words j h.entries x.within) ∙ h.counting j w x small ∙ (s.entries j).unedited x (was_clean j v c) w small ∙ sym (frame_now j x (was_clean j v c) w small);
  };
}
  where
    was : (j : ℕ) → IsValid new.words j → IsValid old.words j
    was j v = valid_same old.words new.words j h.entries v

    was_clean : (j : ℕ) → IsValid new.words j → is_dirty (tag_at new.words j) ≡ false → is_dirty (tag_at old.words j) ≡ false
    was_clean j v c = ap is_dirty (sym (tag_same old.words new.words j h.entries (was j v).within)) ∙ c

    same_frame : (j w : ℕ) → IsValid old.words j → is_dirty (tag_at old.words j) ≡ false → w < 512
        → (slice_index new.words (512 * frame_page old.words j + w) ≡ slice_index old.words (512 * frame_page old.words j + w)) ⊎ (slice_index new.words (512 * frame_page old.words j + w) ≡ slice_index old.words (512 * page_of_entry old.words j + w))
        → slice_index new.words (512 * frame_page old.words j + w) ≡ slice_index old.words (512 * frame_page old.words j + w)
    same_frame j w v c small (inl e) = e
    same_frame j w v c small (inr e) = e ∙ (s.entries j).unedited v c w small

    frame_now : (j : ℕ) → IsValid old.words j → is_dirty (tag_at old.words j) ≡ false → (w : ℕ) → w < 512 → slice_index new.words (512 * frame_page new.words j + w) ≡ slice_index old.words (512 * frame_page old.words j + w)
    frame_now j v c w small = ap (λ p. slice_index new.words (512 * p + w)) (frame_entries old.words new.words j h.entries) ∙ same_frame j w v c small (h.frames j w v small)

-- a block whose entry has no shadow reads as before
pub restores_untouched : (old new : Contents) (b w : ℕ) → new ≡ record old { words = new.words } → Restores old.words new.words → ((k : ℕ) → entry_of_block old.words b ≡ Some k → shadow_at old.words k ≡ 0) → reads new b w ≡ reads old b w
restores_untouched old new b w rest h bare = subst (λ d. cover_by (frame_page new.words) new.words d b w ≡ reads old b w) (sym (disk_same old new rest)) (cover_same (frame_page old.words) old.words old.disk (frame_page new.words) new.words old.disk b w (record {
  entry = found_entries old.words new.words b h.entries;
  pages = λ k x e small. ap (λ p. slice_index new.words (512 * p + x)) (frame_entries old.words new.words k h.entries) ∙ at k x (bare k e) (h.frames k x (found_is old.words b k e).0 small);
  homes = λ x e small. refl;
}))
  where
    at : (k x : ℕ) → shadow_at old.words k ≡ 0
        → (slice_index new.words (512 * frame_page old.words k + x) ≡ slice_index old.words (512 * frame_page old.words k + x)) ⊎ (slice_index new.words (512 * frame_page old.words k + x) ≡ slice_index old.words (512 * page_of_entry old.words k + x))
        → slice_index new.words (512 * frame_page old.words k + x) ≡ slice_index old.words (512 * frame_page old.words k + x)
    at k x none (inl e) = e
    at k x none (inr e) = e ∙ ap (λ p. slice_index old.words (512 * p + x)) (place_bare old.words k (inr none))

-- ---- the frame of one entry

pub restored_bare : (k : ℕ) (words : List ℕ) → shadow_at words k ≡ 0 → IsRestored words k
restored_bare k words none = record { each = λ v w small. ap (λ p. slice_index words (512 * p + w)) (sym (place_bare words k (inr none))) }

pub restored_still : (k : ℕ) (old new : List ℕ) → Restores old new → IsRestored old k → IsRestored new k
restored_still k old new h r = record {
  each = λ v w small. let x = valid_same old new k h.entries v in
      ap (λ p. slice_index new (512 * p + w)) (frame_entries old new k h.entries)
      ∙ at x w small (h.frames k w x small)
      ∙ sym (h.counting k w x small)
      ∙ ap (λ p. slice_index new (512 * p + w)) (sym (place_entries old new k h.entries x.within));
}
  where
    at : IsValid old k → (w : ℕ) → w < 512
        → (slice_index new (512 * frame_page old k + w) ≡ slice_index old (512 * frame_page old k + w)) ⊎ (slice_index new (512 * frame_page old k + w) ≡ slice_index old (512 * page_of_entry old k + w))
        → slice_index new (512 * frame_page old k + w) ≡ slice_index old (512 * page_of_entry old k + w)
    at v w small (inl e) = e ∙ r.each v w small
    at v w small (inr e) = e

-- all frames are restored: what stands reads
pub all_restored : (c : Contents) → ((k : ℕ) → IsValid c.words k → IsRestored c.words k) → reads c ≡ stands c
all_restored c each = covers_by (page_of_entry c.words) c.words c.disk (frame_page c.words) c.words c.disk (λ b w less. cover_same (page_of_entry c.words) c.words c.disk (frame_page c.words) c.words c.disk b w (record {
  entry = refl;
  pages = λ k x e small. let v = (found_is c.words b k e).0 in (each k v).each v x small;
  homes = λ x e small. refl;
}))

-- a front of a copy changes one page
pub one_page : (from to n : ℕ) (old new : List ℕ) → n ≤ 512 → Copied from to n old new → OnePage to old new
one_page from to n old new most c = record { count = c.count; below = c.below; above = λ i more. c.above i (omega (arith, most, more)) }

-- a front of the shadow page is copied to the frame
pub restores_front : (k n from : ℕ) (old new : List ℕ) → KeepsRegistry old → gate_of old ≡ 1 → IsValid old k → shadow_at old k ≢ 0 → from ≡ registry_pages (frames_of old) + shadow_at old k → 512 * from < length old → n ≤ 512 → Copied from (frame_page old k) n old new → Restores old new
restores_front k n from old new r is_open v some place room most c = record {
  entries = same_entries (frame_page old k) old new one (frame_past old k);
  counting = λ j w x small. off_page (frame_page old k) (page_of_entry old j) w old new one (page_away j x (cases_eq j k)) small;
  frames = λ j w x small. at j w x small (cases_eq j k);
}
  where
    one : OnePage (frame_page old k) old new
    one = one_page from (frame_page old k) n old new most c

    page_is : page_of_entry old k ≡ from
    page_is = place_shadow old k is_open some ∙ sym place

    page_away : (j : ℕ) → IsValid old j → (j ≡ k) ⊎ (j ≢ k) → page_of_entry old j ≢ frame_page old k
    page_away j x (inr ne) e = page_off old j k r x ne e
    page_away j x (inl q) e = absurd (omega (arith, page_is, place, ap (page_of_entry old) (sym q) ∙ e, frame_behind old k, (r.shadows k v.within).most v.valid))

    small_or : (w : ℕ) → (w < n) ⊎ (n ≤ w)
    small_or w = grind arith

    mine : (w : ℕ) → w < 512 → (w < n) ⊎ (n ≤ w) → (slice_index new (512 * frame_page old k + w) ≡ slice_index old (512 * frame_page old k + w)) ⊎ (slice_index new (512 * frame_page old k + w) ≡ slice_index old (512 * page_of_entry old k + w))
    mine w small (inl less) = inr (c.front room w less ∙ ap (λ p. slice_index old (512 * p + w)) (sym page_is))
    mine w small (inr more) = inl (c.above (512 * frame_page old k + w) (omega (arith, more)))

    at : (j w : ℕ) → IsValid old j → w < 512 → (j ≡ k) ⊎ (j ≢ k) → (slice_index new (512 * frame_page old j + w) ≡ slice_index old (512 * frame_page old j + w)) ⊎ (slice_index new (512 * frame_page old j + w) ≡ slice_index old (512 * page_of_entry old j + w))
    at j w x small (inr ne) = inl (off_page (frame_page old k) (frame_page old j) w old new one (frame_off old j k ne) small)
    at j w x small (inl e) = subst (λ i. (slice_index new (512 * frame_page old i + w) ≡ slice_index old (512 * frame_page old i + w)) ⊎ (slice_index new (512 * frame_page old i + w) ≡ slice_index old (512 * page_of_entry old i + w))) (sym e) (mine w small (small_or w))

-- the whole of it
pub restored_whole : (k from : ℕ) (old new : List ℕ) → KeepsRegistry old → gate_of old ≡ 1 → IsValid old k → shadow_at old k ≢ 0 → from ≡ registry_pages (frames_of old) + shadow_at old k → 512 * from < length old → Copied from (frame_page old k) 512 old new → IsRestored new k
restored_whole k from old new r is_open v some place room c = record {
  each = λ x w small.
      ap (λ p. slice_index new (512 * p + w)) (frame_entries old new k h.entries)
      ∙ c.front room w small
      ∙ ap (λ p. slice_index old (512 * p + w)) (place ∙ sym (place_shadow old k is_open some))
      ∙ sym (h.counting k w v small)
      ∙ ap (λ p. slice_index new (512 * p + w)) (sym (place_entries old new k h.entries v.within));
}
  where
    h : Restores old new
    h = restores_front k 512 from old new r is_open v some place room (omega arith) c

-- ---- a shadow page that no entry has

pub frame_unused : (s : ℕ) (words : List ℕ) (j : ℕ) → s ≤ 16 → frame_page words j ≢ registry_pages (frames_of words) + s
frame_unused s words j few e = absurd (omega (arith, few, e, frame_behind words j))

pub page_unused : (s : ℕ) (words : List ℕ) (j : ℕ) → KeepsRegistry words → s ≤ 16 → ((i : ℕ) → IsValid words i → shadow_at words i ≢ s) → IsValid words j → page_of_entry words j ≢ registry_pages (frames_of words) + s
page_unused s words j r few free v e = from (place_cases words j)
  where
    from : (((gate_of words ≢ 1) ⊎ (shadow_at words j ≡ 0)) × (page_of_entry words j ≡ frame_page words j)) ⊎ ((gate_of words ≡ 1) × (shadow_at words j ≢ 0) × (page_of_entry words j ≡ registry_pages (frames_of words) + shadow_at words j)) → ⊥
    from (inl h) = frame_unused s words j few (sym h.1 ∙ e)
    from (inr h) = free j v (omega (arith, h.2, e))

-- a front of a frame is copied to it
pub restores_unused : (s from n : ℕ) (old new : List ℕ) → KeepsRegistry old → 1 ≤ s → s ≤ 16 → ((j : ℕ) → IsValid old j → shadow_at old j ≢ s) → n ≤ 512 → Copied from (registry_pages (frames_of old) + s) n old new → Restores old new
restores_unused s from n old new r some few free most c = record {
  entries = same_entries (registry_pages (frames_of old) + s) old new one (omega (arith, some));
  counting = λ j w x small. off_page (registry_pages (frames_of old) + s) (page_of_entry old j) w old new one (page_unused s old j r few free x) small;
  frames = λ j w x small. inl (off_page (registry_pages (frames_of old) + s) (frame_page old j) w old new one (frame_unused s old j few) small);
}
  where
    one : OnePage (registry_pages (frames_of old) + s) old new
    one = one_page from (registry_pages (frames_of old) + s) n old new most c

-- all is kept
pub keeps_unused : (s from n : ℕ) (old new : Contents) → new ≡ record old { words = new.words } → KeepsRegistry old.words → 1 ≤ s → s ≤ 16 → ((j : ℕ) → IsValid old.words j → shadow_at old.words j ≢ s) → n ≤ 512 → Copied from (registry_pages (frames_of old.words) + s) n old.words new.words → Keeps old new
keeps_unused s from n old new rest r some few free most c = record {
  reads = subst (λ d. cover_by (frame_page new.words) new.words d ≡ reads old) (sym (disk_same old new rest)) (cover_off (registry_pages (frames_of old.words) + s) (frame_page old.words) (frame_page new.words) old.words new.words old.disk (one_page from _ n old.words new.words most c) h.entries (λ j v. frame_entries old.words new.words j h.entries) (λ j v. frame_unused s old.words j few));
  stands = restores_stands old new rest h;
  firm = λ b e. restores_firm old new b rest h e;
  coherent = λ m x. restores_coherent m old new rest h x;
  header = λ i less. header_same old.words new.words i h.entries less;
}
  where
    h : Restores old.words new.words
    h = restores_unused s from n old.words new.words r some few free most c
