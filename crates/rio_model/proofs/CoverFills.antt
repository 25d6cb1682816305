-- A frame is filled, an entry is made, a word of a frame is stored.
use Rattle.rio_model.proofs.Common.{length, slice_index, slice_set, Some, None, ◌∙◌, ap, sym, subst, inl, inr, arith, cases_eq, Contents, true_false, put}
use Rattle.std.specs.Prelude.{◌≡◌, ◌≢◌, ℕ, ◌+◌, ◌*◌, ◌<◌, ◌≤◌, Bool, true, false, ◌⊎◌, List, refl}
use Rattle.rio_base.specs.Image.{registry_pages}
use Rattle.rio_model.specs.Registry.{EntryKeeps, IsValid, KeepsRegistry, OneEntry, frames_of, gate_of, is_dirty, is_valid, page_of_entry, shadow_at, tag_at, tag_block}
use Rattle.rio_model.specs.Cover.{Keeps, Coherent, cover_by, entry_of_block, frame_page, home_word, is_loose, reads, stands}
use Rattle.rio_model.specs.CoverLookups.{cover_at, cover_home, cover_same, found_is}
use Rattle.rio_model.proofs.CoverLookups.{found_at, found_free, frames_one, header_one, tag_one}
use Rattle.rio_model.specs.CoverChanges.{OnePage, SameEntries, covers_by, place_bare}
use Rattle.rio_model.proofs.CoverChanges.{cover_off, cover_put, entry_same, found_entries, found_kept, found_made, found_other, reads_kept, frame_behind, frame_entries, frame_word_one, header_same, off_page, one_page_set, page_word_one, place_cases, place_entries, place_shadow, same_entries, tag_same}
use Rattle.rio_model.proofs.RegistryRules.{entry_keeps, registry_one}
use Rattle.rio_model.proofs.CoverSteps.{disk_same, firm_by, pending_same, coherent_one}
use Rattle.rio_model.specs.CoverFills.{Made, Puts}

-- ---- header and registry stay

pub valid_same : (old new : List ℕ) (j : ℕ) → SameEntries old new → IsValid new j → IsValid old j
valid_same old new j h v =
    let less : j < frames_of old = subst (λ f. j < f) (header_same old new 2 h (omega arith)) v.within in
    record { within = less; valid = ap is_valid (sym (tag_same old new j h less)) ∙ v.valid }

entry_stays : (old new : List ℕ) (k : ℕ) → SameEntries old new → k < frames_of old → EntryKeeps old k → EntryKeeps new k
entry_stays old new k h less e =
    let t = tag_same old new k h less in
    let f = entry_same old new k 1 h less (omega arith) in
    let i = entry_same old new k 2 h less (omega arith) in
    let s = entry_same old new k 3 h less (omega arith) in
    let d = entry_same old new k 4 h less (omega arith) in
    record { tag = rw t e.tag; metadata = rw (t, f, i, s) e.metadata; name = rw (t, f, i) e.name; size = rw (t, s) e.size; shadow = rw (t, d) e.shadow }

pub registry_same : (old new : List ℕ) → SameEntries old new → KeepsRegistry old → KeepsRegistry new
registry_same old new h r = record {
  gate = subst (λ g. g ≤ 1) (sym (header_same old new 4 h (omega arith))) r.gate;
  tags = λ k less. (each k less).tag;
  metadata = λ k less. (each k less).metadata;
  names = λ k less. (each k less).name;
  sizes = λ k less. (each k less).size;
  shadows = λ k less. (each k less).shadow;
  blocks = λ j k v w e. let x = valid_same old new j h v in let y = valid_same old new k h w in r.blocks j k x y (ap tag_block (sym (tag_same old new j h x.within)) ∙ e ∙ ap tag_block (tag_same old new k h y.within));
  apart = λ j k v w e some. let x = valid_same old new j h v in let y = valid_same old new k h w in r.apart j k x y (sym (entry_same old new j 4 h x.within (omega arith)) ∙ e ∙ entry_same old new k 4 h y.within (omega arith)) (λ z. some (entry_same old new j 4 h x.within (omega arith) ∙ z));
}
  where
    each : (k : ℕ) → k < frames_of new → EntryKeeps new k
    each k less = let was : k < frames_of old = subst (λ f. k < f) (header_same old new 2 h (omega arith)) less in entry_stays old new k h was (entry_keeps old k r was)

-- ---- pages of different entries

pub frame_off : (words : List ℕ) (j k : ℕ) → j ≢ k → frame_page words j ≢ frame_page words k
unfolding frame_page
frame_off words j k ne e = ne (omega (arith, e))

pub page_off : (words : List ℕ) (j k : ℕ) → KeepsRegistry words → IsValid words j → j ≢ k → page_of_entry words j ≢ frame_page words k
page_off words j k r v ne e = from (place_cases words j)
  where
    from : (((gate_of words ≢ 1) ⊎ (shadow_at words j ≡ 0)) × (page_of_entry words j ≡ frame_page words j)) ⊎ ((gate_of words ≡ 1) × (shadow_at words j ≢ 0) × (page_of_entry words j ≡ registry_pages (frames_of words) + shadow_at words j)) → ⊥
    from (inl h) = frame_off words j k ne (sym h.1 ∙ e)
    from (inr h) = absurd (omega (arith, h.2, e, frame_behind words k, (r.shadows j v.within).most v.valid))

-- a page that no clean entry has
pub coherent_page : (n p : ℕ) (old new : Contents) → new ≡ record old { words = new.words } → OnePage p old.words new.words → SameEntries old.words new.words → ((j : ℕ) → IsValid old.words j → is_dirty (tag_at old.words j) ≡ false → (frame_page old.words j ≢ p) × (page_of_entry old.words j ≢ p)) → Coherent old n → Coherent new n
coherent_page n p old new rest one same off s = record {
  header = record { magic = header_same old.words new.words 0 same (omega arith) ∙ s.header.magic; version = header_same old.words new.words 1 same (omega arith) ∙ s.header.version };
  sizes = rw (header_same old.words new.words 2 same (omega arith), header_same old.words new.words 3 same (omega arith)) s.sizes;
  protected = same.count ∙ s.protected ∙ ap (λ f. 512 * (17 + registry_pages f + f)) (sym (header_same old.words new.words 2 same (omega arith)));
  scratch_pages = s.scratch_pages ∙ ap (λ c. 512 * c) (sym (header_same old.words new.words 3 same (omega arith)));
  rules = registry_same old.words new.words same s.rules;
  entries = λ j. record {
    on_disk = λ v. let w = valid_same old.words new.words j same v in rw (tag_same old.words new.words j same w.within, disk_same old new rest) ((s.entries j).on_disk w);
    clean = λ v c w less. frame_now j v c w less ∙ (s.entries j).clean (valid_same old.words new.words j same v) (was_clean j v c) w less ∙ rw (tag_same old.words new.words j same (valid_same old.words new.words j same v).within, disk_same old new rest) refl;
    unedited = λ v c w less. page_now j v c w less ∙ (s.entries j).unedited (valid_same old.words new.words j same v) (was_clean j v c) w less ∙ sym (frame_now j v c w less);
  };
}
  where
    was_clean : (j : ℕ) → IsValid new.words j → is_dirty (tag_at new.words j) ≡ false → is_dirty (tag_at old.words j) ≡ false
    was_clean j v c = ap is_dirty (sym (tag_same old.words new.words j same (valid_same old.words new.words j same v).within)) ∙ c

    frame_now : (j : ℕ) → IsValid new.words j → is_dirty (tag_at new.words j) ≡ false → (w : ℕ) → w < 512 → slice_index new.words (512 * frame_page new.words j + w) ≡ slice_index old.words (512 * frame_page old.words j + w)
    frame_now j v c w less = ap (λ q. slice_index new.words (512 * q + w)) (frame_entries old.words new.words j same) ∙ off_page p (frame_page old.words j) w old.words new.words one (off j (valid_same old.words new.words j same v) (was_clean j v c)).0 less

    page_now : (j : ℕ) → IsValid new.words j → is_dirty (tag_at new.words j) ≡ false → (w : ℕ) → w < 512 → slice_index new.words (512 * page_of_entry new.words j + w) ≡ slice_index old.words (512 * page_of_entry old.words j + w)
    page_now j v c w less = let x = valid_same old.words new.words j same v in ap (λ q. slice_index new.words (512 * q + w)) (place_entries old.words new.words j same x.within) ∙ off_page p (page_of_entry old.words j) w old.words new.words one (off j x (was_clean j v c)).1 less

pub frame_past : (words : List ℕ) (k : ℕ) → registry_pages (frames_of words) + 1 ≤ frame_page words k
frame_past words k = omega (arith, frame_behind words k)

firm_entries : (old new : Contents) → new ≡ record old { words = new.words } → SameEntries old.words new.words → (b : ℕ) → is_loose new b ≡ true → is_loose old b ≡ true
firm_entries old new rest same b e = firm_by old new (pending_same old new rest) (λ c j f d. let v = found_is old.words c j f in (found_entries old.words new.words c same ∙ f, ap is_dirty (tag_same old.words new.words j same v.0.within) ∙ d)) b e

-- the frame of an entry that isn't valid is filled
pub keeps_fill : (n k : ℕ) (old new : Contents) → Coherent old n → new ≡ record old { words = new.words } → is_valid (tag_at old.words k) ≡ false → OnePage (frame_page old.words k) old.words new.words → Keeps old new
keeps_fill n k old new s0 rest gone one = record {
  reads = subst (λ d. cover_by (frame_page new.words) new.words d ≡ reads old) (sym (disk_same old new rest)) (cover_off (frame_page old.words k) (frame_page old.words) (frame_page new.words) old.words new.words old.disk one same (λ j v. frame_entries old.words new.words j same) (λ j v. frame_off old.words j k (differ j v)));
  stands = subst (λ d. cover_by (page_of_entry new.words) new.words d ≡ stands old) (sym (disk_same old new rest)) (cover_off (frame_page old.words k) (page_of_entry old.words) (page_of_entry new.words) old.words new.words old.disk one same (λ j v. place_entries old.words new.words j same v.within) (λ j v. page_off old.words j k s0.rules v (differ j v)));
  firm = firm_entries old new rest same;
  header = λ i less. header_same old.words new.words i same less;
  coherent = λ m s. coherent_page m (frame_page old.words k) old new rest one same (λ j v c. (frame_off old.words j k (differ j v), page_off old.words j k s.rules v (differ j v))) s;
}
  where
    same : SameEntries old.words new.words
    same = same_entries (frame_page old.words k) old.words new.words one (frame_past old.words k)

    differ : (j : ℕ) → IsValid old.words j → j ≢ k
    differ j v e = true_false (sym v.valid ∙ ap (λ x. is_valid (tag_at old.words x)) e ∙ gone)

pub registry_made : (k b : ℕ) (dirty : Bool) (old new : List ℕ) → Made k b dirty old new → KeepsRegistry old → KeepsRegistry new
registry_made k b dirty old new m r = registry_one k old new r m.one m.keeps (record {
  blocks = λ j ne v w e. m.free j v (e ∙ m.block);
  shadows = λ j ne v w some e. some m.shadow;
})

pub is_valid_made : (k b : ℕ) (dirty : Bool) (old new : List ℕ) → Made k b dirty old new → IsValid new k
is_valid_made k b dirty old new m = record { within = subst (λ f. k < f) (sym (frames_one k old new m.one)) m.within; valid = m.valid }

made_found : (k b : ℕ) (dirty : Bool) (old new : List ℕ) → Made k b dirty old new → KeepsRegistry old → entry_of_block new b ≡ Some k
made_found k b dirty old new m r = found_made k b old new m.one m.free (is_valid_made k b dirty old new m) m.block (registry_made k b dirty old new m r).blocks

made_other : (k b c : ℕ) (dirty : Bool) (old new : List ℕ) → Made k b dirty old new → c ≢ b → entry_of_block new c ≡ entry_of_block old c
made_other k b c dirty old new m ne = found_other k c old new m.one (λ v. absurd (true_false (sym v ∙ m.was))) (λ v e. ne (sym e ∙ m.block))

made_firm : (k b : ℕ) (dirty : Bool) (old new : Contents) → new ≡ record old { words = new.words } → Made k b dirty old.words new.words → (c : ℕ) → is_loose new c ≡ true → is_loose old c ≡ true
made_firm k b dirty old new rest m c e = firm_by old new (pending_same old new rest) (λ x j f d.
    let v = found_is old.words x j f in
    let ne : j ≢ k = λ q. true_false (sym v.0.valid ∙ ap (λ y. is_valid (tag_at old.words y)) q ∙ m.was) in
    (made_other k b x dirty old.words new.words m (λ q. m.free j v.0 (v.1 ∙ q)) ∙ f, ap is_dirty (tag_one k j old.words new.words m.one ne) ∙ d)) c e

-- a fetched block: the frame is the disk's block
pub keeps_made : (n k b : ℕ) (old new : Contents) → Coherent old n → new ≡ record old { words = new.words } → Made k b false old.words new.words → b < length old.disk → ((w : ℕ) → w < 512 → slice_index old.words (512 * frame_page old.words k + w) ≡ home_word old.disk b w) → Keeps old new
keeps_made n k b old new s0 rest m there home = record {
  reads = subst (λ d. cover_by (frame_page new.words) new.words d ≡ reads old) (sym disk) (covers_by (frame_page old.words) old.words old.disk (frame_page new.words) new.words old.disk (λ c w less. at_frame c w less (cases_eq c b)));
  stands = subst (λ d. cover_by (page_of_entry new.words) new.words d ≡ stands old) (sym disk) (covers_by (page_of_entry old.words) old.words old.disk (page_of_entry new.words) new.words old.disk (λ c w less. at_page c w less (cases_eq c b)));
  firm = made_firm k b false old new rest m;
  header = λ i less. header_one k old.words new.words i m.one less;
  coherent = λ x s. coherent_one x k old new rest m.one m.within s (registry_made k b false old.words new.words m s.rules) (record {
    on_disk = λ v. rw (m.block, disk) there;
    clean = λ v c w less. frame_word_one k k w old.words new.words m.one m.within ∙ home w less ∙ rw (m.block, disk) refl;
    unedited = λ v c w less. ap (λ p. slice_index new.words (512 * p + w)) (place_bare new.words k (inr m.shadow));
  });
}
  where
    disk : new.disk ≡ old.disk
    disk = disk_same old new rest

    found : entry_of_block new.words b ≡ Some k
    found = made_found k b false old.words new.words m s0.rules

    none : entry_of_block old.words b ≡ None
    none = found_free old.words b m.free

    here : (w : ℕ) → w < 512 → slice_index new.words (512 * frame_page new.words k + w) ≡ home_word old.disk b w
    here w less = frame_word_one k k w old.words new.words m.one m.within ∙ home w less

    at_frame : (c w : ℕ) → w < 512 → (c ≡ b) ⊎ (c ≢ b) → cover_by (frame_page new.words) new.words old.disk c w ≡ cover_by (frame_page old.words) old.words old.disk c w
    at_frame c w less (inl e) = subst (λ x. cover_by (frame_page new.words) new.words old.disk x w ≡ cover_by (frame_page old.words) old.words old.disk x w) (sym e) (cover_at (frame_page new.words) new.words old.disk b w k found less ∙ here w less ∙ sym (cover_home (frame_page old.words) old.words old.disk b w none less))
    at_frame c w less (inr ne) = cover_same (frame_page old.words) old.words old.disk (frame_page new.words) new.words old.disk c w (record {
      entry = made_other k b c false old.words new.words m ne;
      pages = λ j x f small. frame_word_one k j x old.words new.words m.one m.within;
      homes = λ x f small. refl;
    })

    at_page : (c w : ℕ) → w < 512 → (c ≡ b) ⊎ (c ≢ b) → cover_by (page_of_entry new.words) new.words old.disk c w ≡ cover_by (page_of_entry old.words) old.words old.disk c w
    at_page c w less (inl e) = subst (λ x. cover_by (page_of_entry new.words) new.words old.disk x w ≡ cover_by (page_of_entry old.words) old.words old.disk x w) (sym e) (cover_at (page_of_entry new.words) new.words old.disk b w k found less ∙ ap (λ p. slice_index new.words (512 * p + w)) (place_bare new.words k (inr m.shadow)) ∙ here w less ∙ sym (cover_home (page_of_entry old.words) old.words old.disk b w none less))
    at_page c w less (inr ne) = cover_same (page_of_entry old.words) old.words old.disk (page_of_entry new.words) new.words old.disk c w (record {
      entry = made_other k b c false old.words new.words m ne;
      pages = λ j x f small. page_word_one k j x old.words new.words m.one m.within (λ q. absurd (true_false (sym (found_is old.words c j f).0.valid ∙ ap (λ y. is_valid (tag_at old.words y)) q ∙ m.was)));
      homes = λ x f small. refl;
    })

pub puts_frame : (n k b w v : ℕ) (old new : Contents) → Coherent old n → new ≡ record old { words = slice_set old.words (512 * frame_page old.words k + w) v } → IsValid old.words k → tag_block (tag_at old.words k) ≡ b → is_dirty (tag_at old.words k) ≡ true → w < 512 → 512 * frame_page old.words k + w < length old.words → Puts k b w v old new
puts_frame n k b w v old new s0 stored va block dirty small room = subst (Puts k b w v old) (sym stored) (record {
  reading = cover_put k b w v (frame_page old.words) (frame_page now) old.words old.disk found small room (λ j x ne. frame_off old.words j k ne) (λ j x. frame_entries old.words now j same) same;
  standing = λ shut. let bare = place_bare old.words k (inl shut) in subst (λ p. cover_by (page_of_entry (slice_set old.words (512 * p + w) v)) (slice_set old.words (512 * p + w) v) old.disk ≡ put (stands old) b w v) bare
      (cover_put k b w v (page_of_entry old.words) (page_of_entry (slice_set old.words (512 * page_of_entry old.words k + w) v)) old.words old.disk found small (subst (λ p. 512 * p + w < length old.words) (sym bare) room)
      (λ j x ne e. page_off old.words j k s0.rules x ne (e ∙ bare))
      (λ j x. place_entries old.words _ j (subst (λ p. SameEntries old.words (slice_set old.words (512 * p + w) v)) (sym bare) same) x.within)
      (subst (λ p. SameEntries old.words (slice_set old.words (512 * p + w) v)) (sym bare) same));
  hidden = λ shut some. cover_off (frame_page old.words k) (page_of_entry old.words) (page_of_entry now) old.words now old.disk one same (λ j x. place_entries old.words now j same x.within) (λ j x e. hides j x e shut some (cases_eq j k));
  firm = firm_entries old (record old { words = now }) refl same;
  coherent = λ m s. coherent_page m (frame_page old.words k) old (record old { words = now }) refl one same (λ j x c. let ne : j ≢ k = λ e. true_false (sym dirty ∙ ap (λ y. is_dirty (tag_at old.words y)) (sym e) ∙ c) in (frame_off old.words j k ne, page_off old.words j k s.rules x ne)) s;
})
  where
    now : List ℕ
    now = slice_set old.words (512 * frame_page old.words k + w) v

    one : OnePage (frame_page old.words k) old.words now
    one = one_page_set old.words (frame_page old.words k) w v small

    same : SameEntries old.words now
    same = same_entries (frame_page old.words k) old.words now one (frame_past old.words k)

    found : entry_of_block old.words b ≡ Some k
    found = found_at old.words b k s0.rules.blocks va block

    hides : (j : ℕ) → IsValid old.words j → page_of_entry old.words j ≡ frame_page old.words k → gate_of old.words ≡ 1 → shadow_at old.words k ≢ 0 → (j ≡ k) ⊎ (j ≢ k) → ⊥
    hides j x e shut some (inr ne) = page_off old.words j k s0.rules x ne e
    hides j x e shut some (inl q) = absurd (omega (arith, place_shadow old.words k shut some, ap (page_of_entry old.words) (sym q) ∙ e, frame_behind old.words k, (s0.rules.shadows k va.within).most va.valid))

-- entry k, which isn't valid, gets other words but the tag
pub keeps_begun : (n k : ℕ) (old new : Contents) → Coherent old n → new ≡ record old { words = new.words } → OneEntry k old.words new.words → k < frames_of old.words → is_valid (tag_at old.words k) ≡ false → tag_at new.words k ≡ tag_at old.words k → Keeps old new
keeps_begun n k old new s0 rest one within gone tag = record {
  reads = subst (λ d. cover_by (frame_page new.words) new.words d ≡ reads old) (sym (disk_same old new rest)) (reads_kept k old.words new.words old.disk one within (ap is_valid tag) (ap tag_block tag));
  stands = subst (λ d. cover_by (page_of_entry new.words) new.words d ≡ stands old) (sym (disk_same old new rest)) (covers_by (page_of_entry old.words) old.words old.disk (page_of_entry new.words) new.words old.disk (λ c w less. cover_same (page_of_entry old.words) old.words old.disk (page_of_entry new.words) new.words old.disk c w (record {
    entry = found_kept k c old.words new.words one (ap is_valid tag) (ap tag_block tag);
    pages = λ j x f small. page_word_one k j x old.words new.words one within (λ q. absurd (true_false (sym (found_is old.words c j f).0.valid ∙ ap (λ y. is_valid (tag_at old.words y)) q ∙ gone)));
    homes = λ x f small. refl;
  })));
  header = λ i less. header_one k old.words new.words i one less;
  firm = firm_by old new (pending_same old new rest) (λ x j f d.
      let v = found_is old.words x j f in
      let ne : j ≢ k = λ q. true_false (sym v.0.valid ∙ ap (λ y. is_valid (tag_at old.words y)) q ∙ gone) in
      (found_kept k x old.words new.words one (ap is_valid tag) (ap tag_block tag) ∙ f, ap is_dirty (tag_one k j old.words new.words one ne) ∙ d));
  coherent = λ m s. coherent_one m k old new rest one within s (registry_one k old.words new.words s.rules one (record {
    tag = rw tag (s.rules.tags k within);
    metadata = record { of_file = λ e. absurd (true_false (sym e ∙ now)); at_index = λ e. absurd (true_false (sym e ∙ now)); of_size = λ e. absurd (true_false (sym e ∙ now)) };
    name = record { file_from = λ e. absurd (true_false (sym e ∙ now)); file_to = λ e. absurd (true_false (sym e ∙ now)); index_to = λ e. absurd (true_false (sym e ∙ now)) };
    size = λ e. absurd (true_false (sym e ∙ now));
    shadow = record { most = λ e. absurd (true_false (sym e ∙ now)); of_data = λ e. absurd (true_false (sym e ∙ now)) };
  }) (record { blocks = λ j ne w x. absurd (true_false (sym x.valid ∙ now)); shadows = λ j ne w x. absurd (true_false (sym x.valid ∙ now)) })) (record {
    on_disk = λ w. absurd (true_false (sym w.valid ∙ now));
    clean = λ w. absurd (true_false (sym w.valid ∙ now));
    unedited = λ w. absurd (true_false (sym w.valid ∙ now));
  });
}
  where
    now : is_valid (tag_at new.words k) ≡ false
    now = ap is_valid tag ∙ gone
