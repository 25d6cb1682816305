-- Steps that keep what reads and what stands.
use Rattle.rio_model.proofs.Common.{not, length, slice_index, Some, None, ◌∙◌, ap, sym, subst, inl, inr, arith, cases_eq, cases_Bool, is_pending, Contents, true_false}
use Rattle.std.specs.Prelude.{◌≡◌, ◌≢◌, ℕ, ◌+◌, ◌*◌, ◌%◌, ◌^◌, ◌<◌, ◌≤◌, Bool, true, false, ◌⊎◌, List, replicate, Option, refl}
use Rattle.std.proofs.lemmas.Bool.{and_parts, and_from}
use Rattle.std.proofs.lemmas.List.{get_or-replicate, get_or_past, length-replicate}
use Rattle.rio_base.specs.Image.{registry_pages}
use Rattle.rio_base.specs.Machine.{WritesBlock}
use Rattle.rio_model.specs.Registry.{HasLayout, IsValid, KeepsMetadata, KeepsName, KeepsRegistry, KeepsShadow, KeepsTag, OneEntry, file_at, index_at, size_at, frames_of, is_data, is_dirty, is_valid, page_of_entry, shadow_at, tag_at, tag_block, with_dirty, without_dirty, EntryKeeps}
use Rattle.rio_model.specs.Cover.{EntryCoherent, IsBare, Keeps, OnDisk, Coherent, cover_by, dirty_entry, entry_of_block, frame_page, has_dirty, home_word, is_loose, reads, stands}
use Rattle.rio_model.specs.CoverLookups.{cover_at, cover_home, cover_same, found_is}
use Rattle.rio_model.proofs.CoverLookups.{found_at, frames_one, header_one, tag_one}
use Rattle.rio_model.proofs.CoverChanges.{cover_written, found_cleared, found_kept, found_other, frame_word_one, page_word_one, reads_kept, stands_kept}
use Rattle.rio_model.specs.CoverChanges.{covers_by, place_bare}
use Rattle.rio_model.proofs.RegistryRules.{cleaned_bits, cleaned_block, cleaned_data, cleaned_valid, dirtied_bits, dirtied_block, dirtied_data, dirtied_dirty, dirtied_valid, entry_keeps, registry_one}

pub keeps_refl : (c : Contents) → Keeps c c
keeps_refl c = record { reads = refl; stands = refl; firm = λ b e. e; coherent = λ n s. s; header = λ i less. refl }

pub keeps_trans : (a b c : Contents) → Keeps a b → Keeps b c → Keeps a c
keeps_trans a b c h k = record { reads = k.reads ∙ h.reads; stands = k.stands ∙ h.stands; firm = λ x e. h.firm x (k.firm x e); coherent = λ n s. k.coherent n (h.coherent n s); header = λ i less. k.header i less ∙ h.header i less }

pub layout_is : (c : Contents) (scratch : List ℕ) → Coherent c (length scratch) → HasLayout c.words scratch
layout_is c scratch s = record { sizes = s.sizes; protected = s.protected; scratch_pages = s.scratch_pages }

pub coherent_on : (c : Contents) (n m : ℕ) → m ≡ n → Coherent c n → Coherent c m
coherent_on c n m e s = subst (Coherent c) (sym e) s

-- only words of memory differ
pub rest_stored : (old new : Contents) (words : List ℕ) → new ≡ record old { words = words } → new ≡ record old { words = new.words }
rest_stored old new words e = e ∙ sym (ap (λ (m : Contents). record old { words = m.words }) e)

-- ---- loose blocks

pub loose_parts : (c : Contents) (b : ℕ) → is_loose c b ≡ true → (is_pending c.pending b ≡ true) × (has_dirty c.words b ≡ false)
unfolding is_loose
loose_parts c b e = let parts = and_parts _ _ e in (parts.0, no (has_dirty c.words b) parts.1)
  where
    no : (x : Bool) → not x ≡ true → x ≡ false
    no true h = absurd (true_false (sym h))
    no false h = refl

pub loose_from : (c : Contents) (b : ℕ) → is_pending c.pending b ≡ true → has_dirty c.words b ≡ false → is_loose c b ≡ true
unfolding is_loose
loose_from c b p d = and_from _ _ p (ap not d)

pub dirty_of : (words : List ℕ) (b k : ℕ) → entry_of_block words b ≡ Some k → has_dirty words b ≡ is_dirty (tag_at words k)
dirty_of words b k e = ap (dirty_entry words) e

pub dirty_none : (words : List ℕ) (b : ℕ) → entry_of_block words b ≡ None → has_dirty words b ≡ false
dirty_none words b e = ap (dirty_entry words) e

-- ---- the disk

-- block b, which has a dirty entry, is written
pub keeps_write : (n b k : ℕ) (old new : Contents) → Coherent old n → WritesBlock b old new → IsValid old.words k → tag_block (tag_at old.words k) ≡ b → is_dirty (tag_at old.words k) ≡ true → Keeps old new
keeps_write n b k old new s h v same dirty = record {
  reads = subst (λ ws. cover_by (frame_page ws) ws new.disk ≡ reads old) (sym h.words) (cover_written b k (frame_page old.words) old.words old.disk new.disk found homes);
  stands = subst (λ ws. cover_by (page_of_entry ws) ws new.disk ≡ stands old) (sym h.words) (cover_written b k (page_of_entry old.words) old.words old.disk new.disk found homes);
  firm = λ c e. firm c (loose_parts new c e) (cases_eq c b);
  header = λ i less. ap (λ (ws : List ℕ). slice_index ws i) h.words;
  coherent = λ m t. record {
    header = rw h.words t.header;
    sizes = rw h.words t.sizes;
    protected = rw h.words t.protected;
    scratch_pages = rw h.words t.scratch_pages;
    rules = rw h.words t.rules;
    entries = λ j. subst (λ ws. EntryCoherent ws new.disk j) (sym h.words) (record {
      on_disk = λ w. subst (λ x. tag_block (tag_at old.words j) < x) (sym h.count) ((t.entries j).on_disk w);
      clean = λ w c x less. (t.entries j).clean w c x less ∙ sym (homes (tag_block (tag_at old.words j)) (λ e. true_false (sym dirty ∙ ap (λ y. is_dirty (tag_at old.words y)) (t.rules.blocks k j v w (same ∙ sym e)) ∙ c)) x);
      unedited = (t.entries j).unedited;
    });
  };
}
  where
    found : entry_of_block old.words b ≡ Some k
    found = found_at old.words b k s.rules.blocks v same

    homes : (c : ℕ) → c ≢ b → (w : ℕ) → home_word new.disk c w ≡ home_word old.disk c w
    homes c ne w = ap (λ (xs : List ℕ). slice_index xs w) (h.others c ne)

    firm : (c : ℕ) → (is_pending new.pending c ≡ true) × (has_dirty new.words c ≡ false) → (c ≡ b) ⊎ (c ≢ b) → is_loose old c ≡ true
    firm c e (inl q) = absurd (true_false (sym (ap (has_dirty old.words) q ∙ dirty_of old.words b k found ∙ dirty) ∙ (ap (λ ws. has_dirty ws c) (sym h.words) ∙ e.1)))
    firm c e (inr q) = loose_from old c (sym (h.marks c q) ∙ e.0) (ap (λ ws. has_dirty ws c) (sym h.words) ∙ e.1)

-- nothing but counts and marks of blocks changes, and no mark is new
pub keeps_marks : (old new : Contents) → new.words ≡ old.words → new.disk ≡ old.disk → ((b : ℕ) → is_pending new.pending b ≡ true → is_pending old.pending b ≡ true) → Keeps old new
keeps_marks old new w d marks = record {
  reads = rw (w, d) refl;
  stands = rw (w, d) refl;
  header = λ i less. ap (λ (ws : List ℕ). slice_index ws i) w;
  firm = λ b e. let parts = loose_parts new b e in loose_from old b (marks b parts.0) (ap (λ ws. has_dirty ws b) (sym w) ∙ parts.1);
  coherent = λ n s. record { header = rw w s.header; sizes = rw w s.sizes; protected = rw w s.protected; scratch_pages = rw w s.scratch_pages; rules = rw w s.rules; entries = λ k. rw (w, d) (s.entries k) };
}

pub none_pending : (n b : ℕ) → is_pending (replicate n false) b ≡ false
none_pending n b = from (small b n)
  where
    small : (b n : ℕ) → (b < n) ⊎ (n ≤ b)
    small b n = grind arith

    from : (b < n) ⊎ (n ≤ b) → is_pending (replicate n false) b ≡ false
    from (inl less) = get_or-replicate n b false false less
    from (inr more) = get_or_past (replicate n false) b false (subst (λ m. m ≤ b) (sym (length-replicate n false)) more)

-- ---- entry k changes

pub coherent_one : (n k : ℕ) (old new : Contents) → new ≡ record old { words = new.words } → OneEntry k old.words new.words → k < frames_of old.words → Coherent old n → KeepsRegistry new.words → EntryCoherent new.words new.disk k → Coherent new n
coherent_one n k old new rest one within s rules mine = record {
  header = record { magic = header_one k old.words new.words 0 one (omega arith) ∙ s.header.magic; version = header_one k old.words new.words 1 one (omega arith) ∙ s.header.version };
  sizes = rw (frames_one k old.words new.words one, header_one k old.words new.words 3 one (omega arith)) s.sizes;
  protected = one.count ∙ s.protected ∙ ap (λ f. 512 * (17 + registry_pages f + f)) (sym (frames_one k old.words new.words one));
  scratch_pages = s.scratch_pages ∙ ap (λ c. 512 * c) (sym (header_one k old.words new.words 3 one (omega arith)));
  rules = rules;
  entries = λ j. from j (cases_eq j k);
}
  where
    disk : new.disk ≡ old.disk
    disk = ap (λ (m : Contents). m.disk) rest

    from : (j : ℕ) → (j ≡ k) ⊎ (j ≢ k) → EntryCoherent new.words new.disk j
    from j (inl e) = subst (EntryCoherent new.words new.disk) (sym e) mine
    from j (inr ne) =
        let t = tag_one k j old.words new.words one ne in
        let was : IsValid new.words j → IsValid old.words j = λ v. record { within = subst (λ f. j < f) (frames_one k old.words new.words one) v.within; valid = ap is_valid (sym t) ∙ v.valid } in
        let clean : is_dirty (tag_at new.words j) ≡ false → is_dirty (tag_at old.words j) ≡ false = λ c. ap is_dirty (sym t) ∙ c in
        record {
          on_disk = λ v. rw (t, disk) ((s.entries j).on_disk (was v));
          clean = λ v c w less. frame_word_one k j w old.words new.words one within ∙ (s.entries j).clean (was v) (clean c) w less ∙ rw (t, disk) refl;
          unedited = λ v c w less. page_word_one k j w old.words new.words one within (λ e. absurd (ne e)) ∙ (s.entries j).unedited (was v) (clean c) w less ∙ sym (frame_word_one k j w old.words new.words one within);
        }

-- entry k gets another tag, and no other word changes
pub record Retagged (k t : ℕ) (old new : List ℕ) : Type 0 where
  pub one : OneEntry k old new
  pub tag : tag_at new k ≡ t
  pub file : file_at new k ≡ file_at old k
  pub index : index_at new k ≡ index_at old k
  pub size : size_at new k ≡ size_at old k
  pub shadow : shadow_at new k ≡ shadow_at old k

-- a tag of the same block and kind
pub record SameHold (t u : ℕ) : Type 0 where
  pub valid : is_valid u ≡ is_valid t
  pub named : is_data u ≡ is_data t
  pub block : tag_block u ≡ tag_block t
  pub bits : t % 2 ^ 32 < 8 → u % 2 ^ 32 < 8

pub hold_dirtied : (t : ℕ) → SameHold t (with_dirty t)
hold_dirtied t = record { valid = dirtied_valid t; named = dirtied_data t; block = dirtied_block t; bits = dirtied_bits t }

pub hold_cleaned : (t : ℕ) → SameHold t (without_dirty t)
hold_cleaned t = record { valid = cleaned_valid t; named = cleaned_data t; block = cleaned_block t; bits = cleaned_bits t }

tag_held : (t u : ℕ) → is_valid t ≡ true → SameHold t u → KeepsTag t → KeepsTag u
tag_held t u v h kt = record { invalid = λ e. absurd (true_false (sym v ∙ sym h.valid ∙ e)); bits = λ e. h.bits (kt.bits v) }

metadata_held : (t u f i s : ℕ) → SameHold t u → KeepsMetadata t f i s → KeepsMetadata u f i s
metadata_held t u f i s h k = record {
  of_file = λ v d. k.of_file (sym h.valid ∙ v) (sym h.named ∙ d);
  at_index = λ v d. k.at_index (sym h.valid ∙ v) (sym h.named ∙ d);
  of_size = λ v d. k.of_size (sym h.valid ∙ v) (sym h.named ∙ d);
}

name_held : (t u f i : ℕ) → SameHold t u → KeepsName t f i → KeepsName u f i
name_held t u f i h k = record {
  file_from = λ v d. k.file_from (sym h.valid ∙ v) (sym h.named ∙ d);
  file_to = λ v d. k.file_to (sym h.valid ∙ v) (sym h.named ∙ d);
  index_to = λ v d. k.index_to (sym h.valid ∙ v) (sym h.named ∙ d);
}

shadow_held : (t u s : ℕ) → SameHold t u → KeepsShadow t s → KeepsShadow u s
shadow_held t u s h k = record { most = λ v. k.most (sym h.valid ∙ v); of_data = λ v d. k.of_data (sym h.valid ∙ v) (sym h.named ∙ d) }

-- with a tag of the same block and kind the rules are kept
pub registry_retagged : (k t : ℕ) (old new : List ℕ) → KeepsRegistry old → IsValid old k → Retagged k t old new → SameHold (tag_at old k) t → KeepsRegistry new
registry_retagged k t old new h v r hold = registry_one k old new h r.one mine (record {
  blocks = λ j ne w x e. ne (h.blocks j k w v (e ∙ ap tag_block r.tag ∙ hold.block));
  shadows = λ j ne w x some e. ne (h.apart j k w v (e ∙ r.shadow) (λ z. some (sym e ∙ z)));
})
  where
    was : EntryKeeps old k
    was = entry_keeps old k h v.within

    mine : EntryKeeps new k
    mine = record {
      tag = rw r.tag (tag_held (tag_at old k) t v.valid hold was.tag);
      metadata = rw (r.tag, r.file, r.index, r.size) (metadata_held (tag_at old k) t _ _ _ hold was.metadata);
      name = rw (r.tag, r.file, r.index) (name_held (tag_at old k) t _ _ hold was.name);
      size = rw (r.tag, r.size) (λ x d. was.size (sym hold.valid ∙ x) (sym hold.named ∙ d));
      shadow = rw (r.tag, r.shadow) (shadow_held (tag_at old k) t _ hold was.shadow);
    }

-- with an entry made invalid the rules are kept
pub registry_cleared : (k : ℕ) (old new : List ℕ) → KeepsRegistry old → Retagged k 0 old new → KeepsRegistry new
registry_cleared k old new h r = registry_one k old new h r.one (record {
  tag = record { invalid = λ e. r.tag; bits = λ e. absurd (true_false (sym e ∙ gone)) };
  metadata = record { of_file = λ e. absurd (true_false (sym e ∙ gone)); at_index = λ e. absurd (true_false (sym e ∙ gone)); of_size = λ e. absurd (true_false (sym e ∙ gone)) };
  name = record { file_from = λ e. absurd (true_false (sym e ∙ gone)); file_to = λ e. absurd (true_false (sym e ∙ gone)); index_to = λ e. absurd (true_false (sym e ∙ gone)) };
  size = λ e. absurd (true_false (sym e ∙ gone));
  shadow = record { most = λ e. absurd (true_false (sym e ∙ gone)); of_data = λ e. absurd (true_false (sym e ∙ gone)) };
}) (record { blocks = λ j ne w x. absurd (true_false (sym x.valid ∙ gone)); shadows = λ j ne w x. absurd (true_false (sym x.valid ∙ gone)) })
  where
    gone : is_valid (tag_at new k) ≡ false
    gone = ap is_valid r.tag

-- the dirty entry of a block
pub dirty_some : (words : List ℕ) (b : ℕ) → has_dirty words b ≡ true → (j : ℕ) × (entry_of_block words b ≡ Some j) × (is_dirty (tag_at words j) ≡ true)
dirty_some words b e = from (entry_of_block words b) refl e
  where
    from : (o : Option ℕ) → entry_of_block words b ≡ o → dirty_entry words o ≡ true → (j : ℕ) × (entry_of_block words b ≡ Some j) × (is_dirty (tag_at words j) ≡ true)
    from None f d = absurd (true_false (sym d))
    from (Some j) f d = (j, f, d)

-- no block becomes loose where each dirty entry stays one
pub firm_by : (old new : Contents) → new.pending ≡ old.pending → ((b j : ℕ) → entry_of_block old.words b ≡ Some j → is_dirty (tag_at old.words j) ≡ true → (entry_of_block new.words b ≡ Some j) × (is_dirty (tag_at new.words j) ≡ true)) → (b : ℕ) → is_loose new b ≡ true → is_loose old b ≡ true
firm_by old new pending stay b e = from (loose_parts new b e) (cases_Bool (has_dirty old.words b))
  where
    from : (is_pending new.pending b ≡ true) × (has_dirty new.words b ≡ false) → (has_dirty old.words b ≡ true) ⊎ (has_dirty old.words b ≡ false) → is_loose old b ≡ true
    from parts (inr clean) = loose_from old b (ap (λ p. is_pending p b) (sym pending) ∙ parts.0) clean
    from parts (inl dirty) = let d = dirty_some old.words b dirty in let n = stay b d.0 d.1 d.2 in absurd (true_false (sym n.1 ∙ sym (dirty_of new.words b d.0 n.0) ∙ parts.1))

pub disk_same : (old new : Contents) → new ≡ record old { words = new.words } → new.disk ≡ old.disk
disk_same old new rest = ap (λ (m : Contents). m.disk) rest

pub pending_same : (old new : Contents) → new ≡ record old { words = new.words } → new.pending ≡ old.pending
pending_same old new rest = ap (λ (m : Contents). m.pending) rest

-- entry k is marked dirty
pub keeps_dirty : (n k : ℕ) (old new : Contents) → Coherent old n → new ≡ record old { words = new.words } → IsValid old.words k → Retagged k (with_dirty (tag_at old.words k)) old.words new.words → Keeps old new
keeps_dirty n k old new s0 rest v r = record {
  reads = subst (λ d. cover_by (frame_page new.words) new.words d ≡ reads old) (sym (disk_same old new rest)) (reads_kept k old.words new.words old.disk r.one v.within valid block);
  stands = subst (λ d. cover_by (page_of_entry new.words) new.words d ≡ stands old) (sym (disk_same old new rest)) (stands_kept k old.words new.words old.disk r.one v.within valid block r.shadow);
  header = λ i less. header_one k old.words new.words i r.one less;
  firm = firm_by old new (pending_same old new rest) (λ b j f d. (found_kept k b old.words new.words r.one valid block ∙ f, dirty j d (cases_eq j k)));
  coherent = λ m s. coherent_one m k old new rest r.one v.within s (registry_retagged k _ old.words new.words s.rules v r (hold_dirtied (tag_at old.words k))) (record {
    on_disk = λ w. rw (r.tag, dirtied_block (tag_at old.words k), disk_same old new rest) ((s.entries k).on_disk v);
    clean = λ w c. absurd (true_false (sym now_dirty ∙ c));
    unedited = λ w c. absurd (true_false (sym now_dirty ∙ c));
  });
}
  where
    valid : is_valid (tag_at new.words k) ≡ is_valid (tag_at old.words k)
    valid = ap is_valid r.tag ∙ dirtied_valid (tag_at old.words k)

    block : tag_block (tag_at new.words k) ≡ tag_block (tag_at old.words k)
    block = ap tag_block r.tag ∙ dirtied_block (tag_at old.words k)

    now_dirty : is_dirty (tag_at new.words k) ≡ true
    now_dirty = ap is_dirty r.tag ∙ dirtied_dirty (tag_at old.words k)

    dirty : (j : ℕ) → is_dirty (tag_at old.words j) ≡ true → (j ≡ k) ⊎ (j ≢ k) → is_dirty (tag_at new.words j) ≡ true
    dirty j d (inl e) = subst (λ x. is_dirty (tag_at new.words x) ≡ true) (sym e) now_dirty
    dirty j d (inr ne) = ap is_dirty (tag_one k j old.words new.words r.one ne) ∙ d

-- entry k is marked clean, where nothing is pending, its frame is on the disk, and no shadow counts for it
pub keeps_clean : (k : ℕ) (old new : Contents) → new ≡ record old { words = new.words } → IsValid old.words k → IsBare old.words k → OnDisk old k → ((b : ℕ) → is_pending old.pending b ≡ false) → Retagged k (without_dirty (tag_at old.words k)) old.words new.words → Keeps old new
keeps_clean k old new rest v bare home none r = record {
  reads = subst (λ d. cover_by (frame_page new.words) new.words d ≡ reads old) (sym (disk_same old new rest)) (reads_kept k old.words new.words old.disk r.one v.within valid block);
  stands = subst (λ d. cover_by (page_of_entry new.words) new.words d ≡ stands old) (sym (disk_same old new rest)) (stands_kept k old.words new.words old.disk r.one v.within valid block r.shadow);
  header = λ i less. header_one k old.words new.words i r.one less;
  firm = λ b e. absurd (true_false (sym (loose_parts new b e).0 ∙ ap (λ p. is_pending p b) (pending_same old new rest) ∙ none b));
  coherent = λ m s. coherent_one m k old new rest r.one v.within s (registry_retagged k _ old.words new.words s.rules v r (hold_cleaned (tag_at old.words k))) (record {
    on_disk = λ w. rw (r.tag, cleaned_block (tag_at old.words k), disk_same old new rest) ((s.entries k).on_disk v);
    clean = λ w c x less. frame_word_one k k x old.words new.words r.one v.within ∙ home.same x less ∙ rw (r.tag, cleaned_block (tag_at old.words k), disk_same old new rest) refl;
    unedited = λ w c x less. page_word_one k k x old.words new.words r.one v.within (λ e. r.shadow) ∙ ap (λ p. slice_index old.words (512 * p + x)) (place_bare old.words k bare) ∙ sym (frame_word_one k k x old.words new.words r.one v.within);
  });
}
  where
    valid : is_valid (tag_at new.words k) ≡ is_valid (tag_at old.words k)
    valid = ap is_valid r.tag ∙ cleaned_valid (tag_at old.words k)

    block : tag_block (tag_at new.words k) ≡ tag_block (tag_at old.words k)
    block = ap tag_block r.tag ∙ cleaned_block (tag_at old.words k)

-- entry k, which is clean and bare, is made invalid
pub keeps_clear : (n k : ℕ) (old new : Contents) → Coherent old n → new ≡ record old { words = new.words } → IsValid old.words k → is_dirty (tag_at old.words k) ≡ false → Retagged k 0 old.words new.words → Keeps old new
keeps_clear n k old new s0 rest v clean r = record {
  reads = subst (λ d. cover_by (frame_page new.words) new.words d ≡ reads old) (sym disk) (covers_by (frame_page old.words) old.words old.disk (frame_page new.words) new.words old.disk (λ c w less. at_frame c w less (cases_eq c (tag_block (tag_at old.words k)))));
  stands = subst (λ d. cover_by (page_of_entry new.words) new.words d ≡ stands old) (sym disk) (covers_by (page_of_entry old.words) old.words old.disk (page_of_entry new.words) new.words old.disk (λ c w less. at_page c w less (cases_eq c (tag_block (tag_at old.words k)))));
  header = λ i less. header_one k old.words new.words i r.one less;
  firm = firm_by old new (pending_same old new rest) (λ c j f d. let ne : j ≢ k = λ e. true_false (sym d ∙ ap (λ x. is_dirty (tag_at old.words x)) e ∙ clean) in let h = found_is old.words c j f in (elsewhere c (λ e. ne (s0.rules.blocks j k h.0 v (h.1 ∙ e))) ∙ f, ap is_dirty (tag_one k j old.words new.words r.one ne) ∙ d));
  coherent = λ m s. coherent_one m k old new rest r.one v.within s (registry_cleared k old.words new.words s.rules r) (record {
    on_disk = λ w. absurd (true_false (sym w.valid ∙ gone));
    clean = λ w. absurd (true_false (sym w.valid ∙ gone));
    unedited = λ w. absurd (true_false (sym w.valid ∙ gone));
  });
}
  where
    disk : new.disk ≡ old.disk
    disk = disk_same old new rest

    gone : is_valid (tag_at new.words k) ≡ false
    gone = ap is_valid r.tag

    elsewhere : (c : ℕ) → c ≢ tag_block (tag_at old.words k) → entry_of_block new.words c ≡ entry_of_block old.words c
    elsewhere c ne = found_other k c old.words new.words r.one (λ w e. ne (sym e)) (λ w. absurd (true_false (sym w ∙ gone)))

    found : entry_of_block old.words (tag_block (tag_at old.words k)) ≡ Some k
    found = found_at old.words (tag_block (tag_at old.words k)) k s0.rules.blocks v refl

    lost : entry_of_block new.words (tag_block (tag_at old.words k)) ≡ None
    lost = found_cleared k old.words new.words r.one s0.rules.blocks v gone

    at_frame : (c w : ℕ) → w < 512 → (c ≡ tag_block (tag_at old.words k)) ⊎ (c ≢ tag_block (tag_at old.words k)) → cover_by (frame_page new.words) new.words old.disk c w ≡ cover_by (frame_page old.words) old.words old.disk c w
    at_frame c w less (inl e) = subst (λ x. cover_by (frame_page new.words) new.words old.disk x w ≡ cover_by (frame_page old.words) old.words old.disk x w) (sym e) (cover_home (frame_page new.words) new.words old.disk _ w lost less ∙ sym ((s0.entries k).clean v clean w less) ∙ sym (cover_at (frame_page old.words) old.words old.disk _ w k found less))
    at_frame c w less (inr ne) = cover_same (frame_page old.words) old.words old.disk (frame_page new.words) new.words old.disk c w (record {
      entry = elsewhere c ne;
      pages = λ j x f small. frame_word_one k j x old.words new.words r.one v.within;
      homes = λ x f small. refl;
    })

    at_page : (c w : ℕ) → w < 512 → (c ≡ tag_block (tag_at old.words k)) ⊎ (c ≢ tag_block (tag_at old.words k)) → cover_by (page_of_entry new.words) new.words old.disk c w ≡ cover_by (page_of_entry old.words) old.words old.disk c w
    at_page c w less (inl e) = subst (λ x. cover_by (page_of_entry new.words) new.words old.disk x w ≡ cover_by (page_of_entry old.words) old.words old.disk x w) (sym e) (cover_home (page_of_entry new.words) new.words old.disk _ w lost less ∙ sym ((s0.entries k).unedited v clean w less ∙ (s0.entries k).clean v clean w less) ∙ sym (cover_at (page_of_entry old.words) old.words old.disk _ w k found less))
    at_page c w less (inr ne) = cover_same (page_of_entry old.words) old.words old.disk (page_of_entry new.words) new.words old.disk c w (record {
      entry = elsewhere c ne;
      pages = λ j x f small. page_word_one k j x old.words new.words r.one v.within (λ e. r.shadow);
      homes = λ x f small. refl;
    })
