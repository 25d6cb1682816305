-- What a reboot keeps when its entries go: one is cleared, the gate becomes 0 once none is valid.
use Rattle.rio_model.proofs.Common.{Bool, List, None, Option, Some, ap, arith, cases_eq, false, inl, inr, is_pending, refl, slice_index, slice_set, subst, sym, true, true_false, bit_at, Contents, VolumeShape, ℕ, ◌%◌, ◌*◌, ◌+◌, ◌<◌, ◌∙◌, ◌≡◌, ◌≢◌, ◌≤◌, ◌⊎◌}
use Rattle.std.specs.Prelude.{slice_index_or}
use Rattle.rio_base.specs.Disks.{block_at}
use Rattle.rio_base.specs.Image.{registry_pages}
use Rattle.rio_base.specs.Rules.{none_some}
use Rattle.rio_model.specs.Cover.{Coherent, Narrows, cover_by, dirty_entry, entry_of_block, home_word, stands_on}
use Rattle.rio_model.specs.CoverChanges.{Gated}
use Rattle.rio_model.specs.CoverLookups.{cover_at, cover_home, cover_past, cover_same}
use Rattle.rio_model.specs.Registry.{IsValid, KeepsRegistry, frames_of, gate_of, is_valid, page_of_entry, tag_at, tag_block}
use Rattle.rio_model.specs.Standing.{Endures, IsHome, Restorable, Sound, is_stale, none_apart, stale_block}
use Rattle.rio_model.proofs.CoverChanges.{found_cleared, found_other, page_word_one}
use Rattle.rio_model.proofs.CoverLookups.{found_at, found_free}
use Rattle.rio_model.proofs.CoverSteps.{Retagged, disk_same, pending_same, registry_cleared}
use Rattle.rio_model.proofs.Gates.{frames_word, gated, tag_word}
use Rattle.rio_model.proofs.HeldEntries.{narrows_gone}
use Rattle.rio_model.proofs.RebootSteps.{clean_other, endures_trans, endures_wider, image_one, leaves_words}

small_or : (w : ℕ) → (w < 512) ⊎ (512 ≤ w)
small_or w = grind arith

-- ---- entry k becomes invalid: its page is the disk's block as it reads, which these blocks have too, or its block is apart

cleared_at : (apart : ℕ → Bool) (k : ℕ) (old new : Contents) → KeepsRegistry old.words → IsValid old.words k → IsHome old k ⊎ (apart (tag_block (tag_at old.words k)) ≡ true) → Retagged k 0 old.words new.words → (d : List (List ℕ)) → block_at d (tag_block (tag_at old.words k)) ≡ block_at old.disk (tag_block (tag_at old.words k)) → (c w : ℕ) → apart c ≡ false → stands_on new d c w ≡ stands_on old d c w
cleared_at apart k old new rules v home r d same c w out = at c w out (small_or w) (cases_eq c (tag_block (tag_at old.words k))) home
  where
    gone : is_valid (tag_at new.words k) ≡ false
    gone = ap is_valid r.tag

    elsewhere : (c : ℕ) → c ≢ tag_block (tag_at old.words k) → entry_of_block new.words c ≡ entry_of_block old.words c
    elsewhere c ne = found_other k c old.words new.words r.one (λ w e. ne (sym e)) (λ w. absurd (true_false (sym w ∙ gone)))

    found : entry_of_block old.words (tag_block (tag_at old.words k)) ≡ Some k
    found = found_at old.words (tag_block (tag_at old.words k)) k rules.blocks v refl

    lost : entry_of_block new.words (tag_block (tag_at old.words k)) ≡ None
    lost = found_cleared k old.words new.words r.one rules.blocks v gone

    at : (c w : ℕ) → apart c ≡ false → (w < 512) ⊎ (512 ≤ w) → (c ≡ tag_block (tag_at old.words k)) ⊎ (c ≢ tag_block (tag_at old.words k)) → IsHome old k ⊎ (apart (tag_block (tag_at old.words k)) ≡ true) → stands_on new d c w ≡ stands_on old d c w
    at c w out (inr large) e h = cover_past _ _ d c w large ∙ sym (cover_past _ _ d c w large)
    at c w out (inl less) (inl e) (inr marked) = absurd (true_false (sym marked ∙ ap apart (sym e) ∙ out))
    at c w out (inl less) (inl e) (inl h) = subst (λ x. cover_by (page_of_entry new.words) new.words d x w ≡ cover_by (page_of_entry old.words) old.words d x w) (sym e)
        (cover_home (page_of_entry new.words) new.words d _ w lost less ∙ ap (λ (l : List ℕ). slice_index l w) same ∙ sym (h.same w less) ∙ sym (cover_at (page_of_entry old.words) old.words d _ w k found less))
    at c w out (inl less) (inr ne) h = cover_same (page_of_entry old.words) old.words d (page_of_entry new.words) new.words d c w (record {
      entry = elsewhere c ne;
      pages = λ j x f small. page_word_one k j x old.words new.words r.one v.within (λ e. r.shadow);
      homes = λ x f small. refl;
    })

sound_cleared : (k : ℕ) (old new : Contents) (shape : VolumeShape) → new ≡ record old { words = new.words } → IsValid old.words k → ((b : ℕ) → is_pending old.pending b ≡ false) → Retagged k 0 old.words new.words → Sound old shape → Sound new shape
sound_cleared k old new shape rest v none r s = record {
  written = λ d m b p u. absurd (true_false (sym p ∙ ap (λ x. is_pending x b) (pending_same old new rest) ∙ none b));
  clean = λ j w c x less. clean_other k j old new shape (disk_same old new rest) r.one v.within (λ e. true_false (sym w.valid ∙ ap (λ y. is_valid (tag_at new.words y)) e ∙ ap is_valid r.tag)) s w c x less;
}

-- where nothing is pending, and the entry's page is on the disk or its block is apart
pub endures_cleared : (apart : ℕ → Bool) (n k : ℕ) (old new : Contents) → Restorable old n → new ≡ record old { words = new.words } → IsValid old.words k → ((b : ℕ) → is_pending old.pending b ≡ false) → IsHome old k ⊎ (apart (tag_block (tag_at old.words k)) ≡ true) → Retagged k 0 old.words new.words → Endures apart old new
endures_cleared apart n k old new i rest v none home r = record {
  could = record {
    each = λ d m.
        let was = leaves_words old new d rest m in
        (d, was, λ c w out. cleared_at apart k old new i.rules v home r d (was.kept (tag_block (tag_at old.words k)) (none (tag_block (tag_at old.words k)))) c w out);
  };
  standing = λ c w out. ap (λ (d : List (List ℕ)). stands_on new d c w) (disk_same old new rest) ∙ cleared_at apart k old new i.rules v home r old.disk refl c w out;
  narrows = narrows_gone k old.words new.words i.rules.blocks r.one r.tag;
  image = λ m j. image_one m k old new rest r.one (registry_cleared k old.words new.words j.rules r) (λ w. absurd (true_false (sym w.valid ∙ ap is_valid r.tag))) j;
  sound = λ shape s. sound_cleared k old new shape rest v none r s;
}

-- the block of an entry that is marked as stale
stale_at : (marks : List Bool) (words : List ℕ) (k : ℕ) → KeepsRegistry words → IsValid words k → slice_index_or marks k false ≡ true → stale_block marks words (tag_block (tag_at words k)) ≡ true
stale_at marks words k rules v e = ap (is_stale marks) (found_at words (tag_block (tag_at words k)) k rules.blocks v refl) ∙ e

-- and its page is on the disk or it is marked as stale
pub endures_cleared_stale : (marks : List Bool) (n k : ℕ) (old new : Contents) → Restorable old n → new ≡ record old { words = new.words } → IsValid old.words k → ((b : ℕ) → is_pending old.pending b ≡ false) → IsHome old k ⊎ (slice_index_or marks k false ≡ true) → Retagged k 0 old.words new.words → Endures (stale_block marks old.words) old new
endures_cleared_stale marks n k old new i rest v none home r = endures_cleared (stale_block marks old.words) n k old new i rest v none (from home) r
  where
    from : IsHome old k ⊎ (slice_index_or marks k false ≡ true) → IsHome old k ⊎ (stale_block marks old.words (tag_block (tag_at old.words k)) ≡ true)
    from (inl d) = inl d
    from (inr p) = inr (stale_at marks old.words k i.rules v p)

-- the blocks of marked entries that are left were such blocks before
stale_before : (marks : List Bool) (old new : List ℕ) (b : ℕ) → Narrows old new → stale_block marks new b ≡ true → stale_block marks old b ≡ true
stale_before marks old new b narrow e = from (entry_of_block new b) refl e
  where
    from : (o : Option ℕ) → entry_of_block new b ≡ o → is_stale marks o ≡ true → stale_block marks old b ≡ true
    from None f p = absurd (true_false (sym p))
    from (Some k) f p = ap (is_stale marks) (narrow.found b k f).0 ∙ p

-- one step after another, each told by the entries that it finds
pub endures_stale_trans : (marks : List Bool) (a b c : Contents) → Endures (stale_block marks a.words) a b → Endures (stale_block marks b.words) b c → Endures (stale_block marks a.words) a c
endures_stale_trans marks a b c h k = endures_trans (stale_block marks a.words) a b c h (endures_wider (stale_block marks b.words) (stale_block marks a.words) b c (λ x e. stale_before marks a.words b.words x h.narrows e) k)

-- ---- no entry is valid

no_entry : (words : List ℕ) (b : ℕ) → ((k : ℕ) → k < frames_of words → tag_at words k ≡ 0) → entry_of_block words b ≡ None
no_entry words b empty = found_free words b (λ j v e. absurd (true_false (sym v.valid ∙ ap is_valid (empty j v.within))))

-- the disk's blocks stand
pub stands_empty : (words : List ℕ) (d : List (List ℕ)) (page : ℕ → ℕ) (b w : ℕ) → ((k : ℕ) → k < frames_of words → tag_at words k ≡ 0) → w < 512 → cover_by page words d b w ≡ home_word d b w
stands_empty words d page b w empty less = cover_home page words d b w (no_entry words b empty) less

-- the rules are kept
pub registry_empty : (words : List ℕ) → gate_of words ≤ 1 → ((k : ℕ) → k < frames_of words → tag_at words k ≡ 0) → KeepsRegistry words
registry_empty words gate empty = record {
  gate = gate;
  tags = λ k less. record { invalid = λ e. empty k less; bits = λ e. absurd (not_valid k less e) };
  blocks = λ j k v w e. absurd (not_valid j v.within v.valid);
  metadata = λ k less. record { of_file = λ e. absurd (not_valid k less e); at_index = λ e. absurd (not_valid k less e); of_size = λ e. absurd (not_valid k less e) };
  names = λ k less. record { file_from = λ e. absurd (not_valid k less e); file_to = λ e. absurd (not_valid k less e); index_to = λ e. absurd (not_valid k less e) };
  sizes = λ k less e. absurd (not_valid k less e);
  shadows = λ k less. record { most = λ e. absurd (not_valid k less e); of_data = λ e. absurd (not_valid k less e) };
  apart = λ j k v w e some. absurd (not_valid j v.within v.valid);
}
  where
    not_valid : (k : ℕ) → k < frames_of words → is_valid (tag_at words k) ≡ true → ⊥
    not_valid k less e = true_false (sym e ∙ ap is_valid (empty k less))

-- a cache that holds nothing is coherent
pub coherent_empty : (c : Contents) (n : ℕ) → Restorable c n → ((k : ℕ) → k < frames_of c.words → tag_at c.words k ≡ 0) → Coherent c n
coherent_empty c n i empty = record {
  header = i.header;
  sizes = i.sizes;
  protected = i.protected;
  scratch_pages = i.scratch_pages;
  rules = i.rules;
  entries = λ k. record { on_disk = λ v. absurd (none k v); clean = λ v. absurd (none k v); unedited = λ v. absurd (none k v) };
}
  where
    none : (k : ℕ) → IsValid c.words k → ⊥
    none k v = true_false (sym v.valid ∙ ap is_valid (empty k v.within))

-- ---- the gate becomes 0

gate_shut : (n : ℕ) (old new : Contents) → Restorable old n → new ≡ record old { words = slice_set old.words 4 0 } → Gated 0 old.words new.words
gate_shut n old new i e = subst (Gated 0 old.words) (sym (ap (λ (c : Contents). c.words) e)) (gated old.words 0 (omega (arith, i.protected)))

pub empty_gated : (n : ℕ) (old new : Contents) → Restorable old n → new ≡ record old { words = slice_set old.words 4 0 } → ((k : ℕ) → k < frames_of old.words → tag_at old.words k ≡ 0) → (k : ℕ) → k < frames_of new.words → tag_at new.words k ≡ 0
empty_gated n old new i e empty k less =
    let h = gate_shut n old new i e in
    tag_word 0 old.words new.words k h ∙ empty k (subst (λ f. k < f) (frames_word 0 old.words new.words h) less)

-- where no entry is valid nothing else changes by it
pub endures_gated : (n : ℕ) (old new : Contents) → Restorable old n → ((k : ℕ) → k < frames_of old.words → tag_at old.words k ≡ 0) → new ≡ record old { words = slice_set old.words 4 0 } → Endures none_apart old new
endures_gated n old new i empty e = record {
  could = record { each = λ d m. (d, leaves_words old new d rest m, λ b w out. at d b w (small_or w)) };
  standing = λ b w out. at new.disk b w (small_or w) ∙ ap (λ (d : List (List ℕ)). stands_on old d b w) (disk_same old new rest);
  narrows = record { found = λ b k f. absurd (none_some k (entry_of_block new.words b) (no_entry new.words b now_empty) f) };
  image = λ m j. record {
    header = record { magic = h.others 0 (λ x. absurd (omega (arith, x))) ∙ j.header.magic; version = h.others 1 (λ x. absurd (omega (arith, x))) ∙ j.header.version };
    sizes = rw (frames_word 0 old.words new.words h, h.others 3 (λ x. absurd (omega (arith, x)))) j.sizes;
    protected = h.count ∙ j.protected ∙ ap (λ f. 512 * (17 + registry_pages f + f)) (sym (frames_word 0 old.words new.words h));
    scratch_pages = j.scratch_pages ∙ ap (λ c. 512 * c) (sym (h.others 3 (λ x. absurd (omega (arith, x)))));
    rules = registry_empty new.words (omega (arith, h.gate)) now_empty;
    on_disk = λ k v. absurd (true_false (sym v.valid ∙ ap is_valid (now_empty k v.within)));
  };
  sound = λ shape s. record {
    written = λ d m b p u. absurd (true_false (sym (s.written d (leaves_words old new d rest m) b (ap (λ x. is_pending x b) (sym (pending_same old new rest)) ∙ p) (ap (λ word. bit_at word (b % 64)) (sym (at d _ _ (small_or _))) ∙ u)) ∙ ap (dirty_entry old.words) (no_entry old.words b empty)));
    clean = λ k v. absurd (true_false (sym v.valid ∙ ap is_valid (now_empty k v.within)));
  };
}
  where
    h : Gated 0 old.words new.words
    h = gate_shut n old new i e

    rest : new ≡ record old { words = new.words }
    rest = e ∙ sym (ap (λ (m : Contents). record old { words = m.words }) e)

    now_empty : (k : ℕ) → k < frames_of new.words → tag_at new.words k ≡ 0
    now_empty = empty_gated n old new i e empty

    at : (d : List (List ℕ)) (b w : ℕ) → (w < 512) ⊎ (512 ≤ w) → stands_on new d b w ≡ stands_on old d b w
    at d b w (inl less) = stands_empty new.words d (page_of_entry new.words) b w now_empty less ∙ sym (stands_empty old.words d (page_of_entry old.words) b w empty less)
    at d b w (inr large) = cover_past (page_of_entry new.words) new.words d b w large ∙ sym (cover_past (page_of_entry old.words) old.words d b w large)
