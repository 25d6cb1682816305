-- An entry is marked clean whose block isn't pending, while others may be.
use Rattle.std.specs.Prelude.{◌≡◌, ◌≢◌, ◌⊎◌, ℕ, true, false, [], Some, refl}
use Rattle.std.proofs.Common.{◌∙◌, ap, sym, inl, inr}
use Rattle.std.proofs.lemmas.Bool.{cases_Bool, cases_eq}
use Rattle.rio_base.specs.Disks.{is_pending}
use Rattle.rio_base.specs.Machine.{Contents}
use Rattle.rio_base.specs.Rules.{true_false}
use Rattle.rio_model.specs.Cover.{Coherent, IsBare, Keeps, OnDisk, entry_of_block, has_dirty, is_loose}
use Rattle.rio_model.specs.CoverLookups.{found_is}
use Rattle.rio_model.proofs.CoverChanges.{found_kept}
use Rattle.rio_model.proofs.CoverLookups.{tag_one}
use Rattle.rio_model.proofs.CoverSteps.{Retagged, dirty_of, dirty_some, keeps_clean, loose_from, loose_parts, pending_same}
use Rattle.rio_model.proofs.RegistryRules.{cleaned_block, cleaned_valid}
use Rattle.rio_model.specs.Registry.{IsValid, is_dirty, is_valid, tag_at, tag_block, without_dirty}

-- the same, but that nothing is pending
synced : Contents → Contents
synced c = record c { pending = [] }

coherent_synced : (c : Contents) (n : ℕ) → Coherent c n → Coherent (synced c) n
unfolding synced
coherent_synced c n s = record { header = s.header; sizes = s.sizes; protected = s.protected; scratch_pages = s.scratch_pages; rules = s.rules; entries = s.entries }

coherent_pending : (c : Contents) (n : ℕ) → Coherent (synced c) n → Coherent c n
unfolding synced
coherent_pending c n s = record { header = s.header; sizes = s.sizes; protected = s.protected; scratch_pages = s.scratch_pages; rules = s.rules; entries = s.entries }

on_disk_synced : (c : Contents) (k : ℕ) → OnDisk c k → OnDisk (synced c) k
unfolding synced
on_disk_synced c k d = record { same = d.same }

rest_synced : (old new : Contents) → new ≡ record old { words = new.words } → synced new ≡ record (synced old) { words = new.words }
unfolding synced
rest_synced old new rest = ap (λ (c : Contents). record c { pending = [] }) rest

cleaned_synced : (k : ℕ) (old new : Contents) → new ≡ record old { words = new.words } → IsValid old.words k → IsBare old.words k → OnDisk old k → Retagged k (without_dirty (tag_at old.words k)) old.words new.words → Keeps (synced old) (synced new)
unfolding synced
cleaned_synced k old new rest v bare home r = keeps_clean k (record old { pending = [] }) (record new { pending = [] }) (rest_synced old new rest) v bare (on_disk_synced old k home) (λ b. refl) r

-- entry k is marked clean, where its block isn't pending, its frame is on the disk, and no shadow counts for it
pub keeps_settled : (k : ℕ) (old new : Contents) → new ≡ record old { words = new.words } → IsValid old.words k → IsBare old.words k → OnDisk old k → is_pending old.pending (tag_block (tag_at old.words k)) ≡ false → Retagged k (without_dirty (tag_at old.words k)) old.words new.words → Keeps old new
unfolding synced
keeps_settled k old new rest v bare home none r = record {
  reads = h.reads;
  stands = h.stands;
  header = h.header;
  firm = λ b e. firm b (loose_parts new b e) (cases_Bool (has_dirty old.words b));
  coherent = λ n s. coherent_pending new n (h.coherent n (coherent_synced old n s));
}
  where
    h : Keeps (synced old) (synced new)
    h = cleaned_synced k old new rest v bare home r

    found : (b : ℕ) → entry_of_block new.words b ≡ entry_of_block old.words b
    found b = found_kept k b old.words new.words r.one (ap is_valid r.tag ∙ cleaned_valid (tag_at old.words k)) (ap tag_block r.tag ∙ cleaned_block (tag_at old.words k))

    was : (b : ℕ) → is_pending new.pending b ≡ true → is_pending old.pending b ≡ true
    was b e = ap (λ p. is_pending p b) (sym (pending_same old new rest)) ∙ e

    still : (b j : ℕ) → entry_of_block old.words b ≡ Some j → is_dirty (tag_at old.words j) ≡ true → (is_pending new.pending b ≡ true) × (has_dirty new.words b ≡ false) → (j ≡ k) ⊎ (j ≢ k) → is_loose old b ≡ true
    still b j f d parts (inl q) = absurd (true_false (sym (was b parts.0) ∙ ap (is_pending old.pending) (sym (found_is old.words b j f).1 ∙ ap (λ x. tag_block (tag_at old.words x)) q) ∙ none))
    still b j f d parts (inr ne) = absurd (true_false (sym (dirty_of new.words b j (found b ∙ f) ∙ ap is_dirty (tag_one k j old.words new.words r.one ne) ∙ d) ∙ parts.1))

    firm : (b : ℕ) → (is_pending new.pending b ≡ true) × (has_dirty new.words b ≡ false) → (has_dirty old.words b ≡ true) ⊎ (has_dirty old.words b ≡ false) → is_loose old b ≡ true
    firm b parts (inr clean) = loose_from old b (was b parts.0) clean
    firm b parts (inl dirty) = let d = dirty_some old.words b dirty in still b d.0 d.1 d.2 parts (cases_eq d.0 k)
