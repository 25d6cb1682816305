-- Steps of an update, one after the other.
use Rattle.std.specs.Prelude.{◌≡◌, ◌≢◌, ℕ, ◌+◌, ◌*◌, ◌<◌, ◌≤◌, ◌⊎◌, true, false, List, length, slice_index, refl, None}
use Rattle.std.proofs.Common.{◌∙◌, ap, sym, subst, inl, inr, arith}
use Rattle.std.proofs.lemmas.Bool.{cases_eq}
use Rattle.rio_base.specs.Image.{registry_pages}
use Rattle.rio_base.specs.Machine.{Contents, Copied}
use Rattle.rio_base.proofs.MachineRules.{lasts_refl, lasts_trans}
use Rattle.rio_base.specs.Rules.{true_false}
use Rattle.rio_model.specs.Cover.{Coherent, Keeps, SameNames, frame_page}
use Rattle.rio_model.proofs.CoverChanges.{frame_behind, frame_entries, header_same, off_page}
use Rattle.rio_model.proofs.CoverStands.{same_names_refl, same_names_trans}
use Rattle.rio_model.proofs.CoverSteps.{coherent_on, keeps_refl, keeps_trans, layout_is}
use Rattle.rio_model.specs.Registry.{HasLayout, IsValid, frames_of, is_data, is_valid, shadow_at}
use Rattle.shadow_pages.specs.Steps.{CanShadow, Clears, HasShadow, IsCleared, IsCopied, IsRestored, Restores, StoresWords}
use Rattle.shadow_pages.specs.Updates.{Committed, ListsShadows, Undone}
use Rattle.shadow_pages.proofs.Restores.{all_restored, one_page, restored_bare, restored_still, restored_whole, restores_coherent, restores_front, restores_names, restores_shadows, restores_stands, restores_unused, keeps_unused}

-- of a call that answered Ok
pub not_stopped : false ≡ true → ⊥
not_stopped e = true_false (sym e)

pub layout_now : (c : Contents) (scratch : List ℕ) → Coherent c (length scratch) → HasLayout c.words scratch
layout_now c scratch s = layout_is c scratch s

pub coherent_then : (a b : Contents) (n m : ℕ) → Coherent a n → Keeps a b → m ≡ n → Coherent b m
coherent_then a b n m s h e = coherent_on b n m e (h.coherent n s)

pub keeps_then : (a b c : Contents) → Keeps a b → Keeps b c → Keeps a c
keeps_then a b c h k = keeps_trans a b c h k

-- ---- stores of words

pub stores_refl : (c : Contents) → c.open_page ≡ None → StoresWords c c
stores_refl c shut = record { rest = refl; was_closed = shut; closed = shut; lasts = lasts_refl c }

pub stores_trans : (a b c : Contents) → StoresWords a b → StoresWords b c → StoresWords a c
stores_trans a b c h k = record {
  rest = k.rest ∙ ap (λ (x : Contents). record x { words = c.words }) h.rest;
  was_closed = h.was_closed;
  closed = k.closed;
  lasts = lasts_trans a b c h.lasts k.lasts;
}

-- ---- a shadow is given

-- the shadow page is a copy of the frame
pub is_copied : (k s from to : ℕ) (old new : List ℕ) → CanShadow k s old → from ≡ frame_page old k → to ≡ registry_pages (frames_of old) + s → 512 * from < length old → Restores old new → Copied from to 512 old new → IsCopied k s new
is_copied k s from to old new can frame shadow room h c = record {
  each = λ w small.
      ap (λ f. slice_index new (512 * (registry_pages f + s) + w)) (header_same old new 2 h.entries (omega arith))
      ∙ ap (λ p. slice_index new (512 * p + w)) (sym shadow)
      ∙ c.front room w small
      ∙ sym (off_page to from w old new (one_page from to 512 old new (omega arith) c) (λ e. absurd (omega (arith, e, frame, shadow, can.to, frame_behind old k))) small)
      ∙ ap (λ p. slice_index new (512 * p + w)) (frame ∙ sym (frame_entries old new k h.entries));
}

-- the entry can have the shadow still
pub can_shadow_then : (k s : ℕ) (old new : List ℕ) → Restores old new → CanShadow k s old → CanShadow k s new
can_shadow_then k s old new h can =
    let names = restores_names old new h in
    let tag = names.tag k can.valid.within in
    record {
      valid = record { within = subst (λ f. k < f) (sym names.frames) can.valid.within; valid = ap is_valid tag ∙ can.valid.valid };
      metadata = ap is_data tag ∙ can.metadata;
      bare = restores_shadows old new k h can.valid.within ∙ can.bare;
      from = can.from;
      to = can.to;
      free = λ j v e. let less : j < frames_of old = subst (λ f. j < f) names.frames v.within in can.free j (record { within = less; valid = ap is_valid (sym (names.tag j less)) ∙ v.valid }) (sym (restores_shadows old new j h less) ∙ e);
    }

-- ---- shadows are taken away

pub clears_refl : (c : Contents) → c.open_page ≡ None → Clears c c
clears_refl c shut = record { keeps = keeps_refl c; names = same_names_refl c.words; shadows = λ k less. inl refl; stores = stores_refl c shut }

pub clears_trans : (a b c : Contents) → Clears a b → Clears b c → Clears a c
clears_trans a b c h k = record {
  keeps = keeps_trans a b c h.keeps k.keeps;
  names = same_names_trans a.words b.words c.words h.names k.names;
  shadows = λ j less. at j (h.shadows j less) (k.shadows j (subst (λ f. j < f) (sym h.names.frames) less));
  stores = stores_trans a b c h.stores k.stores;
}
  where
    at : (j : ℕ) → (shadow_at b.words j ≡ shadow_at a.words j) ⊎ (shadow_at b.words j ≡ 0) → (shadow_at c.words j ≡ shadow_at b.words j) ⊎ (shadow_at c.words j ≡ 0) → (shadow_at c.words j ≡ shadow_at a.words j) ⊎ (shadow_at c.words j ≡ 0)
    at j was (inr z) = inr z
    at j (inl e) (inl d) = inl (d ∙ e)
    at j (inr z) (inl d) = inr (d ∙ z)

pub valid_before : (old new : List ℕ) (k : ℕ) → SameNames old new → IsValid new k → IsValid old k
valid_before old new k h v = let less : k < frames_of old = subst (λ f. k < f) h.frames v.within in record { within = less; valid = ap is_valid (sym (h.tag k less)) ∙ v.valid }

pub cleared_still : (old new : Contents) (k : ℕ) → Clears old new → IsCleared old.words k → IsCleared new.words k
cleared_still old new k h c = record { bare = λ v. let x = valid_before old.words new.words k h.names v in at (h.shadows k x.within) (c.bare x) }
  where
    at : (shadow_at new.words k ≡ shadow_at old.words k) ⊎ (shadow_at new.words k ≡ 0) → shadow_at old.words k ≡ 0 → shadow_at new.words k ≡ 0
    at (inl e) z = e ∙ z
    at (inr z) was = z

-- a front of the frame is copied to the shadow page
pub filled : (k s from to : ℕ) (old new : Contents) (n : ℕ) → Coherent old n → CanShadow k s old.words → to ≡ registry_pages (frames_of old.words) + s → (m : ℕ) × (m ≤ 512) × Copied from to m old.words new.words → Restores old.words new.words
filled k s from to old new n h can place front = restores_unused s from front.0 old.words new.words h.rules can.from can.to can.free front.1 (subst (λ p. Copied from p front.0 old.words new.words) place front.2)

pub keeps_filled : (k s from to : ℕ) (old new : Contents) (n : ℕ) → Coherent old n → CanShadow k s old.words → to ≡ registry_pages (frames_of old.words) + s → (m : ℕ) × (m ≤ 512) × Copied from to m old.words new.words → StoresWords old new → Keeps old new
keeps_filled k s from to old new n h can place front stores = keeps_unused s from front.0 old new stores.rest h.rules can.from can.to can.free front.1 (subst (λ p. Copied from p front.0 old.words new.words) place front.2)

pub two_pages : (k s from to : ℕ) (words : List ℕ) → CanShadow k s words → from ≡ frame_page words k → to ≡ registry_pages (frames_of words) + s → from ≢ to
two_pages k s from to words can frame shadow e = absurd (omega (arith, e, frame, shadow, can.to, frame_behind words k))

-- all listed entries are restored, so all are
pub all_listed : (old new : List ℕ) (listed : List ℕ) → Restores old new → ListsShadows old listed → ((i : ℕ) → i < length listed → IsRestored new (slice_index listed i)) → (k : ℕ) → IsValid new k → IsRestored new k
all_listed old new listed h lists restored k v = at (valid_before old new k (restores_names old new h) v) (cases_eq (shadow_at old k) 0)
  where
    at : IsValid old k → (shadow_at old k ≡ 0) ⊎ (shadow_at old k ≢ 0) → IsRestored new k
    at was (inl none) = restored_bare k new (restores_shadows old new k h was.within ∙ none)
    at was (inr some) = let place = lists k was some in subst (IsRestored new) place.2 (restored place.0 place.1)

pub undone_after : (a b c : Contents) (listed : List ℕ) → StoresWords a b → Restores a.words b.words → ListsShadows a.words listed → ((i : ℕ) → i < length listed → IsRestored b.words (slice_index listed i)) → Committed b c → Undone a c
undone_after a b c listed stores h lists restored k =
    let all = all_restored b (all_listed a.words b.words listed h lists restored) in
    let stood = restores_stands a b stores.rest h in
    record { reads = k.reads ∙ all ∙ stood; stands = k.stands ∙ all ∙ stood; gate = k.gate }

-- ---- one more of the listed entries

one_more : (P : ℕ → Type 0) (i j : ℕ) → ((x : ℕ) → x < i → P x) → P i → j < i + 1 → P j
one_more P i j before here less = at (cases_eq j i)
  where
    at : (j ≡ i) ⊎ (j ≢ i) → P j
    at (inl e) = subst P (sym e) here
    at (inr n) = before j (omega (arith, less, n))

pub cleared_next : (old new : Contents) (listed : List ℕ) (i j : ℕ) → Clears old new → ((x : ℕ) → x < i → IsCleared old.words (slice_index listed x)) → IsCleared new.words (slice_index listed i) → j < i + 1 → IsCleared new.words (slice_index listed j)
cleared_next old new listed i j h before here less = one_more (λ x. IsCleared new.words (slice_index listed x)) i j (λ x few. cleared_still old new (slice_index listed x) h (before x few)) here less

pub restored_next : (old new listed : List ℕ) (i j : ℕ) → Restores old new → ((x : ℕ) → x < i → IsRestored old (slice_index listed x)) → IsRestored new (slice_index listed i) → j < i + 1 → IsRestored new (slice_index listed j)
restored_next old new listed i j h before here less = one_more (λ x. IsRestored new (slice_index listed x)) i j (λ x few. restored_still (slice_index listed x) old new h (before x few)) here less

-- ---- frames are restored

pub shadow_few : (c : Contents) (n k s : ℕ) → Coherent c n → IsValid c.words k → shadow_at c.words k ≡ s → s ≤ 16
shadow_few c n k s h v e = subst (λ x. x ≤ 16) e ((h.rules.shadows k v.within).most v.valid)

pub back_two : (c : Contents) (n k s from to : ℕ) → Coherent c n → HasShadow k s c.words → from ≡ registry_pages (frames_of c.words) + s → to ≡ frame_page c.words k → from ≢ to
back_two c n k s from to h has shadow frame e = absurd (omega (arith, e, frame, shadow, shadow_few c n k s h has.valid has.shadow, frame_behind c.words k))

pub back_restores : (c d : Contents) (n k s from to : ℕ) → Coherent c n → HasShadow k s c.words → from ≡ registry_pages (frames_of c.words) + s → to ≡ frame_page c.words k → 512 * from < length c.words → (m : ℕ) × (m ≤ 512) × Copied from to m c.words d.words → Restores c.words d.words
back_restores c d n k s from to h has shadow frame room front = restores_front k front.0 from c.words d.words h.rules has.updating has.valid (λ z. has.some (sym has.shadow ∙ z)) (shadow ∙ ap (λ x. registry_pages (frames_of c.words) + x) (sym has.shadow)) room front.1 (subst (λ p. Copied from p front.0 c.words d.words) frame front.2)

pub back_restored : (c d : Contents) (n k s from to : ℕ) → Coherent c n → HasShadow k s c.words → from ≡ registry_pages (frames_of c.words) + s → to ≡ frame_page c.words k → 512 * from < length c.words → Copied from to 512 c.words d.words → IsRestored d.words k
back_restored c d n k s from to h has shadow frame room whole = restored_whole k from c.words d.words h.rules has.updating has.valid (λ z. has.some (sym has.shadow ∙ z)) (shadow ∙ ap (λ x. registry_pages (frames_of c.words) + x) (sym has.shadow)) room (subst (λ p. Copied from p 512 c.words d.words) frame whole)

pub coherent_restored : (a b : Contents) (n m : ℕ) → Coherent a n → StoresWords a b → Restores a.words b.words → m ≡ n → Coherent b m
coherent_restored a b n m s stores h e = coherent_on b n m e (restores_coherent n a b stores.rest h s)
