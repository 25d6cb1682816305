-- What is kept, and what the calls do, where the gate is stored and no other word.
use Rattle.std.specs.Prelude.{◌≡◌, ◌≢◌, ℕ, ◌+◌, ◌*◌, ◌<◌, ◌≤◌, ◌⊎◌, true, List, length, slice_index, slice_set, refl}
use Rattle.std.proofs.Common.{◌∙◌, ap, sym, subst, inl, inr, arith}
use Rattle.rio_base.specs.Image.{entry_at, registry_pages}
use Rattle.rio_base.specs.Machine.{Contents}
use Rattle.rio_model.specs.Cover.{Coherent, frame_page, is_loose}
use Rattle.rio_model.proofs.CoverChanges.{frame_behind, frame_same}
use Rattle.rio_model.specs.CoverChanges.{Gated, place_bare}
use Rattle.rio_model.proofs.CoverStands.{begin_stands, commit_stands, found_named, gate_reads}
use Rattle.rio_model.proofs.CoverSteps.{firm_by, pending_same}
use Rattle.rio_model.specs.Registry.{IsValid, gate_of, is_dirty, shadow_at}
use Rattle.rio_model.proofs.Gates.{frames_word, gate_names, gate_shadow, gated, place_past, registry_gated, tag_word, valid_before}
use Rattle.shadow_pages.specs.Updates.{AreBare, Committed, Opened}

space : (c : Contents) (n : ℕ) → Coherent c n → 4 < length c.words
space c n s = omega (arith, s.protected)

pub gated_stored : (g n : ℕ) (old new : Contents) → Coherent old n → new ≡ record old { words = slice_set old.words 4 g } → Gated g old.words new.words
gated_stored g n old new s e = subst (λ (ws : List ℕ). Gated g old.words ws) (sym (ap (λ (c : Contents). c.words) e)) (gated old.words g (space old n s))

-- where no shadow page counts then, all that is kept is kept
gate_coherent : (g n : ℕ) (old new : Contents) → new ≡ record old { words = new.words } → Gated g old.words new.words → g ≤ 1 → (g ≢ 1) ⊎ AreBare old.words → Coherent old n → Coherent new n
gate_coherent g n old new rest h most idle s = record {
  header = record { magic = h.others 0 (λ e. absurd (omega (arith, e))) ∙ s.header.magic; version = h.others 1 (λ e. absurd (omega (arith, e))) ∙ s.header.version };
  sizes = rw (frames_word g old.words new.words h, h.others 3 (λ e. absurd (omega (arith, e)))) s.sizes;
  protected = h.count ∙ s.protected ∙ ap (λ f. 512 * (17 + registry_pages f + f)) (sym (frames_word g old.words new.words h));
  scratch_pages = s.scratch_pages ∙ ap (λ c. 512 * c) (sym (h.others 3 (λ e. absurd (omega (arith, e)))));
  rules = registry_gated g old.words new.words h most s.rules;
  entries = λ j. record {
    on_disk = λ v. rw (tag_word g old.words new.words j h, disk) ((s.entries j).on_disk (was j v));
    clean = λ v c w small. frame_word j w ∙ (s.entries j).clean (was j v) (ap is_dirty (sym (tag_word g old.words new.words j h)) ∙ c) w small ∙ rw (tag_word g old.words new.words j h, disk) refl;
    unedited = λ v c w small. ap (λ p. slice_index new.words (512 * p + w)) (place_bare new.words j (bare j v idle));
  };
}
  where
    disk : new.disk ≡ old.disk
    disk = ap (λ (c : Contents). c.disk) rest

    was : (j : ℕ) → IsValid new.words j → IsValid old.words j
    was j v = valid_before g old.words new.words j h v

    bare : (j : ℕ) → IsValid new.words j → (g ≢ 1) ⊎ AreBare old.words → (gate_of new.words ≢ 1) ⊎ (shadow_at new.words j ≡ 0)
    bare j v (inl n) = inl (λ e. n (sym h.gate ∙ e))
    bare j v (inr none) = inr (gate_shadow g old.words new.words j h ∙ none j (was j v))

    frame_word : (j w : ℕ) → slice_index new.words (512 * frame_page new.words j + w) ≡ slice_index old.words (512 * frame_page old.words j + w)
    frame_word j w = ap (λ p. slice_index new.words (512 * p + w)) (frame_same old.words new.words j (frames_word g old.words new.words h)) ∙ h.others (512 * frame_page old.words j + w) (λ e. absurd (omega (arith, e, frame_behind old.words j)))

pub coherent_shut : (n : ℕ) (old new : Contents) → new ≡ record old { words = new.words } → Gated 0 old.words new.words → Coherent old n → Coherent new n
coherent_shut n old new rest h s = gate_coherent 0 n old new rest h (omega arith) (inl (λ e. absurd (omega (arith, e)))) s

pub coherent_opened : (n : ℕ) (old new : Contents) → new ≡ record old { words = new.words } → Gated 1 old.words new.words → AreBare old.words → Coherent old n → Coherent new n
coherent_opened n old new rest h bare s = gate_coherent 1 n old new rest h (omega arith) (inr bare) s

pub gate_firm : (g : ℕ) (old new : Contents) (b : ℕ) → new ≡ record old { words = new.words } → Gated g old.words new.words → is_loose new b ≡ true → is_loose old b ≡ true
gate_firm g old new b rest h loose = firm_by old new (pending_same old new rest) (λ c j f d. (found_named old.words new.words c (gate_names g old.words new.words h) ∙ f, ap is_dirty (tag_word g old.words new.words j h) ∙ d)) b loose

pub bare_gated : (g : ℕ) (old new : List ℕ) → Gated g old new → AreBare old → AreBare new
bare_gated g old new h bare = λ k v. gate_shadow g old new k h ∙ bare k (valid_before g old new k h v)

-- ---- what the calls do by it

pub committed_by : (n : ℕ) (old new : Contents) → Coherent old n → new ≡ record old { words = slice_set old.words 4 0 } → Committed old new
committed_by n old new s e = record {
  stands = commit_stands old new (space old n s) e;
  reads = gate_reads old new 0 e;
  gate = (gated_stored 0 n old new s e).gate;
}

pub opened_by : (n : ℕ) (old new : Contents) → Coherent old n → AreBare old.words → new ≡ record old { words = slice_set old.words 4 1 } → Opened old new
opened_by n old new s none e =
    let h = gated_stored 1 n old new s e in
    let bare = bare_gated 1 old.words new.words h none in
    record { stands = begin_stands old new bare e; reads = gate_reads old new 1 e; gate = h.gate; bare = bare }

-- the words from 512 on stay, and shadows are among them
pub entries_shadow : (old new : List ℕ) (k : ℕ) → ((i : ℕ) → 512 ≤ i → slice_index new i ≡ slice_index old i) → shadow_at new k ≡ shadow_at old k
entries_shadow old new k same = same (entry_at k + 4) (omega (arith, place_past k))
