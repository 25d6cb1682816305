-- The walk that clears the entries.
use Rattle.page_restore.proofs.Common.{Bool, List, None, false, refl, slice_index_or, true, ℕ, ◌+◌, ◌<◌, ◌≡◌, ◌≢◌, ◌≤◌, ◌⊎◌, ap, arith, inl, inr, subst, sym, ◌∙◌, cases_eq, is_pending, Contents, Running, IsValid, OneEntry, frames_of, is_valid, tag_at, Endures, IsHome, stale_block}
use Rattle.rio_model.proofs.CoverChanges.{page_word_one}
use Rattle.rio_model.proofs.CoverLookups.{frames_one, tag_one}
use Rattle.rio_model.proofs.CoverSteps.{disk_same, pending_same}
use Rattle.rio_model.proofs.RebootClears.{endures_stale_trans}
use Rattle.rio_model.proofs.RebootSteps.{endures_refl}
use Rattle.page_restore.proofs.Steps.{phase_none, phase_ok, phase_then}
use Rattle.page_restore.specs.Phases.{PhaseEnds}

pub rest_then : (a b c : Contents) → b ≡ record a { words = b.words } → c ≡ record b { words = c.words } → c ≡ record a { words = c.words }
rest_then a b c h k = k ∙ ap (λ (x : Contents). record x { words = c.words }) h

-- words alone changed: nothing is pending still
pub synced_then : (a b : Contents) → b ≡ record a { words = b.words } → ((x : ℕ) → is_pending a.pending x ≡ false) → (x : ℕ) → is_pending b.pending x ≡ false
synced_then a b rest none x = ap (λ p. is_pending p x) (pending_same a b rest) ∙ none x

-- another entry's page is where it was
home_one : (i k : ℕ) (mid new : Contents) → new ≡ record mid { words = new.words } → OneEntry i mid.words new.words → i < frames_of mid.words → k ≢ i → IsHome mid k → IsHome new k
home_one i k mid new rest one within ne d = record {
  same = λ w less. page_word_one i k w mid.words new.words one within (λ e. absurd (ne e)) ∙ d.same w less ∙ rw (tag_one i k mid.words new.words one ne, disk_same mid new rest) refl;
}

-- the entries before the ith are invalid, and the others are as they were
pub record Cleared (marks : List Bool) (i : ℕ) (old new : Contents) (r s : Running) : Type 0 where
  pub endures : Endures (stale_block marks old.words) old new
  pub rest : new ≡ record old { words = new.words }
  pub frames : frames_of new.words ≡ frames_of old.words
  pub gone : (k : ℕ) → k < i → tag_at new.words k ≡ 0
  pub left : (k : ℕ) → i ≤ k → tag_at new.words k ≡ tag_at old.words k
  pub homes : (k : ℕ) → i ≤ k → IsHome old k → IsHome new k
  pub ends : PhaseEnds old new r s ⊥ ⊥

pub cleared_none : (marks : List Bool) (c : Contents) (r : Running) → c.open_page ≡ None → Cleared marks 0 c c r r
cleared_none marks c r closed = record {
  endures = endures_refl (stale_block marks c.words) c;
  rest = refl;
  frames = refl;
  gone = λ k less. absurd (omega (arith, less));
  left = λ k more. refl;
  homes = λ k more h. h;
  ends = phase_none c r ⊥ ⊥ closed (λ f. f) (λ f. f);
}

-- the next entry's page is on the disk still, or it is marked
pub home_then : (marks : List Bool) (i : ℕ) (old mid : Contents) (r s : Running) → Cleared marks i old mid r s → ((k : ℕ) → IsValid old.words k → IsHome old k ⊎ (slice_index_or marks k false ≡ true)) → IsValid mid.words i → IsHome mid i ⊎ (slice_index_or marks i false ≡ true)
home_then marks i old mid r s h homes v = from (homes i (record { within = subst (λ f. i < f) h.frames v.within; valid = ap is_valid (sym (h.left i (omega arith))) ∙ v.valid }))
  where
    from : IsHome old i ⊎ (slice_index_or marks i false ≡ true) → IsHome mid i ⊎ (slice_index_or marks i false ≡ true)
    from (inl d) = inl (h.homes i (omega arith) d)
    from (inr p) = inr p

-- what a turn does, however it ends
pub record Clears (marks : List Bool) (i : ℕ) (mid new : Contents) (s t : Running) (fault stop : Type 0) : Type 0 where
  pub endures : Endures (stale_block marks mid.words) mid new
  pub rest : new ≡ record mid { words = new.words }
  pub one : OneEntry i mid.words new.words
  pub ends : PhaseEnds mid new s t fault stop

-- what the walk leaves, however it ends
pub record LeavesCleared (marks : List Bool) (old new : Contents) (r s : Running) (fault stop : Type 0) : Type 0 where
  pub endures : Endures (stale_block marks old.words) old new
  pub rest : new ≡ record old { words = new.words }
  pub ends : PhaseEnds old new r s fault stop

-- after a turn that was cut off, too
pub cleared_cut : (marks : List Bool) (i : ℕ) (old mid new : Contents) (r s t : Running) (fault stop : Type 0) → Cleared marks i old mid r s → Clears marks i mid new s t fault stop → LeavesCleared marks old new r t fault stop
cleared_cut marks i old mid new r s t fault stop h m = record {
  endures = endures_stale_trans marks old mid new h.endures m.endures;
  rest = rest_then old mid new h.rest m.rest;
  ends = phase_then old mid new r s t ⊥ ⊥ fault stop (λ f. f) h.ends m.ends;
}

pub cleared_next : (marks : List Bool) (i : ℕ) (old mid new : Contents) (r s t : Running) (fault stop : Type 0) → (stop → ⊥) → i < frames_of old.words → Cleared marks i old mid r s → Clears marks i mid new s t fault stop → tag_at new.words i ≡ 0 → Cleared marks (i + 1) old new r t
cleared_next marks i old mid new r s t fault stop no_stop less h m now =
    let l = cleared_cut marks i old mid new r s t fault stop h m in
    record {
      endures = l.endures;
      rest = l.rest;
      frames = frames_one i mid.words new.words m.one ∙ h.frames;
      gone = λ j small. at j small (cases_eq j i);
      left = λ j more. tag_one i j mid.words new.words m.one (λ e. absurd (omega (arith, e, more))) ∙ h.left j (omega (arith, more));
      homes = λ j more d. home_one i j mid new m.rest m.one (subst (λ f. i < f) (sym h.frames) less) (λ e. absurd (omega (arith, e, more))) (h.homes j (omega (arith, more)) d);
      ends = phase_ok old new r t fault stop no_stop l.ends;
    }
  where
    at : (j : ℕ) → j < i + 1 → (j ≡ i) ⊎ (j ≢ i) → tag_at new.words j ≡ 0
    at j small (inl e) = ap (tag_at new.words) e ∙ now
    at j small (inr n) = tag_one i j mid.words new.words m.one n ∙ h.gone j (omega (arith, small, n))

-- after the last
pub cleared_all : (marks : List Bool) (i : ℕ) (old new : Contents) (r s : Running) → frames_of old.words ≤ i → Cleared marks i old new r s → (k : ℕ) → k < frames_of new.words → tag_at new.words k ≡ 0
cleared_all marks i old new r s end h k less = h.gone k (omega (arith, less, h.frames, end))
