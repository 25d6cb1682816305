-- How phases follow one another.
use Rattle.page_restore.proofs.Common.{Bool, Err, IsErrOf, List, None, Result, length, ℕ, ◌≡◌, subst, sym, ends_after, ends_none, lasts_refl, lasts_trans, Contents, Running, Endures, Restorable}
use Rattle.rio_base.proofs.Rules.{rose_later}
use Rattle.rio_base.specs.declared.failures.VolFail.{VolFail}
use Rattle.rio_base.specs.declared.failures.VolFail.TheVariants.{Fault, Stopped}
use Rattle.rio_model.specs.Registry.{HasLayout}
use Rattle.page_restore.specs.Phases.{PhaseEnds}

-- ---- the image

pub layout_now : (c : Contents) (scratch : List ℕ) → Restorable c (length scratch) → HasLayout c.words scratch
layout_now c scratch i = record { sizes = i.sizes; protected = i.protected; scratch_pages = i.scratch_pages }

-- ---- how a phase ends

-- nothing was done
pub phase_none : (c : Contents) (r : Running) (fault stop : Type 0) → c.open_page ≡ None → (fault → ⊥) → (stop → ⊥) → PhaseEnds c c r r fault stop
phase_none c r fault stop closed no_fault no_stop = record { closed = closed; lasts = lasts_refl c; cause = λ f. absurd (no_fault f); ends = ends_none r stop no_stop }

-- it did not fail
pub phase_ok : (a b : Contents) (r s : Running) (fault stop : Type 0) → (stop → ⊥) → PhaseEnds a b r s fault stop → PhaseEnds a b r s ⊥ ⊥
phase_ok a b r s fault stop no_stop h = record { closed = h.closed; lasts = h.lasts; cause = λ f. absurd f; ends = record { steps = h.ends.steps; told = λ f. absurd f; runs = λ n. h.ends.runs no_stop } }

-- one that did not fail, and then another
pub phase_then : (a b c : Contents) (r s t : Running) (one two fault stop : Type 0) → (two → ⊥) → PhaseEnds a b r s one two → PhaseEnds b c s t fault stop → PhaseEnds a c r t fault stop
phase_then a b c r s t one two fault stop no_stop h k = record {
  closed = k.closed;
  lasts = lasts_trans a b c h.lasts k.lasts;
  cause = λ f. rose_later _ _ _ h.lasts.faults.later (k.cause f);
  ends = ends_after r s t stop h.ends.steps (h.ends.runs no_stop) k.ends;
}

-- it did not fail, and another answer does not say so either
pub phase_as : (a b : Contents) (r s : Running) (one two fault stop : Type 0) → (two → ⊥) → (fault → ⊥) → (stop → ⊥) → PhaseEnds a b r s one two → PhaseEnds a b r s fault stop
phase_as a b r s one two fault stop no_two no_fault no_stop h = record { closed = h.closed; lasts = h.lasts; cause = λ f. absurd (no_fault f); ends = record { steps = h.ends.steps; told = λ x. absurd (no_stop x); runs = λ n. h.ends.runs no_two } }

-- the same failure, as another answer gives it
pub phase_told : {T U : Type 0} (a b : Contents) (r s : Running) (e : VolFail) (answer : Result U VolFail) → answer ≡ Err e → PhaseEnds a b r s (IsErrOf {T = T} (Err e) Fault) (IsErrOf {T = T} (Err e) Stopped) → PhaseEnds a b r s (IsErrOf answer Fault) (IsErrOf answer Stopped)
phase_told a b r s e answer same h = record { closed = h.closed; lasts = h.lasts; cause = λ x. h.cause cc; ends = record { steps = h.ends.steps; told = λ x. h.ends.told cc; runs = λ n. h.ends.runs (λ x. n cc) } }

-- memory has as many words of scratch still
pub image_next : (apart : ℕ → Bool) (a b : Contents) (r s : Running) (fault stop : Type 0) → Restorable a (length r.scratch) → Endures apart a b → PhaseEnds a b r s fault stop → Restorable b (length s.scratch)
image_next apart a b r s fault stop i h ends = subst (Restorable b) (sym ends.ends.steps.scratch_count) (h.image (length r.scratch) i)
