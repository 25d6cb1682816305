-- What is so at the exits of a call that did nothing, or whose part was kept.
use Rattle.std.specs.Prelude.{◌≡◌, ℕ, ◌<◌, ◌⊎◌, List, Result, IsErr, OnErr, OnOk, length, slice_index, None}
use Rattle.std.proofs.Common.{◌∙◌, ap, sym, subst, inl, inr}
use Rattle.std.proofs.lemmas.Bool.{cases_eq}
use Rattle.std.proofs.lemmas.Result.{IfOk-from_err, MatchResult-from_err}
use Rattle.rio_base.specs.Machine.{Contents, Running, StepEnds}
use Rattle.rio_base.proofs.MachineRules.{ends_err, steps_refl}
use Rattle.rio_model.specs.Cover.{Keeps, SameNames}
use Rattle.rio_model.proofs.CoverStands.{same_names_refl}
use Rattle.rio_model.proofs.CoverSteps.{keeps_refl}
use Rattle.rio_model.specs.Registry.{IsValid, shadow_at}
use Rattle.registry.specs.Changes.{ChangesEntry}
use Rattle.shadow_pages.specs.Steps.{Clears, IsCleared, StoresWords}
use Rattle.shadow_pages.specs.Updates.{AreBare, ListsShadows, LosesShadows, Opened, SameShadows}
use Rattle.shadow_pages.proofs.Steps.{valid_before}

-- of an answer that is an error
pub at_err : {T E P : Type 0} (r : Result T E) → IsErr r → P → OnErr r P
at_err r e p = MatchResult-from_err r _ _ e (λ _. p)

pub not_ok : {T E : Type 0} (P : Type 0) (r : Result T E) → IsErr r → OnOk r P
not_ok P r e = IfOk-from_err r (λ _. P) e

-- the first call was stopped, and another answer tells it
pub ends_told : (a b : Running) (stop told : Type 0) → stop → told → StepEnds a b stop → StepEnds a b told
ends_told a b stop told is tells h = ends_err a a b stop told is tells (steps_refl a) h

pub same_shadows : (old new : Contents) → new ≡ old → SameShadows old.words new.words
same_shadows old new e = λ k less. ap (λ (x : Contents). shadow_at x.words k) e

pub same_names : (old new : Contents) → new ≡ old → SameNames old.words new.words
same_names old new e = subst (λ (x : Contents). SameNames old.words x.words) (sym e) (same_names_refl old.words)

pub keeps_same : (old new : Contents) → new ≡ old → Keeps old new
keeps_same old new e = subst (λ (x : Contents). Keeps old x) (sym e) (keeps_refl old)

-- what a change of an entry stores
pub stores_entry : (k : ℕ) (old new : Contents) (a b : Running) (stop : Type 0) → old.open_page ≡ None → ChangesEntry k old new a b stop → StoresWords old new
stores_entry k old new a b stop shut h = record { rest = h.rest; was_closed = shut; closed = h.closed; lasts = h.lasts }

pub clears_same : (a b c : Contents) → c ≡ b → Clears a b → Clears a c
clears_same a b c e h = subst (λ (x : Contents). Clears a x) (sym e) h

-- the listed entries are cleared, so no entry has a shadow
pub all_bare : (old new : Contents) (listed : List ℕ) → Clears old new → ListsShadows old.words listed → ((i : ℕ) → i < length listed → IsCleared new.words (slice_index listed i)) → AreBare new.words
all_bare old new listed h lists cleared k v = let was = valid_before old.words new.words k h.names v in at was (h.shadows k was.within) (cases_eq (shadow_at old.words k) 0)
  where
    at : IsValid old.words k → (shadow_at new.words k ≡ shadow_at old.words k) ⊎ (shadow_at new.words k ≡ 0) → (shadow_at old.words k ≡ 0) ⊎ (shadow_at old.words k ≡ 0 → ⊥) → shadow_at new.words k ≡ 0
    at was (inl same) (inl none) = same ∙ none
    at was (inr gone) _ = gone
    at was _ (inr some) = let place = lists k was some in (subst (IsCleared new.words) place.2 (cleared place.0 place.1)).bare v

-- an update is opened behind that
pub loses_then : (a b c : List ℕ) → SameNames a b → LosesShadows a b → SameShadows b c → LosesShadows a c
loses_then a b c names loses same k less = at (loses k less) (same k (subst (λ f. k < f) (sym names.frames) less))
  where
    at : (shadow_at b k ≡ shadow_at a k) ⊎ (shadow_at b k ≡ 0) → shadow_at c k ≡ shadow_at b k → (shadow_at c k ≡ shadow_at a k) ⊎ (shadow_at c k ≡ 0)
    at (inl e) d = inl (d ∙ e)
    at (inr z) d = inr (d ∙ z)

pub opened_then : (a b c : Contents) → Clears a b → Opened b c → Opened a c
opened_then a b c h o = record { stands = o.stands ∙ h.keeps.reads; reads = o.reads ∙ h.keeps.reads; gate = o.gate; bare = o.bare }
