-- One call of `word` after another, of one block under one name.
use Rattle.std.specs.Prelude.{◌≡◌, ◌≢◌, ℕ, ◌+◌, ◌<◌, ◌≤◌, ◌⊎◌, List, length, slice_index, slice_set, Result, Err, refl}
use Rattle.std.proofs.Common.{◌∙◌, sym, subst, inl, inr, ap, arith, le_refl, le_trans, get_or-set_other, get_or-set_same}
use Rattle.std.proofs.lemmas.Bool.{cases_eq}
use Rattle.rio_base.specs.declared.failures.VolFail.{VolFail}
use Rattle.rio_base.specs.declared.failures.VolFail.TheVariants.{Fault, Stopped}
use Rattle.rio_base.specs.Blocks.{BlockWords, Ends, Halts, Health, IsRun}
use Rattle.rio_base.proofs.BlockRules.{ends_later}

-- calls that left the object running or stopped as it was
pub record Ran (s t : Health) : Type 0 where
  pub later : s.faults ≤ t.faults
  pub same : t.stopped ≡ s.stopped

pub ran_none : (s : Health) → Ran s s
ran_none s = record { later = le_refl s.faults; same = refl }

-- one more call that ended well
pub ran_more : (s t u : Health) → Ran s t → t.faults ≤ u.faults → u.stopped ≡ t.stopped → Ran s u
ran_more s t u h later same = record { later = le_trans h.later later; same = same ∙ h.same }

pub ends_on : {T : Type 0} (s t u : Health) (answer : Result T VolFail) → Ran s t → Ends t u answer → Ends s u answer
ends_on s t u answer h k = ends_later s t u answer h.later h.same k

-- a failure ends a call of any type in the same way
failed : {T U : Type 0} (s t : Health) (e : VolFail) → Ends {T = T} s t (Err e) → Ends {T = U} s t (Err e)
failed s t Fault h = record { later = h.later; stays = h.stays; cause = h.cause }
failed s t Stopped h = record { later = h.later; stays = h.stays; cause = h.cause }

-- calls that ended well, and then one whose failure is handed on
pub ends_failed : {T U : Type 0} (s t u : Health) (e d : VolFail) (answer : Result U VolFail) → answer ≡ Err d → d ≡ e → Ran s t → Ends {T = T} t u (Err e) → Ends s u answer
ends_failed {T = T} {U = U} s t u e d answer is same h k = subst (λ (v : Result U VolFail). Ends s u v) (sym (is ∙ ap Err same)) (ends_on s t u (Err e) h (failed t u e k))

-- the same of a call whose one failure is the stop
pub halts_failed : {T U E F : Type 0} (s t u : Health) (e : E) (d : F) (answer : Result U F) → answer ≡ Err d → Ran s t → Halts {T = T} t u (Err e) → Halts s u answer
halts_failed {U = U} {F = F} s t u e d answer is h k = subst (λ (v : Result U F). Halts s u v) (sym is) (record { later = le_trans h.later k.later; stays = λ x. k.stays (h.same ∙ x); cause = k.cause })

-- ---- the words that were read

-- word n of a list is changed to what holds there
pub set_word : (f : ℕ → ℕ) (n v : ℕ) (words : List ℕ) → n < length words → v ≡ f n → ((i : ℕ) → i < n → slice_index words i ≡ f i) → (i : ℕ) → i < n + 1 → slice_index (slice_set words n v) i ≡ f i
set_word f n v words fits value before i less = from (cases_eq i n)
  where
    from : (i ≡ n) ⊎ (i ≢ n) → slice_index (slice_set words n v) i ≡ f i
    from (inl e) = subst (λ k. slice_index (slice_set words n v) k ≡ f k) (sym e) (get_or-set_same words n v 0 fits ∙ value)
    from (inr ne) = get_or-set_other words n i v 0 ne ∙ before i (omega (arith, less, ne))

pub run_none : (f : BlockWords) (b w : ℕ) (words : List ℕ) → IsRun f b w 0 words
run_none f b w words = record { each = λ i less. absurd (omega (arith, less)) }

-- one more word is read
pub run_next : (f g : BlockWords) (b w n v : ℕ) (words : List ℕ) → n < length words → g ≡ f → v ≡ g b (w + n) → IsRun f b w n words → IsRun f b w (n + 1) (slice_set words n v)
run_next f g b w n v words fits same value h = record { each = set_word (λ i. f b (w + i)) n v words fits (value ∙ ap (λ (k : BlockWords). k b (w + n)) same) h.each }
