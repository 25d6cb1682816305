-- How a call ends on a volume whose faults are counted elsewhere.
use Rattle.std.proofs.Common.{◌≡◌, ◌≢◌, ◌⊎◌, ℕ, ◌+◌, ◌-◌, ◌<◌, ◌≤◌, Bool, true, false, List, Option, Some, None, Result, Ok, Err, slice_index, take, arith, inl, inr, refl, subst, sym, ◌∙◌, IsErr}
use Rattle.std.proofs.lemmas.Bool.{cases_eq}
use Rattle.std.proofs.lemmas.Bool.Decides.{nat_tests}
use Rattle.std.proofs.lemmas.List.{get_or-take}
use Rattle.rio_base.specs.Failures.{Rose}
use Rattle.rio_base.specs.declared.failures.VolFail.{VolFail}
use Rattle.rio_base.specs.declared.failures.VolFail.TheVariants.{Fault, Stopped}
use Rattle.rio_base.specs.Blocks.{BlockWords, FailCause, Ends, HaltCause, Halts}
use Rattle.rio_base.specs.Rules.{true_false}
use Rattle.test_objects.specs.StepLimits.{HasSteps, TakesSteps, made_of, made_within}
use Rattle.test_objects.specs.declared.step_limit.StepLimit.{StepLimit}
use Rattle.rio_base.specs.Volume.{Below, Runs, Goes, put_run}

never : Rose 0 0 → ⊥
never (inl h) = absurd (omega arith)
never (inr h) = absurd (omega arith)

cause_counted : {T : Type 0} (m n : ℕ) (s t : Bool) (answer : Result T VolFail) → FailCause (record { faults = 0; stopped = s }) (record { faults = 0; stopped = t }) answer → FailCause (record { faults = m; stopped = s }) (record { faults = n; stopped = t }) answer
cause_counted m n s t (Ok x) h = h
cause_counted m n s t (Err Fault) h = absurd (never h.0)
cause_counted m n s t (Err Stopped) h = h

pub ends_counted : {T : Type 0} (m n : ℕ) (s t : Bool) (answer : Result T VolFail) → m ≤ n → Ends (record { faults = 0; stopped = s }) (record { faults = 0; stopped = t }) answer → Ends (record { faults = m; stopped = s }) (record { faults = n; stopped = t }) answer
ends_counted m n s t answer later h = record { later = later; stays = h.stays; cause = cause_counted m n s t answer h.cause }

halt_counted : {T E : Type 0} (m n : ℕ) (s t : Bool) (answer : Result T E) → HaltCause (record { faults = 0; stopped = s }) (record { faults = 0; stopped = t }) answer → HaltCause (record { faults = m; stopped = s }) (record { faults = n; stopped = t }) answer
halt_counted m n s t (Ok x) h = h
halt_counted m n s t (Err e) h = h

pub halts_counted : {T E : Type 0} (m n : ℕ) (s t : Bool) (answer : Result T E) → m ≤ n → Halts (record { faults = 0; stopped = s }) (record { faults = 0; stopped = t }) answer → Halts (record { faults = m; stopped = s }) (record { faults = n; stopped = t }) answer
halts_counted m n s t answer later h = record { later = later; stays = h.stays; cause = halt_counted m n s t answer h.cause }

pub runs_counted : (m n : ℕ) (s t : Bool) (old new : Below) → m ≤ n → Runs (record { faults = 0; stopped = s }) old (record { faults = 0; stopped = t }) new → Runs (record { faults = m; stopped = s }) old (record { faults = n; stopped = t }) new
runs_counted m n s t old new later h = record { later = later; stays = h.stays; written = h.written; roomy = h.roomy; around = h.around; stop_set = h.stop_set; protected = h.protected; armed = h.armed; cause = h.cause; memory = h.memory; limit = h.limit }

pub goes_counted : (m n : ℕ) (s t : Bool) (old new : Below) → m ≤ n → Goes (record { faults = 0; stopped = s }) old (record { faults = 0; stopped = t }) new → Goes (record { faults = m; stopped = s }) old (record { faults = n; stopped = t }) new
goes_counted m n s t old new later h = record { runs = runs_counted m n s t old new later h.runs; quiet = h.quiet }

-- ---- a run of which a front is handed to the volume inside

pub made_most : (n : ℕ) (limit : StepLimit) → made_of n limit ≤ n
made_most n limit = most limit.left limit.stopped
  where
    most : (left : Option ℕ) (stopped : Bool) → made_within n left stopped ≤ n
    most left true = omega arith
    most None false = omega arith
    most (Some left) false = omega arith

pub all_made : (n : ℕ) (stop : Type 0) (old new : StepLimit) → TakesSteps n stop old new → (stop → ⊥) → made_of n old ≡ n
all_made n stop old new h runs = all old.left old.stopped (h.made runs).0 (h.made runs).1
  where
    all : (left : Option ℕ) (stopped : Bool) → (0 < n → stopped ≡ false) → HasSteps n left → made_within n left stopped ≡ n
    all left true running has = none (cases_eq n 0)
      where
        none : (n ≡ 0) ⊎ (n ≢ 0) → 0 ≡ n
        none (inl e) = sym e
        none (inr more) = absurd (true_false (running (omega (arith, more))))
    all None false running has = refl
    all (Some left) false running has = omega (arith, has)

-- the first n words of a front of a run are those of the run
pub front_taken : (f g : BlockWords) (b w n before : ℕ) (from : List ℕ) → n ≤ before → g ≡ put_run f b w n (take before from) → g ≡ put_run f b w n from
front_taken f g b w n before from within is = is ∙ (λ i c x. at_word c x i)
  where
    at_word : (c x : ℕ) → put_run f b w n (take before from) c x ≡ put_run f b w n from c x
    at_word c x =
        let same : w ≤ x → x < w + n → slice_index (take before from) (x - w) ≡ slice_index from (x - w) = λ l m. get_or-take before from (x - w) 0 (omega (arith, l, m, within)) in
        grind (arith, nat_tests, same)

pub ok_no_err : {T E : Type 0} (answer : Result T E) (x : T) → answer ≡ Ok x → IsErr answer → ⊥
ok_no_err {T = T} {E = E} answer x is = subst (λ (r : Result T E). IsErr r → ⊥) (sym is) (λ h. true_false (sym h))
