-- What is so at the exits of a call: of answers that are errors, of calls that only read, and where all is as it was.
use Rattle.page_restore.proofs.Common.{Bool, Err, IsErrOf, List, None, Result, refl, ℕ, ◌≡◌, ap, subst, sym, Contents, Running, IsValid, OneEntry, frames_of, Endures, IsHome}
use Rattle.std.specs.Prelude.{IfOk, IsErr, Ok}
use Rattle.std.proofs.lemmas.Result.{IfOk-from_err}
use Rattle.rio_base.proofs.MachineRules.{never}
use Rattle.rio_base.specs.Failures.{vol_fail}
use Rattle.rio_base.specs.Machine.{Lasts, StepEnds}
use Rattle.rio_base.specs.declared.failures.DiskFail.{DiskFail}
use Rattle.rio_base.specs.declared.failures.DiskFail.TheVariants.{Fault as DiskFault, Stopped as DiskStopped}
use Rattle.rio_base.specs.declared.failures.VolFail.{VolFail}
use Rattle.rio_base.specs.declared.failures.VolFail.TheVariants.{Fault, Stopped}
use Rattle.rio_model.proofs.RebootSteps.{endures_refl}
use Rattle.page_restore.proofs.SettleTurns.{marked_then, marked_words}
use Rattle.page_restore.proofs.Steps.{phase_as}
use Rattle.page_restore.specs.Phases.{IsMarkedDirty, PhaseEnds}

-- ---- answers

pub not_ok : {T E : Type 0} (P : T → Type 0) (r : Result T E) → IsErr r → IfOk r P
not_ok P r e = IfOk-from_err r P e

not_fault : {T : Type 0} (r : Result T VolFail) → r ≡ Err Stopped → IsErrOf r Fault → ⊥
not_fault r same is = cc

not_stopped : {T : Type 0} (r : Result T VolFail) → r ≡ Err Fault → IsErrOf r Stopped → ⊥
not_stopped r same is = cc

-- what the disk answered, told by another answer
pub told_fault : {T : Type 0} (fail : DiskFail) (answer : Result T VolFail) → answer ≡ Err (vol_fail fail) → IsErrOf answer Fault → fail ≡ DiskFault
told_fault DiskFault answer same is = refl
told_fault DiskStopped answer same is = absurd (not_fault answer same is)

pub told_stop : {T : Type 0} (fail : DiskFail) (answer : Result T VolFail) → answer ≡ Err (vol_fail fail) → IsErrOf answer Stopped → fail ≡ DiskStopped
told_stop DiskStopped answer same is = refl
told_stop DiskFault answer same is = absurd (not_stopped answer same is)

-- ---- how a phase ends

-- with a value, whatever that is
pub phase_well : {T U : Type 0} (a b : Contents) (r s : Running) (x : T) (y : U) → PhaseEnds a b r s (IsErrOf (Ok x) Fault) (IsErrOf (Ok x) Stopped) → PhaseEnds a b r s (IsErrOf (Ok y) Fault) (IsErrOf (Ok y) Stopped)
phase_well a b r s x y h = phase_as a b r s _ _ _ _ (never x Stopped) (never y Fault) (never y Stopped) h

-- a step that was not stopped
pub phase_step : {U : Type 0} (a b : Contents) (r s : Running) (none : Type 0) (y : U) → (none → ⊥) → b.open_page ≡ None → Lasts a b → StepEnds r s none → PhaseEnds a b r s (IsErrOf (Ok y) Fault) (IsErrOf (Ok y) Stopped)
phase_step a b r s none y out closed lasts h = record { closed = closed; lasts = lasts; cause = λ f. absurd (never y Fault f); ends = record { steps = h.steps; told = λ x. absurd (never y Stopped x); runs = λ n. h.runs out } }

-- a step that was stopped
pub phase_stop : {T : Type 0} (a b : Contents) (r s : Running) (stop : Type 0) (answer : Result T VolFail) → stop → answer ≡ Err Stopped → b.open_page ≡ None → Lasts a b → StepEnds r s stop → PhaseEnds a b r s (IsErrOf answer Fault) (IsErrOf answer Stopped)
phase_stop a b r s stop answer is same closed lasts h = record { closed = closed; lasts = lasts; cause = λ f. absurd (not_fault answer same f); ends = record { steps = h.steps; told = λ x. h.told is; runs = λ n. absurd (n same) } }

-- ---- all as it was

pub endures_same : (apart : ℕ → Bool) (old new : Contents) → new ≡ old → Endures apart old new
endures_same apart old new e = subst (Endures apart old) (sym e) (endures_refl apart old)

pub one_same : (k : ℕ) (old new : List ℕ) → new ≡ old → OneEntry k old new
one_same k old new e = subst (OneEntry k old) (sym e) (record { count = refl; before = λ i less. refl; behind = λ i more. refl })

pub one_from : (k : ℕ) (a b c : List ℕ) → b ≡ a → OneEntry k b c → OneEntry k a c
one_from k a b c e h = subst (λ (ws : List ℕ). OneEntry k ws c) e h

pub valid_same : (k : ℕ) (old new : List ℕ) → new ≡ old → IsValid old k → IsValid new k
valid_same k old new e v = subst (λ (ws : List ℕ). IsValid ws k) (sym e) v

-- ---- behind a read

pub marked_read : (a b : Contents) (k : ℕ) → b ≡ record a { faults = b.faults } → IsMarkedDirty a b k
marked_read a b k e = marked_words a b k (ap (λ (x : Contents). x.words) e)

pub marked_from : (a b c : Contents) (k : ℕ) → b ≡ record a { faults = b.faults } → IsMarkedDirty b c k → IsMarkedDirty a c k
marked_from a b c k e h = marked_then a b c k (ap (λ (x : Contents). frames_of x.words) e) (ap (λ (x : Contents). x.disk) e) (marked_read a b k e) h

pub home_from : (a b : Contents) (k : ℕ) → b ≡ record a { faults = b.faults } → IsHome b k → IsHome a k
home_from a b k e h = record { same = (subst (λ (c : Contents). IsHome c k) e h).same }
