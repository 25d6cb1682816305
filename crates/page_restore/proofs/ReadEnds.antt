-- How a phase ends that reads a block or syncs.
use Rattle.page_restore.proofs.Common.{Err, IsErrOf, None, Result, false, true, ◌≡◌, ◌⊎◌, ap, cases_Bool, inl, inr, subst, sym, ◌∙◌, Contents, Running}
use Rattle.std.specs.Prelude.{Ok}
use Rattle.rio_base.proofs.MachineRules.{never, steps_refl}
use Rattle.rio_base.specs.Failures.{vol_fail}
use Rattle.rio_base.specs.Machine.{FaultCause, Lasts, StepEnds, Steps}
use Rattle.rio_base.specs.declared.failures.DiskFail.{DiskFail}
use Rattle.rio_base.specs.declared.failures.DiskFail.TheVariants.{Fault as DiskFault, Stopped as DiskStopped}
use Rattle.rio_base.specs.declared.failures.VolFail.{VolFail}
use Rattle.rio_base.specs.declared.failures.VolFail.TheVariants.{Fault, Stopped}
use Rattle.page_restore.proofs.Exits.{told_fault, told_stop}
use Rattle.page_restore.specs.Phases.{PhaseEnds}

read_steps : (r s : Running) (stop : Type 0) → s ≡ r → (stop → r.stopped ≡ true) → StepEnds r s stop
read_steps r s stop run stopped = record { steps = subst (Steps r) (sym run) (steps_refl r); told = λ x. ap (λ (q : Running). q.stopped) run ∙ stopped x; runs = λ n. ap (λ (q : Running). q.stopped) run }

pub read_failed : {T U : Type 0} (a b : Contents) (r s : Running) (fail : DiskFail) (answer : Result T VolFail) → answer ≡ Err (vol_fail fail) → a.open_page ≡ None → b ≡ record a { faults = b.faults } → s ≡ r → Lasts a b → FaultCause a b (IsErrOf {T = U} (Err fail) DiskFault) → (IsErrOf {T = U} (Err fail) DiskStopped → (r.stopped ≡ true) × (b ≡ a)) → PhaseEnds a b r s (IsErrOf answer Fault) (IsErrOf answer Stopped)
read_failed a b r s fail answer same closed rest run lasts cause stopped = record {
  closed = ap (λ (c : Contents). c.open_page) rest ∙ closed;
  lasts = lasts;
  cause = λ f. cause (ap Err (told_fault fail answer same f));
  ends = read_steps r s _ run (λ x. (stopped (ap Err (told_stop fail answer same x))).0);
}

pub read_done : {U : Type 0} (a b : Contents) (r s : Running) (y : U) → a.open_page ≡ None → b ≡ record a { faults = b.faults } → s ≡ r → Lasts a b → PhaseEnds a b r s (IsErrOf (Ok y) Fault) (IsErrOf (Ok y) Stopped)
read_done a b r s y closed rest run lasts = record {
  closed = ap (λ (c : Contents). c.open_page) rest ∙ closed;
  lasts = lasts;
  cause = λ f. absurd (never y Fault f);
  ends = read_steps r s _ run (λ x. absurd (never y Stopped x));
}

-- ---- a step of the disk

stop_back : {T U : Type 0} (fail : DiskFail) (answer : Result T VolFail) → answer ≡ Err (vol_fail fail) → IsErrOf {T = U} (Err fail) DiskStopped → IsErrOf answer Stopped
stop_back DiskStopped answer same is = same
stop_back DiskFault answer same is = cc

pub step_failed : {T U : Type 0} (a b : Contents) (r s : Running) (fail : DiskFail) (answer : Result T VolFail) → answer ≡ Err (vol_fail fail) → a.open_page ≡ None → b.open_page ≡ a.open_page → Lasts a b → FaultCause a b (IsErrOf {T = U} (Err fail) DiskFault) → StepEnds r s (IsErrOf {T = U} (Err fail) DiskStopped) → PhaseEnds a b r s (IsErrOf answer Fault) (IsErrOf answer Stopped)
step_failed {T} {U} a b r s fail answer same closed still lasts cause h = record {
  closed = still ∙ closed;
  lasts = lasts;
  cause = λ f. cause (ap Err (told_fault fail answer same f));
  ends = record { steps = h.steps; told = λ x. h.told (ap Err (told_stop fail answer same x)); runs = λ n. h.runs (λ x. n (stop_back {U = U} fail answer same x)) };
}

-- a machine that took a step runs
pub runs_on : (r s : Running) (stop : Type 0) → (stop → ⊥) → (r.stopped ≡ true → stop) → StepEnds r s stop → s.stopped ≡ false
runs_on r s stop out halted h = h.runs out ∙ by (cases_Bool r.stopped)
  where
    by : (r.stopped ≡ true) ⊎ (r.stopped ≡ false) → r.stopped ≡ false
    by (inl e) = absurd (out (halted e))
    by (inr e) = e
