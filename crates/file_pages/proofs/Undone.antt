-- How calls of an update end: a stop, and a fault whose update was rolled back.
use Rattle.file_pages.proofs.Common.{◌≡◌, ◌≤◌, ◌∙◌, le_trans, subst, Ok, Err, Health, IsErrOf, Result, VolFail}
use Rattle.rio_base.specs.declared.failures.VolFail.TheVariants.{Fault, Stopped}
use Rattle.rio_base.specs.Blocks.{Ends, as_word}
use Rattle.rio_base.specs.declared.failures.RunFail.{RunFail}
use Rattle.rio_base.proofs.Rules.{rose_stays}

-- a fault, and then a call that ended well
pub ends_undone : {T U : Type 0} (s t u : Health) → Ends {T = T} s t (Err Fault) → t.faults ≤ u.faults → u.stopped ≡ t.stopped → Ends {T = U} s u (Err Fault)
ends_undone s t u h later same = record {
  later = le_trans h.later later;
  stays = λ on. same ∙ h.stays on;
  cause = (rose_stays s.faults t.faults u.faults h.cause.0 later, same ∙ h.cause.1);
}

-- a stop is no fault
pub not_fault : {T : Type 0} (q : Result T VolFail) (d : VolFail) → q ≡ Err d → d ≡ Stopped → IsErrOf q Fault → ⊥
not_fault q d qd de is = cc

pub well_no_fault : {T : Type 0} (v : T) → IsErrOf (Ok v) Fault → ⊥
well_no_fault v is = cc

pub stop_no_fault : {T : Type 0} → IsErrOf {T = T} (Err Stopped) Fault → ⊥
stop_no_fault is = cc

pub fault_runs : {T : Type 0} (s t : Health) (e : VolFail) → e ≡ Fault → Ends {T = T} s t (Err e) → t.stopped ≡ s.stopped
fault_runs {T = T} s t e is h = (subst (λ x. Ends {T = T} s t (Err x)) is h).cause.1

pub run_told : {T : Type 0} (s t : Health) (e d : RunFail) → e ≡ d → Ends s t (as_word {T = T} (Err e)) → Ends s t (as_word {T = T} (Err d))
run_told {T = T} s t e d is h = subst (λ x. Ends s t (as_word {T = T} (Err x))) is h
