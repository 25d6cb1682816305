-- How a call of an update ends, told by an answer that may also be a fault.
use Rattle.std.proofs.Common.{◌≡◌, ◌≤◌, ◌∙◌, ap, le_trans, subst, sym}
use Rattle.std.specs.Prelude.{Ok, Err, IsErrOf, OnOk, Result}
use Rattle.rio_base.specs.declared.failures.VolFail.{VolFail}
use Rattle.rio_base.specs.declared.failures.VolFail.TheVariants.{Fault, Stopped}
use Rattle.rio_base.specs.Blocks.{Ends, Halts, Health}

-- a call whose one failure is a stop, told by the answer of a call that may also meet a fault
pub ends_halted : {T U E : Type 0} (s t : Health) (r : Result T E) (q : Result U VolFail) (e : E) (d : VolFail) → r ≡ Err e → q ≡ Err d → d ≡ Stopped → Halts s t r → Ends s t q
ends_halted {T = T} {U = U} {E = E} s t r q e d re qd de h = subst (λ x. Ends s t x) (sym (qd ∙ ap Err de)) (by (subst (λ x. Halts s t x) re h))
  where
    by : Halts {T = T} {E = E} s t (Err e) → Ends {T = U} s t (Err Stopped)
    by g = record { later = g.later; stays = g.stays; cause = g.cause }

-- of a call that was stopped nothing is said that holds after a fault
pub never_fault : {T : Type 0} (q : Result T VolFail) (d : VolFail) (P : Type 0) → q ≡ Err d → d ≡ Stopped → IsErrOf q Fault → P
never_fault q d P is stopped fault = absurd cc

-- which fault was handed on
pub fault_handed : {T U : Type 0} (r : Result T VolFail) (q : Result U VolFail) (e d : VolFail) → r ≡ Err e → q ≡ Err d → d ≡ e → IsErrOf q Fault → IsErrOf r Fault
fault_handed r q e d re qd de fault = cc

-- a failure by its name
pub ends_same : {T : Type 0} (s t : Health) (e d : VolFail) → e ≡ d → Ends {T = T} s t (Err e) → Ends {T = T} s t (Err d)
ends_same {T = T} s t e d is h = subst (λ x. Ends {T = T} s t (Err x)) is h

-- a call that was not stopped
pub ends_unhalted : {T U E : Type 0} (s t : Health) (v : T) (u : U) → Halts {E = E} s t (Ok v) → Ends s t (Ok u)
ends_unhalted s t v u h = record { later = h.later; stays = h.stays; cause = h.cause }

-- one that was, after calls that were not
pub halts_later : {T U E : Type 0} (s t u : Health) (r : Result T E) (q : Result U E) (e d : E) → s.faults ≤ t.faults → t.stopped ≡ s.stopped → r ≡ Err e → q ≡ Err d → Halts t u r → Halts s u q
halts_later {T = T} {U = U} {E = E} s t u r q e d later runs re qd h = subst (λ (x : Result U E). Halts s u x) (sym qd) (by (subst (λ (x : Result T E). Halts t u x) re h))
  where
    by : Halts {T = T} {E = E} t u (Err e) → Halts {T = U} {E = E} s u (Err d)
    by k = record { later = le_trans later k.later; stays = λ on. k.cause; cause = k.cause }

-- what holds where a call is done, by what it says then
pub on_done : {T E : Type 0} (P Q : Type 0) (r : Result T E) → OnOk r P → (P → Q) → OnOk r Q
on_done P Q (Ok v) h go = go h
on_done P Q (Err e) h go = tt

pub on_both : {T E : Type 0} (P Q R : Type 0) (r : Result T E) → OnOk r P → OnOk r Q → (P → Q → R) → OnOk r R
on_both P Q R (Ok v) h k go = go h k
on_both P Q R (Err e) h k go = tt
