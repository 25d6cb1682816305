-- How a call of the volume ends, handed on.
use Rattle.node_pages.proofs.Common.{◌≡◌, ◌≤◌, ◌∙◌, ap, arith, refl, le_trans, subst, sym, Ok, Err, Health, IfOk, OnOk, Result, VolFail}
use Rattle.std.specs.Prelude.{IsErr}
use Rattle.rio_base.specs.declared.failures.VolFail.TheVariants.{Fault, Stopped}
use Rattle.rio_base.specs.Blocks.{Ends, Halts}

-- a call whose one failure is a stop, told by the answer of a call that may also meet a fault
pub ends_halted : {T U E : Type 0} (s t : Health) (r : Result T E) (q : Result U VolFail) (e : E) (d : VolFail) → r ≡ Err e → q ≡ Err d → d ≡ Stopped → Halts s t r → Ends s t q
ends_halted {T = T} {U = U} {E = E} s t r q e d re qd de h = subst (λ x. Ends s t x) (sym (qd ∙ ap Err de)) (by (subst (λ x. Halts s t x) re h))
  where
    by : Halts {T = T} {E = E} s t (Err e) → Ends {T = U} s t (Err Stopped)
    by g = record { later = g.later; stays = g.stays; cause = g.cause }

-- ---- an exit of a call that failed

-- of an answer that is none nothing is owed
pub if_err : {T E : Type 0} (r : Result T E) (P : T → Type 0) → IsErr r → IfOk r P
if_err (Ok x) P h = cc
if_err (Err e) P h = tt

-- a failure handed on
vol_as : {T U : Type 0} (s t : Health) (e : VolFail) → Ends {T = T} s t (Err e) → Ends {T = U} s t (Err e)
vol_as s t Fault h = record { later = h.later; stays = h.stays; cause = h.cause }
vol_as s t Stopped h = record { later = h.later; stays = h.stays; cause = h.cause }

pub ends_vol : {T U : Type 0} (s t : Health) (r : Result T VolFail) (q : Result U VolFail) (e d : VolFail) → r ≡ Err e → q ≡ Err d → d ≡ e → Ends s t r → Ends s t q
ends_vol s t r q e d re qd de h = subst (λ x. Ends s t x) (sym (qd ∙ ap Err de)) (vol_as s t e (subst (λ x. Ends s t x) re h))

-- a stop handed on
pub halts_on : {T U E F : Type 0} (s t : Health) (r : Result T E) (q : Result U F) (e : E) (d : F) → r ≡ Err e → q ≡ Err d → Halts s t r → Halts s t q
halts_on {T = T} {U = U} {E = E} {F = F} s t r q e d re qd h = subst (λ x. Halts s t x) (sym qd) (by (subst (λ x. Halts s t x) re h))
  where
    by : Halts {T = T} {E = E} s t (Err e) → Halts {T = U} {E = F} s t (Err d)
    by g = record { later = g.later; stays = g.stays; cause = g.cause }

-- ---- calls that ended well

pub ends_vol_ok : {T : Type 0} (s t : Health) (v : T) → s.faults ≤ t.faults → t.stopped ≡ s.stopped → Ends s t (Ok v)
ends_vol_ok s t v later same = record { later = later; stays = λ on. same ∙ on; cause = same }

pub halts_ok : {T E : Type 0} (s t : Health) (v : T) → s.faults ≤ t.faults → t.stopped ≡ s.stopped → Halts {T = T} {E = E} s t (Ok v)
halts_ok s t v later same = record { later = later; stays = λ on. same ∙ on; cause = same }

-- and then one that may not
pub halts_later : {T E : Type 0} (s t u : Health) (r : Result T E) → s.faults ≤ t.faults → t.stopped ≡ s.stopped → Halts t u r → Halts s u r
halts_later s t u (Ok v) later same h = record { later = le_trans later h.later; stays = λ on. h.stays (same ∙ on); cause = h.cause ∙ same }
halts_later s t u (Err e) later same h = record { later = le_trans later h.later; stays = λ on. h.stays (same ∙ on); cause = h.cause }

-- what a last call gives where it ends well
pub on_ok : {T E : Type 0} (r : Result T E) (A B : Type 0) → (A → B) → OnOk r A → OnOk r B
on_ok (Ok v) A B f h = f h
on_ok (Err e) A B f h = tt

pub on_any : {T E : Type 0} (C : Type 0) (r : Result T E) → C → OnOk r C
on_any C (Ok v) c = c
on_any C (Err e) c = tt

-- no call was made
pub vol_still : {T : Type 0} (s : Health) (v : T) → Ends s s (Ok v)
vol_still s v = ends_vol_ok s s v (omega arith) refl

-- ---- a failure that a match told

pub ends_told : {T U : Type 0} (s t : Health) (e d : VolFail) → e ≡ d → Ends {T = T} s t (Err e) → Ends {T = U} s t (Err d)
ends_told {U = U} s t e d is h = subst (λ x. Ends {T = U} s t (Err x)) is (vol_as s t e h)
