-- How a change of size ends in a call that it makes: a stop, and a failure that was no refusal.
use Rattle.file_pages.proofs.Common.{◌≡◌, refl, sym, ap, subst, ◌∙◌, Result, Ok, Err, IsErrOf, Health}
use Rattle.std.specs.Prelude.{IsErr}
use Rattle.rio_base.specs.Blocks.{Halts}
use Rattle.node_pages.specs.Failures.{Unrefused}
use Rattle.node_pages.specs.declared.failures.SizeFail.{SizeFail}
use Rattle.node_pages.specs.declared.failures.SizeFail.TheVariants.{NoSpace, TooLarge, Fault as SizeFault, Stopped as SizeStopped, Memory as SizeMemory}
use Rattle.node_pages.proofs.Ends.{EndsSize, ends_well_ok, unrefused_of, unrefused_ok}

-- a call whose one failure is the stop
pub size_halted : {T U E : Type 0} (s t : Health) (r : Result T E) (q : Result U SizeFail) (e : E) (d : SizeFail) → r ≡ Err e → q ≡ Err d → d ≡ SizeStopped → Halts s t r → EndsSize s t q
size_halted {T = T} {U = U} {E = E} s t r q e d re qd de h = subst (λ x. EndsSize s t x) (sym (qd ∙ ap Err de)) (by (subst (λ x. Halts s t x) re h))
  where
    by : Halts {T = T} {E = E} s t (Err e) → EndsSize {T = U} s t (Err SizeStopped)
    by k = record { later = k.later; stays = k.stays; cause = λ f. cc; told = λ p. k.cause; runs = λ n. absurd (n refl) }

-- ---- a call whose one failure is the stop, told as a change of size

pub well_err : {T : Type 0} (v : T) → IsErr {E = SizeFail} (Ok v) → ⊥
well_err v is = cc

size_stop : {T : Type 0} (s t : Health) (e : SizeFail) → IsErrOf {T = T} (Err e) SizeStopped → Halts {T = T} {E = SizeFail} s t (Err e) → EndsSize {T = T} s t (Err e)
size_stop {T = T} s t e is h = subst (λ (r : Result T SizeFail). EndsSize s t r) (sym is) (record { later = h.later; stays = h.stays; cause = λ f. cc; told = λ p. h.cause; runs = λ n. absurd (n refl) })

pub size_halts : {T : Type 0} (s t : Health) (q : Result T SizeFail) → (IsErr q → IsErrOf q SizeStopped) → Halts s t q → EndsSize s t q
size_halts s t (Ok v) stops h = ends_well_ok s t v h.later h.cause
size_halts s t (Err e) stops h = size_stop s t e (stops refl) h

-- ---- calls that were not refused for the size

stop_other : {T : Type 0} → Unrefused {T = T} (Err SizeStopped)
stop_other = ((λ a. cc), (λ a. cc))

pub unrefused_stop : {T : Type 0} (q : Result T SizeFail) (d : SizeFail) → q ≡ Err d → d ≡ SizeStopped → Unrefused q
unrefused_stop q d qd de = unrefused_of q d SizeStopped qd de stop_other

pub unrefused_stops : {T : Type 0} (q : Result T SizeFail) → (IsErr q → IsErrOf q SizeStopped) → Unrefused q
unrefused_stops (Ok v) stops = unrefused_ok v
unrefused_stops (Err e) stops = subst (λ r. Unrefused r) (sym (stops refl)) stop_other

err_other : {T U : Type 0} (e : SizeFail) → Unrefused {T = T} (Err e) → Unrefused {T = U} (Err e)
err_other NoSpace h = absurd (h.0 refl)
err_other TooLarge h = absurd (h.1 refl)
err_other SizeFault h = ((λ a. cc), (λ a. cc))
err_other SizeStopped h = ((λ a. cc), (λ a. cc))
err_other SizeMemory h = ((λ a. cc), (λ a. cc))

pub unrefused_err : {T U : Type 0} (r : Result U SizeFail) (q : Result T SizeFail) (e d : SizeFail) → r ≡ Err e → q ≡ Err d → d ≡ e → Unrefused r → Unrefused q
unrefused_err r q e d re qd de h = unrefused_of q d e qd de (err_other e (subst (λ x. Unrefused x) re h))
