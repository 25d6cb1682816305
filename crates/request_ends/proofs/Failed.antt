-- What is said of a call that failed: nothing that holds where it did not, and no refusal where the volume failed.
use Rattle.std.proofs.Common.{◌≡◌, ◌∙◌, ap, refl, subst, sym}
use Rattle.std.specs.Prelude.{Err, IfOk, OnOk, Result}
use Rattle.rio_base.specs.declared.failures.VolFail.{VolFail}
use Rattle.rio_base.specs.declared.failures.VolFail.TheVariants.{Fault, Stopped}
use Rattle.request_ends.specs.Failures.{Unrefused, fail_of_vol}
use Rattle.request_ends.specs.declared.failures.FileFail.{FileFail}

-- of a call that failed nothing is said that holds where it did not
pub never_ok : {T E : Type 0} (q : Result T E) (P : Type 0) (d : E) → q ≡ Err d → OnOk q P
never_ok {T = T} {E = E} q P d is = subst (λ (x : Result T E). OnOk x P) (sym is) tt

pub never_some : {T E : Type 0} (q : Result T E) (P : T → Type 0) (d : E) → q ≡ Err d → IfOk q P
never_some {T = T} {E = E} q P d is = subst (λ (x : Result T E). IfOk x P) (sym is) tt

-- a failure of the volume refuses nothing
vol_unrefused : (T : Type 0) (e : VolFail) → Unrefused {T = T} (Err (fail_of_vol e))
vol_unrefused T Fault = refl
vol_unrefused T Stopped = tt

pub unrefused_vol : {T : Type 0} (q : Result T FileFail) (e : VolFail) (d : FileFail) → q ≡ Err d → d ≡ fail_of_vol e → Unrefused q
unrefused_vol {T = T} q e d qd de = subst (λ (v : Result T FileFail). Unrefused v) (sym (qd ∙ ap Err de)) (vol_unrefused T e)
