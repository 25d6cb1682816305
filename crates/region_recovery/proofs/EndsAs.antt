-- How a call ends that hands on the failure of another.
use Rattle.std.specs.Prelude.{◌≡◌, ◌≤◌, Result, Ok, Err, IsErrOf}
use Rattle.std.proofs.Common.{◌∙◌, ap, refl, subst, sym}
use Rattle.rio_base.specs.declared.failures.ReadFail.{ReadFail}
use Rattle.rio_base.specs.declared.failures.ReadFail.TheVariants.{Fault as ReadFault, Stopped as ReadStopped, Memory as ReadMemory}
use Rattle.rio_base.specs.Failures.{read_fail}
use Rattle.rio_base.proofs.Rules.{ends_by, ends_by_as, ends_by_well}
use Rattle.rio_base.specs.declared.failures.VolFail.{VolFail}
use Rattle.rio_base.specs.declared.failures.VolFail.TheVariants.{Fault, Stopped}
use Rattle.rio_base.specs.Blocks.{Ends, EndsBy, Health}

-- that r succeeded tells whether the object is stopped
pub ran_ok : {T : Type 0} (s t : Health) (r : Result T VolFail) (x : T) → r ≡ Ok x → Ends s t r → t.stopped ≡ s.stopped
ran_ok s t r x is h = (subst (λ y. Ends s t y) is h).cause

-- ---- told as a failure of reading

abbrev EndsRead : {T : Type 0} → Health → Health → Result T ReadFail → Type 0
EndsRead s t r = EndsBy s t (IsErrOf r ReadFault) (IsErrOf r ReadStopped)

read_of_vol : {T U : Type 0} (s t : Health) (e : VolFail) → Ends {T = T} s t (Err e) → EndsRead {T = U} s t (Err (read_fail e))
read_of_vol s t Fault h = ends_by_as s t _ _ _ _ (λ a. refl) (λ a. cc) (λ a. cc) (ends_by s t (Err Fault) h)
read_of_vol s t Stopped h = ends_by_as s t _ _ _ _ (λ a. cc) (λ a. refl) (λ a. refl) (ends_by s t (Err Stopped) h)

pub ends_vol_read : {T U : Type 0} (s t : Health) (r : Result T VolFail) (q : Result U ReadFail) (e : VolFail) (d : ReadFail) → r ≡ Err e → q ≡ Err d → d ≡ read_fail e → Ends s t r → EndsRead s t q
ends_vol_read s t r q e d re qd de h = subst (λ x. EndsRead s t x) (sym (qd ∙ ap Err de)) (read_of_vol s t e (subst (λ x. Ends s t x) re h))

pub ends_memory : {U : Type 0} (s t : Health) (q : Result U ReadFail) (d : ReadFail) → q ≡ Err d → d ≡ ReadMemory → s.faults ≤ t.faults → t.stopped ≡ s.stopped → EndsRead s t q
ends_memory {U = U} s t q d qd memory later same = subst (λ (x : Result U ReadFail). EndsRead s t x) (sym (qd ∙ ap Err memory)) (ends_by_well s t _ _ later same (λ a. cc) (λ a. cc))

pub ends_listed : {T : Type 0} (s t : Health) (v : T) → s.faults ≤ t.faults → t.stopped ≡ s.stopped → EndsRead s t (Ok v)
ends_listed s t v later same = ends_by_well s t _ _ later same (λ a. cc) (λ a. cc)
