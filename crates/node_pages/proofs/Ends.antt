-- How a call ends, told by another type of failure.
use Rattle.node_pages.proofs.Common.{◌≡◌, ◌≤◌, arith, refl, sym, ap, subst, ◌∙◌, Result, Ok, Err, IsErrOf, VolFail, EndsBy, Health, ends_by_after, ends_by_as}
use Rattle.rio_base.specs.declared.failures.VolFail.TheVariants.{Fault as VolFault, Stopped as VolStopped}
use Rattle.rio_base.specs.Blocks.{Ends}
use Rattle.rio_base.specs.Failures.{read_fail}
use Rattle.rio_base.proofs.Rules.{ends_by, ends_by_well}
use Rattle.node_pages.specs.Failures.{Unrefused, size_handed, size_of_read}
use Rattle.rio_base.specs.declared.failures.ReadFail.{ReadFail}
use Rattle.rio_base.specs.declared.failures.ReadFail.TheVariants.{Fault as ReadFault, Stopped as ReadStopped, Memory as ReadMemory}
use Rattle.node_pages.specs.declared.failures.SizeFail.{SizeFail}
use Rattle.node_pages.specs.declared.failures.SizeFail.TheVariants.{NoSpace, TooLarge, Fault as SizeFault, Stopped as SizeStopped, Memory as SizeMemory}

abbrev pub EndsRead : {T : Type 0} → Health → Health → Result T ReadFail → Type 0
EndsRead s t r = EndsBy s t (IsErrOf r ReadFault) (IsErrOf r ReadStopped)

abbrev pub EndsSize : {T : Type 0} → Health → Health → Result T SizeFail → Type 0
EndsSize s t r = EndsBy s t (IsErrOf r SizeFault) (IsErrOf r SizeStopped)

read_as : {T U : Type 0} (s t : Health) (e : ReadFail) → EndsRead {T = T} s t (Err e) → EndsRead {T = U} s t (Err e)
read_as s t ReadFault h = ends_by_as s t _ _ _ _ (λ a. refl) (λ a. cc) (λ a. cc) h
read_as s t ReadStopped h = ends_by_as s t _ _ _ _ (λ a. cc) (λ a. refl) (λ a. refl) h
read_as s t ReadMemory h = ends_by_as s t _ _ _ _ (λ a. cc) (λ a. cc) (λ a. cc) h

size_as : {T U : Type 0} (s t : Health) (e : ReadFail) → EndsRead {T = T} s t (Err e) → EndsSize {T = U} s t (Err (size_of_read e))
size_as s t ReadFault h = ends_by_as s t _ _ _ _ (λ a. refl) (λ a. cc) (λ a. cc) h
size_as s t ReadStopped h = ends_by_as s t _ _ _ _ (λ a. cc) (λ a. refl) (λ a. refl) h
size_as s t ReadMemory h = ends_by_as s t _ _ _ _ (λ a. cc) (λ a. cc) (λ a. cc) h

-- a failure handed on
pub ends_read : {T U : Type 0} (s t : Health) (r : Result T ReadFail) (q : Result U ReadFail) (e d : ReadFail) → r ≡ Err e → q ≡ Err d → d ≡ e → EndsRead s t r → EndsRead s t q
ends_read s t r q e d re qd de h = subst (λ x. EndsRead s t x) (sym (qd ∙ ap Err de)) (read_as s t e (subst (λ x. EndsRead s t x) re h))

pub ends_size : {T U : Type 0} (s t : Health) (r : Result T ReadFail) (q : Result U SizeFail) (e : ReadFail) (d : SizeFail) → r ≡ Err e → q ≡ Err d → d ≡ size_of_read e → EndsRead s t r → EndsSize s t q
ends_size s t r q e d re qd de h = subst (λ x. EndsSize s t x) (sym (qd ∙ ap Err de)) (size_as s t e (subst (λ x. EndsRead s t x) re h))

-- a call of the volume, told by a read
read_of_vol : {T U : Type 0} (s t : Health) (e : VolFail) → Ends {T = T} s t (Err e) → EndsRead {T = U} s t (Err (read_fail e))
read_of_vol s t VolFault h = ends_by_as s t _ _ _ _ (λ a. refl) (λ a. cc) (λ a. cc) (ends_by s t (Err VolFault) h)
read_of_vol s t VolStopped h = ends_by_as s t _ _ _ _ (λ a. cc) (λ a. refl) (λ a. refl) (ends_by s t (Err VolStopped) h)

pub ends_vol_read : {T U : Type 0} (s t : Health) (r : Result T VolFail) (q : Result U ReadFail) (e : VolFail) (d : ReadFail) → r ≡ Err e → q ≡ Err d → d ≡ read_fail e → Ends s t r → EndsRead s t q
ends_vol_read s t r q e d re qd de h = subst (λ x. EndsRead s t x) (sym (qd ∙ ap Err de)) (read_of_vol s t e (subst (λ x. Ends s t x) re h))

-- reads that ended well, and then memory that was refused, or an answer
pub ends_read_ok : {T : Type 0} (s t : Health) (v : T) → s.faults ≤ t.faults → t.stopped ≡ s.stopped → EndsRead s t (Ok v)
ends_read_ok s t v later same = ends_by_well s t _ _ later same (λ a. cc) (λ a. cc)

pub ends_read_memory : {T : Type 0} (s t : Health) (q : Result T ReadFail) (d : ReadFail) → q ≡ Err d → d ≡ ReadMemory → s.faults ≤ t.faults → t.stopped ≡ s.stopped → EndsRead s t q
ends_read_memory {T = T} s t q d qd de later same = subst (λ x. EndsRead s t x) (sym (qd ∙ ap Err de)) well
  where
    well : EndsRead {T = T} s t (Err ReadMemory)
    well = ends_by_well s t _ _ later same (λ a. cc) (λ a. cc)

pub read_runs : {T : Type 0} (s t : Health) (v : T) → EndsRead s t (Ok v) → t.stopped ≡ s.stopped
read_runs s t v h = h.runs (λ a. cc)

pub ends_read_on : {T U : Type 0} (s t : Health) (v : T) (u : U) → EndsRead s t (Ok v) → EndsRead s t (Ok u)
ends_read_on s t v u h = ends_read_ok s t u h.later (read_runs s t v h)

-- nothing was called before
pub read_still : {T : Type 0} (s : Health) (v : T) → EndsRead s s (Ok v)
read_still s v = ends_read_ok s s v (omega arith) refl

pub read_still_memory : {T : Type 0} (s : Health) (q : Result T ReadFail) (d : ReadFail) → q ≡ Err d → d ≡ ReadMemory → EndsRead s s q
read_still_memory s q d qd de = ends_read_memory s s q d qd de (omega arith) refl

-- a call that ended well, and then memory that was refused, or an answer
size_memory : {T U : Type 0} (s t : Health) (v : T) → EndsRead {T = T} s t (Ok v) → EndsSize {T = U} s t (Err SizeMemory)
size_memory s t v h = ends_by_as s t _ _ _ _ (λ a. cc) (λ a. cc) (λ a. cc) h

pub ends_size_memory : {T U : Type 0} (s t : Health) (r : Result T ReadFail) (q : Result U SizeFail) (v : T) (d : SizeFail) → r ≡ Ok v → q ≡ Err d → d ≡ SizeMemory → EndsRead s t r → EndsSize s t q
ends_size_memory s t r q v d rv qd de h = subst (λ x. EndsSize s t x) (sym (qd ∙ ap Err de)) (size_memory s t v (subst (λ x. EndsRead s t x) rv h))

pub ends_size_ok : {T U : Type 0} (s t : Health) (r : Result T ReadFail) (v : T) (u : U) → r ≡ Ok v → EndsRead s t r → EndsSize {T = U} s t (Ok u)
ends_size_ok {T = T} {U = U} s t r v u rv h = by (subst (λ x. EndsRead s t x) rv h)
  where
    by : EndsRead {T = T} s t (Ok v) → EndsSize {T = U} s t (Ok u)
    by g = ends_by_as s t _ _ _ _ (λ a. cc) (λ a. cc) (λ a. cc) g

-- ---- a call of the volume

size_of_vol : {T U : Type 0} (s t : Health) (e : VolFail) → Ends {T = T} s t (Err e) → EndsSize {T = U} s t (Err (size_handed e))
size_of_vol s t VolFault h = ends_by_as s t _ _ _ _ (λ a. refl) (λ a. cc) (λ a. cc) (ends_by s t (Err VolFault) h)
size_of_vol s t VolStopped h = ends_by_as s t _ _ _ _ (λ a. cc) (λ a. refl) (λ a. refl) (ends_by s t (Err VolStopped) h)

pub ends_vol_size : {T U : Type 0} (s t : Health) (r : Result T VolFail) (q : Result U SizeFail) (e : VolFail) (d : SizeFail) → r ≡ Err e → q ≡ Err d → d ≡ size_handed e → Ends s t r → EndsSize s t q
ends_vol_size s t r q e d re qd de h = subst (λ x. EndsSize s t x) (sym (qd ∙ ap Err de)) (size_of_vol s t e (subst (λ x. Ends s t x) re h))

-- ---- calls that ended well

pub size_runs : {T : Type 0} (s t : Health) (v : T) → EndsSize s t (Ok v) → t.stopped ≡ s.stopped
size_runs s t v h = h.runs (λ a. cc)

pub ends_well_memory : {T : Type 0} (s t : Health) (q : Result T SizeFail) (d : SizeFail) → q ≡ Err d → d ≡ SizeMemory → s.faults ≤ t.faults → t.stopped ≡ s.stopped → EndsSize s t q
ends_well_memory {T = T} s t q d qd de later same = subst (λ x. EndsSize s t x) (sym (qd ∙ ap Err de)) well
  where
    well : EndsSize {T = T} s t (Err SizeMemory)
    well = ends_by_well s t _ _ later same (λ a. cc) (λ a. cc)

pub ends_well_ok : {T : Type 0} (s t : Health) (v : T) → s.faults ≤ t.faults → t.stopped ≡ s.stopped → EndsSize s t (Ok v)
ends_well_ok s t v later same = ends_by_well s t _ _ later same (λ a. cc) (λ a. cc)

-- no call was made
pub refused_still : {T : Type 0} (s : Health) → EndsSize {T = T} s s (Err TooLarge)
refused_still s = ends_by_well s s _ _ (omega arith) refl (λ a. cc) (λ a. cc)

-- ---- one call and then another

pub size_then : {T U : Type 0} (s t u : Health) (r : Result T SizeFail) (v : T) (q : Result U SizeFail) → r ≡ Ok v → EndsSize s t r → EndsSize t u q → EndsSize s u q
size_then {T = T} s t u r v q rv h k = by (subst (λ x. EndsSize s t x) rv h)
  where
    by : EndsSize {T = T} s t (Ok v) → EndsSize s u q
    by g = ends_by_after s t u _ _ g.later (g.runs (λ a. cc)) k

size_err_as : {T U : Type 0} (s t : Health) (e : SizeFail) → EndsSize {T = T} s t (Err e) → EndsSize {T = U} s t (Err e)
size_err_as s t NoSpace h = ends_by_as s t _ _ _ _ (λ a. cc) (λ a. cc) (λ a. cc) h
size_err_as s t TooLarge h = ends_by_as s t _ _ _ _ (λ a. cc) (λ a. cc) (λ a. cc) h
size_err_as s t SizeFault h = ends_by_as s t _ _ _ _ (λ a. refl) (λ a. cc) (λ a. cc) h
size_err_as s t SizeStopped h = ends_by_as s t _ _ _ _ (λ a. cc) (λ a. refl) (λ a. refl) h
size_err_as s t SizeMemory h = ends_by_as s t _ _ _ _ (λ a. cc) (λ a. cc) (λ a. cc) h

pub size_err : {T U : Type 0} (s t : Health) (r : Result T SizeFail) (q : Result U SizeFail) (e d : SizeFail) → r ≡ Err e → q ≡ Err d → d ≡ e → EndsSize s t r → EndsSize s t q
size_err s t r q e d re qd de h = subst (λ x. EndsSize s t x) (sym (qd ∙ ap Err de)) (size_err_as s t e (subst (λ x. EndsSize s t x) re h))

-- ---- calls that were not refused for the size

handed_other : {T : Type 0} (e : VolFail) → Unrefused {T = T} (Err (size_handed e))
handed_other VolFault = ((λ a. cc), (λ a. cc))
handed_other VolStopped = ((λ a. cc), (λ a. cc))

pub unrefused_vol : {T : Type 0} (q : Result T SizeFail) (e : VolFail) (d : SizeFail) → q ≡ Err d → d ≡ size_handed e → Unrefused q
unrefused_vol q e d qd de = subst (λ x. Unrefused x) (sym (qd ∙ ap Err de)) (handed_other e)

read_other : {T : Type 0} (e : ReadFail) → Unrefused {T = T} (Err (size_of_read e))
read_other ReadFault = ((λ a. cc), (λ a. cc))
read_other ReadStopped = ((λ a. cc), (λ a. cc))
read_other ReadMemory = ((λ a. cc), (λ a. cc))

pub unrefused_read : {T : Type 0} (q : Result T SizeFail) (e : ReadFail) (d : SizeFail) → q ≡ Err d → d ≡ size_of_read e → Unrefused q
unrefused_read q e d qd de = subst (λ x. Unrefused x) (sym (qd ∙ ap Err de)) (read_other e)

pub unrefused_of : {T : Type 0} (q : Result T SizeFail) (d e : SizeFail) → q ≡ Err d → d ≡ e → Unrefused {T = T} (Err e) → Unrefused q
unrefused_of q d e qd de h = subst (λ x. Unrefused x) (sym (qd ∙ ap Err de)) h

memory_other : {T : Type 0} → Unrefused {T = T} (Err SizeMemory)
memory_other = ((λ a. cc), (λ a. cc))

pub unrefused_memory : {T : Type 0} (q : Result T SizeFail) (d : SizeFail) → q ≡ Err d → d ≡ SizeMemory → Unrefused q
unrefused_memory q d qd de = unrefused_of q d SizeMemory qd de memory_other

pub unrefused_ok : {T : Type 0} (v : T) → Unrefused (Ok v)
unrefused_ok v = ((λ a. cc), (λ a. cc))

-- the same failure handed on
pub err_handed : {T U : Type 0} (w : SizeFail) (r : Result U SizeFail) (q : Result T SizeFail) (e d : SizeFail) → r ≡ Err e → q ≡ Err d → d ≡ e → IsErrOf q w → IsErrOf r w
err_handed {T = T} {U = U} w r q e d re qd de is = subst (λ x. IsErrOf x w) (sym (re ∙ ap Err (sym de))) (by (subst (λ x. IsErrOf x w) qd is))
  where
    by : IsErrOf {T = T} (Err d) w → IsErrOf {T = U} (Err d) w
    by h = ap (λ a. Err a) (inside h)
      where
        inside : IsErrOf {T = T} (Err d) w → d ≡ w
        inside h = cc
