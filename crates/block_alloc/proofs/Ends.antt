-- How calls end, told by an answer of another kind.
use Rattle.std.specs.Prelude.{◌≡◌, ◌≤◌, Result, Ok, Err, IsErr, IsErrOf}
use Rattle.std.proofs.Common.{◌∙◌, ap, le_trans, refl, subst, sym}
use Rattle.rio_base.specs.Blocks.{Ends, EndsBy, Halts, Health}
use Rattle.rio_base.specs.Volume.{Below, Kept, Passes, SameUpdate}
use Rattle.rio_base.specs.declared.failures.VolFail.{VolFail}
use Rattle.rio_base.specs.declared.failures.VolFail.TheVariants.{Fault as DiskFault, Stopped as MachineStopped}
use Rattle.rio_base.specs.Rules.{true_false}
use Rattle.rio_base.proofs.BlockRules.{ends_later}
use Rattle.rio_base.proofs.Rules.{ends_by_well, rose_later}
use Rattle.block_alloc.specs.Bitmap.{handed}
use Rattle.block_alloc.specs.declared.taking.TakeFail.{TakeFail}
use Rattle.block_alloc.specs.declared.taking.TakeFail.TheVariants.{Fault, Memory, NoSpace, Stopped}

-- ---- a word that is read without the disk

pub halts_ok : {T U E : Type 0} (s t : Health) (x : T) (y : U) → Ends s t (Ok x) → Halts {T = U} {E = E} s t (Ok y)
halts_ok s t x y h = record { later = h.later; stays = h.stays; cause = h.cause }

pub halts_stopped : {T U E : Type 0} (s t : Health) (fail : VolFail) (e : E) → fail ≡ MachineStopped → Ends {T = T} s t (Err fail) → Halts {T = U} s t (Err e)
halts_stopped {T = T} s t fail e is h =
    let stop : Ends {T = T} s t (Err MachineStopped) = subst (λ f. Ends {T = T} s t (Err f)) is h in
    record { later = stop.later; stays = stop.stays; cause = stop.cause }

pub same_update : (s t : Health) (a b : Below) (k l : Kept) → Passes s a k t b l → SameUpdate k l
same_update s t a b k l h = record { updating = h.updating; touched = h.touched; touches = h.touches }

-- ---- blocks that are taken

pub ends_none : {T : Type 0} (s t : Health) → s.faults ≤ t.faults → t.stopped ≡ s.stopped → EndsBy s t (IsErrOf {T = T} (Err NoSpace) Fault) (IsErrOf {T = T} (Err NoSpace) Stopped)
ends_none s t later running = ends_by_well s t _ _ later running (λ e. cc) (λ e. cc)

pub ends_well : {T : Type 0} (s t : Health) (x : T) → s.faults ≤ t.faults → t.stopped ≡ s.stopped → EndsBy s t (IsErrOf (Ok x) Fault) (IsErrOf (Ok x) Stopped)
ends_well s t x later running = ends_by_well s t _ _ later running (λ e. cc) (λ e. cc)

pub ends_memory : {T : Type 0} (s m t : Health) (q : Result T TakeFail) (d : TakeFail) → q ≡ Err d → d ≡ Memory → s.faults ≤ m.faults → m.stopped ≡ s.stopped → m.faults ≤ t.faults → t.stopped ≡ m.stopped → EndsBy s t (IsErrOf q Fault) (IsErrOf q Stopped)
ends_memory {T = T} s m t q d is same later running more on = subst (λ (r : Result T TakeFail). EndsBy s t (IsErrOf r Fault) (IsErrOf r Stopped)) (sym (is ∙ ap Err same)) (ends_by_well s t _ _ (le_trans later more) (on ∙ running) (λ e. cc) (λ e. cc))

handed_on : {T U : Type 0} (s m t : Health) (fail : VolFail) → s.faults ≤ m.faults → m.stopped ≡ s.stopped → Ends {T = T} m t (Err fail) → EndsBy s t (IsErrOf {T = U} (Err (handed fail)) Fault) (IsErrOf {T = U} (Err (handed fail)) Stopped)
handed_on s m t DiskFault later running h = record { later = le_trans later h.later; stays = λ e. h.stays (running ∙ e); cause = λ f. rose_later s.faults m.faults t.faults later h.cause.0; told = λ e. cc; runs = λ n. h.cause.1 ∙ running }
handed_on s m t MachineStopped later running h = record { later = le_trans later h.later; stays = λ e. h.stays (running ∙ e); cause = λ f. cc; told = λ e. h.cause; runs = λ n. absurd (n refl) }

-- a failure that is handed on, behind calls that ended well
pub ends_handed : {T U : Type 0} (s m t : Health) (r : Result T VolFail) (q : Result U TakeFail) (fail : VolFail) (d : TakeFail) → r ≡ Err fail → q ≡ Err d → d ≡ handed fail → s.faults ≤ m.faults → m.stopped ≡ s.stopped → Ends m t r → EndsBy s t (IsErrOf q Fault) (IsErrOf q Stopped)
ends_handed {T = T} {U = U} s m t r q fail d told is same later running h =
    subst (λ (a : Result U TakeFail). EndsBy s t (IsErrOf a Fault) (IsErrOf a Stopped)) (sym (is ∙ ap Err same)) (handed_on s m t fail later running (subst (λ (a : Result T VolFail). Ends m t a) told h))

pub space_handed : {U : Type 0} (q : Result U TakeFail) (fail : VolFail) (d : TakeFail) → q ≡ Err d → d ≡ handed fail → IsErrOf q NoSpace → ⊥
space_handed q DiskFault d is same none = cc
space_handed q MachineStopped d is same none = cc

pub space_memory : {U : Type 0} (q : Result U TakeFail) (d : TakeFail) → q ≡ Err d → d ≡ Memory → IsErrOf q NoSpace → ⊥
space_memory q d is same none = cc

-- ---- calls on blocks

err_as : {T U : Type 0} (s t : Health) (fail : VolFail) → Ends {T = T} s t (Err fail) → Ends {T = U} s t (Err fail)
err_as s t DiskFault h = record { later = h.later; stays = h.stays; cause = h.cause }
err_as s t MachineStopped h = record { later = h.later; stays = h.stays; cause = h.cause }

pub ends_err : {T U : Type 0} (s t : Health) (r : Result T VolFail) (q : Result U VolFail) (fail d : VolFail) → r ≡ Err fail → q ≡ Err d → d ≡ fail → Ends s t r → Ends s t q
ends_err {T = T} {U = U} s t r q fail d told is same h = subst (λ (a : Result U VolFail). Ends s t a) (sym (is ∙ ap Err same)) (err_as s t fail (subst (λ (a : Result T VolFail). Ends s t a) told h))

pub ends_failed : {T U : Type 0} (s m t : Health) (r : Result T VolFail) (q : Result U VolFail) (fail d : VolFail) → r ≡ Err fail → q ≡ Err d → d ≡ fail → s.faults ≤ m.faults → m.stopped ≡ s.stopped → Ends m t r → Ends s t q
ends_failed s m t r q fail d told is same later running h = ends_later s m t q later running (ends_err m t r q fail d told is same h)

pub ends_ok : {T U : Type 0} (s t : Health) (x : T) (y : U) → Ends s t (Ok x) → Ends s t (Ok y)
ends_ok s t x y h = record { later = h.later; stays = h.stays; cause = h.cause }

pub ends_ran : {T : Type 0} (s t : Health) (x : T) → s.faults ≤ t.faults → t.stopped ≡ s.stopped → Ends s t (Ok x)
ends_ran s t x later running = record { later = later; stays = λ e. running ∙ e; cause = running }

-- ---- stops

pub halts_told : {T U E : Type 0} (s t : Health) (e : E) (q : Result U E) → IsErr q → Halts {T = T} s t (Err e) → Halts s t q
halts_told s t e (Ok x) is h = absurd (true_false (sym is))
halts_told s t e (Err d) is h = record { later = h.later; stays = h.stays; cause = h.cause }

pub halts_later : {T E : Type 0} (s m t : Health) (q : Result T E) → s.faults ≤ m.faults → m.stopped ≡ s.stopped → Halts m t q → Halts s t q
halts_later s m t (Ok x) later running h = record { later = le_trans later h.later; stays = λ e. h.stays (running ∙ e); cause = h.cause ∙ running }
halts_later s m t (Err d) later running h = record { later = le_trans later h.later; stays = λ e. h.stays (running ∙ e); cause = h.cause }
