-- What the machine's rules are for the volume.
use Rattle.cached_pages.proofs.Common.{◌≡◌, ℕ, ◌*◌, ◌/◌, ◌≤◌, not, Bool, true, false, ◌⊎◌, length, Some, refl, ◌∙◌, ap, subst, sym, inl, inr, arith, Stopped, Contents, Lasts, Running, StepEnds, Steps, true_false, Goes, frames_of}
use Rattle.std.specs.Prelude.{nat_lt, Result, Ok, Err, IsErrOf}
use Rattle.std.proofs.lemmas.Bool.{ltb-false, lt-ltb}
use Rattle.rio_base.specs.declared.failures.VolFail.{VolFail}
use Rattle.rio_base.specs.declared.failures.VolFail.TheVariants.{Fault}
use Rattle.rio_base.specs.Blocks.{Ends}
use Rattle.rio_base.specs.Failures.{Rose}
use Rattle.rio_base.proofs.MachineRules.{ends_as, ends_err, ends_none, never}
use Rattle.rio_base.specs.Machine.{FaultCause, StopReason}
use Rattle.rio_base.specs.Volume.{Quiet, Runs, StopCause}
use Rattle.rio_model.specs.Cover.{causes_of}
use Rattle.cached_pages.specs.declared.tables.CacheTables.{CacheTables}
use Rattle.cached_pages.specs.Caches.{FewWrites, cache_below, cache_health}

cause_by : (r s : Running) (a b : Bool) → r.stopped ≡ a → s.stopped ≡ b → Steps r s → StopCause (causes_of r) (causes_of s) a b
cause_by r s true b e d h = ap (λ (u : Running). u.trapped) (h.frozen e)
cause_by r s false false e d h = h.running d
cause_by r s false true e d h = from (h.reason e d)
  where
    from : StopReason r s → ((a : ℕ) × (r.armed ≡ Some a) × (nat_lt (512 * (a / 512)) r.protected ≡ true) × (s.trapped ≡ Some a)) ⊎ ((s.trapped ≡ r.trapped) × (r.stop_set ≡ true))
    from (inl t) = inl (t.0, t.1, lt-ltb _ _ (omega (arith, t.2)), t.3)
    from (inr t) = inr t

pub runs_of : (c d : Contents) (r s : Running) → Lasts c d → Steps r s → frames_of d.words ≡ frames_of c.words → Runs (cache_health c r) (cache_below c r) (cache_health d s) (cache_below d s)
runs_of c d r s l h frames = record {
  later = l.faults.later;
  stays = λ t. ap (λ (u : Running). u.stopped) (h.frozen t) ∙ t;
  written = l.writes;
  roomy = rw (frames, l.blocks) refl;
  around = l.around;
  stop_set = h.stop_set;
  protected = ap (λ (n : ℕ). λ (p : ℕ). nat_lt (512 * p) n) h.protected;
  armed = h.armed;
  cause = cause_by r s r.stopped s.stopped refl refl h;
  memory = rw (h.protected, h.scratch_count) refl;
  limit = record { limit = l.faults.limit };
}

pub roomy_is : (frames count : ℕ) → not (nat_lt frames count) ≡ true → count ≤ frames
roomy_is frames count e = from (nat_lt frames count) refl e
  where
    from : (x : Bool) → nat_lt frames count ≡ x → not x ≡ true → count ≤ frames
    from true q z = absurd (true_false (sym z))
    from false q z = ltb-false frames count q

quiet_few : (b : ℕ) (t : CacheTables) (c d : Contents) (r s : Running) → FewWrites b t c d → Quiet (cache_below c r) (cache_below d s)
quiet_few b t c d r s h = record {
  home = λ e. let st = h.roomy (roomy_is (frames_of c.words) (length c.disk) e) in rw (st.disk, st.pending) refl;
  writes = λ e. (h.roomy (roomy_is (frames_of c.words) (length c.disk) e)).writes;
}

pub goes_few : (b : ℕ) (t : CacheTables) (c d : Contents) (r s : Running) → Lasts c d → Steps r s → frames_of d.words ≡ frames_of c.words → FewWrites b t c d → Goes (cache_health c r) (cache_below c r) (cache_health d s) (cache_below d s)
goes_few b t c d r s l h frames few = record { runs = runs_of c d r s l h frames; quiet = quiet_few b t c d r s few }

-- ---- how two calls end

-- two calls that did not answer Stopped
pub ends_ok : (a b c : Running) (one two stop : Type 0) → (one → ⊥) → (two → ⊥) → (stop → ⊥) → StepEnds a b one → StepEnds b c two → StepEnds a c stop
ends_ok a b c one two stop n m o h k = ends_as a b c one two stop n h k (λ s. absurd (o s)) (λ s. absurd (m s))

-- a count rose after it may have risen
pub rose_after : (a b c : ℕ) → a ≤ b → Rose b c → Rose a c
rose_after a b c le (inl more) = inl (omega (arith, le, more))
rose_after a b c le (inr most) = inr most

-- ---- how a call ends, for the volume

pub ends_of : {T : Type 0} (old new : Contents) (r s : Running) (answer : Result T VolFail) → Lasts old new → FaultCause old new (IsErrOf answer Fault) → StepEnds r s (IsErrOf answer Stopped) → Ends (cache_health old r) (cache_health new s) answer
ends_of old new r s (Ok x) l f e = record { later = l.faults.later; stays = λ t. ap (λ (u : Running). u.stopped) (e.steps.frozen t) ∙ t; cause = e.runs (λ q. cc) }
ends_of old new r s (Err Fault) l f e = record { later = l.faults.later; stays = λ t. ap (λ (u : Running). u.stopped) (e.steps.frozen t) ∙ t; cause = (f refl, e.runs (λ q. cc)) }
ends_of old new r s (Err Stopped) l f e = record { later = l.faults.later; stays = λ t. ap (λ (u : Running). u.stopped) (e.steps.frozen t) ∙ t; cause = e.told refl }

unlike : {T : Type 0} (answer : Result T VolFail) → IsErrOf answer Stopped → IsErrOf answer Fault → ⊥
unlike answer s f = cc

-- two calls, of which the second was stopped
pub ends_stopped : {T : Type 0} (old new : Contents) (r m s : Running) (none one : Type 0) (answer : Result T VolFail) → IsErrOf answer Stopped → (none → ⊥) → one → Lasts old new → StepEnds r m none → StepEnds m s one → Ends (cache_health old r) (cache_health new s) answer
ends_stopped old new r m s none one answer stop n o l h k = ends_of old new r s answer l (λ q. absurd (unlike answer stop q)) (ends_err r m s one (IsErrOf answer Stopped) o stop h.steps k)

-- two calls that answered Ok
pub ends_both : {T : Type 0} (x : T) (old new : Contents) (r m s : Running) (one two : Type 0) → (one → ⊥) → (two → ⊥) → Lasts old new → StepEnds r m one → StepEnds m s two → Ends {T = T} (cache_health old r) (cache_health new s) (Ok x)
ends_both x old new r m s one two n o l h k = ends_of old new r s (Ok x) l (λ q. cc) (ends_ok r m s one two _ n o (λ q. cc) h k)

pub apart : {T : Type 0} (e : VolFail) → e ≡ Fault → IsErrOf {T = T} (Err e) Stopped → ⊥
apart e is q = cc

-- one call that failed by a fault, which is told with an answer of another type
pub ends_fault : {T U : Type 0} (old new : Contents) (r s : Running) (e : VolFail) → e ≡ Fault → Lasts old new → FaultCause old new (IsErrOf {T = T} (Err e) Fault) → StepEnds r s (IsErrOf {T = T} (Err e) Stopped) → Ends {T = U} (cache_health old r) (cache_health new s) (Err Fault)
ends_fault old new r s e is l f k = record { later = l.faults.later; stays = λ t. ap (λ (u : Running). u.stopped) (k.steps.frozen t) ∙ t; cause = (f (ap Err is), k.runs (apart e is)) }

-- an answer with a value, and one with a value of another type
pub ends_value : {T U E : Type 0} (x : T) (y : U) (e : E) (a b : Running) → StepEnds a b (IsErrOf (Ok x) e) → StepEnds a b (IsErrOf (Ok y) e)
ends_value x y e a b h = record { steps = h.steps; told = λ q. absurd (never y e q); runs = λ q. h.runs (never x e) }

-- a failure that is handed on with an answer of another type
pub told_err : {T U E : Type 0} (e fault : E) (answer : Result U E) → answer ≡ Err e → IsErrOf answer fault → IsErrOf {T = T} (Err e) fault
told_err e fault answer same q = cc

-- a call that did not answer Stopped, nor does what stands for it
pub ends_quiet : (a b : Running) (none stop : Type 0) → (none → ⊥) → (stop → ⊥) → StepEnds a b none → StepEnds a b stop
ends_quiet a b none stop n o h = record { steps = h.steps; told = λ q. absurd (o q); runs = λ q. h.runs n }

-- a call that was stopped, and so says what stands for it
pub ends_stop : (a b : Running) (stop told : Type 0) → stop → told → StepEnds a b stop → StepEnds a b told
ends_stop a b stop told is tells h = record { steps = h.steps; told = λ q. h.told is; runs = λ n. absurd (n tells) }

-- nothing ran, and the answer does not say that it was stopped
pub ends_same : (r s : Running) (stop : Type 0) → s ≡ r → (stop → ⊥) → StepEnds r s stop
ends_same r s stop same n = subst (λ x. StepEnds r x stop) (sym same) (ends_none r stop n)
