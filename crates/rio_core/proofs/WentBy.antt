-- What a request did to the machine below, by how the call on the volume ended.
use Rattle.rio_core.proofs.Common.{◌≡◌, ◌⊎◌, ℕ, Bool, true, false, refl, sym, ap, subst, ◌∙◌, inl, inr, arith, List, [], ◌∷◌, Option, Some, None, IfOk, IsErr, Ino, Reply, Request}
use Rattle.std.proofs.Common.{le_refl}
use Rattle.std.specs.Prelude.{◌≤◌, Result, Ok, Err, OnErr}
use Rattle.rio_base.specs.declared.failures.Stopped.{Stopped as MachineStopped}
use Rattle.rio_base.specs.Blocks.{Causes, EndsBy, Health}
use Rattle.rio_base.specs.Failures.{Rose, RoseBy}
use Rattle.rio_base.specs.Volume.{Below, Quiet, Runs, StopCause}
use Rattle.rio_requests.specs.declared.reply.Reply.TheVariants.{Ok as Done, Fault as Faulted}
use Rattle.rio_requests.specs.declared.request.Request.TheVariants.{Mkdir, Create, Region as MakeRegion, Write, Read, Truncate, Unlink, Rmdir, Rename, Stat as StatOf, List as ListOf, Sync, Begin, Range, Put, Get, Alloc, Free, Commit, Abort, Txns, Arm}
use Rattle.rio_requests.specs.Went.{MakesSteps, NoFlush, StoppedOn, Went, armed_by, fault_of, faults_in}
use Rattle.rio_requests.proofs.WentRules.{lasts_refl, lasts_runs, quiet_refl}
use Rattle.rio_core.specs.Replying.{TellsTxns}
use Rattle.rio_core.specs.Serving.{TellsFault}

-- ---- requests that make steps

abbrev pub OfFiles : Request → Type 0
OfFiles r = ((path : List ℕ) × (r ≡ Mkdir path)) ⊎ ((path : List ℕ) × (r ≡ Create path)) ⊎ ((path : List ℕ) × (pages : ℕ) × (undo : ℕ) × (r ≡ MakeRegion path pages undo)) ⊎ ((path : List ℕ) × (off : ℕ) × (bytes : List ℕ) × (r ≡ Write path off bytes)) ⊎ ((path : List ℕ) × (off : ℕ) × (len : ℕ) × (r ≡ Read path off len)) ⊎ ((path : List ℕ) × (len : ℕ) × (r ≡ Truncate path len)) ⊎ ((path : List ℕ) × (r ≡ Unlink path)) ⊎ ((path : List ℕ) × (r ≡ Rmdir path)) ⊎ ((path : List ℕ) × (to : List ℕ) × (r ≡ Rename path to)) ⊎ ((path : List ℕ) × (r ≡ StatOf path)) ⊎ ((path : List ℕ) × (r ≡ ListOf path))

pub file_forms : (r : Request) → OfFiles r → MakesSteps r
file_forms r (inl (path, is)) = subst MakesSteps (sym is) tt
file_forms r (inr (inl (path, is))) = subst MakesSteps (sym is) tt
file_forms r (inr (inr (inl (path, pages, undo, is)))) = subst MakesSteps (sym is) tt
file_forms r (inr (inr (inr (inl (path, off, bytes, is))))) = subst MakesSteps (sym is) tt
file_forms r (inr (inr (inr (inr (inl (path, off, len, is)))))) = subst MakesSteps (sym is) tt
file_forms r (inr (inr (inr (inr (inr (inl (path, len, is))))))) = subst MakesSteps (sym is) tt
file_forms r (inr (inr (inr (inr (inr (inr (inl (path, is)))))))) = subst MakesSteps (sym is) tt
file_forms r (inr (inr (inr (inr (inr (inr (inr (inl (path, is))))))))) = subst MakesSteps (sym is) tt
file_forms r (inr (inr (inr (inr (inr (inr (inr (inr (inl (path, to, is)))))))))) = subst MakesSteps (sym is) tt
file_forms r (inr (inr (inr (inr (inr (inr (inr (inr (inr (inl (path, is))))))))))) = subst MakesSteps (sym is) tt
file_forms r (inr (inr (inr (inr (inr (inr (inr (inr (inr (inr (path, is))))))))))) = subst MakesSteps (sym is) tt

-- they are no flush
pub file_kept : (r : Request) → OfFiles r → NoFlush r
file_kept r (inl (path, is)) = subst NoFlush (sym is) tt
file_kept r (inr (inl (path, is))) = subst NoFlush (sym is) tt
file_kept r (inr (inr (inl (path, pages, undo, is)))) = subst NoFlush (sym is) tt
file_kept r (inr (inr (inr (inl (path, off, bytes, is))))) = subst NoFlush (sym is) tt
file_kept r (inr (inr (inr (inr (inl (path, off, len, is)))))) = subst NoFlush (sym is) tt
file_kept r (inr (inr (inr (inr (inr (inl (path, len, is))))))) = subst NoFlush (sym is) tt
file_kept r (inr (inr (inr (inr (inr (inr (inl (path, is)))))))) = subst NoFlush (sym is) tt
file_kept r (inr (inr (inr (inr (inr (inr (inr (inl (path, is))))))))) = subst NoFlush (sym is) tt
file_kept r (inr (inr (inr (inr (inr (inr (inr (inr (inl (path, to, is)))))))))) = subst NoFlush (sym is) tt
file_kept r (inr (inr (inr (inr (inr (inr (inr (inr (inr (inl (path, is))))))))))) = subst NoFlush (sym is) tt
file_kept r (inr (inr (inr (inr (inr (inr (inr (inr (inr (inr (path, is))))))))))) = subst NoFlush (sym is) tt

abbrev pub OfRegions : List ℕ → Request → Type 0
OfRegions path r = (r ≡ Begin path) ⊎ ((off : ℕ) × (len : ℕ) × (r ≡ Range path off len)) ⊎ ((off : ℕ) × (bytes : List ℕ) × (r ≡ Put path off bytes)) ⊎ ((off : ℕ) × (len : ℕ) × (r ≡ Get path off len)) ⊎ ((units : ℕ) × (r ≡ Alloc path units)) ⊎ ((at : ℕ) × (r ≡ Free path at)) ⊎ (r ≡ Commit path) ⊎ (r ≡ Abort path)

pub region_forms : (path : List ℕ) (r : Request) → OfRegions path r → MakesSteps r
region_forms path r (inl is) = subst MakesSteps (sym is) tt
region_forms path r (inr (inl (off, len, is))) = subst MakesSteps (sym is) tt
region_forms path r (inr (inr (inl (off, bytes, is)))) = subst MakesSteps (sym is) tt
region_forms path r (inr (inr (inr (inl (off, len, is))))) = subst MakesSteps (sym is) tt
region_forms path r (inr (inr (inr (inr (inl (units, is)))))) = subst MakesSteps (sym is) tt
region_forms path r (inr (inr (inr (inr (inr (inl (at, is))))))) = subst MakesSteps (sym is) tt
region_forms path r (inr (inr (inr (inr (inr (inr (inl is))))))) = subst MakesSteps (sym is) tt
region_forms path r (inr (inr (inr (inr (inr (inr (inr is))))))) = subst MakesSteps (sym is) tt

-- it arms nothing
armed_still : (r : Request) (reply : Reply) (o : Option ℕ) → MakesSteps r → armed_by (Some r) reply o ≡ o
armed_still (Arm step at value) reply o steps = absurd steps
armed_still _ reply o steps = refl

-- ---- causes

cause_same : (old new : Causes) (a b : Bool) → b ≡ a → StopCause old new a b → new.trapped ≡ old.trapped
cause_same old new true true e h = h
cause_same old new true false e h = h
cause_same old new false true e h = cc
cause_same old new false false e h = h

cause_stop : (old new : Causes) (a b : Bool) → a ≡ false → b ≡ true → StopCause old new a b → StopCause old new false true
cause_stop old new a b ran stopped h = subst (λ y. StopCause old new false y) stopped (subst (λ x. StopCause old new x b) ran h)

-- ---- faults

counted_reply : (reply : Reply) (before after : ℕ) → before ≤ after → (TellsFault (Ok reply) → Rose before after) → RoseBy (faults_in (reply ∷ [])) before after
counted_reply (Faulted done) before after later cause = from (cause tt)
  where
    from : Rose before after → RoseBy 1 before after
    from (inl more) = inl (omega (arith, more))
    from (inr most) = inr most
counted_reply _ before after later cause = inl (omega (arith, later))

-- ---- one request

-- one that the volume below served
pub went_on : (r : Request) (p : Result Reply MachineStopped) (s : Health) (old : Below) (t : Health) (new : Below) → MakesSteps r → Runs s old t new → (NoFlush r → Quiet old new) → EndsBy s t (TellsFault p) (IsErr p) → IfOk p (λ reply. Went (Some r ∷ []) (reply ∷ []) s old t new)
went_on r (Ok reply) s old t new steps runs quiet ends = record {
  replied = refl;
  later = ends.later;
  counted = counted_reply reply s.faults t.faults ends.later ends.cause;
  lasts = lasts_runs s old t new runs;
  running = ends.runs (λ e. cc);
  trapped = cause_same old.causes new.causes s.stopped t.stopped (ends.runs (λ e. cc)) runs.cause;
  armed = by runs.armed;
  quiet = λ none. quiet none.0;
}
  where
    by : (new.causes.armed ≡ old.causes.armed) ⊎ (new.causes.armed ≡ None) → (new.causes.armed ≡ None) ⊎ (new.causes.armed ≡ armed_by (Some r) reply old.causes.armed)
    by (inl same) = inr (same ∙ sym (armed_still r reply old.causes.armed steps))
    by (inr none) = inl none
went_on r (Err e) s old t new steps runs quiet ends = tt

-- one that stopped it
pub stopped_on : (r : Request) (p : Result Reply MachineStopped) (s : Health) (old : Below) (t : Health) (new : Below) → MakesSteps r → s.stopped ≡ false → Runs s old t new → (NoFlush r → Quiet old new) → EndsBy s t (TellsFault p) (IsErr p) → OnErr p (StoppedOn r s old t new)
stopped_on r (Ok reply) s old t new steps ran runs quiet ends = tt
stopped_on r (Err e) s old t new steps ran runs quiet ends = record {
  ran = ran;
  stopped = ends.told refl;
  later = ends.later;
  lasts = lasts_runs s old t new runs;
  armed = runs.armed;
  cause = inr (steps, cause_stop old.causes new.causes s.stopped t.stopped ran (ends.told refl) runs.cause);
  quiet = quiet;
}

-- one that did nothing
pub went_still : (r : Request) (reply : Reply) (s : Health) (b : Below) → fault_of reply ≡ 0 → armed_by (Some r) reply b.causes.armed ≡ b.causes.armed → Went (Some r ∷ []) (reply ∷ []) s b s b
went_still r reply s b told armed = record {
  replied = refl;
  later = le_refl s.faults;
  counted = inl (omega (arith, told));
  lasts = lasts_refl b;
  running = refl;
  trapped = refl;
  armed = inr (sym armed);
  quiet = λ none. quiet_refl b;
}

pub went_sync : (r : Request) (s : Health) (b : Below) → r ≡ Sync → Went (Some r ∷ []) (Done ∷ []) s b s b
went_sync r s b is = subst (λ (q : Request). Went (Some q ∷ []) (Done ∷ []) s b s b) (sym is) (went_still Sync Done s b refl refl)

pub went_txns : {E : Type 0} (r : Request) (s : Health) (b : Below) (list : Result (List Ino) E) (reply : Reply) → r ≡ Txns → TellsTxns list reply → Went (Some r ∷ []) (reply ∷ []) s b s b
went_txns {E = E} r s b list reply is tells = subst (λ (q : Request). Went (Some q ∷ []) (reply ∷ []) s b s b) (sym is) (went_still Txns reply s b (by list tells) refl)
  where
    by : (l : Result (List Ino) E) → TellsTxns l reply → fault_of reply ≡ 0
    by (Ok inos) told = ap fault_of told
    by (Err e) told = ap fault_of told

-- a list of open transactions is told by no fault
pub txns_no_fault : {E : Type 0} (list : Result (List Ino) E) (reply : Reply) → TellsTxns list reply → TellsFault (Ok reply) → ⊥
txns_no_fault (Ok inos) reply told f = subst (λ (q : Reply). TellsFault (Ok q)) told f
txns_no_fault (Err e) reply told f = subst (λ (q : Reply). TellsFault (Ok q)) told f
