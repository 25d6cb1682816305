-- How a request ends over a running core.
use Rattle.rio_core.proofs.Common.{◌≡◌, ℕ, ◌*◌, false, refl, sym, ap, subst, ◌∙◌, inl, inr, List, map, IfOk, IsErr, Ino, VolumeShape, BlockWords, Seen, Kept, Settled, Reply, Request, State, crashed, volume_layout, LeavesInUse, Ready, Stands, Marks}
use Rattle.std.proofs.Common.{◌+◌}
use Rattle.std.specs.Prelude.{Result, Ok, Err, OnErr, OnOk, Some}
use Rattle.rio_base.specs.declared.failures.Stopped.{Stopped as MachineStopped}
use Rattle.rio_base.specs.declared.failures.VolFail.{VolFail}
use Rattle.rio_base.specs.declared.failures.VolFail.TheVariants.{Fault as DiskFault, Stopped as HaltFault}
use Rattle.rio_base.specs.Rules.{true_false}
use Rattle.rio_base.specs.Blocks.{Drops, Ends, EndsBy, Halts, Health, Looks}
use Rattle.rio_base.specs.Volume.{Below, Firm, Goes, Passes, Runs}
use Rattle.rio_requests.specs.declared.reply.Reply.TheVariants.{Ok as Done, Inos, Fault as Faulted}
use Rattle.rio_requests.specs.declared.request.Request.TheVariants.{Flush, Sync, Txns}
use Rattle.rio_requests.specs.Answer.{answered}
use Rattle.rio_requests.proofs.AnswerRules.{step_keeps}
use Rattle.rio_requests.specs.Parts.{IsPart}
use Rattle.rio_requests.specs.Run.{Step}
use Rattle.rio_model.specs.VolumeReady.{Bears}
use Rattle.node_pages.proofs.OrderRules.{firm_on}
use Rattle.rio_core.specs.Replying.{TellsTxns}
use Rattle.rio_core.specs.Serving.{Answering, Holds, RequestEnds, Serves, TellsFault}
use Rattle.rio_core.proofs.FileRequests.{same_serves}
use Rattle.rio_core.proofs.Lookups.{inos_open}
use Rattle.rio_core.proofs.RegionEnds.{stands_same}

-- t is what the step leads to, and is served
holds_next : (shape : VolumeShape) (x : Seen) (k : Kept) (h : Health) (b : Below) (marks : Marks) (t : VolumeShape) (y : Seen) (j : Kept) (g : Health) (c : Below) (new : Marks) (s u : State) (r : Request) (reply : Reply) → Holds shape x k h b marks s → Step s (Some r) reply u → Serves t y j new u → Runs h b g c → g.stopped ≡ false → Holds t y j g c new u
holds_next shape x k h b marks t y j g c new s u r reply holds step serves runs running =
    let keeps = step_keeps s r reply u step in
    record {
      serves = serves;
      running = running;
      pages = ap (λ n. 512 * n) keeps.pages ∙ holds.pages ∙ ap (λ m. m.protected + m.scratch) (sym runs.memory);
      scratch = ap (λ n. 512 * n) keeps.scratch ∙ holds.scratch ∙ ap (λ m. m.scratch) (sym runs.memory);
    }

-- ---- requests on files and on regions

-- a request that the volume below ended so is answered
pub answering : (shape : VolumeShape) (x : Seen) (k : Kept) (h : Health) (b : Below) (marks : Marks) (t : VolumeShape) (y : Seen) (j : Kept) (g : Health) (c : Below) (new : Marks) (s : State) (r : Request) (p : Result Reply MachineStopped) → t ≡ shape → Holds shape x k h b marks s → RequestEnds shape y j new s r p → Goes h b g c → EndsBy h g (TellsFault p) (IsErr p) → Answering (Holds t y j g c new) (λ u. Stands t y j (crashed u)) s r p
answering shape x k h b marks t y j g c new s r (Ok reply) same holds (u, step, serves) goes ends =
    (u, step, holds_next shape x k h b marks t y j g c new s u r reply holds step (subst (λ (q : VolumeShape). Serves q y j new u) (sym same) serves) goes.runs (ends.runs (λ e. cc) ∙ holds.running))
answering shape x k h b marks t y j g c new s r (Err e) same holds (u, part, stands) goes ends = (u, part, subst (λ (q : VolumeShape). Stands q y j (crashed u)) (sym same) stands)

-- ---- sync and txns

pub synced : (shape : VolumeShape) (x : Seen) (k : Kept) (h : Health) (b : Below) (marks : Marks) (s : State) → Holds shape x k h b marks s → Answering (Holds shape x k h b marks) (λ u. Stands shape x k (crashed u)) s Sync (Ok Done)
synced shape x k h b marks s holds = (s, inl refl, holds)

pub txns_told : {E : Type 0} (shape : VolumeShape) (x : Seen) (k : Kept) (h : Health) (b : Below) (marks : Marks) (s : State) (list : Result (List Ino) E) (reply : Reply) → Holds shape x k h b marks s → IfOk list (λ l. map (λ (i : Ino). i.0) l ≡ map (λ m. m.0) marks) → TellsTxns list reply → Answering (Holds shape x k h b marks) (λ u. Stands shape x k (crashed u)) s Txns (Ok reply)
txns_told shape x k h b marks s (Ok inos) reply holds is tells = (s, inl (ap (λ l. answered s (Inos l)) (sym (inos_open inos marks s holds.serves.regions.marked is)) ∙ ap (answered s) (sym tells)), holds)
txns_told shape x k h b marks s (Err e) reply holds is tells = (s, inr (inl (tt, tells, refl)), holds)

-- ---- flush

-- nothing in use differs
pub flush_leaves : (shape : VolumeShape) (x : Seen) (k : Kept) (y : Seen) (j : Kept) → Ready shape x k → Looks x y → j.standing ≡ k.standing → Firm k j → Drops x y → j.updating ≡ false → LeavesInUse (volume_layout shape x.words) x k y j
flush_leaves shape x k y j h looks standing firm drops idle = record {
  words = record { low = λ b w low. ap (λ (f : BlockWords). f b w) looks.words; owned = λ i t own w. ap (λ (f : BlockWords). f (((volume_layout shape x.words).node i).block t) w) looks.words };
  standing = record { low = λ b w low. ap (λ (f : BlockWords). f b w) standing; owned = λ i t own w. ap (λ (f : BlockWords). f (((volume_layout shape x.words).node i).block t) w) standing };
  has_shape = record {
    sizes = h.order.has_shape.sizes;
    count = looks.count ∙ h.order.has_shape.count;
    unnamed = λ b low on. let was = drops.kept b on in was.1 ∙ h.order.has_shape.unnamed b low was.0;
  };
  named = record { each = λ i ino s has on. let was = drops.kept (((volume_layout shape x.words).node i).block s) on in subst (Bears i ((volume_layout shape x.words).node i) s) (sym was.1) (h.order.named.each i ino s has was.0) };
  firm = firm_on _ k j h.order.firm firm;
  idle = idle;
}

flush_holds : (shape : VolumeShape) (x : Seen) (k : Kept) (h : Health) (b : Below) (marks : Marks) (y : Seen) (j : Kept) (g : Health) (c : Below) (s : State) (r : Request) (reply : Reply) → Holds shape x k h b marks s → LeavesInUse (volume_layout shape x.words) x k y j → Runs h b g c → g.stopped ≡ h.stopped → Step s (Some r) reply s → Holds shape y j g c marks s
flush_holds shape x k h b marks y j g c s r reply holds leaves runs same step =
    holds_next shape x k h b marks shape y j g c marks s s r reply holds step (same_serves shape x k y j marks s holds.serves leaves) runs (same ∙ holds.running)

pub flush_done : (shape : VolumeShape) (x : Seen) (k : Kept) (h : Health) (b : Below) (marks : Marks) (y : Seen) (j : Kept) (g : Health) (c : Below) (s : State) (count : ℕ) → Holds shape x k h b marks s → LeavesInUse (volume_layout shape x.words) x k y j → Runs h b g c → g.stopped ≡ h.stopped → Answering (Holds shape y j g c marks) (λ u. Stands shape y j (crashed u)) s (Flush count) (Ok Done)
flush_done shape x k h b marks y j g c s count holds leaves runs same = (s, inl refl, flush_holds shape x k h b marks y j g c s (Flush count) Done holds leaves runs same (inl refl))

pub flush_faults : (shape : VolumeShape) (x : Seen) (k : Kept) (h : Health) (b : Below) (marks : Marks) (y : Seen) (j : Kept) (g : Health) (c : Below) (s : State) (count : ℕ) → Holds shape x k h b marks s → LeavesInUse (volume_layout shape x.words) x k y j → Runs h b g c → g.stopped ≡ h.stopped → Answering (Holds shape y j g c marks) (λ u. Stands shape y j (crashed u)) s (Flush count) (Ok (Faulted 0))
flush_faults shape x k h b marks y j g c s count holds leaves runs same =
    (s, inr (inr (0, refl, (refl, refl))), flush_holds shape x k h b marks y j g c s (Flush count) (Faulted 0) holds leaves runs same (inr (inr (0, refl, (refl, refl)))))

pub flush_stops : (shape : VolumeShape) (x : Seen) (k : Kept) (y : Seen) (j : Kept) (marks : Marks) (s : State) (count : ℕ) → Serves shape x k marks s → Settled x k → LeavesInUse (volume_layout shape x.words) x k y j → (t : State) × IsPart s (Flush count) t × Stands shape y j (crashed t)
flush_stops shape x k y j marks s count serves settled leaves = (s, inl refl, stands_same shape x k y j (crashed s) serves.ready settled leaves serves.reads)

-- a flush that ended with a fault was not stopped
pub fault_runs : {T : Type 0} (s t : Health) (f : VolFail) → f ≡ DiskFault → Ends {T = T} s t (Err f) → t.stopped ≡ s.stopped
fault_runs s t DiskFault is h = h.cause.1
fault_runs s t HaltFault is h = absurd (not_fault is)
  where
    not_fault : HaltFault ≡ DiskFault → ⊥
    not_fault e = cc

-- ---- a page is written ahead

pub ahead_leaves : (shape : VolumeShape) (x : Seen) (k : Kept) (h : Health) (b : Below) (y : Seen) (j : Kept) (g : Health) (c : Below) → Ready shape x k → Looks x y → Drops x y → Passes h b k g c j → LeavesInUse (volume_layout shape x.words) x k y j
ahead_leaves shape x k h b y j g c ready looks drops passes = flush_leaves shape x k y j ready looks passes.standing passes.firm drops (passes.updating ∙ ready.idle)

pub ahead_holds : (shape : VolumeShape) (x : Seen) (k : Kept) (h : Health) (b : Below) (marks : Marks) (y : Seen) (j : Kept) (g : Health) (c : Below) (s : State) (end : Result (Unit {0}) MachineStopped) → Holds shape x k h b marks s → LeavesInUse (volume_layout shape x.words) x k y j → Runs h b g c → Halts h g end → OnOk end (Holds shape y j g c marks s)
ahead_holds shape x k h b marks y j g c s (Ok v) holds leaves runs ends = record {
  serves = same_serves shape x k y j marks s holds.serves leaves;
  running = ends.cause ∙ holds.running;
  pages = holds.pages ∙ ap (λ m. m.protected + m.scratch) (sym runs.memory);
  scratch = holds.scratch ∙ ap (λ m. m.scratch) (sym runs.memory);
}
ahead_holds shape x k h b marks y j g c s (Err e) holds leaves runs ends = tt

pub ahead_stands : (shape : VolumeShape) (x : Seen) (k : Kept) (y : Seen) (j : Kept) (marks : Marks) (s : State) (end : Result (Unit {0}) MachineStopped) → Serves shape x k marks s → Settled x k → LeavesInUse (volume_layout shape x.words) x k y j → OnErr end (Stands shape y j (crashed s))
ahead_stands shape x k y j marks s (Ok v) serves settled leaves = tt
ahead_stands shape x k y j marks s (Err e) serves settled leaves = stands_same shape x k y j (crashed s) serves.ready settled leaves serves.reads

-- the machine stopped then: the request was not begun
pub ahead_answers : (holds stands : State → Type 0) (s : State) (r : Request) (p : Result Reply MachineStopped) → IsErr p → stands s → Answering holds stands s r p
ahead_answers holds stands s r (Ok reply) is still = absurd (cc (is))
ahead_answers holds stands s r (Err e) is still = (s, inl refl, still)

-- ---- how a flush ends

pub not_done : (p : Result Reply MachineStopped) (n : ℕ) → p ≡ Ok (Faulted n) → p ≡ Ok Done → ⊥
not_done p n fault done = cc

pub none_done : (p : Result Reply MachineStopped) (e : MachineStopped) → p ≡ Err e → p ≡ Ok Done → ⊥
none_done p e stopped done = cc

pub flush_well : {T : Type 0} (s t : Health) (x : T) → Ends {T = T} s t (Ok x) → EndsBy s t (TellsFault (Ok Done)) (IsErr {E = MachineStopped} (Ok Done))
flush_well s t x h = record { later = h.later; stays = h.stays; cause = λ f. absurd f; told = λ p. absurd (true_false (sym p)); runs = λ n. h.cause }

pub flush_fault : {T : Type 0} (s t : Health) (f : VolFail) → f ≡ DiskFault → Ends {T = T} s t (Err f) → EndsBy s t (TellsFault (Ok (Faulted 0))) (IsErr {E = MachineStopped} (Ok (Faulted 0)))
flush_fault s t DiskFault is h = record { later = h.later; stays = h.stays; cause = λ f. h.cause.0; told = λ p. absurd (true_false (sym p)); runs = λ n. h.cause.1 }
flush_fault s t HaltFault is h = absurd (cc is)

pub flush_halts : {T : Type 0} (s t : Health) (f : VolFail) (e : MachineStopped) → f ≡ HaltFault → Ends {T = T} s t (Err f) → EndsBy s t (TellsFault (Err e)) (IsErr {T = Reply} (Err e))
flush_halts s t DiskFault e is h = absurd (cc is)
flush_halts s t HaltFault e is h = record { later = h.later; stays = h.stays; cause = λ f. absurd f; told = λ p. h.cause; runs = λ n. absurd (n refl) }
