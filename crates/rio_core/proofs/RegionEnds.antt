-- A request on a region ends as a served request does.
use Rattle.rio_core.proofs.Common.{◌≡◌, ℕ, List, Option, Result, Some, None, Ok, Err, refl, sym, ap, subst, ◌∙◌, VolumeShape, Ino, BlockWords, Seen, Kept, Settled, State, RegionNode, names_of, volume_layout, ReadsAs, LeavesInUse, Ready, IsMapped, Reply, Request, crashed, txn_at, Stands, FindsRegion, OnRegion, RestHeld, FileFail, Refused, Fault, Memory, Fits, Marks, mark_of}
use Rattle.rio_base.specs.declared.failures.Stopped.{Stopped as MachineStopped}
use Rattle.rio_model.specs.Paths.{walk}
use Rattle.rio_model.proofs.VolumeReadRules.{reads_agree}
use Rattle.rio_requests.specs.declared.reply.Reply.TheVariants.{Err as RefusedBy, Fault as Faulted}
use Rattle.node_pages.proofs.OrderRules.{stands_left, stands_ready_left}
use Rattle.rio_model.specs.RegionMoves.{rest_refl}
use Rattle.request_ends.specs.declared.failures.FileFail.TheVariants.{Stopped}
use Rattle.rio_core.proofs.CallEnds.{CallEnds}
use Rattle.rio_core.specs.CallEnds.{CalledOn, IsAt, ReadsHeld, TellsAs, words_at}
use Rattle.rio_core.specs.Replying.{RepliesFail}
use Rattle.rio_core.specs.Serving.{RequestEnds, Serves}
use Rattle.rio_core.proofs.CallRules.{own, sound_before}
use Rattle.rio_core.proofs.HeldRules.{held_fits}
use Rattle.rio_core.proofs.Lookups.{look_failed, look_refused, look_stopped, region_leads}

-- what a serving core reads and holds
pub serves_held : (shape : VolumeShape) (x : Seen) (k : Kept) (marks : Marks) (s : State) → Serves shape x k marks s → ReadsHeld shape x.words marks s
serves_held shape x k marks s h = record { reads = h.reads; regions = h.regions }

pub held_serves : (shape : VolumeShape) (x : Seen) (k : Kept) (marks : Marks) (s : State) → Ready shape x k → ReadsHeld shape x.words marks s → Serves shape x k marks s
held_serves shape x k marks s ready h = record { ready = ready; reads = h.reads; regions = h.regions }

-- all that is in use stands as it was: what was read stands
pub stands_same : (shape : VolumeShape) (x : Seen) (k : Kept) (y : Seen) (j : Kept) (s : State) → Ready shape x k → Settled x k → LeavesInUse (volume_layout shape x.words) x k y j → ReadsAs shape x.words s → Stands shape y j s
stands_same shape x k y j s ready settled leaves reads = record {
  ready = stands_ready_left shape x k y j ready settled leaves;
  reads = reads_agree shape x.words j.standing s reads (stands_left shape x k y j ready settled leaves);
}

-- nothing differs
pub leaves_all : (shape : VolumeShape) (x : Seen) (k : Kept) → Ready shape x k → LeavesInUse (volume_layout shape x.words) x k x k
leaves_all shape x k h = record {
  words = record { low = λ b low w. refl; owned = λ i s own w. refl };
  standing = record { low = λ b low w. refl; owned = λ i s own w. refl };
  has_shape = h.order.has_shape;
  named = h.order.named;
  firm = h.order.firm;
  idle = h.idle;
}

-- it was answered
pub answered_ends : (shape : VolumeShape) (y : Seen) (j : Kept) (marks : Marks) (s : State) (request : Request) (reply : Reply) → Ready shape y j → CallEnds shape y.words marks s request (Some reply) → RequestEnds shape y j marks s request (Ok reply)
answered_ends shape y j marks s request reply ready ends = (ends.0, ends.1, held_serves shape y j marks ends.0 ready ends.2)

-- it was stopped
pub stopped_ends : (shape : VolumeShape) (y : Seen) (j : Kept) (marks : Marks) (s : State) (request : Request) (stopped : MachineStopped) → Ready shape y j → Settled y j → CallEnds shape y.words marks s request None → RequestEnds shape y j marks s request (Err stopped)
stopped_ends shape y j marks s request stopped ready settled ends = (ends.0, ends.1, stands_same shape y j y j _ ready settled (leaves_all shape y j ready) ends.2)

-- ---- by what is told

pub told_ends : (shape : VolumeShape) (y : Seen) (j : Kept) (marks : Marks) (s : State) (request : Request) (o : Option Reply) (result : Result Reply MachineStopped) → Ready shape y j → Settled y j → TellsAs o result → CallEnds shape y.words marks s request o → RequestEnds shape y j marks s request result
told_ends shape y j marks s request (Some reply) result ready settled tells ends = subst (RequestEnds shape y j marks s request) (sym tells) (answered_ends shape y j marks s request reply ready ends)
told_ends shape y j marks s request None (Ok reply) ready settled tells ends = absurd tells
told_ends shape y j marks s request None (Err stopped) ready settled tells ends = stopped_ends shape y j marks s request stopped ready settled ends

-- the region was not looked up
pub look_ends : (shape : VolumeShape) (x y : Seen) (k j : Kept) (marks : Marks) (s : State) (path : List ℕ) (request : Request) (fail : FileFail) (result : Result Reply MachineStopped) → IsAt path request → Serves shape x k marks s → y.words ≡ x.words → Ready shape y j → Settled y j → walk (crashed s) 1 (names_of path) ≡ walk s 1 (names_of path) → FindsRegion (crashed s) path (Err fail) → RepliesFail fail result → RequestEnds shape y j marks s request result
look_ends shape x y k j marks s path request fail result at serves words ready settled same finds tells = by fail result finds tells
  where
    held : ReadsHeld shape y.words marks s
    held = subst (λ w. ReadsHeld shape w marks s) (sym words) (serves_held shape x k marks s serves)

    by : (fail : FileFail) (result : Result Reply MachineStopped) → FindsRegion (crashed s) path (Err fail) → RepliesFail fail result → RequestEnds shape y j marks s request result
    by (Refused c) result finds tells = told_ends shape y j marks s request (Some (RefusedBy c)) result ready settled tells (look_refused shape y.words marks s path request c at held same finds)
    by (Fault k) result finds tells = told_ends shape y j marks s request (Some (Faulted 0)) result ready settled (tells ∙ ap (λ n. Ok (Faulted n)) finds) (look_failed shape y.words marks s path request at held)
    by Memory result finds tells = absurd finds
    by Stopped (Ok reply) finds tells = absurd tells
    by Stopped (Err e) finds tells = told_ends shape y j marks s request None (Err e) ready settled tt (look_stopped shape y.words marks s request held)

-- ---- the call

-- what is so where a call was made on the region that the path leads to: the view stood on it before, z and l, and after
pub called_on : (shape : VolumeShape) (x z y : Seen) (k l j : Kept) (marks : Marks) (s : State) (path : List ℕ) (i : Ino) (n : ℕ) → Serves shape x k marks s → z.words ≡ x.words → walk (crashed s) 1 (names_of path) ≡ walk s 1 (names_of path) → FindsRegion (crashed s) path (Ok i) → OnRegion shape z l i.0 n → Ready shape y j → RestHeld shape i.0 z.words y.words → (r : RegionNode) × CalledOn shape z.words y.words marks s path i.0 n r
called_on shape x z y k l j marks s path i n serves words same finds on ready rest =
    let held : ReadsHeld shape z.words marks s = subst (λ w. ReadsHeld shape w marks s) (sym words) (serves_held shape x k marks s serves) in
    let leads = region_leads shape z.words marks s path i.0 finds.1.0 held same finds.0 finds.1.1 in
    (leads.0, record { before = held; leads = leads.1; node = leads.2; kind = on.region; size = on.size; mapped = ready.order.mapped; rest = rest })

-- its region fits the table before the call
pub called_fits : (shape : VolumeShape) (f g : BlockWords) (marks : Marks) (s : State) (path : List ℕ) (i n : ℕ) (r : RegionNode) → CalledOn shape f g marks s path i n r → Fits marks i n (words_at shape f i)
called_fits shape f g marks s path i n r c = held_fits marks i n (words_at shape f i) (mark_of marks i) r (txn_at s.txns i) (own shape f g marks s path i n r c) refl (sound_before shape f g marks s path i n r c)

-- the same in two steps: the view stands on the region, and then the call is made
pub stood_on : (shape : VolumeShape) (x z : Seen) (k l : Kept) (marks : Marks) (s : State) (path : List ℕ) (i : Ino) (n : ℕ) → Serves shape x k marks s → z.words ≡ x.words → walk (crashed s) 1 (names_of path) ≡ walk s 1 (names_of path) → FindsRegion (crashed s) path (Ok i) → OnRegion shape z l i.0 n → (r : RegionNode) × CalledOn shape z.words z.words marks s path i.0 n r
stood_on shape x z k l marks s path i n serves words same finds on = called_on shape x z z k l l marks s path i n serves words same finds on on.ready (rest_refl shape i.0 z.words)

pub called_after : (shape : VolumeShape) (f g : BlockWords) (marks : Marks) (s : State) (path : List ℕ) (i n : ℕ) (r : RegionNode) → CalledOn shape f f marks s path i n r → IsMapped shape g → RestHeld shape i f g → CalledOn shape f g marks s path i n r
called_after shape f g marks s path i n r c mapped rest = record { before = c.before; leads = c.leads; node = c.node; kind = c.kind; size = c.size; mapped = mapped; rest = rest }
