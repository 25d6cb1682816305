-- Each request on a region, from what a call on a view of its words says, to how the request ends.
use Rattle.rio_core.proofs.Common.{◌≡◌, ℕ, ◌⊎◌, Bool, true, false, Some, None, Result, Ok, Err, List, sym, ap, subst, ◌∙◌, IfOk, IsErr, IsErrOf, Ino, VolumeShape, Seen, RegionContent, Kept, Settled, RegionNode, State, Dropped, Undoes, Ready, Reply, Bytes, Begin, Range, Put, Get, Alloc, Free, Commit, Abort, abort_on, alloc_on, commit_on, free_on, get_on, put_on, range_on, OnRegion, Fits, IsFault, TxnEnds, says_done, says_number, Marks, mark_of, set_mark, txn_in, region_now, TxnFail, Stopped}
use Rattle.std.specs.Prelude.{IfErr, OnOk}
use Rattle.rio_base.specs.declared.failures.Stopped.{Stopped as MachineStopped}
use Rattle.rio_requests.specs.declared.reply.Reply.TheVariants.{Ok as Done}
use Rattle.region_view.specs.Views.{SameBeside}
use Rattle.vista_region.specs.Ends.{OnFault, PutPart, get_refusal_of, says_bytes}
use Rattle.vista_region.specs.declared.failures.BeginFail.{BeginFail}
use Rattle.vista_region.specs.declared.failures.BeginFail.TheVariants.{Busy}
use Rattle.vista_region.specs.declared.failures.GetFail.{GetFail}
use Rattle.rio_core.proofs.CallEnds.{CallEnds}
use Rattle.rio_core.specs.CallEnds.{CalledOn, TellsAs, begin_told, get_told, told, words_at}
use Rattle.rio_core.specs.Serving.{RequestEnds}
use Rattle.rio_core.proofs.RegionEnds.{called_after, told_ends}
use Rattle.rio_core.proofs.RegionRequests.{abort_ends, alloc_ends, begin_ends, commit_ends, free_ends, get_ends, put_ends, range_ends}

-- ---- a view before and after a call

-- a view of region i, x and l, that a call made into one of y and k, which stands on it still
pub record ViewStep (shape : VolumeShape) (i : Ino) (n : ℕ) (x : Seen) (l : Kept) (t : VolumeShape) (j : Ino) (m : ℕ) (y : Seen) (k : Kept) : Type 0 where
  pub still : OnRegion t y k j.0 m
  pub rest : SameBeside shape i n x.words t j m y.words
  pub settled : Settled y k

view_ready : (shape : VolumeShape) (i : Ino) (n : ℕ) (x : Seen) (l : Kept) (t : VolumeShape) (j : Ino) (m : ℕ) (y : Seen) (k : Kept) → ViewStep shape i n x l t j m y k → Ready shape y k
view_ready shape i n x l t j m y k v = subst (λ (q : VolumeShape). Ready q y k) v.rest.shape v.still.ready

view_words : (shape : VolumeShape) (i : Ino) (n : ℕ) (x : Seen) (l : Kept) (t : VolumeShape) (j : Ino) (m : ℕ) (y : Seen) (k : Kept) → ViewStep shape i n x l t j m y k → words_at shape y.words i.0 ≡ words_at t y.words j.0
view_words shape i n x l t j m y k v = sym (ap (λ (q : VolumeShape). words_at q y.words j.0) v.rest.shape ∙ ap (λ (q : Ino). words_at shape y.words q.0) v.rest.ino)

view_called : (shape : VolumeShape) (i : Ino) (n : ℕ) (x : Seen) (l : Kept) (t : VolumeShape) (j : Ino) (m : ℕ) (y : Seen) (k : Kept) → ViewStep shape i n x l t j m y k → (marks : Marks) (s : State) (path : List ℕ) (r : RegionNode) → CalledOn shape x.words x.words marks s path i.0 n r → CalledOn shape x.words y.words marks s path i.0 n r
view_called shape i n x l t j m y k v marks s path r c = called_after shape x.words y.words marks s path i.0 n r c (view_ready shape i n x l t j m y k v).order.mapped v.rest.rest

-- ---- by request

pub range_replied : (shape : VolumeShape) (i : Ino) (n : ℕ) (x : Seen) (l : Kept) (t : VolumeShape) (j : Ino) (m : ℕ) (y : Seen) (k : Kept) → ViewStep shape i n x l t j m y k → (marks new : Marks) (s : State) (path : List ℕ) (r : RegionNode) → CalledOn shape x.words x.words marks s path i.0 n r → (off len : ℕ) (answer : Result (Unit {0}) TxnFail) (result : Result Reply MachineStopped)
    → TxnEnds (range_on (region_now (words_at shape x.words i.0)) (txn_in marks i.0 (words_at shape x.words i.0)) off len) says_done marks new i.0 (words_at shape x.words i.0) (words_at t y.words j.0) answer
    → OnFault answer (λ a. (a ≡ 0) × (region_now (words_at t y.words j.0) ≡ region_now (words_at shape x.words i.0)) × (txn_in new i.0 (words_at t y.words j.0) ≡ txn_in marks i.0 (words_at shape x.words i.0)))
    → new ≡ marks
    → Undoes n (words_at shape x.words i.0) (words_at t y.words j.0)
    → ((IsErrOf answer Stopped → ⊥) → Fits new i.0 m (words_at t y.words j.0))
    → TellsAs (told says_done answer) result → RequestEnds shape y k new s (Range path off len) result
range_replied shape i n x l t j m y k v marks new s path r c off len answer result ends fault table undoes fits tells =
    told_ends shape y k new s (Range path off len) (told says_done answer) result (view_ready shape i n x l t j m y k v) v.settled tells
    (subst (λ (w : RegionContent). TxnEnds (range_on (region_now (words_at shape x.words i.0)) (txn_in marks i.0 (words_at shape x.words i.0)) off len) says_done marks new i.0 (words_at shape x.words i.0) w answer → OnFault answer (λ a. (a ≡ 0) × (region_now w ≡ region_now (words_at shape x.words i.0)) × (txn_in new i.0 w ≡ txn_in marks i.0 (words_at shape x.words i.0))) → new ≡ marks → Undoes n (words_at shape x.words i.0) w → ((IsErrOf answer Stopped → ⊥) → Fits new i.0 m w) → CallEnds shape y.words new s (Range path off len) (told says_done answer)) (view_words shape i n x l t j m y k v) (range_ends shape x.words y.words marks s path i.0 n r (view_called shape i n x l t j m y k v marks s path r c) new m off len answer) ends fault table undoes fits)

pub put_replied : (shape : VolumeShape) (i : Ino) (n : ℕ) (x : Seen) (l : Kept) (t : VolumeShape) (j : Ino) (m : ℕ) (y : Seen) (k : Kept) → ViewStep shape i n x l t j m y k → (marks new : Marks) (s : State) (path : List ℕ) (r : RegionNode) → CalledOn shape x.words x.words marks s path i.0 n r → (off : ℕ) (bytes : List ℕ) (answer : Result ℕ TxnFail) (result : Result Reply MachineStopped)
    → TxnEnds (put_on (region_now (words_at shape x.words i.0)) (txn_in marks i.0 (words_at shape x.words i.0)) off bytes) says_number marks new i.0 (words_at shape x.words i.0) (words_at t y.words j.0) answer
    → OnFault answer (λ a. PutPart (put_on (region_now (words_at shape x.words i.0)) (txn_in marks i.0 (words_at shape x.words i.0)) off bytes) marks i.0 (words_at shape x.words i.0) (words_at t y.words j.0) off bytes a)
    → new ≡ marks
    → Undoes n (words_at shape x.words i.0) (words_at t y.words j.0)
    → ((IsErrOf answer Stopped → ⊥) → Fits new i.0 m (words_at t y.words j.0))
    → TellsAs (told says_number answer) result → RequestEnds shape y k new s (Put path off bytes) result
put_replied shape i n x l t j m y k v marks new s path r c off bytes answer result ends fault table undoes fits tells =
    told_ends shape y k new s (Put path off bytes) (told says_number answer) result (view_ready shape i n x l t j m y k v) v.settled tells
    (subst (λ (w : RegionContent). TxnEnds (put_on (region_now (words_at shape x.words i.0)) (txn_in marks i.0 (words_at shape x.words i.0)) off bytes) says_number marks new i.0 (words_at shape x.words i.0) w answer → OnFault answer (λ a. PutPart (put_on (region_now (words_at shape x.words i.0)) (txn_in marks i.0 (words_at shape x.words i.0)) off bytes) marks i.0 (words_at shape x.words i.0) w off bytes a) → new ≡ marks → Undoes n (words_at shape x.words i.0) w → ((IsErrOf answer Stopped → ⊥) → Fits new i.0 m w) → CallEnds shape y.words new s (Put path off bytes) (told says_number answer)) (view_words shape i n x l t j m y k v) (put_ends shape x.words y.words marks s path i.0 n r (view_called shape i n x l t j m y k v marks s path r c) new m off bytes answer) ends fault table undoes fits)

pub alloc_replied : (shape : VolumeShape) (i : Ino) (n : ℕ) (x : Seen) (l : Kept) (t : VolumeShape) (j : Ino) (m : ℕ) (y : Seen) (k : Kept) → ViewStep shape i n x l t j m y k → (marks new : Marks) (s : State) (path : List ℕ) (r : RegionNode) → CalledOn shape x.words x.words marks s path i.0 n r → (units : ℕ) (answer : Result ℕ TxnFail) (result : Result Reply MachineStopped)
    → TxnEnds (alloc_on (region_now (words_at shape x.words i.0)) (txn_in marks i.0 (words_at shape x.words i.0)) units) says_number marks new i.0 (words_at shape x.words i.0) (words_at t y.words j.0) answer
    → ((IsFault answer → ⊥) → new ≡ marks)
    → OnFault answer (λ a. (a ≡ 0) × ((b : Bool) × (mark_of marks i.0 ≡ Some b)) × (new ≡ set_mark marks i.0 (Some true)))
    → Undoes n (words_at shape x.words i.0) (words_at t y.words j.0)
    → ((IsErrOf answer Stopped → ⊥) → Fits new i.0 m (words_at t y.words j.0))
    → TellsAs (told says_number answer) result → RequestEnds shape y k new s (Alloc path units) result
alloc_replied shape i n x l t j m y k v marks new s path r c units answer result ends table doomed undoes fits tells =
    told_ends shape y k new s (Alloc path units) (told says_number answer) result (view_ready shape i n x l t j m y k v) v.settled tells
    (subst (λ (w : RegionContent). TxnEnds (alloc_on (region_now (words_at shape x.words i.0)) (txn_in marks i.0 (words_at shape x.words i.0)) units) says_number marks new i.0 (words_at shape x.words i.0) w answer → ((IsFault answer → ⊥) → new ≡ marks) → OnFault answer (λ a. (a ≡ 0) × ((b : Bool) × (mark_of marks i.0 ≡ Some b)) × (new ≡ set_mark marks i.0 (Some true))) → Undoes n (words_at shape x.words i.0) w → ((IsErrOf answer Stopped → ⊥) → Fits new i.0 m w) → CallEnds shape y.words new s (Alloc path units) (told says_number answer)) (view_words shape i n x l t j m y k v) (alloc_ends shape x.words y.words marks s path i.0 n r (view_called shape i n x l t j m y k v marks s path r c) new m units answer) ends table doomed undoes fits)

pub free_replied : (shape : VolumeShape) (i : Ino) (n : ℕ) (x : Seen) (l : Kept) (t : VolumeShape) (j : Ino) (m : ℕ) (y : Seen) (k : Kept) → ViewStep shape i n x l t j m y k → (marks new : Marks) (s : State) (path : List ℕ) (r : RegionNode) → CalledOn shape x.words x.words marks s path i.0 n r → (at : ℕ) (answer : Result (Unit {0}) TxnFail) (result : Result Reply MachineStopped)
    → TxnEnds (free_on (region_now (words_at shape x.words i.0)) (txn_in marks i.0 (words_at shape x.words i.0)) at) says_done marks new i.0 (words_at shape x.words i.0) (words_at t y.words j.0) answer
    → ((IsFault answer → ⊥) → new ≡ marks)
    → OnFault answer (λ a. (a ≡ 0) × ((b : Bool) × (mark_of marks i.0 ≡ Some b)) × (new ≡ set_mark marks i.0 (Some true)))
    → Undoes n (words_at shape x.words i.0) (words_at t y.words j.0)
    → ((IsErrOf answer Stopped → ⊥) → Fits new i.0 m (words_at t y.words j.0))
    → TellsAs (told says_done answer) result → RequestEnds shape y k new s (Free path at) result
free_replied shape i n x l t j m y k v marks new s path r c at answer result ends table doomed undoes fits tells =
    told_ends shape y k new s (Free path at) (told says_done answer) result (view_ready shape i n x l t j m y k v) v.settled tells
    (subst (λ (w : RegionContent). TxnEnds (free_on (region_now (words_at shape x.words i.0)) (txn_in marks i.0 (words_at shape x.words i.0)) at) says_done marks new i.0 (words_at shape x.words i.0) w answer → ((IsFault answer → ⊥) → new ≡ marks) → OnFault answer (λ a. (a ≡ 0) × ((b : Bool) × (mark_of marks i.0 ≡ Some b)) × (new ≡ set_mark marks i.0 (Some true))) → Undoes n (words_at shape x.words i.0) w → ((IsErrOf answer Stopped → ⊥) → Fits new i.0 m w) → CallEnds shape y.words new s (Free path at) (told says_done answer)) (view_words shape i n x l t j m y k v) (free_ends shape x.words y.words marks s path i.0 n r (view_called shape i n x l t j m y k v marks s path r c) new m at answer) ends table doomed undoes fits)

pub commit_replied : (shape : VolumeShape) (i : Ino) (n : ℕ) (x : Seen) (l : Kept) (t : VolumeShape) (j : Ino) (m : ℕ) (y : Seen) (k : Kept) → ViewStep shape i n x l t j m y k → (marks new : Marks) (s : State) (path : List ℕ) (r : RegionNode) → CalledOn shape x.words x.words marks s path i.0 n r → (answer : Result (Unit {0}) TxnFail) (result : Result Reply MachineStopped)
    → TxnEnds (commit_on (region_now (words_at shape x.words i.0)) (txn_in marks i.0 (words_at shape x.words i.0))) says_done marks new i.0 (words_at shape x.words i.0) (words_at t y.words j.0) answer
    → OnFault answer (λ a. (a ≡ 0) × ((words_at t y.words j.0) ≡ (words_at shape x.words i.0)))
    → ((words_at t y.words j.0) ≡ (words_at shape x.words i.0)) ⊎ ((mark_of marks i.0 ≡ Some false) × Dropped n (words_at shape x.words i.0) (words_at t y.words j.0))
    → OnOk answer (new ≡ set_mark marks i.0 None)
    → (IsErr answer → new ≡ marks)
    → ((IsErrOf answer Stopped → ⊥) → Fits new i.0 m (words_at t y.words j.0))
    → TellsAs (told says_done answer) result → RequestEnds shape y k new s (Commit path) result
commit_replied shape i n x l t j m y k v marks new s path r c answer result ends fault either closed table fits tells =
    told_ends shape y k new s (Commit path) (told says_done answer) result (view_ready shape i n x l t j m y k v) v.settled tells
    (subst (λ (w : RegionContent). TxnEnds (commit_on (region_now (words_at shape x.words i.0)) (txn_in marks i.0 (words_at shape x.words i.0))) says_done marks new i.0 (words_at shape x.words i.0) w answer → OnFault answer (λ a. (a ≡ 0) × (w ≡ (words_at shape x.words i.0))) → (w ≡ (words_at shape x.words i.0)) ⊎ ((mark_of marks i.0 ≡ Some false) × Dropped n (words_at shape x.words i.0) w) → OnOk answer (new ≡ set_mark marks i.0 None) → (IsErr answer → new ≡ marks) → ((IsErrOf answer Stopped → ⊥) → Fits new i.0 m w) → CallEnds shape y.words new s (Commit path) (told says_done answer)) (view_words shape i n x l t j m y k v) (commit_ends shape x.words y.words marks s path i.0 n r (view_called shape i n x l t j m y k v marks s path r c) new m answer) ends fault either closed table fits)

pub abort_replied : (shape : VolumeShape) (i : Ino) (n : ℕ) (x : Seen) (l : Kept) (t : VolumeShape) (j : Ino) (m : ℕ) (y : Seen) (k : Kept) → ViewStep shape i n x l t j m y k → (marks new : Marks) (s : State) (path : List ℕ) (r : RegionNode) → CalledOn shape x.words x.words marks s path i.0 n r → (answer : Result (Unit {0}) TxnFail) (result : Result Reply MachineStopped)
    → TxnEnds (abort_on (region_now (words_at shape x.words i.0)) (txn_in marks i.0 (words_at shape x.words i.0))) says_done marks new i.0 (words_at shape x.words i.0) (words_at t y.words j.0) answer
    → OnOk answer (new ≡ set_mark marks i.0 None)
    → OnFault answer (λ a. (a ≡ 0) × ((b : Bool) × (mark_of marks i.0 ≡ Some b)) × (new ≡ set_mark marks i.0 (Some true)))
    → Undoes n (words_at shape x.words i.0) (words_at t y.words j.0)
    → ((IsErrOf answer Stopped → ⊥) → Fits new i.0 m (words_at t y.words j.0))
    → TellsAs (told says_done answer) result → RequestEnds shape y k new s (Abort path) result
abort_replied shape i n x l t j m y k v marks new s path r c answer result ends closed doomed undoes fits tells =
    told_ends shape y k new s (Abort path) (told says_done answer) result (view_ready shape i n x l t j m y k v) v.settled tells
    (subst (λ (w : RegionContent). TxnEnds (abort_on (region_now (words_at shape x.words i.0)) (txn_in marks i.0 (words_at shape x.words i.0))) says_done marks new i.0 (words_at shape x.words i.0) w answer → OnOk answer (new ≡ set_mark marks i.0 None) → OnFault answer (λ a. (a ≡ 0) × ((b : Bool) × (mark_of marks i.0 ≡ Some b)) × (new ≡ set_mark marks i.0 (Some true))) → Undoes n (words_at shape x.words i.0) w → ((IsErrOf answer Stopped → ⊥) → Fits new i.0 m w) → CallEnds shape y.words new s (Abort path) (told says_done answer)) (view_words shape i n x l t j m y k v) (abort_ends shape x.words y.words marks s path i.0 n r (view_called shape i n x l t j m y k v marks s path r c) new m answer) ends closed doomed undoes fits)

pub get_replied : (shape : VolumeShape) (i : Ino) (n : ℕ) (x : Seen) (l : Kept) (t : VolumeShape) (j : Ino) (m : ℕ) (y : Seen) (k : Kept) → ViewStep shape i n x l t j m y k → (marks : Marks) (s : State) (path : List ℕ) (r : RegionNode) → CalledOn shape x.words x.words marks s path i.0 n r → (off len : ℕ) (answer : Result (List ℕ) GetFail) (result : Result Reply MachineStopped)
    → IfOk answer (λ bytes. get_on (region_now (words_at shape x.words i.0)) (txn_in marks i.0 (words_at shape x.words i.0)) off len ≡ Ok (record { region = region_now (words_at shape x.words i.0); txn = txn_in marks i.0 (words_at shape x.words i.0); reply = Bytes bytes }))
    → IfErr answer (λ e. (number : ℕ) → get_refusal_of e ≡ Some number → get_on (region_now (words_at shape x.words i.0)) (txn_in marks i.0 (words_at shape x.words i.0)) off len ≡ Err number)
    → (words_at t y.words j.0) ≡ (words_at shape x.words i.0)
    → TellsAs (get_told says_bytes answer) result → RequestEnds shape y k marks s (Get path off len) result
get_replied shape i n x l t j m y k v marks s path r c off len answer result ok refused words tells =
    told_ends shape y k marks s (Get path off len) (get_told says_bytes answer) result (view_ready shape i n x l t j m y k v) v.settled tells
    (subst (λ (w : RegionContent). IfOk answer (λ bytes. get_on (region_now (words_at shape x.words i.0)) (txn_in marks i.0 (words_at shape x.words i.0)) off len ≡ Ok (record { region = region_now (words_at shape x.words i.0); txn = txn_in marks i.0 (words_at shape x.words i.0); reply = Bytes bytes })) → IfErr answer (λ e. (number : ℕ) → get_refusal_of e ≡ Some number → get_on (region_now (words_at shape x.words i.0)) (txn_in marks i.0 (words_at shape x.words i.0)) off len ≡ Err number) → w ≡ (words_at shape x.words i.0) → CallEnds shape y.words marks s (Get path off len) (get_told says_bytes answer)) (view_words shape i n x l t j m y k v) (get_ends shape x.words y.words marks s path i.0 n r (view_called shape i n x l t j m y k v marks s path r c) off len answer) ok refused words)

pub begin_replied : (shape : VolumeShape) (i n : ℕ) (x : Seen) (l : Kept) → Ready shape x l → Settled x l → (marks new : Marks) (s : State) (path : List ℕ) (r : RegionNode) → CalledOn shape x.words x.words marks s path i n r → (answer : Result (Unit {0}) BeginFail) (result : Result Reply MachineStopped)
    → OnOk answer ((mark_of marks i ≡ None) × (new ≡ set_mark marks i (Some false)))
    → (IsErrOf answer Busy → (b : Bool) × (mark_of marks i ≡ Some b))
    → (IsErr answer → new ≡ marks)
    → TellsAs (begin_told Done answer) result → RequestEnds shape x l new s (Begin path) result
begin_replied shape i n x l ready settled marks new s path r c answer result ok busy table tells = told_ends shape x l new s (Begin path) (begin_told Done answer) result ready settled tells (begin_ends shape x.words marks s path i n r c new answer ok busy table)
