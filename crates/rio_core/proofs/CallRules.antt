-- What every call on a region's words leaves of the state, by how it ended.
use Rattle.rio_core.proofs.Common.{◌≡◌, ℕ, ◌*◌, ◌/◌, inl, inr, Bool, Option, Some, None, Result, Ok, Err, List, refl, sym, ap, subst, ◌∙◌, arith, get, VolumeShape, BlockWords, RegionContent, RegionNode, State, Txn, IsSoundRegion, held_of, Undoes, ReadsAs, Answered, Reply, Request, answer_of, crashed, FaultStep, changed, txn_at, with_region, Fits, TxnEnds, Marks, mark_of, set_mark, txn_in, region_now, TxnFail, Stopped}
use Rattle.rio_model.proofs.UndoRules.{undoes_refl}
use Rattle.rio_requests.specs.declared.reply.Reply.TheVariants.{Err as RefusedBy, Fault as Faulted}
use Rattle.rio_requests.specs.Answer.{at_inode}
use Rattle.rio_requests.specs.RegionAnswers.{Outcome}
use Rattle.rio_requests.specs.Transactions.{at_region, on_region}
use Rattle.vista_region.specs.Ends.{DoneAs}
use Rattle.vista_region.specs.declared.failures.TxnFail.TheVariants.{NoTransaction, Doomed, NotAligned, OutOfRange, NotCovered, NotBlock, HeapFull, UndoFull, Fault}
use Rattle.rio_core.proofs.CallEnds.{CallEnds}
use Rattle.rio_core.specs.CallEnds.{CalledOn, ReadsHeld, told, words_at}
use Rattle.rio_core.specs.Regions.{RegionHeld}
use Rattle.rio_core.proofs.RegionsLaws.{SameAnswers}
use Rattle.rio_core.proofs.HeldRules.{fits_held, same_answers}
use Rattle.rio_core.proofs.ReadMoves.{reads_move, reads_undone}
use Rattle.rio_core.proofs.RegionSteps.{region_crashes, region_stays, region_steps, same_region}
use Rattle.rio_core.proofs.RowRules.{mark_set}

-- ---- the region that is called on

-- it is held as its words say
pub own : (shape : VolumeShape) (f g : BlockWords) (marks : Marks) (s : State) (path : List ℕ) (i n : ℕ) (r : RegionNode) → CalledOn shape f g marks s path i n r → RegionHeld i (words_at shape f i) (mark_of marks i) r (txn_at s.txns i)
own shape f g marks s path i n r c = c.before.regions.each i r c.node

-- requests are answered as its words say
pub answers : (shape : VolumeShape) (f g : BlockWords) (marks : Marks) (s : State) (path : List ℕ) (i n : ℕ) (r : RegionNode) → CalledOn shape f g marks s path i n r → SameAnswers i r (txn_at s.txns i) (region_now (words_at shape f i)) (txn_in marks i (words_at shape f i))
answers shape f g marks s path i n r c = same_answers i (words_at shape f i) (mark_of marks i) r (txn_at s.txns i) (own shape f g marks s path i n r c)

-- and at its node
pub reached : (shape : VolumeShape) (f g : BlockWords) (marks : Marks) (s : State) (path : List ℕ) (i n : ℕ) (r : RegionNode) → CalledOn shape f g marks s path i n r → (go : ℕ → RegionNode → Option Txn → Answered) → at_region s path go ≡ go i r (txn_at s.txns i)
reached shape f g marks s path i n r c go =
    ap (λ w. at_inode s w (λ j. on_region s (get s.nodes j) (λ q. go j q (txn_at s.txns j)))) c.leads
    ∙ ap (λ m. on_region s m (λ q. go i q (txn_at s.txns i))) c.node

eighth : (size n : ℕ) → size ≡ 8 * n → size / 8 ≡ n
eighth size n e = omega (arith, e)

-- it is sound
pub sound_before : (shape : VolumeShape) (f g : BlockWords) (marks : Marks) (s : State) (path : List ℕ) (i n : ℕ) (r : RegionNode) → CalledOn shape f g marks s path i n r → IsSoundRegion n (words_at shape f i)
sound_before shape f g marks s path i n r c = subst (λ m. IsSoundRegion m (words_at shape f i)) (eighth (held_of shape f i).size n c.size) (c.before.reads.regions.each i c.kind)

-- ---- where the words of before are as they were

-- a stop leaves what it would have left
pub still_reads : (shape : VolumeShape) (f g : BlockWords) (marks : Marks) (s : State) (path : List ℕ) (i n : ℕ) (r : RegionNode) → CalledOn shape f g marks s path i n r → Undoes n (words_at shape f i) (words_at shape g i) → ReadsAs shape g (crashed s)
still_reads shape f g marks s path i n r c undoes = reads_undone shape f g s i c.before.reads c.mapped c.rest c.kind (subst (λ m. Undoes m (words_at shape f i) (words_at shape g i)) (sym (eighth (held_of shape f i).size n c.size)) undoes)

-- the state is held still where the region is
pub call_stays : (shape : VolumeShape) (f g : BlockWords) (marks : Marks) (s : State) (path : List ℕ) (i n : ℕ) (r : RegionNode) → CalledOn shape f g marks s path i n r → Undoes n (words_at shape f i) (words_at shape g i) → RegionHeld i (words_at shape g i) (mark_of marks i) r (txn_at s.txns i) → ReadsHeld shape g marks s
call_stays shape f g marks s path i n r c undoes held = record {
  reads = still_reads shape f g marks s path i n r c undoes;
  regions = region_stays (held_of shape f) (held_of shape g) marks s i c.before.regions c.rest.others (λ q is. subst (λ x. RegionHeld i (words_at shape g i) (mark_of marks i) x (txn_at s.txns i)) (same_region r q (get s.nodes i) c.node is) held);
}

-- ---- where the region and its transaction become others

pub call_moves : (shape : VolumeShape) (f g : BlockWords) (marks : Marks) (s : State) (path : List ℕ) (i n : ℕ) (r : RegionNode) → CalledOn shape f g marks s path i n r → IsSoundRegion n (words_at shape g i) → (mark : Option Bool) (q : RegionNode) (o : Option Txn) → RegionHeld i (words_at shape g i) mark q o → ReadsHeld shape g (set_mark marks i mark) (with_region s i q o)
call_moves shape f g marks s path i n r c sound mark q o held = record {
  reads = reads_move shape f g s (with_region s i q o) i c.before.reads c.mapped c.rest c.kind
      (subst (λ m. IsSoundRegion m (words_at shape g i)) (sym (eighth (held_of shape g i).size n (c.rest.size ∙ c.size))) sound)
      (region_crashes s i (words_at shape g i) mark q o c.before.regions.open_regions.once held);
  regions = region_steps (held_of shape f) (held_of shape g) marks s i mark q o c.before.regions c.rest.others held;
}

-- the mark of a transaction that ended is gone
pub mark_gone : (shape : VolumeShape) (f g : BlockWords) (marks : Marks) (s : State) (path : List ℕ) (i n : ℕ) (r : RegionNode) → CalledOn shape f g marks s path i n r → mark_of (set_mark marks i None) i ≡ None
mark_gone shape f g marks s path i n r c = ap (λ (ms : Marks). mark_of (set_mark ms i None) i) c.before.regions.marked ∙ mark_set s.txns i None c.before.regions.open_regions.once tt

-- ---- by how it ended

-- it was done
pub call_done : (shape : VolumeShape) (f g : BlockWords) (marks : Marks) (s : State) (path : List ℕ) (i n : ℕ) (r : RegionNode) → CalledOn shape f g marks s path i n r → (new : Marks) (m : ℕ) (request : Request) (defined : RegionNode → Option Txn → Outcome) (reply : Reply)
    → answer_of s request ≡ changed s i (defined r (txn_at s.txns i))
    → defined r (txn_at s.txns i) ≡ defined (region_now (words_at shape f i)) (txn_in marks i (words_at shape f i))
    → DoneAs (defined (region_now (words_at shape f i)) (txn_in marks i (words_at shape f i))) new i (words_at shape g i) reply
    → Fits new i m (words_at shape g i) → IsSoundRegion n (words_at shape g i) → set_mark marks i (mark_of new i) ≡ new → CallEnds shape g new s request (Some reply)
call_done shape f g marks s path i n r c new m request defined reply served same done fits sound rows = (
  with_region s i (region_now (words_at shape g i)) (txn_in new i (words_at shape g i)),
  inl (served ∙ ap (changed s i) (same ∙ done)),
  subst (λ (ms : Marks). ReadsHeld shape g ms (with_region s i (region_now (words_at shape g i)) (txn_in new i (words_at shape g i)))) rows
      (call_moves shape f g marks s path i n r c sound (mark_of new i) (region_now (words_at shape g i)) (txn_in new i (words_at shape g i)) (fits_held new i m (words_at shape g i) fits)),
)

-- nothing of it was done, and it was told so
pub same_held : (shape : VolumeShape) (f g : BlockWords) (marks : Marks) (s : State) (path : List ℕ) (i n : ℕ) (r : RegionNode) → CalledOn shape f g marks s path i n r → words_at shape g i ≡ words_at shape f i → ReadsHeld shape g marks s
same_held shape f g marks s path i n r c same =
    call_stays shape f g marks s path i n r c
    (subst (Undoes n (words_at shape f i)) (sym same) (undoes_refl n (words_at shape f i) (sound_before shape f g marks s path i n r c).region))
    (subst (λ w. RegionHeld i w (mark_of marks i) r (txn_at s.txns i)) (sym same) (own shape f g marks s path i n r c))

pub call_refused : (shape : VolumeShape) (f g : BlockWords) (marks : Marks) (s : State) (path : List ℕ) (i n : ℕ) (r : RegionNode) → CalledOn shape f g marks s path i n r → (new : Marks) (request : Request) (defined : RegionNode → Option Txn → Outcome) (number : ℕ)
    → answer_of s request ≡ changed s i (defined r (txn_at s.txns i))
    → defined r (txn_at s.txns i) ≡ defined (region_now (words_at shape f i)) (txn_in marks i (words_at shape f i))
    → defined (region_now (words_at shape f i)) (txn_in marks i (words_at shape f i)) ≡ Err number
    → words_at shape g i ≡ words_at shape f i → new ≡ marks → CallEnds shape g new s request (Some (RefusedBy number))
call_refused shape f g marks s path i n r c new request defined number served same refuses words rows =
    (s, inl (served ∙ ap (changed s i) (same ∙ refuses)), subst (λ (ms : Marks). ReadsHeld shape g ms s) (sym rows) (same_held shape f g marks s path i n r c words))

-- a fault cut it off before anything of it was done
pub call_failed : (shape : VolumeShape) (f g : BlockWords) (marks : Marks) (s : State) (path : List ℕ) (i n : ℕ) (r : RegionNode) → CalledOn shape f g marks s path i n r → (new : Marks) (request : Request) (k : ℕ)
    → FaultStep s request k s → Undoes n (words_at shape f i) (words_at shape g i) → RegionHeld i (words_at shape g i) (mark_of marks i) r (txn_at s.txns i) → new ≡ marks → CallEnds shape g new s request (Some (Faulted k))
call_failed shape f g marks s path i n r c new request k step undoes held rows =
    (s, inr (inr (k, refl, step)), subst (λ (ms : Marks). ReadsHeld shape g ms s) (sym rows) (call_stays shape f g marks s path i n r c undoes held))

-- it was stopped: nothing of it stands
pub call_stopped : (shape : VolumeShape) (f g : BlockWords) (marks : Marks) (s : State) (path : List ℕ) (i n : ℕ) (r : RegionNode) → CalledOn shape f g marks s path i n r → (new : Marks) (request : Request) → Undoes n (words_at shape f i) (words_at shape g i) → CallEnds shape g new s request None
call_stopped shape f g marks s path i n r c new request undoes = (s, inl refl, still_reads shape f g marks s path i n r c undoes)

-- ---- by what it answered

pub by_answer : {T : Type 0} (says : T → Reply) (answer : Result T TxnFail) (P : Option Reply → Type 0) (defined : Outcome) (old new : Marks) (i : ℕ) (f g : RegionContent) → TxnEnds defined says old new i f g answer
    → ((v : T) → answer ≡ Ok v → DoneAs defined new i g (says v) → P (Some (says v)))
    → ((number : ℕ) → defined ≡ Err number → g ≡ f → new ≡ old → P (Some (RefusedBy number)))
    → ((k : ℕ) → answer ≡ Err (Fault k) → P (Some (Faulted k)))
    → (answer ≡ Err Stopped → P None)
    → P (told says answer)
by_answer says (Ok v) P defined old new i f g ends done refused failed stopped = done v refl ends
by_answer says (Err NoTransaction) P defined old new i f g ends done refused failed stopped = refused 14 ends.0 ends.1 ends.2
by_answer says (Err NotCovered) P defined old new i f g ends done refused failed stopped = refused 15 ends.0 ends.1 ends.2
by_answer says (Err UndoFull) P defined old new i f g ends done refused failed stopped = refused 16 ends.0 ends.1 ends.2
by_answer says (Err HeapFull) P defined old new i f g ends done refused failed stopped = refused 17 ends.0 ends.1 ends.2
by_answer says (Err NotBlock) P defined old new i f g ends done refused failed stopped = refused 18 ends.0 ends.1 ends.2
by_answer says (Err OutOfRange) P defined old new i f g ends done refused failed stopped = refused 19 ends.0 ends.1 ends.2
by_answer says (Err NotAligned) P defined old new i f g ends done refused failed stopped = refused 20 ends.0 ends.1 ends.2
by_answer says (Err Doomed) P defined old new i f g ends done refused failed stopped = refused 22 ends.0 ends.1 ends.2
by_answer says (Err (Fault k)) P defined old new i f g ends done refused failed stopped = failed k refl
by_answer says (Err Stopped) P defined old new i f g ends done refused failed stopped = stopped refl
