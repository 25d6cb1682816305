-- Each request on a region ends as its definition says, from what the call on the region's words tells.
use Rattle.rio_core.proofs.Common.{◌≡◌, ℕ, ◌⊎◌, inl, inr, Bool, true, false, Option, Some, None, Result, Ok, Err, List, refl, sym, ap, subst, ◌∙◌, IfOk, IsErr, IsErrOf, VolumeShape, BlockWords, RegionNode, State, Txn, IsSoundRegion, Dropped, Undoes, Answered, Bytes, Request, Begin, Range, Put, Get, Alloc, Free, Commit, Abort, answer_of, FaultStep, abort_on, alloc_on, begin_on, commit_on, free_on, get_on, put_on, range_on, changed, txn_at, with_region, Fits, IsFault, TxnEnds, says_done, says_number, Marks, mark_of, set_mark, txn_in, region_now, TxnFail, Stopped}
use Rattle.std.proofs.Common.{take}
use Rattle.std.specs.Prelude.{IfErr, OnOk, is_err}
use Rattle.rio_model.proofs.UndoRules.{undoes_refl}
use Rattle.rio_requests.specs.declared.reply.Reply.TheVariants.{Ok as Done, Err as RefusedBy, Fault as Faulted}
use Rattle.rio_requests.specs.Parts.{Dooms}
use Rattle.rio_requests.specs.RegionAnswers.{with_words}
use Rattle.rio_requests.specs.Transactions.{looked}
use Rattle.vista_region.specs.Ends.{OnFault, PutPart, get_refusal_of, says_bytes}
use Rattle.vista_region.specs.Regions.{txn_now}
use Rattle.vista_region.specs.declared.failures.BeginFail.{BeginFail}
use Rattle.vista_region.specs.declared.failures.BeginFail.TheVariants.{Busy, Memory as BeginMemory}
use Rattle.vista_region.specs.declared.failures.GetFail.{GetFail}
use Rattle.vista_region.specs.declared.failures.GetFail.TheVariants.{Doomed as GetDoomed, OutOfRange as GetOutOfRange, Fault as GetFault, Stopped as GetStopped, Memory as GetMemory}
use Rattle.vista_region.specs.declared.failures.TxnFail.TheVariants.{Fault}
use Rattle.rio_core.proofs.CallEnds.{CallEnds}
use Rattle.rio_core.specs.CallEnds.{CalledOn, ReadsHeld, begin_told, get_told, told, words_at}
use Rattle.rio_core.specs.Regions.{RegionHeld}
use Rattle.rio_core.proofs.CallRules.{answers, by_answer, call_done, call_failed, call_moves, call_refused, call_stopped, mark_gone, own, reached, same_held, sound_before}
use Rattle.rio_core.proofs.HeldRules.{begin_held, begin_refused, dooms_held, dropped_held, dropped_sound, part_held, rests_held}
use Rattle.rio_model.proofs.RegionMoves.{undoes_sound}
use Rattle.rio_core.proofs.RowRules.{mark_same}

-- ---- the rows of the table

rows_stay : (marks new : Marks) (i : ℕ) → new ≡ marks → set_mark marks i (mark_of new i) ≡ new
rows_stay marks new i same = ap (λ (ms : Marks). set_mark marks i (mark_of ms i)) same ∙ mark_same marks i ∙ sym same

rows_close : (marks new : Marks) (i : ℕ) → mark_of (set_mark marks i None) i ≡ None → new ≡ set_mark marks i None → set_mark marks i (mark_of new i) ≡ new
rows_close marks new i gone closed = ap (λ (ms : Marks). set_mark marks i (mark_of ms i)) closed ∙ ap (set_mark marks i) gone ∙ sym closed

at_fault : {T : Type 0} (answer : Result T TxnFail) (k : ℕ) (P : ℕ → Type 0) → answer ≡ Err (Fault k) → OnFault answer P → P k
at_fault answer k P is h = subst (λ a. OnFault a P) is h

no_fault : {T : Type 0} (answer : Result T TxnFail) (v : T) → answer ≡ Ok v → IsFault answer → ⊥
no_fault answer v is h = subst (λ a. IsFault a) is h

-- ---- range

pub range_ends : (shape : VolumeShape) (f g : BlockWords) (marks : Marks) (s : State) (path : List ℕ) (i n : ℕ) (r : RegionNode) → CalledOn shape f g marks s path i n r → (new : Marks) (m off len : ℕ) (answer : Result (Unit {0}) TxnFail)
    → TxnEnds (range_on (region_now (words_at shape f i)) (txn_in marks i (words_at shape f i)) off len) says_done marks new i (words_at shape f i) (words_at shape g i) answer
    → OnFault answer (λ k. (k ≡ 0) × (region_now (words_at shape g i) ≡ region_now (words_at shape f i)) × (txn_in new i (words_at shape g i) ≡ txn_in marks i (words_at shape f i)))
    → new ≡ marks → Undoes n (words_at shape f i) (words_at shape g i) → ((IsErrOf answer Stopped → ⊥) → Fits new i m (words_at shape g i))
    → CallEnds shape g new s (Range path off len) (told says_done answer)
range_ends shape f g marks s path i n r c new m off len answer ends fault table undoes fits =
    by_answer says_done answer (CallEnds shape g new s (Range path off len)) (range_on (region_now (words_at shape f i)) (txn_in marks i (words_at shape f i)) off len) marks new i (words_at shape f i) (words_at shape g i) ends
    (λ v is done. call_done shape f g marks s path i n r c new m (Range path off len) (λ q o. range_on q o off len) Done served same done (fits (λ stop. cc (is, stop))) (undoes_sound n (words_at shape f i) (words_at shape g i) (sound_before shape f g marks s path i n r c) undoes) (rows_stay marks new i table))
    (λ number refuses words rows. call_refused shape f g marks s path i n r c new (Range path off len) (λ q o. range_on q o off len) number served same refuses words rows)
    (λ k is. failed k is (at_fault answer k _ is fault))
    (λ is. call_stopped shape f g marks s path i n r c new (Range path off len) undoes)
  where
    served : answer_of s (Range path off len) ≡ changed s i (range_on r (txn_at s.txns i) off len)
    served = reached shape f g marks s path i n r c (λ j q o. changed s j (range_on q o off len))

    same : range_on r (txn_at s.txns i) off len ≡ range_on (region_now (words_at shape f i)) (txn_in marks i (words_at shape f i)) off len
    same = (answers shape f g marks s path i n r c).range off len

    failed : (k : ℕ) → answer ≡ Err (Fault k) → (k ≡ 0) × (region_now (words_at shape g i) ≡ region_now (words_at shape f i)) × (txn_in new i (words_at shape g i) ≡ txn_in marks i (words_at shape f i)) → CallEnds shape g new s (Range path off len) (Some (Faulted k))
    failed k is x =
        let fine : Fits marks i m (words_at shape g i) = subst (λ (ms : Marks). Fits ms i m (words_at shape g i)) table (fits (λ stop. cc (is, stop))) in
        call_failed shape f g marks s path i n r c new (Range path off len) k (x.0, refl) undoes (rests_held marks i n m (words_at shape f i) (words_at shape g i) r (txn_at s.txns i) (own shape f g marks s path i n r c) undoes fine x.1 (ap (λ (ms : Marks). txn_in ms i (words_at shape g i)) (sym table) ∙ x.2)) table

-- ---- put

pub put_ends : (shape : VolumeShape) (f g : BlockWords) (marks : Marks) (s : State) (path : List ℕ) (i n : ℕ) (r : RegionNode) → CalledOn shape f g marks s path i n r → (new : Marks) (m off : ℕ) (bytes : List ℕ) (answer : Result ℕ TxnFail)
    → TxnEnds (put_on (region_now (words_at shape f i)) (txn_in marks i (words_at shape f i)) off bytes) says_number marks new i (words_at shape f i) (words_at shape g i) answer
    → OnFault answer (λ k. PutPart (put_on (region_now (words_at shape f i)) (txn_in marks i (words_at shape f i)) off bytes) marks i (words_at shape f i) (words_at shape g i) off bytes k)
    → new ≡ marks → Undoes n (words_at shape f i) (words_at shape g i) → ((IsErrOf answer Stopped → ⊥) → Fits new i m (words_at shape g i))
    → CallEnds shape g new s (Put path off bytes) (told says_number answer)
put_ends shape f g marks s path i n r c new m off bytes answer ends fault table undoes fits =
    by_answer says_number answer (CallEnds shape g new s (Put path off bytes)) (put_on (region_now (words_at shape f i)) (txn_in marks i (words_at shape f i)) off bytes) marks new i (words_at shape f i) (words_at shape g i) ends
    (λ v is done. call_done shape f g marks s path i n r c new m (Put path off bytes) (λ q o. put_on q o off bytes) (says_number v) served same done (fits (λ stop. cc (is, stop))) sound (rows_stay marks new i table))
    (λ number refuses words rows. call_refused shape f g marks s path i n r c new (Put path off bytes) (λ q o. put_on q o off bytes) number served same refuses words rows)
    (λ k is. failed k (subst (λ (ms : Marks). Fits ms i m (words_at shape g i)) table (fits (λ stop. cc (is, stop)))) (at_fault answer k _ is fault))
    (λ is. call_stopped shape f g marks s path i n r c new (Put path off bytes) undoes)
  where
    served : answer_of s (Put path off bytes) ≡ changed s i (put_on r (txn_at s.txns i) off bytes)
    served = reached shape f g marks s path i n r c (λ j q o. changed s j (put_on q o off bytes))

    same : put_on r (txn_at s.txns i) off bytes ≡ put_on (region_now (words_at shape f i)) (txn_in marks i (words_at shape f i)) off bytes
    same = (answers shape f g marks s path i n r c).put off bytes

    sound : IsSoundRegion n (words_at shape g i)
    sound = undoes_sound n (words_at shape f i) (words_at shape g i) (sound_before shape f g marks s path i n r c) undoes

    mine : RegionHeld i (words_at shape f i) (mark_of marks i) r (txn_at s.txns i)
    mine = own shape f g marks s path i n r c

    failed : (k : ℕ) → Fits marks i m (words_at shape g i) → PutPart (put_on (region_now (words_at shape f i)) (txn_in marks i (words_at shape f i)) off bytes) marks i (words_at shape f i) (words_at shape g i) off bytes k → CallEnds shape g new s (Put path off bytes) (Some (Faulted k))
    failed k fine (inl x) = call_failed shape f g marks s path i n r c new (Put path off bytes) k (inl (x.0, refl)) undoes (rests_held marks i n m (words_at shape f i) (words_at shape g i) r (txn_at s.txns i) mine undoes fine x.1 x.2) table
    failed k fine (inr x) =
        let part = part_held marks i m (words_at shape f i) (words_at shape g i) r (txn_at s.txns i) x.0 off k bytes mine x.1 fine x.4 x.5 in (
          with_region s i (with_words r off (take k bytes)) (txn_at s.txns i),
          inr (inr (k, refl, inr (record { ino = i; region = r; done = x.0; at = c.leads; node = c.node; served = part.0; whole = x.2; most = x.3; is = refl }))),
          subst (λ (ms : Marks). ReadsHeld shape g ms (with_region s i (with_words r off (take k bytes)) (txn_at s.txns i))) (mark_same marks i ∙ sym table) (call_moves shape f g marks s path i n r c sound (mark_of marks i) (with_words r off (take k bytes)) (txn_at s.txns i) part.1),
        )

-- ---- alloc, free and abort: a fault leaves the transaction to be aborted

call_dooms : (shape : VolumeShape) (f g : BlockWords) (marks : Marks) (s : State) (path : List ℕ) (i n : ℕ) (r : RegionNode) → CalledOn shape f g marks s path i n r → (new : Marks) (request : Request) (k : ℕ) → ((t : State) → Dooms s path k t → FaultStep s request k t)
    → Undoes n (words_at shape f i) (words_at shape g i) → (k ≡ 0) × ((b : Bool) × (mark_of marks i ≡ Some b)) × (new ≡ set_mark marks i (Some true)) → CallEnds shape g new s request (Some (Faulted k))
call_dooms shape f g marks s path i n r c new request k step undoes x =
    let doom = dooms_held i n (words_at shape f i) (words_at shape g i) x.1.0 r (txn_at s.txns i) (subst (λ b. RegionHeld i (words_at shape f i) b r (txn_at s.txns i)) x.1.1 (own shape f g marks s path i n r c)) undoes in
    let left : Txn = record doom.0 { doomed = true } in (
      with_region s i r (Some left),
      inr (inr (k, refl, step (with_region s i r (Some left)) (record { ino = i; region = r; txn = doom.0; now = r; left = left; none = x.0; at = c.leads; node = c.node; was_open = doom.1; words = refl; undo = refl; same = refl; before = refl; before_blocks = refl; doomed = refl; is = refl }))),
      subst (λ (ms : Marks). ReadsHeld shape g ms (with_region s i r (Some left))) (sym x.2) (call_moves shape f g marks s path i n r c (undoes_sound n (words_at shape f i) (words_at shape g i) (sound_before shape f g marks s path i n r c) undoes) (Some true) r (Some left) doom.2),
    )

pub alloc_ends : (shape : VolumeShape) (f g : BlockWords) (marks : Marks) (s : State) (path : List ℕ) (i n : ℕ) (r : RegionNode) → CalledOn shape f g marks s path i n r → (new : Marks) (m units : ℕ) (answer : Result ℕ TxnFail)
    → TxnEnds (alloc_on (region_now (words_at shape f i)) (txn_in marks i (words_at shape f i)) units) says_number marks new i (words_at shape f i) (words_at shape g i) answer
    → ((IsFault answer → ⊥) → new ≡ marks)
    → OnFault answer (λ k. (k ≡ 0) × ((b : Bool) × (mark_of marks i ≡ Some b)) × (new ≡ set_mark marks i (Some true)))
    → Undoes n (words_at shape f i) (words_at shape g i) → ((IsErrOf answer Stopped → ⊥) → Fits new i m (words_at shape g i))
    → CallEnds shape g new s (Alloc path units) (told says_number answer)
alloc_ends shape f g marks s path i n r c new m units answer ends table doomed undoes fits =
    by_answer says_number answer (CallEnds shape g new s (Alloc path units)) (alloc_on (region_now (words_at shape f i)) (txn_in marks i (words_at shape f i)) units) marks new i (words_at shape f i) (words_at shape g i) ends
    (λ v is done. call_done shape f g marks s path i n r c new m (Alloc path units) (λ q o. alloc_on q o units) (says_number v) served same done (fits (λ stop. cc (is, stop))) (undoes_sound n (words_at shape f i) (words_at shape g i) (sound_before shape f g marks s path i n r c) undoes) (rows_stay marks new i (table (no_fault answer v is))))
    (λ number refuses words rows. call_refused shape f g marks s path i n r c new (Alloc path units) (λ q o. alloc_on q o units) number served same refuses words rows)
    (λ k is. call_dooms shape f g marks s path i n r c new (Alloc path units) k (λ t d. inr d) undoes (at_fault answer k _ is doomed))
    (λ is. call_stopped shape f g marks s path i n r c new (Alloc path units) undoes)
  where
    served : answer_of s (Alloc path units) ≡ changed s i (alloc_on r (txn_at s.txns i) units)
    served = reached shape f g marks s path i n r c (λ j q o. changed s j (alloc_on q o units))

    same : alloc_on r (txn_at s.txns i) units ≡ alloc_on (region_now (words_at shape f i)) (txn_in marks i (words_at shape f i)) units
    same = (answers shape f g marks s path i n r c).alloc units

pub free_ends : (shape : VolumeShape) (f g : BlockWords) (marks : Marks) (s : State) (path : List ℕ) (i n : ℕ) (r : RegionNode) → CalledOn shape f g marks s path i n r → (new : Marks) (m at : ℕ) (answer : Result (Unit {0}) TxnFail)
    → TxnEnds (free_on (region_now (words_at shape f i)) (txn_in marks i (words_at shape f i)) at) says_done marks new i (words_at shape f i) (words_at shape g i) answer
    → ((IsFault answer → ⊥) → new ≡ marks)
    → OnFault answer (λ k. (k ≡ 0) × ((b : Bool) × (mark_of marks i ≡ Some b)) × (new ≡ set_mark marks i (Some true)))
    → Undoes n (words_at shape f i) (words_at shape g i) → ((IsErrOf answer Stopped → ⊥) → Fits new i m (words_at shape g i))
    → CallEnds shape g new s (Free path at) (told says_done answer)
free_ends shape f g marks s path i n r c new m at answer ends table doomed undoes fits =
    by_answer says_done answer (CallEnds shape g new s (Free path at)) (free_on (region_now (words_at shape f i)) (txn_in marks i (words_at shape f i)) at) marks new i (words_at shape f i) (words_at shape g i) ends
    (λ v is done. call_done shape f g marks s path i n r c new m (Free path at) (λ q o. free_on q o at) Done served same done (fits (λ stop. cc (is, stop))) (undoes_sound n (words_at shape f i) (words_at shape g i) (sound_before shape f g marks s path i n r c) undoes) (rows_stay marks new i (table (no_fault answer v is))))
    (λ number refuses words rows. call_refused shape f g marks s path i n r c new (Free path at) (λ q o. free_on q o at) number served same refuses words rows)
    (λ k is. call_dooms shape f g marks s path i n r c new (Free path at) k (λ t d. inr d) undoes (at_fault answer k _ is doomed))
    (λ is. call_stopped shape f g marks s path i n r c new (Free path at) undoes)
  where
    served : answer_of s (Free path at) ≡ changed s i (free_on r (txn_at s.txns i) at)
    served = reached shape f g marks s path i n r c (λ j q o. changed s j (free_on q o at))

    same : free_on r (txn_at s.txns i) at ≡ free_on (region_now (words_at shape f i)) (txn_in marks i (words_at shape f i)) at
    same = (answers shape f g marks s path i n r c).free at

pub abort_ends : (shape : VolumeShape) (f g : BlockWords) (marks : Marks) (s : State) (path : List ℕ) (i n : ℕ) (r : RegionNode) → CalledOn shape f g marks s path i n r → (new : Marks) (m : ℕ) (answer : Result (Unit {0}) TxnFail)
    → TxnEnds (abort_on (region_now (words_at shape f i)) (txn_in marks i (words_at shape f i))) says_done marks new i (words_at shape f i) (words_at shape g i) answer
    → OnOk answer (new ≡ set_mark marks i None)
    → OnFault answer (λ k. (k ≡ 0) × ((b : Bool) × (mark_of marks i ≡ Some b)) × (new ≡ set_mark marks i (Some true)))
    → Undoes n (words_at shape f i) (words_at shape g i) → ((IsErrOf answer Stopped → ⊥) → Fits new i m (words_at shape g i))
    → CallEnds shape g new s (Abort path) (told says_done answer)
abort_ends shape f g marks s path i n r c new m answer ends closed doomed undoes fits =
    by_answer says_done answer (CallEnds shape g new s (Abort path)) (abort_on (region_now (words_at shape f i)) (txn_in marks i (words_at shape f i))) marks new i (words_at shape f i) (words_at shape g i) ends
    (λ v is done. call_done shape f g marks s path i n r c new m (Abort path) (λ q o. abort_on q o) Done served same done (fits (λ stop. cc (is, stop))) (undoes_sound n (words_at shape f i) (words_at shape g i) (sound_before shape f g marks s path i n r c) undoes) (rows_close marks new i (mark_gone shape f g marks s path i n r c) (subst (λ a. OnOk a (new ≡ set_mark marks i None)) is closed)))
    (λ number refuses words rows. call_refused shape f g marks s path i n r c new (Abort path) (λ q o. abort_on q o) number served same refuses words rows)
    (λ k is. call_dooms shape f g marks s path i n r c new (Abort path) k (λ t d. inr d) undoes (at_fault answer k _ is doomed))
    (λ is. call_stopped shape f g marks s path i n r c new (Abort path) undoes)
  where
    served : answer_of s (Abort path) ≡ changed s i (abort_on r (txn_at s.txns i))
    served = reached shape f g marks s path i n r c (λ j q o. changed s j (abort_on q o))

    same : abort_on r (txn_at s.txns i) ≡ abort_on (region_now (words_at shape f i)) (txn_in marks i (words_at shape f i))
    same = (answers shape f g marks s path i n r c).abort

-- ---- commit: one store makes it

pub commit_ends : (shape : VolumeShape) (f g : BlockWords) (marks : Marks) (s : State) (path : List ℕ) (i n : ℕ) (r : RegionNode) → CalledOn shape f g marks s path i n r → (new : Marks) (m : ℕ) (answer : Result (Unit {0}) TxnFail)
    → TxnEnds (commit_on (region_now (words_at shape f i)) (txn_in marks i (words_at shape f i))) says_done marks new i (words_at shape f i) (words_at shape g i) answer
    → OnFault answer (λ k. (k ≡ 0) × (words_at shape g i ≡ words_at shape f i))
    → (words_at shape g i ≡ words_at shape f i) ⊎ ((mark_of marks i ≡ Some false) × Dropped n (words_at shape f i) (words_at shape g i))
    → OnOk answer (new ≡ set_mark marks i None) → (IsErr answer → new ≡ marks) → ((IsErrOf answer Stopped → ⊥) → Fits new i m (words_at shape g i))
    → CallEnds shape g new s (Commit path) (told says_done answer)
commit_ends shape f g marks s path i n r c new m answer ends fault either closed table fits =
    by_answer says_done answer (CallEnds shape g new s (Commit path)) (commit_on (region_now (words_at shape f i)) (txn_in marks i (words_at shape f i))) marks new i (words_at shape f i) (words_at shape g i) ends
    (λ v is done. call_done shape f g marks s path i n r c new m (Commit path) (λ q o. commit_on q o) Done served same done (fits (λ stop. cc (is, stop))) (sound either) (rows_close marks new i (mark_gone shape f g marks s path i n r c) (subst (λ a. OnOk a (new ≡ set_mark marks i None)) is closed)))
    (λ number refuses words rows. call_refused shape f g marks s path i n r c new (Commit path) (λ q o. commit_on q o) number served same refuses words rows)
    (λ k is. let x = at_fault answer k _ is fault in call_failed shape f g marks s path i n r c new (Commit path) k (x.0, refl) (unchanged x.1) (subst (λ w. RegionHeld i w (mark_of marks i) r (txn_at s.txns i)) (sym x.1) (own shape f g marks s path i n r c)) (table (ap is_err is)))
    (λ is. stopped either)
  where
    served : answer_of s (Commit path) ≡ changed s i (commit_on r (txn_at s.txns i))
    served = reached shape f g marks s path i n r c (λ j q o. changed s j (commit_on q o))

    same : commit_on r (txn_at s.txns i) ≡ commit_on (region_now (words_at shape f i)) (txn_in marks i (words_at shape f i))
    same = (answers shape f g marks s path i n r c).commit

    unchanged : words_at shape g i ≡ words_at shape f i → Undoes n (words_at shape f i) (words_at shape g i)
    unchanged e = subst (Undoes n (words_at shape f i)) (sym e) (undoes_refl n (words_at shape f i) (sound_before shape f g marks s path i n r c).region)

    opened : mark_of marks i ≡ Some false → RegionHeld i (words_at shape f i) (Some false) r (txn_at s.txns i)
    opened e = subst (λ b. RegionHeld i (words_at shape f i) b r (txn_at s.txns i)) e (own shape f g marks s path i n r c)

    dropped : mark_of marks i ≡ Some false → Dropped n (words_at shape f i) (words_at shape g i) → IsSoundRegion n (words_at shape g i)
    dropped e d = dropped_sound n (words_at shape f i) (words_at shape g i) (opened e).2 d

    sound : (words_at shape g i ≡ words_at shape f i) ⊎ ((mark_of marks i ≡ Some false) × Dropped n (words_at shape f i) (words_at shape g i)) → IsSoundRegion n (words_at shape g i)
    sound (inl e) = subst (IsSoundRegion n) (sym e) (sound_before shape f g marks s path i n r c)
    sound (inr x) = dropped x.0 x.1

    stopped : (words_at shape g i ≡ words_at shape f i) ⊎ ((mark_of marks i ≡ Some false) × Dropped n (words_at shape f i) (words_at shape g i)) → CallEnds shape g new s (Commit path) None
    stopped (inl e) = call_stopped shape f g marks s path i n r c new (Commit path) (unchanged e)
    stopped (inr x) =
        let after = dropped_held i n (words_at shape f i) (words_at shape g i) r (txn_at s.txns i) (opened x.0) x.1 in (
          with_region s i r None,
          inr (inl (ap (λ (a : Answered). a.next) (sym (served ∙ ap (changed s i) after.0)))),
          (call_moves shape f g marks s path i n r c (dropped x.0 x.1) None r None after.1).reads,
        )

-- ---- get: nothing changes

pub get_ends : (shape : VolumeShape) (f g : BlockWords) (marks : Marks) (s : State) (path : List ℕ) (i n : ℕ) (r : RegionNode) → CalledOn shape f g marks s path i n r → (off len : ℕ) (answer : Result (List ℕ) GetFail)
    → IfOk answer (λ bytes. get_on (region_now (words_at shape f i)) (txn_in marks i (words_at shape f i)) off len ≡ Ok (record { region = region_now (words_at shape f i); txn = txn_in marks i (words_at shape f i); reply = Bytes bytes }))
    → IfErr answer (λ e. (number : ℕ) → get_refusal_of e ≡ Some number → get_on (region_now (words_at shape f i)) (txn_in marks i (words_at shape f i)) off len ≡ Err number)
    → words_at shape g i ≡ words_at shape f i
    → CallEnds shape g marks s (Get path off len) (get_told says_bytes answer)
get_ends shape f g marks s path i n r c off len answer ok refused words = by answer ok refused
  where
    served : answer_of s (Get path off len) ≡ looked s (get_on r (txn_at s.txns i) off len)
    served = reached shape f g marks s path i n r c (λ j q o. looked s (get_on q o off len))

    same : get_on r (txn_at s.txns i) off len ≡ get_on (region_now (words_at shape f i)) (txn_in marks i (words_at shape f i)) off len
    same = (answers shape f g marks s path i n r c).get off len

    still : ReadsHeld shape g marks s
    still = same_held shape f g marks s path i n r c words

    refuses : (number : ℕ) → get_on (region_now (words_at shape f i)) (txn_in marks i (words_at shape f i)) off len ≡ Err number → CallEnds shape g marks s (Get path off len) (Some (RefusedBy number))
    refuses number e = (s, inl (served ∙ ap (looked s) (same ∙ e)), still)

    by : (answer : Result (List ℕ) GetFail)
        → IfOk answer (λ bytes. get_on (region_now (words_at shape f i)) (txn_in marks i (words_at shape f i)) off len ≡ Ok (record { region = region_now (words_at shape f i); txn = txn_in marks i (words_at shape f i); reply = Bytes bytes }))
        → IfErr answer (λ e. (number : ℕ) → get_refusal_of e ≡ Some number → get_on (region_now (words_at shape f i)) (txn_in marks i (words_at shape f i)) off len ≡ Err number)
        → CallEnds shape g marks s (Get path off len) (get_told says_bytes answer)
    by (Ok bytes) ok refused = (s, inl (served ∙ ap (looked s) (same ∙ ok)), still)
    by (Err GetOutOfRange) ok refused = refuses 19 (refused 19 refl)
    by (Err GetDoomed) ok refused = refuses 22 (refused 22 refl)
    by (Err GetMemory) ok refused = (s, inr (inl (tt, refl, refl)), still)
    by (Err GetFault) ok refused = (s, inr (inr (0, refl, (refl, refl))), still)
    by (Err GetStopped) ok refused = (s, inl refl, still.reads)

-- ---- begin: the words are not asked

pub begin_ends : (shape : VolumeShape) (f : BlockWords) (marks : Marks) (s : State) (path : List ℕ) (i n : ℕ) (r : RegionNode) → CalledOn shape f f marks s path i n r → (new : Marks) (answer : Result (Unit {0}) BeginFail)
    → OnOk answer ((mark_of marks i ≡ None) × (new ≡ set_mark marks i (Some false)))
    → (IsErrOf answer Busy → (b : Bool) × (mark_of marks i ≡ Some b))
    → (IsErr answer → new ≡ marks)
    → CallEnds shape f new s (Begin path) (begin_told Done answer)
begin_ends shape f marks s path i n r c new answer ok busy table = by answer ok busy table
  where
    served : answer_of s (Begin path) ≡ changed s i (begin_on i r (txn_at s.txns i))
    served = reached shape f f marks s path i n r c (λ j q o. changed s j (begin_on j q o))

    held_by : (b : Option Bool) → mark_of marks i ≡ b → RegionHeld i (words_at shape f i) b r (txn_at s.txns i)
    held_by b e = subst (λ k. RegionHeld i (words_at shape f i) k r (txn_at s.txns i)) e (own shape f f marks s path i n r c)

    refuses : new ≡ marks → (b : Bool) × (mark_of marks i ≡ Some b) → CallEnds shape f new s (Begin path) (Some (RefusedBy 13))
    refuses rows x = (s, inl (served ∙ ap (changed s i) (begin_refused i (words_at shape f i) x.0 r (txn_at s.txns i) (held_by (Some x.0) x.1))), subst (λ (ms : Marks). ReadsHeld shape f ms s) (sym rows) c.before)

    begins : (mark_of marks i ≡ None) × (new ≡ set_mark marks i (Some false)) → CallEnds shape f new s (Begin path) (Some Done)
    begins x =
        let sound = sound_before shape f f marks s path i n r c in
        let begun = begin_held i n (words_at shape f i) r (txn_at s.txns i) (held_by None x.0) sound in (
          with_region s i (region_now (words_at shape f i)) (Some (txn_now i (words_at shape f i) false)),
          inl (served ∙ ap (changed s i) begun.0),
          subst (λ (ms : Marks). ReadsHeld shape f ms (with_region s i (region_now (words_at shape f i)) (Some (txn_now i (words_at shape f i) false)))) (sym x.1) (call_moves shape f f marks s path i n r c sound (Some false) (region_now (words_at shape f i)) (Some (txn_now i (words_at shape f i) false)) begun.1),
        )

    by : (answer : Result (Unit {0}) BeginFail) → OnOk answer ((mark_of marks i ≡ None) × (new ≡ set_mark marks i (Some false))) → (IsErrOf answer Busy → (b : Bool) × (mark_of marks i ≡ Some b)) → (IsErr answer → new ≡ marks) → CallEnds shape f new s (Begin path) (begin_told Done answer)
    by (Ok v) ok busy table = begins ok
    by (Err Busy) ok busy table = refuses (table refl) (busy refl)
    by (Err BeginMemory) ok busy table = (s, inr (inl (tt, refl, refl)), subst (λ (ms : Marks). ReadsHeld shape f ms s) (sym (table refl)) c.before)
