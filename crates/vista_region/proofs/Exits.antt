-- What follows at an exit of a call on a transaction, by what was answered.
use Rattle.vista_region.proofs.Common.{◌≡◌, ℕ, ◌≤◌, ◌⊎◌, inl, inr, ◌%◌, ◌&&◌, Bool, true, false, cond, Option, Some, None, Result, Ok, Err, IsErrOf, is_some, refl, sym, ap, subst, ◌∙◌, true_false, RunFail, RegionContent, Txn, OfBlocks, IsRegion, Rests, live, Outcome}
use Rattle.std.proofs.Common.{eqb}
use Rattle.std.specs.Prelude.{IfErr}
use Rattle.rio_base.specs.Blocks.{Ends, EndsBy, Health, as_word}
use Rattle.rio_base.specs.Rules.{none_some}
use Rattle.rio_base.specs.declared.failures.RunFail.TheVariants.{Fault as RunFault, Stopped as RunStopped}
use Rattle.rio_base.specs.declared.failures.VolFail.{VolFail}
use Rattle.rio_base.specs.declared.failures.VolFail.TheVariants.{Fault as WordFault, Stopped as WordStopped}
use Rattle.rio_base.proofs.Rules.{ends_by, ends_by_as, ends_by_well}
use Rattle.rio_model.specs.Undo.{Dropped, Gains, SameSizes, Undoes}
use Rattle.rio_model.proofs.UndoRules.{undoes_refl}
use Rattle.rio_requests.specs.RegionAnswers.{on_open}
use Rattle.rio_requests.specs.declared.reply.Reply.{Reply}
use Rattle.undo_list.specs.declared.failures.UndoFail.{UndoFail}
use Rattle.undo_list.specs.declared.failures.UndoFail.TheVariants.{Full as NoRoom, Fault as UndoFault, Stopped as UndoStopped}
use Rattle.undo_list.proofs.Frames.{either_region}
use Rattle.recov_alloc.specs.declared.failures.HeapFail.{HeapFail}
use Rattle.recov_alloc.specs.declared.failures.HeapFail.TheVariants.{Full as NoGap, NotBlock as NoStart, UndoFull as NoUndo, Fault as HeapFault, Stopped as HeapStopped}
use Rattle.vista_region.specs.Ends.{DoneAs, Fits, IsFault, OnFault, TxnEnds, get_refusal_of}
use Rattle.vista_region.specs.Failures.{get_handed, handed, heap_handed, undo_handed}
use Rattle.vista_region.specs.Marks.{Marks, mark_of, marked_txn, txn_in}
use Rattle.vista_region.specs.Steps.{IsTold, opened, whole}
use Rattle.vista_region.specs.declared.failures.GetFail.{GetFail}
use Rattle.vista_region.specs.declared.failures.GetFail.TheVariants.{Doomed as GetDoomed, OutOfRange as PastData, Fault as GetFault, Stopped as GetStopped, Memory as NoMemory}
use Rattle.vista_region.specs.declared.failures.TxnFail.{TxnFail}
use Rattle.vista_region.specs.declared.failures.TxnFail.TheVariants.{NoTransaction, Doomed, NotAligned, OutOfRange, NotCovered, NotBlock, HeapFull, UndoFull, Fault, Stopped}
use Rattle.vista_region.proofs.Ended.{fits_open, told_apart}

-- ---- a call that was neither cut off by a fault nor stopped

pub told_ends : {T : Type 0} (s t : Health) (q : Result T TxnFail) → IsTold q → s.faults ≤ t.faults → t.stopped ≡ s.stopped → EndsBy s t (IsFault q) (IsErrOf q Stopped)
told_ends s t q told later same = ends_by_well s t (IsFault q) (IsErrOf q Stopped) later same (told_apart q told) (λ stop. subst (λ x. IsTold x) stop told)

pub told_quiet : {T : Type 0} (q : Result T TxnFail) (P : ℕ → Type 0) → IsTold q → OnFault q P
told_quiet (Ok v) P told = tt
told_quiet (Err NoTransaction) P told = tt
told_quiet (Err Doomed) P told = tt
told_quiet (Err NotAligned) P told = tt
told_quiet (Err OutOfRange) P told = tt
told_quiet (Err NotCovered) P told = tt
told_quiet (Err NotBlock) P told = tt
told_quiet (Err HeapFull) P told = tt
told_quiet (Err UndoFull) P told = tt
told_quiet (Err (Fault k)) P told = absurd told
told_quiet (Err Stopped) P told = tt

err_told : (T U : Type 0) (e : TxnFail) → IsTold {T = T} (Err e) → IsTold {T = U} (Err e)
err_told T U NoTransaction told = tt
err_told T U Doomed told = tt
err_told T U NotAligned told = tt
err_told T U OutOfRange told = tt
err_told T U NotCovered told = tt
err_told T U NotBlock told = tt
err_told T U HeapFull told = tt
err_told T U UndoFull told = tt
err_told T U (Fault k) told = told
err_told T U Stopped told = told

pub told_as : {T U : Type 0} (r : Result T TxnFail) (q : Result U TxnFail) (e d : TxnFail) → r ≡ Err e → q ≡ Err d → d ≡ e → IsTold r → IsTold q
told_as {T} {U} r q e d is at same told = subst (λ x. IsTold x) (sym (at ∙ ap Err same)) (err_told T U e (subst (λ x. IsTold x) is told))

opened_told : (o : Option Bool) → IsTold (opened o)
opened_told None = tt
opened_told (Some true) = tt
opened_told (Some false) = tt

-- the transaction serves no calls
pub told_active : {U : Type 0} (marks : Marks) (i : ℕ) (r : Result (Unit {0}) TxnFail) (q : Result U TxnFail) (e d : TxnFail) → r ≡ Err e → q ≡ Err d → d ≡ e → r ≡ opened (mark_of marks i) → IsTold q
told_active marks i r q e d is at same opens = told_as r q e d is at same (subst (λ x. IsTold x) (sym opens) (opened_told (mark_of marks i)))

whole_told : (b : Bool) (r : Result (Unit {0}) TxnFail) → r ≡ cond b (Ok tt) (Err NotAligned) → IsTold r
whole_told true r is = subst (λ x. IsTold x) (sym is) tt
whole_told false r is = subst (λ x. IsTold x) (sym is) tt

-- no whole words
pub told_words : {U : Type 0} (off len : ℕ) (r : Result (Unit {0}) TxnFail) (q : Result U TxnFail) (e d : TxnFail) → r ≡ Err e → q ≡ Err d → d ≡ e → r ≡ whole off len → IsTold q
told_words off len r q e d is at same words = told_as r q e d is at same (whole_told ((eqb (off % 8) 0) && (eqb (len % 8) 0)) r words)

-- past the data
pub told_past : {U : Type 0} (q : Result U TxnFail) (e d : TxnFail) → q ≡ Err d → d ≡ e → e ≡ OutOfRange → IsTold q
told_past q e d at same is = subst (λ x. IsTold x) (sym (at ∙ ap Err (same ∙ is))) tt

-- what a call comes to where the transaction serves none
pub inactive : {T : Type 0} (go : Txn → Outcome) (says : T → Reply) (marks : Marks) (i : ℕ) (f : RegionContent) (r : Result (Unit {0}) TxnFail) (q : Result T TxnFail) (e d : TxnFail) → r ≡ Err e → q ≡ Err d → d ≡ e → r ≡ opened (mark_of marks i) → TxnEnds (on_open (txn_in marks i f) go) says marks marks i f f q
inactive {T} go says marks i f r q e d is at same opens = subst (λ x. TxnEnds (on_open (txn_in marks i f) go) says marks marks i f f x) (sym (at ∙ ap Err same)) (by (mark_of marks i) (sym opens ∙ is))
  where
    by : (o : Option Bool) → opened o ≡ Err e → TxnEnds {T = T} (on_open (marked_txn i f o) go) says marks marks i f f (Err e)
    by None eq = let z : NoTransaction ≡ e = cc in subst (λ x. TxnEnds {T = T} (Err 14) says marks marks i f f (Err x)) z (refl, refl, refl)
    by (Some true) eq = let z : Doomed ≡ e = cc in subst (λ x. TxnEnds {T = T} (Err 22) says marks marks i f f (Err x)) z (refl, refl, refl)
    by (Some false) eq = absurd cc

-- ---- a failure of the region's words, handed on

handed_as : {T U : Type 0} (s t : Health) (e : VolFail) → Ends {T = T} s t (Err e) → EndsBy s t (IsFault {T = U} (Err (handed e))) (IsErrOf {T = U} (Err (handed e)) Stopped)
handed_as s t WordFault h = ends_by_as s t _ _ _ _ (λ a. refl) (λ a. cc) (λ a. cc) (ends_by s t (Err WordFault) h)
handed_as s t WordStopped h = ends_by_as s t _ _ _ _ (λ a. absurd a) (λ a. refl) (λ a. refl) (ends_by s t (Err WordStopped) h)

pub ends_handed : {T U : Type 0} (s t : Health) (r : Result T VolFail) (q : Result U TxnFail) (e : VolFail) (d : TxnFail) → r ≡ Err e → q ≡ Err d → d ≡ handed e → Ends s t r → EndsBy s t (IsFault q) (IsErrOf q Stopped)
ends_handed s t r q e d told is same h = subst (λ x. EndsBy s t (IsFault x) (IsErrOf x Stopped)) (sym (is ∙ ap Err same)) (handed_as s t e (subst (λ x. Ends s t x) told h))

pub handed_ends : {U : Type 0} (defined : Outcome) (says : U → Reply) (old new : Marks) (i : ℕ) (f g : RegionContent) (q : Result U TxnFail) (e : VolFail) (d : TxnFail) → q ≡ Err d → d ≡ handed e → TxnEnds defined says old new i f g q
handed_ends {U} defined says old new i f g q e d is same = subst (λ x. TxnEnds defined says old new i f g x) (sym (is ∙ ap Err same)) (by e)
  where
    by : (e : VolFail) → TxnEnds {T = U} defined says old new i f g (Err (handed e))
    by WordFault = tt
    by WordStopped = tt

pub handed_fault : {T U : Type 0} (r : Result T VolFail) (q : Result U TxnFail) (e : VolFail) (d : TxnFail) (P : ℕ → Type 0) → r ≡ Err e → q ≡ Err d → d ≡ handed e → (IsErrOf r WordFault → P 0) → OnFault q P
handed_fault {T} {U} r q e d P told is same p = subst (λ x. OnFault x P) (sym (is ∙ ap Err same)) (by e told)
  where
    by : (e : VolFail) → r ≡ Err e → OnFault {T = U} (Err (handed e)) P
    by WordFault told = p told
    by WordStopped told = tt

-- ---- one of the undo list, and one of the heap

undo_as : {T U : Type 0} (s t : Health) (e : UndoFail) → EndsBy s t (IsErrOf {T = T} (Err e) UndoFault) (IsErrOf {T = T} (Err e) UndoStopped) → EndsBy s t (IsFault {T = U} (Err (undo_handed e))) (IsErrOf {T = U} (Err (undo_handed e)) Stopped)
undo_as s t NoRoom h = ends_by_as s t _ _ _ _ (λ a. absurd a) (λ a. cc) (λ a. cc) h
undo_as s t UndoFault h = ends_by_as s t _ _ _ _ (λ a. refl) (λ a. cc) (λ a. cc) h
undo_as s t UndoStopped h = ends_by_as s t _ _ _ _ (λ a. absurd a) (λ a. refl) (λ a. refl) h

pub ends_undo : {T U : Type 0} (s t : Health) (r : Result T UndoFail) (q : Result U TxnFail) (e : UndoFail) (d : TxnFail) → r ≡ Err e → q ≡ Err d → d ≡ undo_handed e → EndsBy s t (IsErrOf r UndoFault) (IsErrOf r UndoStopped) → EndsBy s t (IsFault q) (IsErrOf q Stopped)
ends_undo s t r q e d told is same h = subst (λ x. EndsBy s t (IsFault x) (IsErrOf x Stopped)) (sym (is ∙ ap Err same)) (undo_as s t e (subst (λ x. EndsBy s t (IsErrOf x UndoFault) (IsErrOf x UndoStopped)) told h))

heap_as : {T U : Type 0} (s t : Health) (e : HeapFail) → EndsBy s t (IsErrOf {T = T} (Err e) HeapFault) (IsErrOf {T = T} (Err e) HeapStopped) → EndsBy s t (IsFault {T = U} (Err (heap_handed e))) (IsErrOf {T = U} (Err (heap_handed e)) Stopped)
heap_as s t NoGap h = ends_by_as s t _ _ _ _ (λ a. absurd a) (λ a. cc) (λ a. cc) h
heap_as s t NoStart h = ends_by_as s t _ _ _ _ (λ a. absurd a) (λ a. cc) (λ a. cc) h
heap_as s t NoUndo h = ends_by_as s t _ _ _ _ (λ a. absurd a) (λ a. cc) (λ a. cc) h
heap_as s t HeapFault h = ends_by_as s t _ _ _ _ (λ a. refl) (λ a. cc) (λ a. cc) h
heap_as s t HeapStopped h = ends_by_as s t _ _ _ _ (λ a. absurd a) (λ a. refl) (λ a. refl) h

pub ends_heap : {T U : Type 0} (s t : Health) (r : Result T HeapFail) (q : Result U TxnFail) (e : HeapFail) (d : TxnFail) → r ≡ Err e → q ≡ Err d → d ≡ heap_handed e → EndsBy s t (IsErrOf r HeapFault) (IsErrOf r HeapStopped) → EndsBy s t (IsFault q) (IsErrOf q Stopped)
ends_heap s t r q e d told is same h = subst (λ x. EndsBy s t (IsFault x) (IsErrOf x Stopped)) (sym (is ∙ ap Err same)) (heap_as s t e (subst (λ x. EndsBy s t (IsErrOf x HeapFault) (IsErrOf x HeapStopped)) told h))

-- its faults come before any byte
pub heap_fault : {U : Type 0} (q : Result U TxnFail) (e : HeapFail) (d : TxnFail) → q ≡ Err d → d ≡ heap_handed e → OnFault q (λ k. k ≡ 0)
heap_fault {U} q e d is same = subst (λ x. OnFault x (λ k. k ≡ 0)) (sym (is ∙ ap Err same)) (by e)
  where
    by : (e : HeapFail) → OnFault {T = U} (Err (heap_handed e)) (λ k. k ≡ 0)
    by NoGap = tt
    by NoStart = tt
    by NoUndo = tt
    by HeapFault = refl
    by HeapStopped = tt

-- where it was refused, the blocks are as they were
pub heap_stays : {T U : Type 0} (r : Result T HeapFail) (q : Result U TxnFail) (e : HeapFail) (d : TxnFail) (f g : RegionContent) → r ≡ Err e → q ≡ Err d → d ≡ heap_handed e → (IsErrOf r NoGap → g ≡ f) → (IsErrOf r NoStart → g ≡ f) → (IsErrOf r NoUndo → g ≡ f) → OfBlocks (live f) (f 2) → IsTold q → OfBlocks (live g) (g 2)
heap_stays {T} {U} r q e d f g told is same gap start undo blocks t = by e told (subst (λ x. IsTold x) (is ∙ ap Err same) t)
  where
    stay : g ≡ f → OfBlocks (live g) (g 2)
    stay k = subst (λ (w : RegionContent). OfBlocks (live w) (w 2)) (sym k) blocks

    by : (e : HeapFail) → r ≡ Err e → IsTold {T = U} (Err (heap_handed e)) → OfBlocks (live g) (g 2)
    by NoGap told t = stay (gap told)
    by NoStart told t = stay (start told)
    by NoUndo told t = stay (undo told)
    by HeapFault told t = absurd t
    by HeapStopped told t = absurd t

-- ---- an answer of a transaction, handed on

err_fault : (T U : Type 0) (e : TxnFail) → IsFault {T = T} (Err e) → IsFault {T = U} (Err e)
err_fault T U NoTransaction h = h
err_fault T U Doomed h = h
err_fault T U NotAligned h = h
err_fault T U OutOfRange h = h
err_fault T U NotCovered h = h
err_fault T U NotBlock h = h
err_fault T U HeapFull h = h
err_fault T U UndoFull h = h
err_fault T U (Fault k) h = h
err_fault T U Stopped h = h

stop_as : {T U : Type 0} (e : TxnFail) → IsErrOf {T = T} (Err e) Stopped → IsErrOf {T = U} (Err e) Stopped
stop_as e h = cc

pub ends_as : {T U : Type 0} (s t : Health) (r : Result T TxnFail) (q : Result U TxnFail) (e d : TxnFail) → r ≡ Err e → q ≡ Err d → d ≡ e → EndsBy s t (IsFault r) (IsErrOf r Stopped) → EndsBy s t (IsFault q) (IsErrOf q Stopped)
ends_as {T} {U} s t r q e d told is same h = subst (λ x. EndsBy s t (IsFault x) (IsErrOf x Stopped)) (sym (is ∙ ap Err same)) (ends_by_as s t (IsFault {T = T} (Err e)) (IsErrOf {T = T} (Err e) Stopped) (IsFault {T = U} (Err e)) (IsErrOf {T = U} (Err e) Stopped) (err_fault U T e) (stop_as e) (stop_as e) (subst (λ x. EndsBy s t (IsFault x) (IsErrOf x Stopped)) told h))

pub fault_as : {T U : Type 0} (r : Result T TxnFail) (q : Result U TxnFail) (e d : TxnFail) → r ≡ Err e → q ≡ Err d → d ≡ e → IsFault r → IsFault q
fault_as {T} {U} r q e d told is same h = subst (λ x. IsFault x) (sym (is ∙ ap Err same)) (err_fault T U e (subst (λ x. IsFault x) told h))

-- what a fault leaves
pub fault_handed : {T U : Type 0} (r : Result T TxnFail) (q : Result U TxnFail) (e d : TxnFail) (P : ℕ → Type 0) → r ≡ Err e → q ≡ Err d → d ≡ e → OnFault r (λ k. k ≡ 0) → (IsFault r → P 0) → OnFault q P
fault_handed {T} {U} r q e d P told is same none p = subst (λ x. OnFault x P) (sym (is ∙ ap Err same)) (by e (subst (λ x. OnFault x (λ k. k ≡ 0)) told none) (subst (λ x. IsFault x → P 0) told p))
  where
    by : (e : TxnFail) → OnFault {T = T} (Err e) (λ k. k ≡ 0) → (IsFault {T = T} (Err e) → P 0) → OnFault {T = U} (Err e) P
    by NoTransaction none p = tt
    by Doomed none p = tt
    by NotAligned none p = tt
    by OutOfRange none p = tt
    by NotCovered none p = tt
    by NotBlock none p = tt
    by HeapFull none p = tt
    by UndoFull none p = tt
    by (Fault k) none p = subst P (sym none) (p tt)
    by Stopped none p = tt

pub doomed_fault : {T : Type 0} (r q : Result T TxnFail) (P : ℕ → Type 0) → q ≡ r → OnFault r (λ k. k ≡ 0) → (IsFault r → P 0) → OnFault q P
doomed_fault {T} r q P same none p = subst (λ x. OnFault x P) (sym same) (by r none p)
  where
    by : (r : Result T TxnFail) → OnFault r (λ k. k ≡ 0) → (IsFault r → P 0) → OnFault r P
    by (Ok v) none p = tt
    by (Err NoTransaction) none p = tt
    by (Err Doomed) none p = tt
    by (Err NotAligned) none p = tt
    by (Err OutOfRange) none p = tt
    by (Err NotCovered) none p = tt
    by (Err NotBlock) none p = tt
    by (Err HeapFull) none p = tt
    by (Err UndoFull) none p = tt
    by (Err (Fault k)) none p = subst P (sym none) (p tt)
    by (Err Stopped) none p = tt

pub ok_calm : {T : Type 0} (r : Result T TxnFail) (v : T) → r ≡ Ok v → IsFault r → ⊥
ok_calm r v is h = subst (λ x. IsFault x) is h

-- a refusal that is handed on, where the table is as it was unless there was a fault
pub refused_handed : {T U : Type 0} (defined : Outcome) (says : T → Reply) (tells : U → Reply) (old new : Marks) (i : ℕ) (f g : RegionContent) (r : Result T TxnFail) (q : Result U TxnFail) (e d : TxnFail) → r ≡ Err e → q ≡ Err d → d ≡ e → ((IsFault r → ⊥) → new ≡ old) → TxnEnds defined says old old i f g r → TxnEnds defined tells old new i f g q
refused_handed {T} {U} defined says tells old new i f g r q e d told is same kept ends = subst (λ x. TxnEnds defined tells old new i f g x) (sym (is ∙ ap Err same)) (by e (subst (λ x. (IsFault x → ⊥) → new ≡ old) told kept) (subst (λ x. TxnEnds defined says old old i f g x) told ends))
  where
    by : (e : TxnFail) → ((IsFault {T = T} (Err e) → ⊥) → new ≡ old) → TxnEnds {T = T} defined says old old i f g (Err e) → TxnEnds {T = U} defined tells old new i f g (Err e)
    by NoTransaction kept h = (h.0, h.1, kept (λ a. a))
    by Doomed kept h = (h.0, h.1, kept (λ a. a))
    by NotAligned kept h = (h.0, h.1, kept (λ a. a))
    by OutOfRange kept h = (h.0, h.1, kept (λ a. a))
    by NotCovered kept h = (h.0, h.1, kept (λ a. a))
    by NotBlock kept h = (h.0, h.1, kept (λ a. a))
    by HeapFull kept h = (h.0, h.1, kept (λ a. a))
    by UndoFull kept h = (h.0, h.1, kept (λ a. a))
    by (Fault k) kept h = tt
    by Stopped kept h = tt

-- the same of any answer
pub ends_dooming : {T : Type 0} (defined : Outcome) (says : T → Reply) (old new : Marks) (i : ℕ) (f g : RegionContent) (r q : Result T TxnFail) → q ≡ r → ((IsFault r → ⊥) → new ≡ old) → TxnEnds defined says old old i f g r → TxnEnds defined says old new i f g q
ends_dooming {T} defined says old new i f g r q same kept ends = subst (λ x. TxnEnds defined says old new i f g x) (sym same) (by r kept ends)
  where
    by : (r : Result T TxnFail) → ((IsFault r → ⊥) → new ≡ old) → TxnEnds defined says old old i f g r → TxnEnds defined says old new i f g r
    by (Ok v) kept h = subst (λ (ms : Marks). DoneAs defined ms i g (says v)) (sym (kept (λ a. a))) h
    by (Err e) kept h = refused_handed defined says says old new i f g (Err e) (Err e) e e refl refl refl kept h

-- ---- a run of stores that was cut off

pub ends_fault : {T U : Type 0} (s t : Health) (e : RunFail) (k n : ℕ) → e ≡ RunFault k → Ends s t (as_word {T = T} (Err e)) → EndsBy s t (IsFault {T = U} (Err (Fault n))) (IsErrOf {T = U} (Err (Fault n)) Stopped)
ends_fault {T} s t e k n is h = ends_by_as s t _ _ _ _ (λ a. refl) (λ a. cc) (λ a. cc) (ends_by s t (Err WordFault) (subst (λ (x : RunFail). Ends s t (as_word {T = T} (Err x))) is h))

pub ends_stop : {T U : Type 0} (s t : Health) (e : RunFail) → e ≡ RunStopped → Ends s t (as_word {T = T} (Err e)) → EndsBy s t (IsFault {T = U} (Err Stopped)) (IsErrOf {T = U} (Err Stopped) Stopped)
ends_stop {T} s t e is h = ends_by_as s t _ _ _ _ (λ a. absurd a) (λ a. refl) (λ a. refl) (ends_by s t (Err WordStopped) (subst (λ (x : RunFail). Ends s t (as_word {T = T} (Err x))) is h))

-- ---- a failure of the region's words, told by a read

get_as : {T U : Type 0} (s t : Health) (e : VolFail) → Ends {T = T} s t (Err e) → EndsBy s t (IsErrOf {T = U} (Err (get_handed e)) GetFault) (IsErrOf {T = U} (Err (get_handed e)) GetStopped)
get_as s t WordFault h = ends_by_as s t _ _ _ _ (λ a. refl) (λ a. cc) (λ a. cc) (ends_by s t (Err WordFault) h)
get_as s t WordStopped h = ends_by_as s t _ _ _ _ (λ a. cc) (λ a. refl) (λ a. refl) (ends_by s t (Err WordStopped) h)

pub ends_get : {T U : Type 0} (s t : Health) (r : Result T VolFail) (q : Result U GetFail) (e : VolFail) (d : GetFail) → r ≡ Err e → q ≡ Err d → d ≡ get_handed e → Ends s t r → EndsBy s t (IsErrOf q GetFault) (IsErrOf q GetStopped)
ends_get s t r q e d told is same h = subst (λ x. EndsBy s t (IsErrOf x GetFault) (IsErrOf x GetStopped)) (sym (is ∙ ap Err same)) (get_as s t e (subst (λ x. Ends s t x) told h))

get_err_as : {T U : Type 0} (e a : GetFail) → IsErrOf {T = T} (Err e) a → IsErrOf {T = U} (Err e) a
get_err_as e a h = cc

-- a failure of a read, handed on
pub ends_read : {T U : Type 0} (s t : Health) (r : Result T GetFail) (q : Result U GetFail) (e d : GetFail) → r ≡ Err e → q ≡ Err d → d ≡ e → EndsBy s t (IsErrOf r GetFault) (IsErrOf r GetStopped) → EndsBy s t (IsErrOf q GetFault) (IsErrOf q GetStopped)
ends_read {T} {U} s t r q e d told is same h = subst (λ x. EndsBy s t (IsErrOf x GetFault) (IsErrOf x GetStopped)) (sym (is ∙ ap Err same)) (ends_by_as s t (IsErrOf {T = T} (Err e) GetFault) (IsErrOf {T = T} (Err e) GetStopped) (IsErrOf {T = U} (Err e) GetFault) (IsErrOf {T = U} (Err e) GetStopped) (get_err_as e GetFault) (get_err_as e GetStopped) (get_err_as e GetStopped) (subst (λ x. EndsBy s t (IsErrOf x GetFault) (IsErrOf x GetStopped)) told h))

pub told_read : {T U : Type 0} (r : Result T GetFail) (q : Result U GetFail) (e d : GetFail) → r ≡ Err e → q ≡ Err d → d ≡ e → IfErr r (λ x. get_refusal_of x ≡ None) → IfErr q (λ x. get_refusal_of x ≡ None)
told_read r q e d told is same h = subst (λ x. IfErr x (λ x. get_refusal_of x ≡ None)) (sym (is ∙ ap Err same)) (subst (λ x. IfErr x (λ x. get_refusal_of x ≡ None)) told h)

get_no_err : {U : Type 0} (x : U) (a : GetFail) → IsErrOf (Ok x) a → ⊥
get_no_err x a h = cc

pub read_ends : {U : Type 0} (s t : Health) (x : U) → s.faults ≤ t.faults → t.stopped ≡ s.stopped → EndsBy s t (IsErrOf (Ok x) GetFault) (IsErrOf (Ok x) GetStopped)
read_ends s t x later same = ends_by_well s t _ _ later same (get_no_err x GetFault) (get_no_err x GetStopped)

-- a failure that is neither a fault nor a stop
pub read_doomed : {U : Type 0} (s t : Health) → s.faults ≤ t.faults → t.stopped ≡ s.stopped → EndsBy s t (IsErrOf {T = U} (Err GetDoomed) GetFault) (IsErrOf {T = U} (Err GetDoomed) GetStopped)
read_doomed s t later same = ends_by_well s t _ _ later same (λ a. cc) (λ a. cc)

pub read_past : {U : Type 0} (s t : Health) → s.faults ≤ t.faults → t.stopped ≡ s.stopped → EndsBy s t (IsErrOf {T = U} (Err PastData) GetFault) (IsErrOf {T = U} (Err PastData) GetStopped)
read_past s t later same = ends_by_well s t _ _ later same (λ a. cc) (λ a. cc)

pub read_memory : {U : Type 0} (s t : Health) (q : Result U GetFail) (d : GetFail) → q ≡ Err d → d ≡ NoMemory → s.faults ≤ t.faults → t.stopped ≡ s.stopped → EndsBy s t (IsErrOf q GetFault) (IsErrOf q GetStopped)
read_memory s t q d is same later runs = subst (λ x. EndsBy s t (IsErrOf x GetFault) (IsErrOf x GetStopped)) (sym (is ∙ ap Err same)) (ends_by_well s t _ _ later runs (λ a. cc) (λ a. cc))

-- it is no refusal
pub unread_get : {U : Type 0} (q : Result U GetFail) (e : VolFail) (d : GetFail) → q ≡ Err d → d ≡ get_handed e → IfErr q (λ x. get_refusal_of x ≡ None)
unread_get {U} q e d is same = subst (λ x. IfErr x (λ x. get_refusal_of x ≡ None)) (sym (is ∙ ap Err same)) (by e)
  where
    by : (e : VolFail) → IfErr {T = U} (Err (get_handed e)) (λ x. get_refusal_of x ≡ None)
    by WordFault = refl
    by WordStopped = refl

pub memory_get : {U : Type 0} (q : Result U GetFail) (d : GetFail) → q ≡ Err d → d ≡ NoMemory → IfErr q (λ x. get_refusal_of x ≡ None)
memory_get q d is same = subst (λ x. IfErr x (λ x. get_refusal_of x ≡ None)) (sym (is ∙ ap Err same)) refl

pub none_refused : {U : Type 0} (q : Result U GetFail) (P : ℕ → Type 0) → IfErr q (λ x. get_refusal_of x ≡ None) → IfErr q (λ x. (n : ℕ) → get_refusal_of x ≡ Some n → P n)
none_refused (Ok v) P h = tt
none_refused (Err e) P h = λ n some. absurd (none_some n (get_refusal_of e) h some)

-- ---- the region, and what fits it

pub undoes_same : (n : ℕ) (f g : RegionContent) → IsRegion n f → g ≡ f → Undoes n f g
undoes_same n f g h same = subst (λ (w : RegionContent). Undoes n f w) (sym same) (undoes_refl n f h)

pub undoes_region : (n k : ℕ) (f g : RegionContent) → k ≡ n → Undoes n f g → IsRegion k g
undoes_region n k f g size h = subst (λ j. IsRegion j g) (sym size) h.region

pub fits_same : (marks : Marks) (i n k : ℕ) (f g : RegionContent) → k ≡ n → g ≡ f → Fits marks i n f → Fits marks i k g
fits_same marks i n k f g size same h = subst (λ j. Fits marks i j g) (sym size) (subst (λ (w : RegionContent). Fits marks i n w) (sym same) h)

blocks_live : (f g : RegionContent) → SameSizes f g → live g ≡ live f → OfBlocks (live f) (f 2) → OfBlocks (live g) (g 2)
blocks_live f g sizes present h = subst (λ d. OfBlocks (live g) d) (sym sizes.data_pages) (subst (λ (l : ℕ → ℕ). OfBlocks l (f 2)) (sym present) h)

-- a record more, or none
pub fits_range : (marks : Marks) (i n k : ℕ) (f g : RegionContent) (place count : ℕ) → mark_of marks i ≡ Some false → Fits marks i n f → k ≡ n → Rests n f g ⊎ Gains n f g place count → Fits marks i k g
fits_range marks i n k f g place count m h size either = fits_open marks i k g m (either_region n k f g place count size either) (by either)
  where
    by : Rests n f g ⊎ Gains n f g place count → OfBlocks (live g) (g 2)
    by (inl r) = blocks_live f g r.sizes r.present (h.heap m)
    by (inr r) = blocks_live f g r.sizes r.present (h.heap m)

-- ---- the end of a transaction

pub handed_is_fault : {T U : Type 0} (r : Result T VolFail) (q : Result U TxnFail) (e : VolFail) (d : TxnFail) → r ≡ Err e → q ≡ Err d → d ≡ handed e → (IsErrOf q Stopped → ⊥) → IsErrOf r WordFault
handed_is_fault r q WordFault d told is same runs = told
handed_is_fault r q WordStopped d told is same runs = absurd (runs (is ∙ ap Err same))

pub either_open : (n : ℕ) (f g : RegionContent) (A : Type 0) → A → (g ≡ f) ⊎ Dropped n f g → (g ≡ f) ⊎ (A × Dropped n f g)
either_open n f g A a (inl same) = inl same
either_open n f g A a (inr d) = inr (a, d)

pub none_of : (o : Option Bool) → is_some o ≡ false → o ≡ None
none_of None e = refl
none_of (Some b) e = absurd (true_false e)
