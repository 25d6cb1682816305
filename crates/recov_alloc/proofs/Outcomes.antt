-- What follows at one outcome of a call.
use Rattle.std.specs.Prelude.{◌≡◌, ◌≤◌, Result, Ok, Err, IsErrOf, OnOk, ◌⊎◌}
use Rattle.std.proofs.Common.{inl, inr, sym, subst, ap, refl, ◌∙◌}
use Rattle.rio_base.specs.declared.failures.RunFail.{RunFail}
use Rattle.rio_base.specs.declared.failures.RunFail.TheVariants.{Fault, Stopped}
use Rattle.rio_base.specs.declared.failures.VolFail.{VolFail}
use Rattle.rio_base.specs.declared.failures.VolFail.TheVariants.{Fault as WordFault, Stopped as WordStopped}
use Rattle.rio_base.specs.declared.failures.ReadFail.{ReadFail}
use Rattle.rio_base.specs.declared.failures.ReadFail.TheVariants.{Fault as ReadFault, Memory, Stopped as ReadStopped}
use Rattle.rio_base.specs.Failures.{read_fail}
use Rattle.rio_base.specs.Blocks.{Ends, EndsBy, Health, as_word}
use Rattle.rio_base.proofs.Rules.{ends_by, ends_by_as, ends_by_well}
use Rattle.undo_list.specs.Failures.{handed}
use Rattle.recov_alloc.specs.Failures.{handed as heap_handed, undo_handed}
use Rattle.recov_alloc.specs.declared.failures.HeapFail.{HeapFail}
use Rattle.recov_alloc.specs.declared.failures.HeapFail.TheVariants.{Fault as HeapFault, Full as NoGap, NotBlock, Stopped as HeapStopped, UndoFull}
use Rattle.undo_list.specs.declared.failures.UndoFail.{UndoFail}
use Rattle.undo_list.specs.declared.failures.UndoFail.TheVariants.{Fault as UndoFault, Full, Stopped as UndoStopped}

on_as_word : {T : Type 0} (r : Result T RunFail) (P Q : Type 0) → (P → Q) → OnOk r P → OnOk (as_word r) Q
on_as_word (Ok x) P Q h p = h p
on_as_word (Err (Fault n)) P Q h p = tt
on_as_word (Err Stopped) P Q h p = tt

-- without its count of words
pub on_word : {T : Type 0} (r : Result T RunFail) (w : Result T VolFail) (P Q : Type 0) → w ≡ as_word r → (P → Q) → OnOk r P → OnOk w Q
on_word r w P Q is h p = subst (λ (x : Result _ VolFail). OnOk x Q) (sym is) (on_as_word r P Q h p)

-- ---- a failure that is handed on, as one of the undo list

handed_as : {T U : Type 0} (s t : Health) (e : VolFail) → Ends {T = T} s t (Err e) → EndsBy s t (IsErrOf {T = U} (Err (handed e)) UndoFault) (IsErrOf {T = U} (Err (handed e)) UndoStopped)
handed_as s t WordFault h = ends_by_as s t _ _ _ _ (λ a. refl) (λ a. cc) (λ a. cc) (ends_by s t (Err WordFault) h)
handed_as s t WordStopped h = ends_by_as s t _ _ _ _ (λ a. cc) (λ a. refl) (λ a. refl) (ends_by s t (Err WordStopped) h)

pub ends_handed : {T U : Type 0} (s t : Health) (r : Result T VolFail) (q : Result U UndoFail) (e : VolFail) (d : UndoFail) → r ≡ Err e → q ≡ Err d → d ≡ handed e → Ends s t r → EndsBy s t (IsErrOf q UndoFault) (IsErrOf q UndoStopped)
ends_handed s t r q e d told is same h = subst (λ x. EndsBy s t (IsErrOf x UndoFault) (IsErrOf x UndoStopped)) (sym (is ∙ ap Err same)) (handed_as s t e (subst (λ x. Ends s t x) told h))

pub never_full : {U : Type 0} (q : Result U UndoFail) (e : VolFail) (d : UndoFail) → q ≡ Err d → d ≡ handed e → IsErrOf q Full → ⊥
never_full q WordFault d is same full = cc
never_full q WordStopped d is same full = cc

-- an answer that is handed on as it is
pub same_err : {T : Type 0} (r q : Result T UndoFail) (e d : UndoFail) → r ≡ Err e → q ≡ Err d → d ≡ e → r ≡ q
same_err r q e d told is same = told ∙ ap Err (sym same) ∙ sym is

pub ends_same : {T : Type 0} (s t : Health) (r q : Result T UndoFail) (e d : UndoFail) → r ≡ Err e → q ≡ Err d → d ≡ e → EndsBy s t (IsErrOf r UndoFault) (IsErrOf r UndoStopped) → EndsBy s t (IsErrOf q UndoFault) (IsErrOf q UndoStopped)
ends_same s t r q e d told is same h = subst (λ x. EndsBy s t (IsErrOf x UndoFault) (IsErrOf x UndoStopped)) (same_err r q e d told is same) h

pub no_err : {U : Type 0} (x : U) (d : UndoFail) → IsErrOf (Ok x) d → ⊥
no_err x d told = cc

pub ends_did : {U : Type 0} (s t : Health) (x : U) → s.faults ≤ t.faults → t.stopped ≡ s.stopped → EndsBy s t (IsErrOf (Ok x) UndoFault) (IsErrOf (Ok x) UndoStopped)
ends_did s t x later same = ends_by_well s t _ _ later same (no_err x UndoFault) (no_err x UndoStopped)

-- ---- a failure of the region's words, handed on as it is

err_as : {T U : Type 0} (s t : Health) (e : VolFail) → Ends {T = T} s t (Err e) → Ends {T = U} s t (Err e)
err_as s t WordFault h = record { later = h.later; stays = h.stays; cause = h.cause }
err_as s t WordStopped h = record { later = h.later; stays = h.stays; cause = h.cause }

pub ends_err : {T U : Type 0} (s t : Health) (r : Result T VolFail) (q : Result U VolFail) (e d : VolFail) → r ≡ Err e → q ≡ Err d → d ≡ e → Ends s t r → Ends s t q
ends_err s t r q e d told is same h = subst (λ x. Ends s t x) (sym (is ∙ ap Err same)) (err_as s t e (subst (λ x. Ends s t x) told h))

-- ---- and as one of the heap

heap_as : {T U : Type 0} (s t : Health) (e : VolFail) → Ends {T = T} s t (Err e) → EndsBy s t (IsErrOf {T = U} (Err (heap_handed e)) HeapFault) (IsErrOf {T = U} (Err (heap_handed e)) HeapStopped)
heap_as s t WordFault h = ends_by_as s t _ _ _ _ (λ a. refl) (λ a. cc) (λ a. cc) (ends_by s t (Err WordFault) h)
heap_as s t WordStopped h = ends_by_as s t _ _ _ _ (λ a. cc) (λ a. refl) (λ a. refl) (ends_by s t (Err WordStopped) h)

pub ends_heap : {T U : Type 0} (s t : Health) (r : Result T VolFail) (q : Result U HeapFail) (e : VolFail) (d : HeapFail) → r ≡ Err e → q ≡ Err d → d ≡ heap_handed e → Ends s t r → EndsBy s t (IsErrOf q HeapFault) (IsErrOf q HeapStopped)
ends_heap s t r q e d told is same h = subst (λ x. EndsBy s t (IsErrOf x HeapFault) (IsErrOf x HeapStopped)) (sym (is ∙ ap Err same)) (heap_as s t e (subst (λ x. Ends s t x) told h))

-- such a failure says nothing of the room, and nothing of blocks
pub heap_not_undo : {U : Type 0} (q : Result U HeapFail) (e : VolFail) (d : HeapFail) → q ≡ Err d → d ≡ heap_handed e → IsErrOf q UndoFull → ⊥
heap_not_undo q WordFault d is same told = cc
heap_not_undo q WordStopped d is same told = cc

pub heap_not_full : {U : Type 0} (q : Result U HeapFail) (e : VolFail) (d : HeapFail) → q ≡ Err d → d ≡ heap_handed e → IsErrOf q NoGap → ⊥
heap_not_full q WordFault d is same told = cc
heap_not_full q WordStopped d is same told = cc

pub heap_not_block : {U : Type 0} (q : Result U HeapFail) (e : VolFail) (d : HeapFail) → q ≡ Err d → d ≡ heap_handed e → IsErrOf q NotBlock → ⊥
heap_not_block q WordFault d is same told = cc
heap_not_block q WordStopped d is same told = cc

-- a failure of the undo list as one of the heap
undo_as : {T U : Type 0} (s t : Health) (e : UndoFail) → EndsBy s t (IsErrOf {T = T} (Err e) UndoFault) (IsErrOf {T = T} (Err e) UndoStopped) → EndsBy s t (IsErrOf {T = U} (Err (undo_handed e)) HeapFault) (IsErrOf {T = U} (Err (undo_handed e)) HeapStopped)
undo_as s t Full h = ends_by_as s t _ _ _ _ (λ a. cc) (λ a. cc) (λ a. cc) h
undo_as s t UndoFault h = ends_by_as s t _ _ _ _ (λ a. refl) (λ a. cc) (λ a. cc) h
undo_as s t UndoStopped h = ends_by_as s t _ _ _ _ (λ a. cc) (λ a. refl) (λ a. refl) h

pub ends_undo : {T U : Type 0} (s t : Health) (r : Result T UndoFail) (q : Result U HeapFail) (e : UndoFail) (d : HeapFail) → r ≡ Err e → q ≡ Err d → d ≡ undo_handed e → EndsBy s t (IsErrOf r UndoFault) (IsErrOf r UndoStopped) → EndsBy s t (IsErrOf q HeapFault) (IsErrOf q HeapStopped)
ends_undo s t r q e d told is same h = subst (λ x. EndsBy s t (IsErrOf x HeapFault) (IsErrOf x HeapStopped)) (sym (is ∙ ap Err same)) (undo_as s t e (subst (λ x. EndsBy s t (IsErrOf x UndoFault) (IsErrOf x UndoStopped)) told h))

pub undo_is_full : {T U : Type 0} (r : Result T UndoFail) (q : Result U HeapFail) (e : UndoFail) (d : HeapFail) → r ≡ Err e → q ≡ Err d → d ≡ undo_handed e → IsErrOf q UndoFull → IsErrOf r Full
undo_is_full r q Full d told is same full = told
undo_is_full r q UndoFault d told is same full = absurd cc
undo_is_full r q UndoStopped d told is same full = absurd cc

pub undo_not_full : {U : Type 0} (q : Result U HeapFail) (e : UndoFail) (d : HeapFail) → q ≡ Err d → d ≡ undo_handed e → IsErrOf q NoGap → ⊥
undo_not_full q Full d is same told = cc
undo_not_full q UndoFault d is same told = cc
undo_not_full q UndoStopped d is same told = cc

pub undo_not_block : {U : Type 0} (q : Result U HeapFail) (e : UndoFail) (d : HeapFail) → q ≡ Err d → d ≡ undo_handed e → IsErrOf q NotBlock → ⊥
undo_not_block q Full d is same told = cc
undo_not_block q UndoFault d is same told = cc
undo_not_block q UndoStopped d is same told = cc

-- answers of the heap's own
pub heap_none : {U : Type 0} (x : U) (d : HeapFail) → IsErrOf (Ok x) d → ⊥
heap_none x d told = cc

pub heap_did : {U : Type 0} (s t : Health) (x : U) → s.faults ≤ t.faults → t.stopped ≡ s.stopped → EndsBy s t (IsErrOf (Ok x) HeapFault) (IsErrOf (Ok x) HeapStopped)
heap_did s t x later same = ends_by_well s t _ _ later same (heap_none x HeapFault) (heap_none x HeapStopped)

pub no_gap_ends : {U : Type 0} (s t : Health) → s.faults ≤ t.faults → t.stopped ≡ s.stopped → EndsBy s t (IsErrOf {T = U} (Err NoGap) HeapFault) (IsErrOf {T = U} (Err NoGap) HeapStopped)
no_gap_ends s t later same = ends_by_well s t _ _ later same (λ a. cc) (λ a. cc)

pub no_block_ends : {U : Type 0} (s t : Health) → s.faults ≤ t.faults → t.stopped ≡ s.stopped → EndsBy s t (IsErrOf {T = U} (Err NotBlock) HeapFault) (IsErrOf {T = U} (Err NotBlock) HeapStopped)
no_block_ends s t later same = ends_by_well s t _ _ later same (λ a. cc) (λ a. cc)

pub no_gap_alone : {U : Type 0} → (IsErrOf {T = U} (Err NoGap) UndoFull → ⊥) × (IsErrOf {T = U} (Err NoGap) NotBlock → ⊥)
no_gap_alone = (λ told. cc, λ told. cc)

pub no_block_alone : {U : Type 0} → (IsErrOf {T = U} (Err NotBlock) UndoFull → ⊥) × (IsErrOf {T = U} (Err NotBlock) NoGap → ⊥)
no_block_alone = (λ told. cc, λ told. cc)

-- it refused, and so did the undo list
pub full_refused : {T U : Type 0} (r : Result T UndoFail) (q : Result U HeapFail) (e : UndoFail) (d : HeapFail) → r ≡ Err e → q ≡ Err d → d ≡ undo_handed e → IsErrOf q NoGap ⊎ IsErrOf q UndoFull → IsErrOf r Full
full_refused r q e d told is same (inl gap) = absurd (undo_not_full q e d is same gap)
full_refused r q e d told is same (inr full) = undo_is_full r q e d told is same full

pub block_refused : {T U : Type 0} (r : Result T UndoFail) (q : Result U HeapFail) (e : UndoFail) (d : HeapFail) → r ≡ Err e → q ≡ Err d → d ≡ undo_handed e → IsErrOf q NotBlock ⊎ IsErrOf q UndoFull → IsErrOf r Full
block_refused r q e d told is same (inl none) = absurd (undo_not_block q e d is same none)
block_refused r q e d told is same (inr full) = undo_is_full r q e d told is same full

pub none_refused : {U : Type 0} (x : U) (d e : HeapFail) → IsErrOf (Ok x) d ⊎ IsErrOf (Ok x) e → ⊥
none_refused x d e (inl told) = heap_none x d told
none_refused x d e (inr told) = heap_none x e told

-- ---- and as one of what is read into a list

read_as : {T U : Type 0} (s t : Health) (e : VolFail) → Ends {T = T} s t (Err e) → EndsBy s t (IsErrOf {T = U} (Err (read_fail e)) ReadFault) (IsErrOf {T = U} (Err (read_fail e)) ReadStopped)
read_as s t WordFault h = ends_by_as s t _ _ _ _ (λ a. refl) (λ a. cc) (λ a. cc) (ends_by s t (Err WordFault) h)
read_as s t WordStopped h = ends_by_as s t _ _ _ _ (λ a. cc) (λ a. refl) (λ a. refl) (ends_by s t (Err WordStopped) h)

pub ends_read : {T U : Type 0} (s t : Health) (r : Result T VolFail) (q : Result U ReadFail) (e : VolFail) (d : ReadFail) → r ≡ Err e → q ≡ Err d → d ≡ read_fail e → Ends s t r → EndsBy s t (IsErrOf q ReadFault) (IsErrOf q ReadStopped)
ends_read s t r q e d told is same h = subst (λ x. EndsBy s t (IsErrOf x ReadFault) (IsErrOf x ReadStopped)) (sym (is ∙ ap Err same)) (read_as s t e (subst (λ x. Ends s t x) told h))

pub ends_memory : {U : Type 0} (s t : Health) (q : Result U ReadFail) (d : ReadFail) → q ≡ Err d → d ≡ Memory → s.faults ≤ t.faults → t.stopped ≡ s.stopped → EndsBy s t (IsErrOf q ReadFault) (IsErrOf q ReadStopped)
ends_memory s t q d is same later running = ends_by_well s t _ _ later running (λ a. cc) (λ a. cc)

pub ends_listed : {U : Type 0} (s t : Health) (x : U) → s.faults ≤ t.faults → t.stopped ≡ s.stopped → EndsBy s t (IsErrOf (Ok x) ReadFault) (IsErrOf (Ok x) ReadStopped)
ends_listed s t x later same = ends_by_well s t _ _ later same (λ a. cc) (λ a. cc)
