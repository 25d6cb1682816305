-- What follows at one outcome of a call.
use Rattle.std.specs.Prelude.{◌≡◌, ℕ, ◌≤◌, Result, Ok, Err, IsErrOf, OnOk}
use Rattle.std.proofs.Common.{sym, subst, ap, refl, ◌∙◌}
use Rattle.rio_base.specs.declared.failures.RunFail.{RunFail}
use Rattle.rio_base.specs.declared.failures.VolFail.{VolFail}
use Rattle.rio_base.specs.declared.failures.VolFail.TheVariants.{Fault as WordFault, Stopped as WordStopped}
use Rattle.rio_base.specs.declared.failures.RunFail.TheVariants.{Fault, Stopped}
use Rattle.rio_base.specs.Blocks.{Ends, EndsBy, FaultAt, Health, as_word}
use Rattle.rio_base.specs.Frames.{Stays}
use Rattle.rio_base.specs.Rules.{goes_refl}
use Rattle.rio_base.specs.Volume.{Below}
use Rattle.rio_base.proofs.Rules.{ends_by, ends_by_as, ends_by_well}
use Rattle.undo_list.specs.Failures.{handed}
use Rattle.undo_list.specs.declared.failures.UndoFail.{UndoFail}
use Rattle.undo_list.specs.declared.failures.UndoFail.TheVariants.{Fault as UndoFault, Full, Stopped as UndoStopped}

pub on_ok : {T E : Type 0} (r : Result T E) (P Q : Type 0) → (P → Q) → OnOk r P → OnOk r Q
on_ok (Ok x) P Q h p = h p
on_ok (Err e) P Q h p = tt

pub on_fault : {T : Type 0} (r : Result T RunFail) (P Q : ℕ → Type 0) → ((n : ℕ) → P n → Q n) → FaultAt r P → FaultAt r Q
on_fault (Ok x) P Q h p = tt
on_fault (Err (Fault n)) P Q h p = h n p
on_fault (Err Stopped) P Q h p = tt

on_as_word : {T : Type 0} (r : Result T RunFail) (P Q : Type 0) → (P → Q) → OnOk r P → OnOk (as_word r) Q
on_as_word (Ok x) P Q h p = h p
on_as_word (Err (Fault n)) P Q h p = tt
on_as_word (Err Stopped) P Q h p = tt

-- the same of a run of stores whose count is left out
pub on_word : {T : Type 0} (r : Result T RunFail) (w : Result T VolFail) (P Q : Type 0) → w ≡ as_word r → (P → Q) → OnOk r P → OnOk w Q
on_word r w P Q is h p = subst (λ (x : Result _ VolFail). OnOk x Q) (sym is) (on_as_word r P Q h p)

pub word_ok : {T : Type 0} (r : Result T RunFail) (x : T) (P : Type 0) → Ok x ≡ as_word r → OnOk r P → P
word_ok r x P is p = on_word r (Ok x) P P is (λ h. h) p

err_as : {T U : Type 0} (s t : Health) (e : VolFail) → Ends {T = T} s t (Err e) → Ends {T = U} s t (Err e)
err_as s t WordFault h = record { later = h.later; stays = h.stays; cause = h.cause }
err_as s t WordStopped h = record { later = h.later; stays = h.stays; cause = h.cause }

-- a failure that is handed on ends a call as it ended the one that told it
pub ends_err : {T U : Type 0} (s t : Health) (r : Result T VolFail) (q : Result U VolFail) (e d : VolFail) → r ≡ Err e → q ≡ Err d → d ≡ e → Ends s t r → Ends s t q
ends_err s t r q e d told is same h = subst (λ x. Ends s t x) (sym (is ∙ ap Err same)) (err_as s t e (subst (λ x. Ends s t x) told h))

-- the count of words is left out
pub word_ends : {T : Type 0} (s t : Health) (r : Result T RunFail) (w : Result T VolFail) → w ≡ as_word r → Ends s t (as_word r) → Ends s t w
word_ends s t r w is h = subst (λ x. Ends s t x) (sym is) h

-- ---- the same, told as a failure of the undo list

handed_as : {T U : Type 0} (s t : Health) (e : VolFail) → Ends {T = T} s t (Err e) → EndsBy s t (IsErrOf {T = U} (Err (handed e)) UndoFault) (IsErrOf {T = U} (Err (handed e)) UndoStopped)
handed_as s t WordFault h = ends_by_as s t _ _ _ _ (λ a. refl) (λ a. cc) (λ a. cc) (ends_by s t (Err WordFault) h)
handed_as s t WordStopped h = ends_by_as s t _ _ _ _ (λ a. cc) (λ a. refl) (λ a. refl) (ends_by s t (Err WordStopped) h)

pub ends_handed : {T U : Type 0} (s t : Health) (r : Result T VolFail) (q : Result U UndoFail) (e : VolFail) (d : UndoFail) → r ≡ Err e → q ≡ Err d → d ≡ handed e → Ends s t r → EndsBy s t (IsErrOf q UndoFault) (IsErrOf q UndoStopped)
ends_handed s t r q e d told is same h = subst (λ x. EndsBy s t (IsErrOf x UndoFault) (IsErrOf x UndoStopped)) (sym (is ∙ ap Err same)) (handed_as s t e (subst (λ x. Ends s t x) told h))

pub never_full : {U : Type 0} (q : Result U UndoFail) (e : VolFail) (d : UndoFail) → q ≡ Err d → d ≡ handed e → IsErrOf q Full → ⊥
never_full q WordFault d is same full = cc
never_full q WordStopped d is same full = cc

pub is_fault : {T U : Type 0} (r : Result T VolFail) (q : Result U UndoFail) (e : VolFail) (d : UndoFail) → r ≡ Err e → q ≡ Err d → d ≡ handed e → IsErrOf q UndoFault → IsErrOf r WordFault
is_fault r q WordFault d told is same fault = told
is_fault r q WordStopped d told is same fault = absurd cc

pub no_err : {U : Type 0} (x : U) (d : UndoFail) → IsErrOf (Ok x) d → ⊥
no_err x d told = cc

pub ends_did : {U : Type 0} (s t : Health) (x : U) → s.faults ≤ t.faults → t.stopped ≡ s.stopped → EndsBy s t (IsErrOf (Ok x) UndoFault) (IsErrOf (Ok x) UndoStopped)
ends_did s t x later same = ends_by_well s t _ _ later same (no_err x UndoFault) (no_err x UndoStopped)

pub ends_full : {U : Type 0} (s t : Health) → s.faults ≤ t.faults → t.stopped ≡ s.stopped → EndsBy s t (IsErrOf {T = U} (Err Full) UndoFault) (IsErrOf {T = U} (Err Full) UndoStopped)
ends_full s t later same = ends_by_well s t _ _ later same (λ a. cc) (λ a. cc)

-- no call was made
pub stays_none : {S : Type 0} {keeps : S → S → Type 0} {stands : S → Type 0} {size : S → ℕ} {health : S → Health} {below : S → Below} (x : S) → keeps x x → stands x → Stays keeps stands size health below x x
stays_none {health = health} {below = below} x rest ready = record { rest = rest; ready = ready; count = refl; goes = goes_refl (health x) (below x) }
