-- How requests on files end, by how the calls do of which they are made.
use Rattle.request_ends.proofs.Common.{◌≡◌, ℕ, refl, sym, ap, subst, ◌∙◌, Result, Ok, Err, VolumeShape, Seen, Kept, Settled, Answered, Reply, State, answered, volume_layout, ReadsAs, LeavesInUse, Ready, VolFail, refused_by}
use Rattle.rio_base.specs.declared.failures.ReadFail.{ReadFail}
use Rattle.rio_base.specs.declared.failures.ReadFail.TheVariants.{Fault as ReadFault, Stopped as ReadStopped, Memory as ReadMemory}
use Rattle.request_ends.specs.Ends.{FileEnds, Left}
use Rattle.request_ends.specs.declared.failures.FileFail.{FileFail}
use Rattle.request_ends.specs.declared.failures.FileFail.TheVariants.{Refused, Fault, Stopped, Memory}
use Rattle.request_ends.specs.Failures.{Unrefused, fail_of_read, fail_of_vol}
use Rattle.request_ends.proofs.Unchanged.{ends_failed, ends_halted, ends_looked, leaves_then}
use Rattle.rio_base.specs.declared.failures.VolFail.TheVariants.{Fault as VolFault, Stopped as VolStopped}

-- ---- calls that only looked

-- a failure of them: a refusal is what the request answers, and no byte is done at a fault
abbrev pub FailsBy : State → Answered → FileFail → Type 0
FailsBy s a (Refused c) = a ≡ refused_by s c
FailsBy s a (Fault n) = n ≡ 0
FailsBy s a Stopped = Unit {0}
FailsBy s a Memory = Unit {0}

look_as : (T : Type 0) (says : T → Reply → Type 0) (shape : VolumeShape) (x : Seen) (k : Kept) (y : Seen) (j : Kept) (s : State) (a : Answered) (leads : ℕ → State → Type 0) (e : FileFail) → Ready shape x k → Settled x k → LeavesInUse (volume_layout shape x.words) x k y j → ReadsAs shape x.words s → leads 0 s → FailsBy s a e → FileEnds says shape x k y j s a leads (Err e)
look_as T says shape x k y j s a leads (Refused c) ready settled leaves reads none h = (ap (λ (b : Answered). b.reply) h, ap (λ (b : Answered). b.next) h, leaves)
look_as T says shape x k y j s a leads (Fault n) ready settled leaves reads none h = subst (λ m. FileEnds says shape x k y j s a leads (Err (Fault m))) (sym h) (ends_failed says shape x k y j s a leads ready leaves reads none)
look_as T says shape x k y j s a leads Stopped ready settled leaves reads none h = ends_halted says shape x k y j s a leads ready settled leaves reads
look_as T says shape x k y j s a leads Memory ready settled leaves reads none h = leaves

pub ends_look : {T : Type 0} (says : T → Reply → Type 0) (shape : VolumeShape) (x : Seen) (k : Kept) (y : Seen) (j : Kept) (s : State) (a : Answered) (leads : ℕ → State → Type 0) (q : Result T FileFail) (e d : FileFail) → q ≡ Err d → d ≡ e → Ready shape x k → Settled x k → LeavesInUse (volume_layout shape x.words) x k y j → ReadsAs shape x.words s → leads 0 s → FailsBy s a e → FileEnds says shape x k y j s a leads q
ends_look {T = T} says shape x k y j s a leads q e d qd de ready settled leaves reads none h = subst (λ (v : Result T FileFail). FileEnds says shape x k y j s a leads v) (sym (qd ∙ ap Err de)) (look_as T says shape x k y j s a leads e ready settled leaves reads none h)

-- a call failed that refuses nothing
pub fails_unrefused : {T : Type 0} (s : State) (a : Answered) (r : Result T FileFail) (e : FileFail) → r ≡ Err e → Unrefused r → FailsBy s a e
fails_unrefused {T = T} s a r e re h = by e (subst (λ (v : Result T FileFail). Unrefused v) re h)
  where
    by : (f : FileFail) → Unrefused {T = T} (Err f) → FailsBy s a f
    by (Refused c) u = absurd u.1
    by (Fault n) none = none
    by Stopped u = tt
    by Memory u = tt

pub fails_read : (s : State) (a : Answered) (e : ReadFail) → FailsBy s a (fail_of_read e)
fails_read s a ReadFault = refl
fails_read s a ReadStopped = tt
fails_read s a ReadMemory = tt

-- a call on the volume failed
pub fails_vol : (s : State) (a : Answered) (e : VolFail) → FailsBy s a (fail_of_vol e)
fails_vol s a VolFault = refl
fails_vol s a VolStopped = tt

-- ---- a call after the walk

after_as : (T : Type 0) (says : T → Reply → Type 0) (shape : VolumeShape) (x : Seen) (k : Kept) (m : Seen) (l : Kept) (y : Seen) (j : Kept) (s : State) (a : Answered) (leads : ℕ → State → Type 0) (r : Result T FileFail) → LeavesInUse (volume_layout shape x.words) x k m l → m.words ≡ x.words → FileEnds says shape m l y j s a leads r → FileEnds says shape x k y j s a leads r
after_as T says shape x k m l y j s a leads (Ok v) leaves words h = (h.0, subst (λ f. Left shape f y j a.next) words h.1)
after_as T says shape x k m l y j s a leads (Err (Refused c)) leaves words h = (h.0, h.1, leaves_then shape x k m l y j leaves words h.2)
after_as T says shape x k m l y j s a leads (Err (Fault n)) leaves words h = (h.0, h.1, subst (λ f. Left shape f y j h.0) words h.2)
after_as T says shape x k m l y j s a leads (Err Stopped) leaves words h = h
after_as T says shape x k m l y j s a leads (Err Memory) leaves words h = leaves_then shape x k m l y j leaves words h

pub ends_after : {T : Type 0} (says : T → Reply → Type 0) (shape : VolumeShape) (x : Seen) (k : Kept) (m : Seen) (l : Kept) (y : Seen) (j : Kept) (s : State) (a : Answered) (leads : ℕ → State → Type 0) (r : Result T FileFail) → LeavesInUse (volume_layout shape x.words) x k m l → m.words ≡ x.words → FileEnds says shape m l y j s a leads r → FileEnds says shape x k y j s a leads r
ends_after {T = T} says shape x k m l y j s a leads r leaves words h = after_as T says shape x k m l y j s a leads r leaves words h

-- answered, and nothing is changed
pub ends_answered : {T : Type 0} (says : T → Reply → Type 0) (value : T) (shape : VolumeShape) (x : Seen) (k : Kept) (y : Seen) (j : Kept) (s : State) (a : Answered) (reply : Reply) (leads : ℕ → State → Type 0) → Ready shape x k → LeavesInUse (volume_layout shape x.words) x k y j → ReadsAs shape x.words s → a ≡ answered s reply → says value reply → FileEnds says shape x k y j s a leads (Ok value)
ends_answered says value shape x k y j s a reply leads ready leaves reads is told = ends_looked says value shape x k y j s a leads ready leaves reads (ap (λ (b : Answered). b.next) is) (reply, ap (λ (b : Answered). b.reply) is, told)

-- ---- one request, told in two ways

-- a failure handed on by a call that answers something else
handed_as : (T U : Type 0) (says : T → Reply → Type 0) (says_on : U → Reply → Type 0) (shape : VolumeShape) (x : Seen) (k : Kept) (y : Seen) (j : Kept) (s : State) (a : Answered) (leads : ℕ → State → Type 0) (e : FileFail) → FileEnds says shape x k y j s a leads (Err e) → FileEnds says_on shape x k y j s a leads (Err e)
handed_as T U says says_on shape x k y j s a leads (Refused c) h = h
handed_as T U says says_on shape x k y j s a leads (Fault n) h = h
handed_as T U says says_on shape x k y j s a leads Stopped h = h
handed_as T U says says_on shape x k y j s a leads Memory h = h

pub ends_handed : {T U : Type 0} (says : T → Reply → Type 0) (says_on : U → Reply → Type 0) (shape : VolumeShape) (x : Seen) (k : Kept) (y : Seen) (j : Kept) (s : State) (a : Answered) (leads : ℕ → State → Type 0) (r : Result T FileFail) (q : Result U FileFail) (e d : FileFail) → r ≡ Err e → q ≡ Err d → d ≡ e → FileEnds says shape x k y j s a leads r → FileEnds says_on shape x k y j s a leads q
ends_handed {T = T} {U = U} says says_on shape x k y j s a leads r q e d re qd de h =
    subst (λ (v : Result U FileFail). FileEnds says_on shape x k y j s a leads v) (sym (qd ∙ ap Err de))
    (handed_as T U says says_on shape x k y j s a leads e (subst (λ (v : Result T FileFail). FileEnds says shape x k y j s a leads v) re h))

-- the same request, by another name of what it answers
pub ends_as : {T : Type 0} (says : T → Reply → Type 0) (shape : VolumeShape) (x : Seen) (k : Kept) (y : Seen) (j : Kept) (s : State) (a b : Answered) (leads : ℕ → State → Type 0) (r : Result T FileFail) → a ≡ b → FileEnds says shape x k y j s b leads r → FileEnds says shape x k y j s a leads r
ends_as {T = T} says shape x k y j s a b leads r is h = subst (λ (v : Answered). FileEnds says shape x k y j s v leads r) (sym is) h
