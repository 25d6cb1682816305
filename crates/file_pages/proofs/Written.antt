-- What a write leaves, clause by clause.
use Rattle.file_pages.proofs.Common.{◌≤◌, ◌≡◌, ◌==◌, ℕ, true, ◌⊎◌, List, [], ◌∷◌, length, refl, sym, ap, subst, ◌∙◌, arith, inl, inr, Result, Ok, Err, IsErrOf, nat_tests, VolFail, VolumeShape, EndsBy, Health, Seen, IsIno, ends_by_as, Kept, Settled, written, held_of, volume_layout, LeavesInUse, Ready}
use Rattle.rio_base.specs.declared.failures.ReadFail.{ReadFail}
use Rattle.rio_base.specs.declared.failures.ReadFail.TheVariants.{Fault as ReadFault, Stopped as ReadStopped, Memory as ReadMemory}
use Rattle.rio_base.specs.declared.failures.VolFail.TheVariants.{Fault as VolFault, Stopped as VolStopped}
use Rattle.rio_base.specs.declared.failures.RunFail.{RunFail}
use Rattle.rio_base.specs.declared.failures.RunFail.TheVariants.{Fault as RunFault, Stopped as RunStopped}
use Rattle.rio_base.specs.Blocks.{Ends, as_word}
use Rattle.rio_base.proofs.Rules.{ends_by, ends_by_well}
use Rattle.rio_model.proofs.WordRules.{beside_refl}
use Rattle.file_pages.specs.Extending.{told_after}
use Rattle.file_pages.specs.Failures.{bytes_handed, write_of_bytes}
use Rattle.node_pages.specs.Failures.{write_handed, write_of_read, write_of_size}
use Rattle.node_pages.specs.declared.failures.SizeFail.{SizeFail}
use Rattle.node_pages.specs.declared.failures.SizeFail.TheVariants.{NoSpace as SizeNoSpace, TooLarge as SizeTooLarge, Fault as SizeFault, Stopped as SizeStopped, Memory as SizeMemory}
use Rattle.node_pages.proofs.Ends.{EndsRead, EndsSize}
use Rattle.file_pages.specs.Files.{FaultsAfter, SetsBoth, StopsAs, file_bytes}
use Rattle.node_pages.proofs.OrderRules.{leaves_trans, ready_left}
use Rattle.file_pages.specs.Writing.{WriteLeaves, WriteStops}
use Rattle.file_pages.specs.declared.failures.BytesFail.{BytesFail}
use Rattle.file_pages.specs.declared.failures.BytesFail.TheVariants.{Fault as BytesFault, Stopped as BytesStopped}
use Rattle.node_pages.specs.declared.failures.WriteFail.{WriteFail}
use Rattle.node_pages.specs.declared.failures.WriteFail.TheVariants.{NoSpace, TooLarge, Fault, Stopped, Memory}
use Rattle.file_pages.proofs.FileBytes.{put_none}
use Rattle.file_pages.proofs.GrowEnds.{stored_both}
use Rattle.file_pages.proofs.Left.{both_left, file_node, stops_left}
use Rattle.file_pages.proofs.Resized.{file_ino, file_placed}

-- ---- nothing was written

none_fault : (shape : VolumeShape) (x : Seen) (k : Kept) (y : Seen) (j : Kept) (i off : ℕ) (bytes : List ℕ) → Ready shape x k → Settled x k → (held_of shape x.words i).kind ≡ 2 → LeavesInUse (volume_layout shape x.words) x k y j → FaultsAfter shape x.words y j i off bytes 0
none_fault shape x k y j i off bytes h settled kind m = record {
  new = file_bytes shape x.words i;
  lead = record { most = omega arith; is = sym (put_none (file_bytes shape x.words i) off) };
  both = both_left shape x k y j i h settled kind m;
  space = λ some. absurd (omega (arith, some));
}

none_as : (T : Type 0) (shape : VolumeShape) (x : Seen) (k : Kept) (y : Seen) (j : Kept) (i off : ℕ) (bytes : List ℕ) (e : ReadFail) → Ready shape x k → Settled x k → (held_of shape x.words i).kind ≡ 2 → LeavesInUse (volume_layout shape x.words) x k y j → WriteLeaves {T = T} shape x k y j i off bytes (Err (write_of_read e))
none_as T shape x k y j i off bytes ReadFault h settled kind m = (none_fault shape x k y j i off bytes h settled kind m, ready_left shape x k y j h m)
none_as T shape x k y j i off bytes ReadStopped h settled kind m = stops_left shape x k y j i (WriteStops shape x.words i off bytes) h settled kind m (inl refl)
none_as T shape x k y j i off bytes ReadMemory h settled kind m = m

pub none_read : {T : Type 0} (shape : VolumeShape) (x : Seen) (k : Kept) (y : Seen) (j : Kept) (i off : ℕ) (bytes : List ℕ) (q : Result T WriteFail) (e : ReadFail) (d : WriteFail) → q ≡ Err d → d ≡ write_of_read e → Ready shape x k → Settled x k → (held_of shape x.words i).kind ≡ 2 → LeavesInUse (volume_layout shape x.words) x k y j → WriteLeaves shape x k y j i off bytes q
none_read {T = T} shape x k y j i off bytes q e d qd de h settled kind m = subst (λ (v : Result T WriteFail). WriteLeaves shape x k y j i off bytes v) (sym (qd ∙ ap Err de)) (none_as T shape x k y j i off bytes e h settled kind m)

pub none_vol : {T : Type 0} (shape : VolumeShape) (x : Seen) (k : Kept) (y : Seen) (j : Kept) (i off : ℕ) (bytes : List ℕ) (q : Result T WriteFail) (e : VolFail) (d : WriteFail) → q ≡ Err d → d ≡ write_handed e → Ready shape x k → Settled x k → (held_of shape x.words i).kind ≡ 2 → LeavesInUse (volume_layout shape x.words) x k y j → WriteLeaves shape x k y j i off bytes q
none_vol shape x k y j i off bytes q VolFault d qd de h settled kind m = none_read shape x k y j i off bytes q ReadFault d qd de h settled kind m
none_vol shape x k y j i off bytes q VolStopped d qd de h settled kind m = none_read shape x k y j i off bytes q ReadStopped d qd de h settled kind m

-- ---- after a look-up

pub write_after : {T : Type 0} (shape : VolumeShape) (x : Seen) (k : Kept) (z : Seen) (l : Kept) (y : Seen) (j : Kept) (i off : ℕ) (bytes : List ℕ) (r : Result T WriteFail) → Ready shape x k → z.words ≡ x.words → LeavesInUse (volume_layout shape x.words) x k z l → WriteLeaves shape z l y j i off bytes r → WriteLeaves shape x k y j i off bytes r
write_after shape x k z l y j i off bytes (Ok v) h same leaves s = (subst (λ f. SetsBoth shape f y j i (written (file_bytes shape f i) off bytes)) same s.0, s.1)
write_after shape x k z l y j i off bytes (Err (Fault done)) h same leaves s = (subst (λ f. FaultsAfter shape f y j i off bytes done) same s.0, s.1)
write_after shape x k z l y j i off bytes (Err Stopped) h same leaves s = subst (λ f. StopsAs shape f y j i (WriteStops shape f i off bytes)) same s
write_after shape x k z l y j i off bytes (Err NoSpace) h same leaves s = leaves_trans shape x k z l y j h leaves s
write_after shape x k z l y j i off bytes (Err TooLarge) h same leaves s = leaves_trans shape x k z l y j h leaves s
write_after shape x k z l y j i off bytes (Err Memory) h same leaves s = leaves_trans shape x k z l y j h leaves s

-- ---- the clauses

same_done : {T : Type 0} (m n : ℕ) → IsErrOf {T = T} (Err (Fault m)) (Fault n) → m ≡ n
same_done m n is = cc

pub write_fault : {T : Type 0} (shape : VolumeShape) (x : Seen) (k : Kept) (y : Seen) (j : Kept) (i off : ℕ) (bytes : List ℕ) (r : Result T WriteFail) → WriteLeaves shape x k y j i off bytes r → (n : ℕ) → IsErrOf r (Fault n) → FaultsAfter shape x.words y j i off bytes n
write_fault shape x k y j i off bytes (Err (Fault done)) s n is = subst (FaultsAfter shape x.words y j i off bytes) (same_done done n is) s.0
write_fault shape x k y j i off bytes (Ok v) s n is = absurd cc
write_fault shape x k y j i off bytes (Err Stopped) s n is = absurd cc
write_fault shape x k y j i off bytes (Err NoSpace) s n is = absurd cc
write_fault shape x k y j i off bytes (Err TooLarge) s n is = absurd cc
write_fault shape x k y j i off bytes (Err Memory) s n is = absurd cc

pub write_stopped : {T : Type 0} (shape : VolumeShape) (x : Seen) (k : Kept) (y : Seen) (j : Kept) (i off : ℕ) (bytes : List ℕ) (r : Result T WriteFail) → WriteLeaves shape x k y j i off bytes r → IsErrOf r Stopped → StopsAs shape x.words y j i (WriteStops shape x.words i off bytes)
write_stopped shape x k y j i off bytes (Err Stopped) s is = s
write_stopped shape x k y j i off bytes (Ok v) s is = absurd cc
write_stopped shape x k y j i off bytes (Err (Fault done)) s is = absurd cc
write_stopped shape x k y j i off bytes (Err NoSpace) s is = absurd cc
write_stopped shape x k y j i off bytes (Err TooLarge) s is = absurd cc
write_stopped shape x k y j i off bytes (Err Memory) s is = absurd cc

pub write_ready : {T : Type 0} (shape : VolumeShape) (x : Seen) (k : Kept) (y : Seen) (j : Kept) (i off : ℕ) (bytes : List ℕ) (r : Result T WriteFail) → Ready shape x k → WriteLeaves shape x k y j i off bytes r → IsErrOf r Stopped ⊎ Ready shape y j
write_ready shape x k y j i off bytes (Ok v) h s = inr s.1
write_ready shape x k y j i off bytes (Err (Fault done)) h s = inr s.1
write_ready shape x k y j i off bytes (Err Stopped) h s = inl refl
write_ready shape x k y j i off bytes (Err NoSpace) h s = inr (ready_left shape x k y j h s)
write_ready shape x k y j i off bytes (Err TooLarge) h s = inr (ready_left shape x k y j h s)
write_ready shape x k y j i off bytes (Err Memory) h s = inr (ready_left shape x k y j h s)

pub write_refused : {T : Type 0} (shape : VolumeShape) (x : Seen) (k : Kept) (y : Seen) (j : Kept) (i off : ℕ) (bytes : List ℕ) (r : Result T WriteFail) → WriteLeaves shape x k y j i off bytes r → IsErrOf r NoSpace ⊎ IsErrOf r TooLarge ⊎ IsErrOf r Memory → LeavesInUse (volume_layout shape x.words) x k y j
write_refused shape x k y j i off bytes (Err NoSpace) s is = s
write_refused shape x k y j i off bytes (Err TooLarge) s is = s
write_refused shape x k y j i off bytes (Err Memory) s is = s
write_refused shape x k y j i off bytes (Ok v) s (inl is) = absurd cc
write_refused shape x k y j i off bytes (Ok v) s (inr (inl is)) = absurd cc
write_refused shape x k y j i off bytes (Ok v) s (inr (inr is)) = absurd cc
write_refused shape x k y j i off bytes (Err (Fault done)) s (inl is) = absurd cc
write_refused shape x k y j i off bytes (Err (Fault done)) s (inr (inl is)) = absurd cc
write_refused shape x k y j i off bytes (Err (Fault done)) s (inr (inr is)) = absurd cc
write_refused shape x k y j i off bytes (Err Stopped) s (inl is) = absurd cc
write_refused shape x k y j i off bytes (Err Stopped) s (inr (inl is)) = absurd cc
write_refused shape x k y j i off bytes (Err Stopped) s (inr (inr is)) = absurd cc

-- ---- how it ends

abbrev pub EndsBytes : {T : Type 0} → Health → Health → Result T BytesFail → Type 0
EndsBytes s t r = EndsBy s t ((k : ℕ) × IsErrOf r (BytesFault k)) (IsErrOf r BytesStopped)

abbrev pub EndsWrite : {T : Type 0} → Health → Health → Result T WriteFail → Type 0
EndsWrite s t r = EndsBy s t ((k : ℕ) × IsErrOf r (Fault k)) (IsErrOf r Stopped)

not_fault : {T : Type 0} (k : ℕ) → IsErrOf {T = T} (Err Stopped) (Fault k) → ⊥
not_fault k is = cc

pub stop_told : {T : Type 0} (k : ℕ) → IsErrOf {T = T} (Err BytesStopped) (BytesFault k) → ⊥
stop_told k is = cc

write_as : {T U : Type 0} (s t : Health) (e : BytesFail) → EndsBytes {T = T} s t (Err e) → EndsWrite {T = U} s t (Err (write_of_bytes e))
write_as s t (BytesFault done) h = ends_by_as s t _ _ _ _ (λ a. (done, refl)) (λ a. cc) (λ a. cc) h
write_as {T = T} {U = U} s t BytesStopped h = ends_by_as s t _ _ _ _ (λ a. absurd (not_fault {T = U} a.0 a.1)) (λ a. refl) (λ a. refl) h

pub ends_write : {T U : Type 0} (s t : Health) (r : Result T BytesFail) (q : Result U WriteFail) (e : BytesFail) (d : WriteFail) → r ≡ Err e → q ≡ Err d → d ≡ write_of_bytes e → EndsBytes s t r → EndsWrite s t q
ends_write {T = T} {U = U} s t r q e d re qd de h = subst (λ (v : Result U WriteFail). EndsWrite s t v) (sym (qd ∙ ap Err de)) (write_as s t e (subst (λ (v : Result T BytesFail). EndsBytes s t v) re h))

vol_as : {T U : Type 0} (s t : Health) (e : VolFail) → Ends {T = T} s t (Err e) → EndsWrite {T = U} s t (Err (write_handed e))
vol_as s t VolFault h = ends_by_as s t _ _ _ _ (λ a. refl) (λ a. cc) (λ a. cc) (ends_by s t (Err VolFault) h)
vol_as {T = T} {U = U} s t VolStopped h = ends_by_as s t _ _ _ _ (λ a. absurd (not_fault {T = U} a.0 a.1)) (λ a. refl) (λ a. refl) (ends_by s t (Err VolStopped) h)

pub ends_write_vol : {T U : Type 0} (s t : Health) (r : Result T VolFail) (q : Result U WriteFail) (e : VolFail) (d : WriteFail) → r ≡ Err e → q ≡ Err d → d ≡ write_handed e → Ends s t r → EndsWrite s t q
ends_write_vol {T = T} {U = U} s t r q e d re qd de h = subst (λ (v : Result U WriteFail). EndsWrite s t v) (sym (qd ∙ ap Err de)) (vol_as s t e (subst (λ (v : Result T VolFail). Ends s t v) re h))

-- a failure of a change of size
no_kind : {T : Type 0} (d : WriteFail) (k : ℕ) → (d ≡ Fault k → ⊥) → IsErrOf {T = T} (Err d) (Fault k) → ⊥
no_kind d k out is = out cc

size_as : {T U : Type 0} (s t : Health) (e : SizeFail) → EndsSize {T = T} s t (Err e) → EndsWrite {T = U} s t (Err (write_of_size e))
size_as {T = T} {U = U} s t SizeNoSpace h = ends_by_as s t _ _ _ _ (λ a. absurd (no_kind {T = U} NoSpace a.0 (λ is. cc) a.1)) (λ a. cc) (λ a. cc) h
size_as {T = T} {U = U} s t SizeTooLarge h = ends_by_as s t _ _ _ _ (λ a. absurd (no_kind {T = U} TooLarge a.0 (λ is. cc) a.1)) (λ a. cc) (λ a. cc) h
size_as s t SizeFault h = ends_by_as s t _ _ _ _ (λ a. refl) (λ a. cc) (λ a. cc) h
size_as {T = T} {U = U} s t SizeStopped h = ends_by_as s t _ _ _ _ (λ a. absurd (not_fault {T = U} a.0 a.1)) (λ a. refl) (λ a. refl) h
size_as {T = T} {U = U} s t SizeMemory h = ends_by_as s t _ _ _ _ (λ a. absurd (no_kind {T = U} Memory a.0 (λ is. cc) a.1)) (λ a. cc) (λ a. cc) h

pub ends_write_size : {T U : Type 0} (s t : Health) (r : Result T SizeFail) (q : Result U WriteFail) (e : SizeFail) (d : WriteFail) → r ≡ Err e → q ≡ Err d → d ≡ write_of_size e → EndsSize s t r → EndsWrite s t q
ends_write_size {T = T} {U = U} s t r q e d re qd de h = subst (λ (v : Result U WriteFail). EndsWrite s t v) (sym (qd ∙ ap Err de)) (size_as s t e (subst (λ (v : Result T SizeFail). EndsSize s t v) re h))

-- an update's end, told once so many bytes count
told_well : (u : Unit {0}) (k : ℕ) → IsErrOf {T = Unit {0}} (Ok u) (Fault k) → ⊥
told_well u k is = cc

pub ends_told_after : (s t : Health) (done : ℕ) (r : Result (Unit {0}) SizeFail) (q : Result (Unit {0}) WriteFail) → q ≡ told_after done r → EndsSize s t r → EndsWrite s t q
ends_told_after s t done r q is h = subst (λ (v : Result (Unit {0}) WriteFail). EndsWrite s t v) (sym is) (by r h)
  where
    by : (r : Result (Unit {0}) SizeFail) → EndsSize s t r → EndsWrite s t (told_after done r)
    by (Ok u) h = ends_by_well s t _ _ h.later (h.runs (λ a. cc)) (λ a. told_well u a.0 a.1) (λ a. cc)
    by (Err SizeNoSpace) h = size_as s t SizeNoSpace h
    by (Err SizeTooLarge) h = size_as s t SizeTooLarge h
    by (Err SizeFault) h = ends_by_as s t _ _ _ _ (λ a. refl) (λ a. cc) (λ a. cc) h
    by (Err SizeStopped) h = size_as s t SizeStopped h
    by (Err SizeMemory) h = size_as s t SizeMemory h

-- it was refused as that was
size_space : {T U : Type 0} (e : SizeFail) → IsErrOf {T = U} (Err (write_of_size e)) NoSpace → IsErrOf {T = T} (Err e) SizeNoSpace
size_space SizeNoSpace is = refl
size_space SizeTooLarge is = cc
size_space SizeFault is = cc
size_space SizeStopped is = cc
size_space SizeMemory is = cc

size_large : {T U : Type 0} (e : SizeFail) → IsErrOf {T = U} (Err (write_of_size e)) TooLarge → IsErrOf {T = T} (Err e) SizeTooLarge
size_large SizeNoSpace is = cc
size_large SizeTooLarge is = refl
size_large SizeFault is = cc
size_large SizeStopped is = cc
size_large SizeMemory is = cc

pub refused_size : {T U : Type 0} (r : Result T SizeFail) (q : Result U WriteFail) (e : SizeFail) (d : WriteFail) → r ≡ Err e → q ≡ Err d → d ≡ write_of_size e → (IsErrOf q NoSpace → IsErrOf r SizeNoSpace) × (IsErrOf q TooLarge → IsErrOf r SizeTooLarge)
refused_size {T = T} {U = U} r q e d re qd de = ((λ is. re ∙ size_space {T = T} {U = U} e (sym (qd ∙ ap Err de) ∙ is)), (λ is. re ∙ size_large {T = T} {U = U} e (sym (qd ∙ ap Err de) ∙ is)))

-- a failure while bytes were stored is no refusal
pub bytes_unrefused : {T : Type 0} (q : Result T WriteFail) (e : BytesFail) (d : WriteFail) → q ≡ Err d → d ≡ write_of_bytes e → (IsErrOf q NoSpace → ⊥) × (IsErrOf q TooLarge → ⊥)
bytes_unrefused q (BytesFault done) d qd de = ((λ is. cc), (λ is. cc))
bytes_unrefused q BytesStopped d qd de = ((λ is. cc), (λ is. cc))

-- a failure of the volume below is no refusal
pub vol_unrefused : {T : Type 0} (q : Result T WriteFail) (e : VolFail) (d : WriteFail) → q ≡ Err d → d ≡ write_handed e → (IsErrOf q NoSpace → ⊥) × (IsErrOf q TooLarge → ⊥)
vol_unrefused q VolFault d qd de = ((λ is. cc), (λ is. cc))
vol_unrefused q VolStopped d qd de = ((λ is. cc), (λ is. cc))

-- a failure handed on, and an answer
err_as : {T U : Type 0} (s t : Health) (e : WriteFail) → EndsWrite {T = T} s t (Err e) → EndsWrite {T = U} s t (Err e)
err_as {T = T} {U = U} s t e h = ends_by_as s t _ _ _ _ (λ a. (a.0, fault_back a.0 a.1)) (λ a. stop_back a) (λ a. stop a) h
  where
    fault_back : (k : ℕ) → IsErrOf {T = U} (Err e) (Fault k) → IsErrOf {T = T} (Err e) (Fault k)
    fault_back k is = cc

    stop : IsErrOf {T = T} (Err e) Stopped → IsErrOf {T = U} (Err e) Stopped
    stop is = cc

    stop_back : IsErrOf {T = U} (Err e) Stopped → IsErrOf {T = T} (Err e) Stopped
    stop_back is = cc

pub ends_same : {T U : Type 0} (s t : Health) (r : Result T WriteFail) (q : Result U WriteFail) (e d : WriteFail) → r ≡ Err e → q ≡ Err d → d ≡ e → EndsWrite s t r → EndsWrite s t q
ends_same {T = T} {U = U} s t r q e d re qd de h = subst (λ (v : Result U WriteFail). EndsWrite s t v) (sym (qd ∙ ap Err de)) (err_as s t e (subst (λ (v : Result T WriteFail). EndsWrite s t v) re h))

no_fault : {T : Type 0} (u : T) (k : ℕ) → IsErrOf (Ok u) (Fault k) → ⊥
no_fault u k is = cc

pub ends_write_ok : {T U : Type 0} (s t : Health) (r : Result T WriteFail) (v : T) (u : U) → r ≡ Ok v → EndsWrite s t r → EndsWrite s t (Ok u)
ends_write_ok {T = T} s t r v u rv h = let g = subst (λ (w : Result T WriteFail). EndsWrite s t w) rv h in ends_by_well s t _ _ g.later (g.runs (λ a. cc)) (λ a. no_fault u a.0 a.1) (λ a. cc)

-- bytes that were stored, and a failure after them
pub bytes_ok : {T : Type 0} (s t : Health) (v : T) → s.faults ≤ t.faults → t.stopped ≡ s.stopped → EndsBytes s t (Ok v)
bytes_ok {T = T} s t v later same = ends_by_well s t _ _ later same (λ a. out a.0 a.1) (λ a. cc)
  where
    out : (k : ℕ) → IsErrOf {T = T} (Ok v) (BytesFault k) → ⊥
    out k is = cc

pub bytes_runs : {T : Type 0} (s t : Health) (v : T) → EndsBytes s t (Ok v) → t.stopped ≡ s.stopped
bytes_runs s t v h = h.runs (λ a. cc)

pub bytes_fault : {T U : Type 0} (s t : Health) (e : BytesFail) (k n : ℕ) → e ≡ BytesFault k → EndsBytes {T = T} s t (Err e) → EndsBytes {T = U} s t (Err (BytesFault n))
bytes_fault s t e k n is h = ends_by_as s t _ _ _ _ (λ a. (k, ap Err is)) (λ a. cc) (λ a. cc) h

pub bytes_stop : {T U : Type 0} (s t : Health) (e : BytesFail) → e ≡ BytesStopped → EndsBytes {T = T} s t (Err e) → EndsBytes {T = U} s t (Err BytesStopped)
bytes_stop {T = T} {U = U} s t e is h = ends_by_as s t _ _ _ _ (λ a. absurd (out a.0 a.1)) (λ a. ap Err is) (λ a. refl) h
  where
    out : (k : ℕ) → IsErrOf {T = U} (Err BytesStopped) (BytesFault k) → ⊥
    out k on = cc

bytes_as : {T U : Type 0} (s t : Health) (e : BytesFail) → EndsBytes {T = T} s t (Err e) → EndsBytes {T = U} s t (Err e)
bytes_as s t (BytesFault done) h = bytes_fault s t (BytesFault done) done done refl h
bytes_as s t BytesStopped h = bytes_stop s t BytesStopped refl h

pub ends_bytes : {T U : Type 0} (s t : Health) (r : Result T BytesFail) (q : Result U BytesFail) (e d : BytesFail) → r ≡ Err e → q ≡ Err d → d ≡ e → EndsBytes s t r → EndsBytes s t q
ends_bytes {T = T} {U = U} s t r q e d re qd de h = subst (λ (v : Result U BytesFail). EndsBytes s t v) (sym (qd ∙ ap Err de)) (bytes_as s t e (subst (λ (v : Result T BytesFail). EndsBytes s t v) re h))

-- a call of the volume that failed before bytes were stored
bytes_of_vol : {T U : Type 0} (s t : Health) (e : VolFail) → Ends {T = T} s t (Err e) → EndsBytes {T = U} s t (Err (bytes_handed e))
bytes_of_vol s t VolFault h = ends_by_as s t _ _ _ _ (λ a. refl) (λ a. cc) (λ a. cc) (ends_by s t (Err VolFault) h)
bytes_of_vol {T = T} {U = U} s t VolStopped h = ends_by_as s t _ _ _ _ (λ a. absurd (stop_told {T = U} a.0 a.1)) (λ a. refl) (λ a. refl) (ends_by s t (Err VolStopped) h)

pub ends_bytes_vol : {T U : Type 0} (s t : Health) (r : Result T VolFail) (q : Result U BytesFail) (e : VolFail) (d : BytesFail) → r ≡ Err e → q ≡ Err d → d ≡ bytes_handed e → Ends s t r → EndsBytes s t q
ends_bytes_vol {T = T} {U = U} s t r q e d re qd de h = subst (λ (v : Result U BytesFail). EndsBytes s t v) (sym (qd ∙ ap Err de)) (bytes_of_vol s t e (subst (λ (v : Result T VolFail). Ends s t v) re h))

-- a run of words of which not all were stored
pub run_fault : {T U : Type 0} (s t : Health) (e : RunFail) (n m : ℕ) → e ≡ RunFault n → Ends s t (as_word {T = T} (Err e)) → EndsBytes {T = U} s t (Err (BytesFault m))
run_fault {T = T} s t e n m is h = ends_by_as s t _ _ _ _ (λ a. refl) (λ a. cc) (λ a. cc) (ends_by s t (Err VolFault) (subst (λ x. Ends s t (as_word {T = T} (Err x))) is h))

pub run_stop : {T U : Type 0} (s t : Health) (e : RunFail) → e ≡ RunStopped → Ends s t (as_word {T = T} (Err e)) → EndsBytes {T = U} s t (Err BytesStopped)
run_stop {T = T} {U = U} s t e is h = ends_by_as s t _ _ _ _ (λ a. absurd (stop_told {T = U} a.0 a.1)) (λ a. refl) (λ a. refl) (ends_by s t (Err VolStopped) (subst (λ x. Ends s t (as_word {T = T} (Err x))) is h))

pub bytes_well : {T : Type 0} (v : T) (k : ℕ) → IsErrOf (Ok v) (BytesFault k) → ⊥
bytes_well v k is = cc

-- blocks that were looked up
read_as : {T U : Type 0} (s t : Health) (e : ReadFail) → EndsRead {T = T} s t (Err e) → EndsWrite {T = U} s t (Err (write_of_read e))
read_as s t ReadFault h = ends_by_as s t _ _ _ _ (λ a. refl) (λ a. cc) (λ a. cc) h
read_as {T = T} {U = U} s t ReadStopped h = ends_by_as s t _ _ _ _ (λ a. absurd (not_fault {T = U} a.0 a.1)) (λ a. refl) (λ a. refl) h
read_as {T = T} {U = U} s t ReadMemory h = ends_by_as s t _ _ _ _ (λ a. absurd (no_kind {T = U} Memory a.0 (λ is. cc) a.1)) (λ a. cc) (λ a. cc) h

pub ends_write_read : {T U : Type 0} (s t : Health) (r : Result T ReadFail) (q : Result U WriteFail) (e : ReadFail) (d : WriteFail) → r ≡ Err e → q ≡ Err d → d ≡ write_of_read e → EndsRead s t r → EndsWrite s t q
ends_write_read {T = T} {U = U} s t r q e d re qd de h = subst (λ (v : Result U WriteFail). EndsWrite s t v) (sym (qd ∙ ap Err de)) (read_as s t e (subst (λ (v : Result T ReadFail). EndsRead s t v) re h))

pub read_unrefused : {T : Type 0} (q : Result T WriteFail) (e : ReadFail) (d : WriteFail) → q ≡ Err d → d ≡ write_of_read e → (IsErrOf q NoSpace → ⊥) × (IsErrOf q TooLarge → ⊥)
read_unrefused q ReadFault d qd de = ((λ is. cc), (λ is. cc))
read_unrefused q ReadStopped d qd de = ((λ is. cc), (λ is. cc))
read_unrefused q ReadMemory d qd de = ((λ is. cc), (λ is. cc))

-- bytes that were stored
pub write_unrefused : {T : Type 0} (v : T) → (IsErrOf {E = WriteFail} (Ok v) NoSpace → ⊥) × (IsErrOf {E = WriteFail} (Ok v) TooLarge → ⊥)
write_unrefused v = ((λ is. cc), (λ is. cc))

pub ends_write_done : {T U : Type 0} (s t : Health) (v : T) (u : U) → EndsBytes s t (Ok v) → EndsWrite s t (Ok u)
ends_write_done s t v u h = ends_by_well s t _ _ h.later (h.runs (λ a. cc)) (λ a. no_fault u a.0 a.1) (λ a. cc)

-- ---- of no bytes, and of a failure handed on

pub no_length : (n : ℕ) → (n == 0) ≡ true → n ≡ 0
no_length n test = grind (arith, nat_tests, test)

written_none : (old : List ℕ) (off : ℕ) (bytes : List ℕ) → length bytes ≡ 0 → written old off bytes ≡ old
written_none old off [] none = refl
written_none old off (b ∷ bytes) none = absurd (omega (arith, none))

pub none_both : (shape : VolumeShape) (x : Seen) (k : Kept) (i off : ℕ) (bytes : List ℕ) → Ready shape x k → Settled x k → (held_of shape x.words i).kind ≡ 2 → length bytes ≡ 0 → SetsBoth shape x.words x k i (written (file_bytes shape x.words i) off bytes)
none_both shape x k i off bytes h settled kind none =
    let ino : IsIno shape i = file_ino shape x.words i kind in
    subst (SetsBoth shape x.words x k i) (sym (written_none (file_bytes shape x.words i) off bytes none)) (stored_both shape x.words x k i (file_bytes shape x.words i) h.order.mapped ino (file_placed shape x.words i ino kind) (beside_refl (volume_layout shape x.words) i x.words) h settled (sym (file_node shape x.words i ino)))

leaves_err : (T U : Type 0) (shape : VolumeShape) (x : Seen) (k : Kept) (y : Seen) (j : Kept) (i off : ℕ) (bytes : List ℕ) (e : WriteFail) → WriteLeaves {T = T} shape x k y j i off bytes (Err e) → WriteLeaves {T = U} shape x k y j i off bytes (Err e)
leaves_err T U shape x k y j i off bytes NoSpace s = s
leaves_err T U shape x k y j i off bytes TooLarge s = s
leaves_err T U shape x k y j i off bytes Memory s = s
leaves_err T U shape x k y j i off bytes Stopped s = s
leaves_err T U shape x k y j i off bytes (Fault done) s = s

pub leaves_same : {T U : Type 0} (shape : VolumeShape) (x : Seen) (k : Kept) (y : Seen) (j : Kept) (i off : ℕ) (bytes : List ℕ) (r : Result T WriteFail) (q : Result U WriteFail) (e d : WriteFail) → r ≡ Err e → q ≡ Err d → d ≡ e → WriteLeaves shape x k y j i off bytes r → WriteLeaves shape x k y j i off bytes q
leaves_same {T = T} {U = U} shape x k y j i off bytes r q e d re qd de s = subst (λ (v : Result U WriteFail). WriteLeaves shape x k y j i off bytes v) (sym (qd ∙ ap Err de)) (leaves_err T U shape x k y j i off bytes e (subst (λ (v : Result T WriteFail). WriteLeaves shape x k y j i off bytes v) re s))

pub was_err : {T U : Type 0} (r : Result T WriteFail) (q : Result U WriteFail) (e d f : WriteFail) → r ≡ Err e → q ≡ Err d → d ≡ e → IsErrOf q f → IsErrOf r f
was_err r q e d f re qd de is = cc

-- no bytes, or more than a file may have: nothing was called
pub write_still : {T : Type 0} (s : Health) (v : T) → EndsWrite s s (Ok v)
write_still s v = ends_by_well s s _ _ (omega arith) refl (λ a. no_fault v a.0 a.1) (λ a. cc)

pub large_still : {T : Type 0} (s : Health) → EndsWrite {T = T} s s (Err TooLarge)
large_still {T = T} s = ends_by_well s s _ _ (omega arith) refl (λ a. no_kind {T = T} TooLarge a.0 (λ is. cc) a.1) (λ a. cc)

-- an answer is no failure, and a file that would be too large none but that one
pub well_fault : {T : Type 0} (v : T) (k : ℕ) → IsErrOf (Ok v) (Fault k) → ⊥
well_fault v k is = cc

pub well_stopped : {T : Type 0} (v : T) → IsErrOf {E = WriteFail} (Ok v) Stopped → ⊥
well_stopped v is = cc

pub well_refused : {T : Type 0} (v : T) → IsErrOf {E = WriteFail} (Ok v) NoSpace ⊎ IsErrOf {E = WriteFail} (Ok v) TooLarge ⊎ IsErrOf {E = WriteFail} (Ok v) Memory → ⊥
well_refused v (inl is) = cc
well_refused v (inr (inl is)) = cc
well_refused v (inr (inr is)) = cc

pub large_space : {T : Type 0} → IsErrOf {T = T} (Err TooLarge) NoSpace → ⊥
large_space is = cc

pub large_fault : {T : Type 0} (k : ℕ) → IsErrOf {T = T} (Err TooLarge) (Fault k) → ⊥
large_fault k is = cc

pub large_stopped : {T : Type 0} → IsErrOf {T = T} (Err TooLarge) Stopped → ⊥
large_stopped is = cc
