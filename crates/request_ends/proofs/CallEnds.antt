-- How a call ends, told as a call on files.
use Rattle.request_ends.proofs.Common.{◌≡◌, ℕ, refl, sym, ap, subst, ◌∙◌, Result, Ok, Err, IsErrOf, VolFail, EndsBy, Health, SizeFail}
use Rattle.rio_base.specs.declared.failures.ReadFail.{ReadFail}
use Rattle.rio_base.specs.declared.failures.ReadFail.TheVariants.{Fault as ReadFault, Stopped as ReadStopped, Memory as ReadMemory}
use Rattle.rio_base.specs.declared.failures.VolFail.TheVariants.{Fault as VolFault, Stopped as VolStopped}
use Rattle.rio_base.specs.Blocks.{Ends}
use Rattle.rio_base.proofs.Rules.{ends_by, ends_by_after, ends_by_as}
use Rattle.node_pages.specs.declared.failures.SizeFail.TheVariants.{NoSpace as SizeNoSpace, TooLarge as SizeTooLarge, Fault as SizeFault, Stopped as SizeStopped, Memory as SizeMemory}
use Rattle.node_pages.specs.declared.failures.WriteFail.{WriteFail}
use Rattle.node_pages.specs.declared.failures.WriteFail.TheVariants.{NoSpace as WriteNoSpace, TooLarge as WriteTooLarge, Fault as WriteFault, Stopped as WriteStopped, Memory as WriteMemory}
use Rattle.request_ends.specs.declared.failures.FileFail.{FileFail}
use Rattle.request_ends.specs.declared.failures.FileFail.TheVariants.{Refused, Fault, Stopped, Memory}
use Rattle.request_ends.specs.Failures.{Faulted, fail_of_read, fail_of_size, fail_of_vol, fail_of_write}

abbrev pub EndsFile : {T : Type 0} → Health → Health → Result T FileFail → Type 0
EndsFile s t r = EndsBy s t (Faulted r) (IsErrOf r Stopped)

-- ---- failures

not_fault : {T : Type 0} (k : ℕ) → IsErrOf {T = T} (Err Stopped) (Fault k) → ⊥
not_fault k is = cc

no_fault : {T : Type 0} (c : ℕ) → Faulted {T = T} (Err (Refused c)) → ⊥
no_fault c is = cc (is.1)

no_memory : {T : Type 0} → Faulted {T = T} (Err Memory) → ⊥
no_memory is = cc (is.1)

vol_as : {T U : Type 0} (s t : Health) (e : VolFail) → Ends {T = T} s t (Err e) → EndsFile {T = U} s t (Err (fail_of_vol e))
vol_as s t VolFault h = ends_by_as s t _ _ _ _ (λ a. refl) (λ a. cc) (λ a. cc) (ends_by s t (Err VolFault) h)
vol_as {T = T} {U = U} s t VolStopped h = ends_by_as s t _ _ _ _ (λ a. absurd (not_fault {T = U} a.0 a.1)) (λ a. refl) (λ a. refl) (ends_by s t (Err VolStopped) h)

pub ends_vol : {T U : Type 0} (s t : Health) (r : Result T VolFail) (q : Result U FileFail) (e : VolFail) (d : FileFail) → r ≡ Err e → q ≡ Err d → d ≡ fail_of_vol e → Ends s t r → EndsFile s t q
ends_vol {T = T} {U = U} s t r q e d re qd de h = subst (λ (v : Result U FileFail). EndsFile s t v) (sym (qd ∙ ap Err de)) (vol_as s t e (subst (λ (v : Result T VolFail). Ends s t v) re h))

read_as : {T U : Type 0} (s t : Health) (e : ReadFail) → EndsBy s t (IsErrOf {T = T} (Err e) ReadFault) (IsErrOf {T = T} (Err e) ReadStopped) → EndsFile {T = U} s t (Err (fail_of_read e))
read_as s t ReadFault h = ends_by_as s t _ _ _ _ (λ a. refl) (λ a. cc) (λ a. cc) h
read_as {T = T} {U = U} s t ReadStopped h = ends_by_as s t _ _ _ _ (λ a. absurd (not_fault {T = U} a.0 a.1)) (λ a. refl) (λ a. refl) h
read_as {T = T} {U = U} s t ReadMemory h = ends_by_as s t _ _ _ _ (λ a. absurd (no_memory {T = U} a)) (λ a. cc) (λ a. cc) h

pub ends_read : {T U : Type 0} (s t : Health) (r : Result T ReadFail) (q : Result U FileFail) (e : ReadFail) (d : FileFail) → r ≡ Err e → q ≡ Err d → d ≡ fail_of_read e → EndsBy s t (IsErrOf r ReadFault) (IsErrOf r ReadStopped) → EndsFile s t q
ends_read {T = T} {U = U} s t r q e d re qd de h = subst (λ (v : Result U FileFail). EndsFile s t v) (sym (qd ∙ ap Err de)) (read_as {T = T} s t e (subst (λ (v : Result T ReadFail). EndsBy s t (IsErrOf v ReadFault) (IsErrOf v ReadStopped)) re h))

size_as : {T U : Type 0} (s t : Health) (e : SizeFail) → EndsBy s t (IsErrOf {T = T} (Err e) SizeFault) (IsErrOf {T = T} (Err e) SizeStopped) → EndsFile {T = U} s t (Err (fail_of_size e))
size_as {T = T} {U = U} s t SizeNoSpace h = ends_by_as s t _ _ _ _ (λ a. absurd (no_fault {T = U} 11 a)) (λ a. cc) (λ a. cc) h
size_as {T = T} {U = U} s t SizeTooLarge h = ends_by_as s t _ _ _ _ (λ a. absurd (no_fault {T = U} 10 a)) (λ a. cc) (λ a. cc) h
size_as s t SizeFault h = ends_by_as s t _ _ _ _ (λ a. refl) (λ a. cc) (λ a. cc) h
size_as {T = T} {U = U} s t SizeStopped h = ends_by_as s t _ _ _ _ (λ a. absurd (not_fault {T = U} a.0 a.1)) (λ a. refl) (λ a. refl) h
size_as {T = T} {U = U} s t SizeMemory h = ends_by_as s t _ _ _ _ (λ a. absurd (no_memory {T = U} a)) (λ a. cc) (λ a. cc) h

pub ends_size : {T U : Type 0} (s t : Health) (r : Result T SizeFail) (q : Result U FileFail) (e : SizeFail) (d : FileFail) → r ≡ Err e → q ≡ Err d → d ≡ fail_of_size e → EndsBy s t (IsErrOf r SizeFault) (IsErrOf r SizeStopped) → EndsFile s t q
ends_size {T = T} {U = U} s t r q e d re qd de h = subst (λ (v : Result U FileFail). EndsFile s t v) (sym (qd ∙ ap Err de)) (size_as {T = T} s t e (subst (λ (v : Result T SizeFail). EndsBy s t (IsErrOf v SizeFault) (IsErrOf v SizeStopped)) re h))

abbrev WriteEnds : {T : Type 0} → Health → Health → Result T WriteFail → Type 0
WriteEnds s t r = EndsBy s t ((k : ℕ) × IsErrOf r (WriteFault k)) (IsErrOf r WriteStopped)

write_as : {T U : Type 0} (s t : Health) (e : WriteFail) → WriteEnds {T = T} s t (Err e) → EndsFile {T = U} s t (Err (fail_of_write e))
write_as {T = T} {U = U} s t WriteNoSpace h = ends_by_as s t _ _ _ _ (λ a. absurd (no_fault {T = U} 11 a)) (λ a. cc) (λ a. cc) h
write_as {T = T} {U = U} s t WriteTooLarge h = ends_by_as s t _ _ _ _ (λ a. absurd (no_fault {T = U} 10 a)) (λ a. cc) (λ a. cc) h
write_as s t (WriteFault done) h = ends_by_as s t _ _ _ _ (λ a. (done, refl)) (λ a. cc) (λ a. cc) h
write_as {T = T} {U = U} s t WriteStopped h = ends_by_as s t _ _ _ _ (λ a. absurd (not_fault {T = U} a.0 a.1)) (λ a. refl) (λ a. refl) h
write_as {T = T} {U = U} s t WriteMemory h = ends_by_as s t _ _ _ _ (λ a. absurd (no_memory {T = U} a)) (λ a. cc) (λ a. cc) h

pub ends_write : {T U : Type 0} (s t : Health) (r : Result T WriteFail) (q : Result U FileFail) (e : WriteFail) (d : FileFail) → r ≡ Err e → q ≡ Err d → d ≡ fail_of_write e → WriteEnds s t r → EndsFile s t q
ends_write {T = T} {U = U} s t r q e d re qd de h = subst (λ (v : Result U FileFail). EndsFile s t v) (sym (qd ∙ ap Err de)) (write_as {T = T} s t e (subst (λ (v : Result T WriteFail). WriteEnds s t v) re h))

-- ---- a failure of this kind handed on

err_as : {T U : Type 0} (s t : Health) (e : FileFail) → EndsFile {T = T} s t (Err e) → EndsFile {T = U} s t (Err e)
err_as {T = T} {U = U} s t (Refused c) h = ends_by_as s t _ _ _ _ (λ a. absurd (no_fault {T = U} c a)) (λ a. cc) (λ a. cc) h
err_as s t (Fault k) h = ends_by_as s t _ _ _ _ (λ a. (k, refl)) (λ a. cc) (λ a. cc) h
err_as {T = T} {U = U} s t Stopped h = ends_by_as s t _ _ _ _ (λ a. absurd (not_fault {T = U} a.0 a.1)) (λ a. refl) (λ a. refl) h
err_as {T = T} {U = U} s t Memory h = ends_by_as s t _ _ _ _ (λ a. absurd (no_memory {T = U} a)) (λ a. cc) (λ a. cc) h

pub ends_on : {T U : Type 0} (s t : Health) (r : Result T FileFail) (q : Result U FileFail) (e d : FileFail) → r ≡ Err e → q ≡ Err d → d ≡ e → EndsFile s t r → EndsFile s t q
ends_on {T = T} {U = U} s t r q e d re qd de h = subst (λ (v : Result U FileFail). EndsFile s t v) (sym (qd ∙ ap Err de)) (err_as s t e (subst (λ (v : Result T FileFail). EndsFile s t v) re h))

-- ---- an answer

ok_none : {T : Type 0} (v : T) → Faulted (Ok v) → ⊥
ok_none v is = cc (is.1)

-- a refusal of one's own after calls that ended well
pub ends_refused : {T : Type 0} (s t : Health) (c : ℕ) → EndsBy s t ⊥ ⊥ → EndsFile {T = T} s t (Err (Refused c))
ends_refused {T = T} s t c h = ends_by_as s t _ _ _ _ (λ a. no_fault {T = T} c a) (λ a. cc) (λ a. absurd a) h

pub ends_ok : {U : Type 0} (s t : Health) (u : U) → EndsBy s t ⊥ ⊥ → EndsFile s t (Ok u)
ends_ok s t u h = ends_by_as s t _ _ _ _ (λ a. ok_none u a) (λ a. cc) (λ a. absurd a) h

-- a call that ended well
pub well : {T : Type 0} (s t : Health) (r : Result T FileFail) (v : T) → r ≡ Ok v → EndsFile s t r → EndsBy s t ⊥ ⊥
well {T = T} s t r v is h = ends_by_as s t _ _ _ _ (λ a. absurd a) (λ a. absurd a) (λ a. cc) (subst (λ (x : Result T FileFail). EndsFile s t x) is h)

-- and then another call
pub after_well : (s t u : Health) (fault stop : Type 0) → EndsBy s t ⊥ ⊥ → EndsBy t u fault stop → EndsBy s u fault stop
after_well s t u fault stop h k = ends_by_after s t u fault stop h.later (h.runs (λ a. a)) k

pub well_vol : {T : Type 0} (s t : Health) (r : Result T VolFail) (v : T) → r ≡ Ok v → Ends s t r → EndsBy s t ⊥ ⊥
well_vol {T = T} s t r v is h = ends_by_as s t _ _ _ _ (λ a. absurd a) (λ a. absurd a) (λ a. cc) (ends_by s t (Ok v) (subst (λ (x : Result T VolFail). Ends s t x) is h))

pub well_read : {T : Type 0} (s t : Health) (r : Result T ReadFail) (v : T) → r ≡ Ok v → EndsBy s t (IsErrOf r ReadFault) (IsErrOf r ReadStopped) → EndsBy s t ⊥ ⊥
well_read {T = T} s t r v is h = ends_by_as s t _ _ _ _ (λ a. absurd a) (λ a. absurd a) (λ a. cc) (subst (λ (x : Result T ReadFail). EndsBy s t (IsErrOf x ReadFault) (IsErrOf x ReadStopped)) is h)

-- or gave up for want of memory
pub well_memory : {T : Type 0} (s t : Health) (r : Result T ReadFail) → r ≡ Err ReadMemory → EndsBy s t (IsErrOf r ReadFault) (IsErrOf r ReadStopped) → EndsBy s t ⊥ ⊥
well_memory {T = T} s t r is h = ends_by_as s t _ _ _ _ (λ a. absurd a) (λ a. absurd a) (λ a. cc) (subst (λ (x : Result T ReadFail). EndsBy s t (IsErrOf x ReadFault) (IsErrOf x ReadStopped)) is h)

pub well_size : {T : Type 0} (s t : Health) (r : Result T SizeFail) (v : T) → r ≡ Ok v → EndsBy s t (IsErrOf r SizeFault) (IsErrOf r SizeStopped) → EndsBy s t ⊥ ⊥
well_size {T = T} s t r v is h = ends_by_as s t _ _ _ _ (λ a. absurd a) (λ a. absurd a) (λ a. cc) (subst (λ (x : Result T SizeFail). EndsBy s t (IsErrOf x SizeFault) (IsErrOf x SizeStopped)) is h)

pub well_write : {T : Type 0} (s t : Health) (r : Result T WriteFail) (v : T) → r ≡ Ok v → WriteEnds s t r → EndsBy s t ⊥ ⊥
well_write {T = T} s t r v is h = ends_by_as s t _ _ _ _ (λ a. absurd a) (λ a. absurd a) (λ a. cc) (subst (λ (x : Result T WriteFail). WriteEnds s t x) is h)
