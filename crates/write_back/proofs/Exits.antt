-- What is so at the exits of a call: of answers that are errors, and where words are as they were.
use Rattle.std.specs.Prelude.{◌≡◌, ℕ, ◌≤◌, ◌&&◌, Bool, true, false, List, length, slice_index, Result, Err, IfOk, IsErr, IsErrOf, OnErr}
use Rattle.std.proofs.Common.{◌∙◌, ap, sym, subst, arith, refl}
use Rattle.std.proofs.lemmas.Result.{IfOk-from_err, MatchResult-from_err}
use Rattle.rio_base.proofs.Rules.{rose_later}
use Rattle.rio_base.specs.Failures.{Rose, vol_fail}
use Rattle.rio_base.specs.Disks.{raised}
use Rattle.rio_base.specs.Machine.{Contents, Running, StepEnds}
use Rattle.rio_base.specs.declared.failures.DiskFail.{DiskFail}
use Rattle.rio_base.specs.declared.failures.DiskFail.TheVariants.{Fault as DiskFault, Stopped as DiskStopped}
use Rattle.rio_base.specs.declared.failures.VolFail.{VolFail}
use Rattle.rio_base.specs.declared.failures.VolFail.TheVariants.{Fault, Stopped}
use Rattle.rio_model.specs.Cover.{HeldEntry, IsCleaned, Narrows, OnDisk}
use Rattle.rio_model.proofs.HeldEntries.{held_same, narrows_by}
use Rattle.rio_model.specs.Registry.{BlockRule, OneEntry, frames_of, is_dirty, is_valid, tag_at}
use Rattle.write_back.specs.Flushing.{CleanedFirst, SameDisk, needs_write}

-- ---- errors

pub at_err : {T E P : Type 0} (r : Result T E) → IsErr r → P → OnErr r P
at_err r e p = MatchResult-from_err r _ _ e (λ _. p)

pub not_ok : {T E : Type 0} (P : T → Type 0) (r : Result T E) → IsErr r → IfOk r P
not_ok P r e = IfOk-from_err r P e

pub told_back : {T U E : Type 0} (e stop : E) (answer : Result U E) → answer ≡ Err e → IsErrOf answer stop → IsErrOf {T = T} (Err e) stop
told_back e stop answer same is = cc

pub not_fault : {T : Type 0} (r : Result T VolFail) → r ≡ Err Stopped → IsErrOf r Fault → ⊥
not_fault r same is = cc

not_stopped : {T : Type 0} (r : Result T VolFail) → r ≡ Err Fault → IsErrOf r Stopped → ⊥
not_stopped r same is = cc

-- the fault of a call, told by another answer
pub fault_told : {T U : Type 0} (cause : Type 0) (e : VolFail) (answer : Result U VolFail) → answer ≡ Err e → (IsErrOf {T = T} (Err e) Fault → cause) → IsErrOf answer Fault → cause
fault_told cause e answer same h is = h (told_back e Fault answer same is)

-- what the disk answered, told by another answer
pub disk_fault : {T U : Type 0} (cause : Type 0) (fail : DiskFail) (answer : Result U VolFail) → answer ≡ Err (vol_fail fail) → (IsErrOf {T = T} (Err fail) DiskFault → cause) → IsErrOf answer Fault → cause
disk_fault cause DiskFault answer same h is = h refl
disk_fault cause DiskStopped answer same h is = absurd (not_fault answer same is)

pub disk_ends : {T U : Type 0} (a b : Running) (fail : DiskFail) (answer : Result U VolFail) → answer ≡ Err (vol_fail fail) → StepEnds a b (IsErrOf {T = T} (Err fail) DiskStopped) → StepEnds a b (IsErrOf answer Stopped)
disk_ends a b DiskStopped answer same h = record { steps = h.steps; told = λ q. h.told refl; runs = λ n. absurd (n same) }
disk_ends a b DiskFault answer same h = record { steps = h.steps; told = λ q. absurd (not_stopped answer same q); runs = λ n. h.runs (λ q. cc) }

-- a step that was not stopped, nor does what stands for it say so
pub step_well : (a b : Running) (none stop : Type 0) → (none → ⊥) → (stop → ⊥) → StepEnds a b none → StepEnds a b stop
step_well a b none stop n o h = record { steps = h.steps; told = λ q. absurd (o q); runs = λ q. h.runs n }

-- a step that was stopped, and so says what stands for it
pub step_stopped : (a b : Running) (stop told : Type 0) → stop → told → StepEnds a b stop → StepEnds a b told
step_stopped a b stop told is tells h = record { steps = h.steps; told = λ q. h.told is; runs = λ n. absurd (n tells) }

-- behind calls of which some may have failed
pub fault_on : (a b c : ℕ) (fault : Type 0) → a ≤ b → (fault → Rose b c) → fault → Rose a c
fault_on a b c fault later h is = rose_later a b c later (h is)

-- ---- words as they were

pub one_same : (k : ℕ) (old new : List ℕ) → new ≡ old → OneEntry k old new
one_same k old new e = record {
  count = ap (λ (ws : List ℕ). length ws) e;
  before = λ i less. ap (λ (ws : List ℕ). slice_index ws i) e;
  behind = λ i more. ap (λ (ws : List ℕ). slice_index ws i) e;
}

pub narrows_same : (old new : List ℕ) → BlockRule old → new ≡ old → Narrows old new
narrows_same old new blocks e = narrows_by old new (ap (λ (ws : List ℕ). frames_of ws) e) blocks (λ k v. held_same k old new e)

pub held_from : (k : ℕ) (old mid new : List ℕ) → mid ≡ old → HeldEntry k mid new → HeldEntry k old new
held_from k old mid new e h = subst (λ (ws : List ℕ). HeldEntry k ws new) e h

pub one_from : (k : ℕ) (old mid new : List ℕ) → mid ≡ old → OneEntry k mid new → OneEntry k old new
one_from k old mid new e h = subst (λ (ws : List ℕ). OneEntry k ws new) e h

pub cleaned_from : (k : ℕ) (old mid new : List ℕ) → mid ≡ old → IsCleaned k mid new → IsCleaned k old new
cleaned_from k old mid new e h = subst (λ (ws : List ℕ). IsCleaned k ws new) e h

pub first_from : (j : ℕ) (old mid new : List ℕ) → mid ≡ old → CleanedFirst j mid new → CleanedFirst j old new
first_from j old mid new e h = subst (λ (ws : List ℕ). CleanedFirst j ws new) e h

-- ---- the disk as it was

pub on_disk_same : (a b : Contents) (k : ℕ) → b.words ≡ a.words → b.disk ≡ a.disk → OnDisk a k → OnDisk b k
on_disk_same a b k words disk h = record { same = λ x less. rw (words, disk) (h.same x less) }

-- only words change behind that
pub disk_on : (a b c : Contents) → SameDisk a b → c ≡ record b { words = c.words } → SameDisk a c
disk_on a b c h rest = record {
  disk = ap (λ (x : Contents). x.disk) rest ∙ h.disk;
  pending = ap (λ (x : Contents). x.pending) rest ∙ h.pending;
  writes = ap (λ (x : Contents). x.writes) rest ∙ h.writes;
}

pub writes_rest : (b c : Contents) → c ≡ record b { words = c.words } → c.writes ≡ b.writes
writes_rest b c rest = ap (λ (x : Contents). x.writes) rest

pub one_more : (w : ℕ) → w ≤ raised w 1
one_more w = omega arith

pub few_on : (w n most : ℕ) → n ≡ w → w ≤ most → n ≤ most
few_on w n most e h = subst (λ (x : ℕ). x ≤ most) (sym e) h

pub rest_then : (a b c : Contents) → b ≡ record a { words = b.words } → c ≡ record b { words = c.words } → c ≡ record a { words = c.words }
rest_then a b c h k = k ∙ ap (λ (x : Contents). record x { words = c.words }) h

-- ---- whether an entry is dirty

pub not_valid : (words : List ℕ) (k : ℕ) → is_valid (tag_at words k) ≡ false → needs_write words k ≡ false
not_valid words k e = ap (λ (v : Bool). v && is_dirty (tag_at words k)) e

pub not_dirty : (words : List ℕ) (k : ℕ) → is_valid (tag_at words k) ≡ true → is_dirty (tag_at words k) ≡ false → needs_write words k ≡ false
not_dirty words k e d = ap (λ (v : Bool). v && is_dirty (tag_at words k)) e ∙ d

pub needs_both : (words : List ℕ) (k : ℕ) → is_valid (tag_at words k) ≡ true → is_dirty (tag_at words k) ≡ true → needs_write words k ≡ true
needs_both words k e d = ap (λ (v : Bool). v && is_dirty (tag_at words k)) e ∙ d
