-- What is on a machine's pages and blocks while a page is stored and saved, call by call.
use Rattle.std.specs.Prelude.{◌≡◌, ◌≢◌, ℕ, ◌+◌, ◌*◌, ◌/◌, ◌<◌, Bool, true, false, List, length, replicate, slice_set, Option, Some, None, Result, Ok, Err, IsErrOf, OnErr, OnOk, is_err}
use Rattle.std.proofs.Common.{arith, sym, ap, ◌∙◌}
use Rattle.rio_base.specs.Disks.{block_at}
use Rattle.rio_base.specs.Machine.{Contents, FaultCause, Lasts, Running, StepEnds}
use Rattle.rio_base.specs.Memory.{page_at}
use Rattle.rio_base.specs.Rules.{none_some, true_false}
use Rattle.rio_base.specs.declared.failures.DiskFail.{DiskFail}
use Rattle.rio_base.specs.declared.failures.DiskFail.TheVariants.{Fault, Stopped}
use Rattle.rio_base.proofs.Rules.{rose_later}

-- ---- which answer it was

pub was_ok : {T E : Type 0} (r : Result T E) (P : Type 0) → is_err r ≡ false → OnOk r P → P
was_ok (Ok x) P e h = h
was_ok (Err x) P e h = absurd (true_false e)

pub was_err : {T E : Type 0} (r : Result T E) (P : Type 0) → is_err r ≡ true → OnErr r P → P
was_err (Ok x) P e h = absurd (true_false (sym e))
was_err (Err x) P e h = h

-- ---- the words

pub stored_words : (a b c d : Contents) (o q : Option ℕ) (at v : ℕ) → b ≡ record a { open_page = o } → c ≡ record b { words = slice_set b.words at v } → d ≡ record c { open_page = q } → d.words ≡ slice_set a.words at v
stored_words a b c d o q at v opened stored closed = ap (λ (x : Contents). x.words) closed ∙ ap (λ (x : Contents). x.words) stored ∙ ap (λ (x : Contents). slice_set x.words at v) opened

pub same_words : (a b c d : Contents) (o q : Option ℕ) → b ≡ record a { open_page = o } → c ≡ b → d ≡ record c { open_page = q } → d.words ≡ a.words
same_words a b c d o q opened same closed = ap (λ (x : Contents). x.words) closed ∙ ap (λ (x : Contents). x.words) same ∙ ap (λ (x : Contents). x.words) opened

-- ---- the page

pub opened_page : (a b : Contents) (p : ℕ) → b ≡ record a { open_page = Some p } → b.open_page ≡ Some ((512 * p) / 512)
opened_page a b p opened = ap (λ (x : Contents). x.open_page) opened ∙ ap (λ (n : ℕ). Some n) (omega arith)

pub closed_page : (a b : Contents) → b ≡ record a { open_page = None } → b.open_page ≡ None
closed_page a b closed = ap (λ (x : Contents). x.open_page) closed

pub stays_open : {T E : Type 0} (r : Result T E) (a b c : Contents) (p : ℕ) (words : List ℕ) → b ≡ record a { open_page = Some p } → OnOk r (c ≡ record b { words = words }) → OnErr r (c ≡ b) → c.open_page ≢ None
stays_open r a b c p words opened stored same none = none_some p c.open_page none (page r stored same ∙ ap (λ (x : Contents). x.open_page) opened)
  where
    page : {T E : Type 0} (r : Result T E) → OnOk r (c ≡ record b { words = words }) → OnErr r (c ≡ b) → c.open_page ≡ b.open_page
    page (Ok x) is _ = ap (λ (x : Contents). x.open_page) is
    page (Err e) _ is = ap (λ (x : Contents). x.open_page) is

-- a place within what is there lies within what is there now, and within more
pub within_now : (n a b : ℕ) → b ≡ a → n < a → n < b
within_now n a b same less = omega (arith, same, less)

pub within_more : (n a b k : ℕ) → b ≡ a → n < a → n < b + k
within_more n a b k same less = omega (arith, same, less)

-- a call that changes what is pending and the faults alone
pub synced_page : (a b : Contents) (marks : List Bool) → b ≡ record a { pending = marks; faults = b.faults } → b.open_page ≡ a.open_page
synced_page a b marks e = ap (λ (x : Contents). x.open_page) e

pub synced_words : (a b : Contents) (marks : List Bool) → b ≡ record a { pending = marks; faults = b.faults } → b.words ≡ a.words
synced_words a b marks e = ap (λ (x : Contents). x.words) e

pub synced_disk : (a b : Contents) (marks : List Bool) → b ≡ record a { pending = marks; faults = b.faults } → b.disk ≡ a.disk
synced_disk a b marks e = ap (λ (x : Contents). x.disk) e

-- a call that changes the faults alone
pub read_page : (a b : Contents) → b ≡ record a { faults = b.faults } → b.open_page ≡ a.open_page
read_page a b e = ap (λ (x : Contents). x.open_page) e

pub read_words : (a b : Contents) → b ≡ record a { faults = b.faults } → b.words ≡ a.words
read_words a b e = ap (λ (x : Contents). x.words) e

-- nothing is pending after a sync and a read
pub settled : (a b c : Contents) → b ≡ record a { pending = replicate (length a.disk) false; faults = b.faults } → c ≡ record b { faults = c.faults } → c.pending ≡ replicate (length c.disk) false
settled a b c sync read =
    ap (λ (x : Contents). x.pending) read
    ∙ ap (λ (x : Contents). x.pending) sync
    ∙ ap (λ (xs : List (List ℕ)). replicate (length xs) false) (sym (ap (λ (x : Contents). x.disk) read ∙ ap (λ (x : Contents). x.disk) sync))

-- the block reads as the page that was written to it
pub page_read : (a b c d : Contents) (block p : ℕ) (into : List ℕ) → (512 * p < length a.words → block_at b.disk block ≡ page_at a.words p) → 512 * p < length a.words → c.disk ≡ b.disk → into ≡ block_at c.disk block → d.words ≡ a.words → into ≡ page_at d.words p
page_read a b c d block p into written within same read words =
    read ∙ ap (λ (xs : List (List ℕ)). block_at xs block) same ∙ written within ∙ ap (λ (xs : List ℕ). page_at xs p) (sym words)

-- ---- faults

pub fault_told : {T U : Type 0} (a b c : Contents) (e : DiskFail) (answer : Result U DiskFail) → answer ≡ Err e → Lasts a b → FaultCause b c (IsErrOf {T = T} (Err e) Fault) → FaultCause a c (IsErrOf answer Fault)
fault_told a b c e answer same lasts cause = λ is. rose_later _ _ _ lasts.faults.later (cause (err_same (sym same ∙ is)))
  where
    err_same : {T U : Type 0} {e : DiskFail} → IsErrOf {T = U} (Err e) Fault → IsErrOf {T = T} (Err e) Fault
    err_same {T} {U} {e} is = let one : e ≡ Fault = cc in ap (λ (f : DiskFail). Err f) one

pub no_fault : {T : Type 0} {P : Type 0} → IsErrOf {T = T} (Err Stopped) Fault → P
no_fault e = absurd cc

pub not_ok_fault : {T P : Type 0} {x : T} {e : DiskFail} → IsErrOf {T = T} (Ok x) e → P
not_ok_fault e = absurd cc

-- ---- a store that was stopped

pub stop_told : (a b : Running) (stop told : Type 0) → stop → told → StepEnds a b stop → StepEnds a b told
stop_told a b stop told is was h = record { steps = h.steps; told = λ _. h.told is; runs = λ none. absurd (none was) }
