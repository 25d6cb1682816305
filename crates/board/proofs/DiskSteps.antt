-- What a step of the disk leaves of a board, behind the `begin` of that step.
use Rattle.std.proofs.Common.{◌≡◌, ℕ, ◌≤◌, Bool, true, false, List, length, replicate, [], Result, Ok, Err, OnOk, OnErr, IsErrOf, is_err, le_refl, sym, ◌∙◌, ap, subst, arith, get_or-set_other}
use Rattle.std.proofs.lemmas.List.{length-set}
use Rattle.rio_base.specs.Disks.{DiskContents, FaultCount, FaultsLast, block_at, is_pending, with_synced, with_torn, with_written}
use Rattle.rio_base.specs.Machine.{Contents, Lasts, Running, StepEnds, WritesBlock}
use Rattle.rio_base.proofs.MachineRules.{lasts_refl}
use Rattle.rio_base.specs.Rules.{true_false}
use Rattle.rio_base.specs.declared.failures.DiskFail.{DiskFail}
use Rattle.rio_base.specs.declared.failures.DiskFail.TheVariants.{Fault, Stopped}
use Rattle.board.specs.declared.guard.Guard.{Guard}
use Rattle.board.specs.Boards.{contents_of, protected_of}
use Rattle.board.specs.Guards.{page_of}

-- ---- answers

-- what holds of a call where it answered an error, and where it answered none
pub on_err : {T E : Type 0} (r : Result T E) (P : Type 0) → is_err r ≡ true → OnErr r P → P
on_err (Ok x) P is h = absurd (true_false (sym is))
on_err (Err e) P is h = h

pub on_ok : {T E : Type 0} (r : Result T E) (P : Type 0) → is_err r ≡ false → OnOk r P → P
on_ok (Ok x) P is h = h
on_ok (Err e) P is h = absurd (true_false is)

is_stop : Result (Unit {0}) DiskFail → Type 0
is_stop (Ok x) = ⊥
is_stop (Err Stopped) = Unit {0}
is_stop (Err Fault) = ⊥

-- the disk's fault is no stop
pub no_stop : IsErrOf {T = Unit {0}} (Err Fault) Stopped → ⊥
unfolding is_stop
no_stop e = subst is_stop (sym e) tt

-- a step that ended so, as an answer of another type tells it
pub ends_by : (a b : Running) (was stop : Type 0) → (stop → was) → (was → stop) → StepEnds a b was → StepEnds a b stop
ends_by a b was stop to from h = record { steps = h.steps; told = λ s. h.told (to s); runs = λ n. h.runs (λ w. n (from w)) }

-- ---- contents

-- protected words and the open page are as before
pub moved_contents : (words now : List ℕ) (pages then : ℕ) (disk : DiskContents) (old new : Guard) → protected_of now then ≡ protected_of words pages → page_of new ≡ page_of old → contents_of now then disk new ≡ contents_of words pages disk old
moved_contents words now pages then disk old new h k =
    ap (λ ws. record (contents_of now then disk new) { words = ws }) h
    ∙ ap (λ o. record (contents_of words pages disk old) { open_page = o }) k

-- and the disk becomes this one
pub disk_contents : (words now : List ℕ) (pages then : ℕ) (disk after : DiskContents) (old new : Guard) → protected_of now then ≡ protected_of words pages → page_of new ≡ page_of old → after ≡ disk → contents_of now then after new ≡ contents_of words pages disk old
disk_contents words now pages then disk after old new h k e = moved_contents words now pages then after old new h k ∙ ap (λ (d : DiskContents). contents_of words pages d old) e

pub unmade_contents : (words now : List ℕ) (pages then : ℕ) (disk after : DiskContents) (old new : Guard) → protected_of now then ≡ protected_of words pages → page_of new ≡ page_of old → after ≡ disk → contents_of now then after new ≡ record (contents_of words pages disk old) { pending = after.pending }
unmade_contents words now pages then disk after old new h k e =
    disk_contents words now pages then disk after old new h k e
    ∙ ap (λ ps. record (contents_of words pages disk old) { pending = ps }) (sym (ap (λ (d : DiskContents). d.pending) e))

pub torn_contents : (words now : List ℕ) (pages then : ℕ) (disk after : DiskContents) (old new : Guard) (b : ℕ) → protected_of now then ≡ protected_of words pages → page_of new ≡ page_of old → after ≡ with_torn disk b → contents_of now then after new ≡ record (contents_of words pages disk old) { pending = after.pending }
torn_contents words now pages then disk after old new b h k e =
    disk_contents words now pages then (with_torn disk b) after old new h k e
    ∙ ap (λ ps. record (contents_of words pages disk old) { pending = ps }) (sym (ap (λ (d : DiskContents). d.pending) e))

pub synced_contents : (words now : List ℕ) (pages then : ℕ) (disk after : DiskContents) (old new : Guard) → protected_of now then ≡ protected_of words pages → page_of new ≡ page_of old → after ≡ with_synced disk after.faults → contents_of now then after new ≡ record (contents_of words pages disk old) { pending = replicate (length disk.blocks) false; faults = after.faults }
synced_contents words now pages then disk after old new h k e = disk_contents words now pages then (with_synced disk after.faults) after old new h k e

pub unsynced_contents : (words now : List ℕ) (pages then : ℕ) (disk after : DiskContents) (old new : Guard) → protected_of now then ≡ protected_of words pages → page_of new ≡ page_of old → after ≡ record disk { faults = after.faults } → contents_of now then after new ≡ record (contents_of words pages disk old) { faults = after.faults }
unsynced_contents words now pages then disk after old new h k e = disk_contents words now pages then (record disk { faults = after.faults }) after old new h k e

pub unsynced : (disk after : DiskContents) → after ≡ disk → after ≡ record disk { faults = after.faults }
unsynced disk after e = e ∙ ap (λ (f : FaultCount). record disk { faults = f }) (sym (ap (λ (d : DiskContents). d.faults) e))

-- ---- what lasts

pub marked_lasts : (old new : Contents) → new ≡ record old { pending = new.pending } → Lasts old new
marked_lasts old new e = record {
  size = ap (λ (c : Contents). length c.words) e;
  blocks = ap (λ (c : Contents). length c.disk) e;
  around = ap (λ (c : Contents). c.around) e;
  faults = subst (λ (f : FaultCount). FaultsLast old.faults f) (sym (ap (λ (c : Contents). c.faults) e)) (lasts_refl old).faults;
  writes = subst (λ n. old.writes ≤ n) (sym (ap (λ (c : Contents). c.writes) e)) (le_refl old.writes);
}

pub unmade_lasts : (old new : Contents) → new ≡ old → Lasts old new
unmade_lasts old new e = subst (λ (c : Contents). Lasts old c) (sym e) (lasts_refl old)

-- a sync, or one that failed
pub synced_lasts : (old new : Contents) (pending : List Bool) → new ≡ record old { pending = pending; faults = new.faults } → FaultsLast old.faults new.faults → Lasts old new
synced_lasts old new pending e f = record {
  size = ap (λ (c : Contents). length c.words) e;
  blocks = ap (λ (c : Contents). length c.disk) e;
  around = ap (λ (c : Contents). c.around) e;
  faults = f;
  writes = subst (λ n. old.writes ≤ n) (sym (ap (λ (c : Contents). c.writes) e)) (le_refl old.writes);
}

pub written_lasts : (words now : List ℕ) (pages then : ℕ) (disk after : DiskContents) (old new : Guard) (b : ℕ) (block : List ℕ) → protected_of now then ≡ protected_of words pages → after ≡ with_written disk b block after.faults → FaultsLast disk.faults after.faults → Lasts (contents_of words pages disk old) (contents_of now then after new)
written_lasts words now pages then disk after old new b block h e f = record {
  size = ap length h;
  blocks = ap (λ (d : DiskContents). length d.blocks) e ∙ length-set disk.blocks b block;
  around = ap (λ (d : DiskContents). d.around) e;
  faults = f;
  writes = omega (arith, ap (λ (d : DiskContents). d.writes) e);
}

-- ---- a block is written

pub torn_writes : (words now : List ℕ) (pages then : ℕ) (disk after : DiskContents) (old new : Guard) (b : ℕ) → protected_of now then ≡ protected_of words pages → page_of new ≡ page_of old → after ≡ with_torn disk b → WritesBlock b (contents_of words pages disk old) (contents_of now then after new)
torn_writes words now pages then disk after old new b h k e = record {
  words = h;
  open_page = k;
  around = ap (λ (d : DiskContents). d.around) e;
  count = ap (λ (d : DiskContents). length d.blocks) e;
  others = λ c n. ap (λ (d : DiskContents). block_at d.blocks c) e;
  marks = λ c n. ap (λ (d : DiskContents). is_pending d.pending c) e ∙ get_or-set_other disk.pending b c true false n;
}

pub unmade_writes : (words now : List ℕ) (pages then : ℕ) (disk after : DiskContents) (old new : Guard) (b : ℕ) → protected_of now then ≡ protected_of words pages → page_of new ≡ page_of old → after ≡ disk → WritesBlock b (contents_of words pages disk old) (contents_of now then after new)
unmade_writes words now pages then disk after old new b h k e = record {
  words = h;
  open_page = k;
  around = ap (λ (d : DiskContents). d.around) e;
  count = ap (λ (d : DiskContents). length d.blocks) e;
  others = λ c n. ap (λ (d : DiskContents). block_at d.blocks c) e;
  marks = λ c n. ap (λ (d : DiskContents). is_pending d.pending c) e;
}

pub made_writes : (words now : List ℕ) (pages then : ℕ) (disk after : DiskContents) (old new : Guard) (b : ℕ) (block : List ℕ) → protected_of now then ≡ protected_of words pages → page_of new ≡ page_of old → after ≡ with_written disk b block after.faults → WritesBlock b (contents_of words pages disk old) (contents_of now then after new)
made_writes words now pages then disk after old new b block h k e = record {
  words = h;
  open_page = k;
  around = ap (λ (d : DiskContents). d.around) e;
  count = ap (λ (d : DiskContents). length d.blocks) e ∙ length-set disk.blocks b block;
  others = λ c n. ap (λ (d : DiskContents). block_at d.blocks c) e ∙ get_or-set_other disk.blocks b c block [] n;
  marks = λ c n. ap (λ (d : DiskContents). is_pending d.pending c) e ∙ get_or-set_other disk.pending b c true false n;
}
