-- What a reader of a volume sees: its blocks, which of them are cached and under which names, and how its calls end.
use Rattle.std.specs.Prelude.{◌≡◌, ◌≢◌, ℕ, ◌+◌, ◌<◌, ◌≤◌, slice_index, Bool, true, false, ◌⊎◌, List, Option, Some, None, Result, Ok, Err}
use Rattle.rio_base.specs.declared.places.PageName.{PageName}
use Rattle.rio_base.specs.declared.failures.VolFail.{VolFail}
use Rattle.rio_base.specs.declared.failures.VolFail.TheVariants.{Fault, Stopped}
use Rattle.rio_base.specs.declared.failures.RunFail.{RunFail}
use Rattle.rio_base.specs.declared.failures.RunFail.TheVariants.{Fault as RunFault, Stopped as RunStopped}
use Rattle.rio_base.specs.Failures.{Rose}
use Rattle.rio_base.specs.Hosts.{Asked}

-- the words of all blocks: block, then word of the block
abbrev pub BlockWords : Type 0
BlockWords = ℕ → ℕ → ℕ

-- the disk under a machine: its blocks as read, and those whose last write no sync has confirmed
pub record Home : Type 0 where
  pub disk : BlockWords
  pub pending : ℕ → Bool

-- what a disk keeps beside its blocks: the name of its file, the host's other files by name, where they are told, and how
-- often these were asked for
pub record Around : Type 0 where
  pub file : List ℕ
  pub others : List ℕ → Option (List ℕ)
  pub asked : Asked

-- why a machine may stop
pub record Causes : Type 0 where
  -- a stop was given when the machine was made
  pub stop_set : Bool
  -- the place of the armed wild store, if any
  pub armed : Option ℕ
  -- the place of the wild store that trapped, if any
  pub trapped : Option ℕ
  -- the protected pages of memory
  pub protected : ℕ → Bool

-- the whole state of the machine under a volume
pub record Base : Type 0 where
  pub memory : ℕ → ℕ
  pub home : Home
  pub open_page : Option ℕ
  pub steps : ℕ
  pub writes : ℕ
  pub around : Option Around
  pub causes : Causes

pub record Seen : Type 0 where
  -- how many blocks there are
  pub count : ℕ
  -- what they read as
  pub words : BlockWords
  -- which blocks are cached
  pub cached : ℕ → Bool
  -- the names of cached data pages; a cached page of metadata has none
  pub names : ℕ → Option PageName
  -- the machine below, where it is told
  pub base : Option Base

pub record Health : Type 0 where
  -- how many calls failed so far, up to the largest u64
  pub faults : ℕ
  pub stopped : Bool

-- ---- names of cached pages

-- file, index and size of a name are in range
pub record IsPageName (name : PageName) : Type 0 where
  pub file_from : 1 ≤ name.file.0
  pub file_to : name.file.0 ≤ 262144
  pub index : name.index ≤ 65535
  pub size : name.size ≤ 4096

abbrev pub InRange : Option PageName → Type 0
InRange None = Unit {0}
InRange (Some name) = IsPageName name

-- two names of one page: both of metadata, or of the same page of the same file
abbrev pub SamePage : Option PageName → Option PageName → Type 0
SamePage None None = Unit {0}
SamePage (Some a) (Some b) = (a.file ≡ b.file) × (a.index ≡ b.index)
SamePage _ _ = ⊥

-- a block may be asked for under this name: the name is in range, and is the page's where the block is cached
pub record CanName (s : Seen) (b : ℕ) (name : Option PageName) : Type 0 where
  pub in_range : InRange name
  pub agrees : s.cached b ≡ true → SamePage (s.names b) name

-- n words of a block from word w on
pub record IsSpan (s : Seen) (b w n : ℕ) : Type 0 where
  pub block : b < s.count
  pub within : w + n ≤ 512

-- the first n of these are the words of block b from word w on
pub record IsRun (f : BlockWords) (b w n : ℕ) (words : List ℕ) : Type 0 where
  pub each : (i : ℕ) → i < n → slice_index words i ≡ f b (w + i)

-- a word of a block
pub record IsPlace (s : Seen) (b w : ℕ) : Type 0 where
  pub block : b < s.count
  pub word : w < 512

-- names belong to cached blocks, and are in range
pub record NamesFit (s : Seen) : Type 0 where
  pub cached : (b : ℕ) → s.cached b ≡ false → s.names b ≡ None
  pub in_range : (b : ℕ) → InRange (s.names b)

-- no block is newly cached but b, which is cached under this name or the one that it had; others may be dropped
pub record Caches (s t : Seen) (b : ℕ) (name : Option PageName) : Type 0 where
  pub others : (c : ℕ) → c ≢ b → t.cached c ≡ true → (s.cached c ≡ true) × (t.names c ≡ s.names c)
  pub named : t.cached b ≡ true → ((s.cached b ≡ true) × (t.names b ≡ s.names b)) ⊎ (t.names b ≡ name)

-- no block is newly cached; some may be dropped
pub record Drops (s t : Seen) : Type 0 where
  pub kept : (c : ℕ) → t.cached c ≡ true → (s.cached c ≡ true) × (t.names c ≡ s.names c)

-- ---- what a reading call leaves as it was

pub record Looks (s t : Seen) : Type 0 where
  pub count : t.count ≡ s.count
  pub words : t.words ≡ s.words
  pub base : t.base ≡ s.base

-- ---- how a call ends

-- a fault comes only where the count of faults rose; Stopped only where the machine is stopped afterwards; and only
-- then is it newly stopped
abbrev pub FailCause : {T : Type 0} → Health → Health → Result T VolFail → Type 0
FailCause s t (Ok _) = t.stopped ≡ s.stopped
FailCause s t (Err Fault) = Rose s.faults t.faults × (t.stopped ≡ s.stopped)
FailCause s t (Err Stopped) = t.stopped ≡ true

pub record Ends {T : Type 0} (s t : Health) (answer : Result T VolFail) : Type 0 where
  pub later : s.faults ≤ t.faults
  pub stays : s.stopped ≡ true → t.stopped ≡ true
  pub cause : FailCause s t answer

-- of a call whose one failure is the stop: that comes only where the machine is stopped afterwards
abbrev pub HaltCause : {T E : Type 0} → Health → Health → Result T E → Type 0
HaltCause s t (Ok _) = t.stopped ≡ s.stopped
HaltCause s t (Err _) = t.stopped ≡ true

pub record Halts {T E : Type 0} (s t : Health) (answer : Result T E) : Type 0 where
  pub later : s.faults ≤ t.faults
  pub stays : s.stopped ≡ true → t.stopped ≡ true
  pub cause : HaltCause s t answer

-- the answer of a run of stores, as that of a single one
abbrev pub as_word : {T : Type 0} → Result T RunFail → Result T VolFail
as_word (Ok x) = Ok x
as_word (Err (RunFault n)) = Err Fault
as_word (Err RunStopped) = Err Stopped

-- where a run of stores ended with a fault, this is so of the count of words that were stored
abbrev pub FaultAt : {T : Type 0} → Result T RunFail → (ℕ → Type 0) → Type 0
FaultAt (Err (RunFault n)) p = p n
FaultAt _ p = Unit {0}

-- how a call ends, by what its answer says: `fault` is that it tells a fault, `stop` that it tells a stop. So it serves
-- each error type
pub record EndsBy (s t : Health) (fault stop : Type 0) : Type 0 where
  pub later : s.faults ≤ t.faults
  pub stays : s.stopped ≡ true → t.stopped ≡ true
  pub cause : fault → Rose s.faults t.faults
  pub told : stop → t.stopped ≡ true
  pub runs : (stop → ⊥) → t.stopped ≡ s.stopped
