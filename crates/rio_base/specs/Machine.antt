-- A machine: what only its own calls change, what a wild store or a stop changes, and the rules of every call.
use Rattle.std.specs.Prelude.{◌≡◌, ◌≢◌, ℕ, ◌+◌, ◌-◌, ◌*◌, ◌/◌, ◌<◌, ◌≤◌, Bool, true, false, ◌⊎◌, List, length, slice_index, slice_set, Option, Some, None}
use Rattle.rio_base.specs.Blocks.{Around}
use Rattle.rio_base.specs.Failures.{Rose}
use Rattle.rio_base.specs.Disks.{FaultCount, FaultsLast, block_at, is_pending, raised}
use Rattle.rio_base.specs.declared.wild.Wild.{Wild}
use Rattle.rio_base.specs.declared.wild.Wild.TheVariants.{Changed, Trapped, Spared}

-- what only the machine's own calls change
pub record Contents : Type 0 where
  -- the words of the protected pages, which come first in memory
  pub words : List ℕ
  -- the page that is open to stores, if any
  pub open_page : Option ℕ
  -- the blocks of the disk as they read, and which of them are pending
  pub disk : List (List ℕ)
  pub pending : List Bool
  -- how many calls of the disk failed
  pub faults : FaultCount
  -- how many block writes were made, failed ones too, up to the largest u64
  pub writes : ℕ
  -- what the disk keeps beside its blocks, where it is told
  pub around : Option Around

-- what steps, wild stores and stops change
pub record Running : Type 0 where
  -- how many words are protected: all from word 0 to this one
  pub protected : ℕ
  -- the words of the scratch pages, which come behind them
  pub scratch : List ℕ
  -- how many steps were made, up to the largest u64
  pub steps : ℕ
  pub stopped : Bool
  -- a stop was given when the machine was made
  pub stop_set : Bool
  -- the place of the armed wild store, if any
  pub armed : Option ℕ
  -- how many steps come before it, and the word that it stores; they say nothing where none is armed
  pub armed_left : ℕ
  pub armed_value : ℕ
  -- the place of the wild store that trapped, if any
  pub trapped : Option ℕ

-- ---- rules of every call

-- why a machine has stopped: a store that was armed fell on a protected word and trapped, or a stop was given
abbrev pub StopReason : Running → Running → Type 0
StopReason old new = ((at : ℕ) × (old.armed ≡ Some at) × (at < old.protected) × (new.trapped ≡ Some at) × (new.armed ≡ None)) ⊎ ((new.trapped ≡ old.trapped) × (old.stop_set ≡ true))

-- a store that was armed at this place fell within n steps, before the one that followed as many as it had left: it trapped,
-- and that step was not made; or it did not trap, and that step was made
abbrev pub FellBy : ℕ → ℕ → Running → Running → Type 0
FellBy n at old new = ((old.armed_left < n) × (new.trapped ≡ old.trapped)) ⊎ ((old.armed_left ≡ n) × (new.stopped ≡ true) × (new.trapped ≡ Some at))

-- n steps were made, and a store that is armed still has n fewer before it
pub record Advances (n : ℕ) (old new : Running) : Type 0 where
  pub steps : new.steps ≡ raised old.steps n
  pub waits : (at : ℕ) → new.armed ≡ Some at → (new.armed_left + n ≡ old.armed_left) × (new.armed_value ≡ old.armed_value)
  pub fell : (at : ℕ) → old.armed ≡ Some at → new.armed ≡ None → FellBy n at old new

-- what any number of calls leave so, of which none is `wild` or `arm`
pub record Steps (old new : Running) : Type 0 where
  pub protected : new.protected ≡ old.protected
  pub stop_set : new.stop_set ≡ old.stop_set
  pub later : old.steps ≤ new.steps
  -- what was armed is armed still, or has fallen
  pub armed : (new.armed ≡ old.armed) ⊎ (new.armed ≡ None)
  -- a stopped machine is frozen
  pub frozen : old.stopped ≡ true → new ≡ old
  -- only a stop says what trapped
  pub running : new.stopped ≡ false → new.trapped ≡ old.trapped
  pub reason : old.stopped ≡ false → new.stopped ≡ true → StopReason old new
  -- no word of scratch changes but the armed one, and that only where the store has fallen
  pub scratch_count : length new.scratch ≡ length old.scratch
  pub unarmed : (i : ℕ) → old.armed ≢ Some (old.protected + i) → slice_index new.scratch i ≡ slice_index old.scratch i
  pub unfallen : new.armed ≡ old.armed → new.scratch ≡ old.scratch
  -- a store that fell on a word of scratch left its value there
  pub stored : (i : ℕ) → i < length old.scratch → old.armed ≡ Some (old.protected + i) → new.armed ≡ None → slice_index new.scratch i ≡ old.armed_value
  -- some steps were made
  pub made : (n : ℕ) × Advances n old new

-- where the armed store fell while this page was open, or none: on a scratch page, on the open page, or it trapped, and
-- then not on the open page
pub record Falls (open_page : Option ℕ) (old new : Running) : Type 0 where
  pub fell : (at : ℕ) → old.armed ≡ Some at → new.armed ≡ None → (old.protected ≤ at) ⊎ (open_page ≡ Some (at / 512)) ⊎ ((new.stopped ≡ true) × (new.trapped ≡ Some at))
  pub closed : (at : ℕ) → old.stopped ≡ false → old.trapped ≢ Some at → new.trapped ≡ Some at → open_page ≢ Some (at / 512)

-- how a call ends. `stop` is that it answers Stopped: then the machine is stopped, and else as before
pub record StepEnds (old new : Running) (stop : Type 0) : Type 0 where
  pub steps : Steps old new
  pub told : stop → new.stopped ≡ true
  pub runs : (stop → ⊥) → new.stopped ≡ old.stopped

-- what every call leaves so
pub record Lasts (old new : Contents) : Type 0 where
  pub size : length new.words ≡ length old.words
  pub blocks : length new.disk ≡ length old.disk
  pub around : new.around ≡ old.around
  pub faults : FaultsLast old.faults new.faults
  pub writes : old.writes ≤ new.writes

-- a fault comes only where the count of faults rose
abbrev pub FaultCause : Contents → Contents → Type 0 → Type 0
FaultCause old new fault = fault → Rose old.faults.count new.faults.count

-- ---- copies and writes

-- the first n words of page `to` are those of page `from`, and all other words are as before
pub record Copied (from to n : ℕ) (old new : List ℕ) : Type 0 where
  pub count : length new ≡ length old
  pub front : 512 * from < length old → (i : ℕ) → i < n → slice_index new (512 * to + i) ≡ slice_index old (512 * from + i)
  pub below : (i : ℕ) → i < 512 * to → slice_index new i ≡ slice_index old i
  pub above : (i : ℕ) → 512 * to + n ≤ i → slice_index new i ≡ slice_index old i

-- a word of scratch as the step that follows i others reads it: what the armed store left there, where it fell before that
-- step, and else the word that it was
pub record FromScratch (word at i : ℕ) (old : Running) : Type 0 where
  pub stored : old.armed ≡ Some at → old.armed_left ≤ i → word ≡ old.armed_value
  pub kept : (old.armed ≢ Some at) ⊎ (i < old.armed_left) → word ≡ slice_index old.scratch (at - old.protected)

-- where page `from` is of scratch, the first n words of page `to` are its words, each as a step of its own reads it
pub record CopiedScratch (from to n : ℕ) (old : Running) (words : List ℕ) : Type 0 where
  pub front : old.protected ≤ 512 * from → (i : ℕ) → i < n → FromScratch (slice_index words (512 * to + i)) (512 * from + i) i old

-- what a write of block b leaves so, however it ends
pub record WritesBlock (b : ℕ) (old new : Contents) : Type 0 where
  pub words : new.words ≡ old.words
  pub open_page : new.open_page ≡ old.open_page
  pub around : new.around ≡ old.around
  pub count : length new.disk ≡ length old.disk
  pub others : (c : ℕ) → c ≢ b → block_at new.disk c ≡ block_at old.disk c
  pub marks : (c : ℕ) → c ≢ b → is_pending new.pending c ≡ is_pending old.pending c

-- ---- wild stores

-- what becomes of a wild store: it changes a word of scratch, is spared on the open page, or traps
abbrev pub Meets : Contents → ℕ → Wild → Type 0
Meets c at Changed = length c.words ≤ at
Meets c at Spared = c.open_page ≡ Some (at / 512)
Meets c at Trapped = (at < length c.words) × (c.open_page ≢ Some (at / 512))

abbrev pub after_wild : Wild → ℕ → ℕ → Running → Running
after_wild Changed at v r = record r { scratch = slice_set r.scratch (at - r.protected) v }
after_wild Spared at v r = r
after_wild Trapped at v r = record r { stopped = true; trapped = Some at }
