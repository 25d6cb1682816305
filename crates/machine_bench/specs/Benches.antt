-- The machine that a bench makes, the disk that it hands back, what it tells of both ends, and what is kept of a machine.
use Rattle.std.specs.Prelude.{◌≡◌, ◌++◌, ℕ, ◌/◌, Bool, true, false, List, Option, None, is_some, length}
use Rattle.std.specs.Option.{option_map}
use Rattle.rio_base.specs.Disks.{DiskContents, blocks_of, is_pending}
use Rattle.rio_base.specs.Machine.{Contents, Running}
use Rattle.phys_memory.specs.PhysMem.{words_of}
use Rattle.board.specs.Boards.{protected_count, protected_of, scratch_of}
use Rattle.machine_bench.specs.declared.kept.KeptEnd.{KeptEnd}
use Rattle.machine_bench.specs.declared.kept.KeptStart.{KeptStart}

-- ---- the machine as it is made

-- the last pages of these words are scratch, and no page is open
abbrev pub made_contents : List ℕ → ℕ → DiskContents → Contents
made_contents words scratch d = record {
  words = protected_of words scratch;
  open_page = None;
  disk = d.blocks;
  pending = d.pending;
  faults = d.faults;
  writes = d.writes;
  around = d.around;
}

-- no step was made, and nothing is armed. `stop` is how many steps are made before it stops, if it does
abbrev pub made_run : List ℕ → ℕ → Option ℕ → Running
made_run words scratch stop = record {
  protected = protected_count words scratch;
  scratch = scratch_of words scratch;
  steps = 0;
  stopped = false;
  stop_set = is_some stop;
  armed = None;
  armed_left = 0;
  armed_value = 0;
  trapped = None;
}

-- ---- the disk as it is handed back

-- it is the machine's, and no block of it is pending that isn't pending there
pub record HandsBack (c : Contents) (d : DiskContents) : Type 0 where
  pub blocks : d.blocks ≡ c.disk
  pub faults : d.faults ≡ c.faults
  pub writes : d.writes ≡ c.writes
  pub around : d.around ≡ c.around
  pub pending : (b : ℕ) → is_pending d.pending b ≡ true → is_pending c.pending b ≡ true

-- ---- what is told

-- what a machine began with
pub record Began : Type 0 where
  -- the words of memory, those of scratch last
  pub words : List ℕ
  -- the blocks of the disk
  pub blocks : List (List ℕ)
  -- how many pages were scratch
  pub scratch : ℕ
  -- how many steps were to be made before it stopped, if it was to
  pub stop : Option ℕ

-- how it was left
pub record Leaving : Type 0 where
  -- the words of memory, those of scratch last
  pub words : List ℕ
  -- how many calls of the disk failed, up to the largest u64
  pub faults : ℕ
  pub stopped : Bool
  -- the place of the wild store that trapped, if any
  pub trapped : Option ℕ

abbrev pub left_by : Contents → Running → Leaving
left_by c r = record { words = c.words ++ r.scratch; faults = c.faults.count; stopped = r.stopped; trapped = r.trapped }

-- ---- what is kept of a machine

abbrev pub began_of : KeptStart → Began
began_of k = record { words = k.words.items; blocks = blocks_of k.blocks.items; scratch = k.scratch; stop = k.stop_after }

-- how many pages it had
abbrev pub pages_of : KeptStart → ℕ
pages_of k = length k.words.items / 512

abbrev pub left_of : KeptEnd → Leaving
left_of k = record { words = words_of k.memory; faults = k.faults; stopped = k.stopped; trapped = option_map (λ at. at.0) k.trapped }
