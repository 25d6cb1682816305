-- What a board's words, disk and guard make of it as a machine.
use Rattle.std.specs.Prelude.{ℕ, ◌-◌, ◌*◌, List, length, take, drop, is_some}
use Rattle.std.specs.Option.{option_map}
use Rattle.rio_base.specs.Disks.{DiskContents}
use Rattle.rio_base.specs.Machine.{Contents, Running}
use Rattle.board.specs.declared.guard.Guard.{Guard}
use Rattle.board.specs.Guards.{armed_place, left_of, page_of, value_of}

-- how many words are protected: all but those of the last pages
abbrev pub protected_count : List ℕ → ℕ → ℕ
protected_count words scratch = length words - 512 * scratch

abbrev pub protected_of : List ℕ → ℕ → List ℕ
protected_of words scratch = take (protected_count words scratch) words

-- the words of the last pages
abbrev pub scratch_of : List ℕ → ℕ → List ℕ
scratch_of words scratch = drop (protected_count words scratch) words

abbrev pub contents_of : List ℕ → ℕ → DiskContents → Guard → Contents
contents_of words scratch disk g = record {
  words = protected_of words scratch;
  open_page = page_of g;
  disk = disk.blocks;
  pending = disk.pending;
  faults = disk.faults;
  writes = disk.writes;
  around = disk.around;
}

abbrev pub running_of : List ℕ → ℕ → Guard → Running
running_of words scratch g = record {
  protected = protected_count words scratch;
  scratch = scratch_of words scratch;
  steps = g.steps;
  stopped = g.stopped;
  stop_set = is_some g.stop_after;
  armed = armed_place g;
  armed_left = left_of g.armed;
  armed_value = value_of g.armed;
  trapped = option_map (λ at. at.0) g.trapped;
}
