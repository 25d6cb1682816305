-- A machine that is read as the blocks that memory and disk stand for.
use Rattle.std.specs.Prelude.{◌≡◌, ℕ, ◌+◌, ◌<◌, ◌==◌, ◌||◌, Bool, false, true, List, ◌++◌, length, slice_index, Option, Some, None, is_some}
use Rattle.rio_base.specs.declared.places.Block.{Block}
use Rattle.rio_base.specs.Blocks.{Base, Health, Seen}
use Rattle.rio_base.specs.Disks.{FaultsLast, block_at}
use Rattle.rio_base.specs.Machine.{Contents, Running}
use Rattle.rio_model.specs.Cover.{causes_of, entry_of_block, home_of, stands}
use Rattle.rio_model.specs.Registry.{HasLayout, KeepsRegistry}

-- ---- what a reader sees

-- the whole machine below
abbrev pub base_of : Contents → Running → Base
base_of c r = record { memory = slice_index (c.words ++ r.scratch); home = home_of c; open_page = c.open_page; steps = r.steps; writes = c.writes; around = c.around; causes = causes_of r }

-- the blocks as they stand. None is cached
abbrev pub view_seen : Contents → Running → Seen
view_seen c r = record { count = length c.disk; words = stands c; cached = λ b. false; names = λ b. None; base = Some (base_of c r) }

abbrev pub view_health : Contents → Running → Health
view_health c r = record { faults = c.faults.count; stopped = r.stopped }

-- ---- what holds between calls

-- 0 for no entry, else one more than its number
abbrev pub entry_mark : Option ℕ → ℕ
entry_mark None = 0
entry_mark (Some k) = k + 1

-- for each of so many blocks, the entry that has it
pub record ListsEntries (words : List ℕ) (blocks : ℕ) (entries : List ℕ) : Type 0 where
  pub count : length entries ≡ blocks
  pub each : (b : ℕ) → b < blocks → slice_index entries b ≡ entry_mark (entry_of_block words b)

-- block b is the one that is held
abbrev pub is_held : Option Block → ℕ → Bool
is_held None b = false
is_held (Some held) b = held.0 == b

-- the words of block b lie in memory: in the page of an entry, or since it was read
abbrev pub is_at_hand : List ℕ → Option Block → ℕ → Bool
is_at_hand words held b = is_some (entry_of_block words b) || is_held held b

pub record ViewSound (c : Contents) (r : Running) (entries block : List ℕ) (held : Option Block) : Type 0 where
  pub layout : HasLayout c.words r.scratch
  pub rules : KeepsRegistry c.words
  pub closed : c.open_page ≡ None
  pub table : ListsEntries c.words (length c.disk) entries
  pub room : length block ≡ 512
  -- the room has the words of the block that is held
  pub reading : (b : ℕ) → is_held held b ≡ true → block ≡ block_at c.disk b

-- ---- what a call leaves so

-- the machine was only read: it is as it was, but for its count of faults
pub record Viewed (old new : Contents) (old_run new_run : Running) : Type 0 where
  pub rest : new ≡ record old { faults = new.faults }
  pub faults : FaultsLast old.faults new.faults
  pub run : new_run ≡ old_run
