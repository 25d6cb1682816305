-- The files that are left where a machine was taken back.
use Rattle.std.specs.Prelude.{◌≡◌, ◌<◌, ◌^◌, ℕ, List, slice_index, Option, Result, MatchResult}
use Rattle.rio_base.specs.Disks.{DiskContents, block_at}
use Rattle.rio_base.specs.Hosts.{Asked, Files, with_file}
use Rattle.rio_base.specs.Machine.{Contents}
use Rattle.block_disk.specs.HostDisks.{HasSettled, around_of}

-- a machine's disk
abbrev pub disk_of : Contents → DiskContents
disk_of c = record { blocks = c.disk; pending = c.pending; faults = c.faults; writes = c.writes; around = c.around }

-- the files are those of before, but for the disk's: it has each block of the machine's disk that isn't pending
pub record Leaves (told : Option Files) (disk : List ℕ) (c : Contents) (left : Option Files) : Type 0 where
  -- some counts of what was asked for: these are not said to be the host's
  pub asked_before : Asked
  pub asked : Asked
  pub around : around_of left asked disk ≡ around_of told asked_before disk
  pub settled : HasSettled left disk (disk_of c)
  -- its words have 64 bits
  pub fit : (b w : ℕ) → slice_index (block_at c.disk b) w < 2 ^ 64

-- a file was replaced by these bytes, or it was not and nothing changed
abbrev pub Replaces : {E : Type 0} → Result (Unit {0}) E → List ℕ → List ℕ → Option Files → Option Files → Type 0
Replaces answer name bytes old new = MatchResult answer (λ _. new ≡ with_file name bytes old) (λ _. new ≡ old)
