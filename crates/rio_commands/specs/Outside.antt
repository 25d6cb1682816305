-- What there is around a run, and what its bench tells.
use Rattle.std.specs.Prelude.{ℕ, Bool, List, Option}
use Rattle.rio_base.specs.Failures.{Rose}
use Rattle.rio_base.specs.Hosts.{Files}
use Rattle.machine_bench.specs.Benches.{Began, Leaving}

-- the files of the host, the bytes that are left in the source and those that were written to the sink, each where it is told;
-- and how many calls of each failed so far
pub record Outside : Type 0 where
  pub files : Option Files
  pub left : Option (List ℕ)
  pub written : Option (List ℕ)
  pub host_faults : ℕ
  pub source_faults : ℕ
  pub sink_faults : ℕ

abbrev pub outside : Option Files → ℕ → Option (List ℕ) → ℕ → Option (List ℕ) → ℕ → Outside
outside files host_faults left source_faults written sink_faults = record { files = files; left = left; written = written; host_faults = host_faults; source_faults = source_faults; sink_faults = sink_faults }

abbrev pub HostRose : Outside → Outside → Type 0
HostRose old new = Rose old.host_faults new.host_faults

abbrev pub SourceRose : Outside → Outside → Type 0
SourceRose old new = Rose old.source_faults new.source_faults

abbrev pub SinkRose : Outside → Outside → Type 0
SinkRose old new = Rose old.sink_faults new.sink_faults

-- how many pages the machine has that the bench made, if it made one, and whether it was taken back; whether the bench tells what
-- the machine began with, and whether it tells how that was left; and these two, where they are told
pub record Benched : Type 0 where
  pub pages : Option ℕ
  pub parted : Bool
  pub tells_start : Bool
  pub tells : Bool
  pub began : Option Began
  pub left : Option Leaving

abbrev pub benched : Option ℕ → Bool → Bool → Bool → Option Began → Option Leaving → Benched
benched pages parted tells_start tells began left = record { pages = pages; parted = parted; tells_start = tells_start; tells = tells; began = began; left = left }
