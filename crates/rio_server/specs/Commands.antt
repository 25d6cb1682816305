-- The words that are a command, and what a run of each command leaves.
use Rattle.std.specs.Prelude.{◌⊎◌, ℕ, ◌≡◌, List, Option, Some}
use Rattle.rio_base.specs.Hosts.{Files, IsAbsent}
use Rattle.rio_model.specs.declared.state.State.{State}
use Rattle.pair_files.specs.Pairs.{HasPair}
use Rattle.rio_words.specs.Tokens.{Text}
use Rattle.rio_words.specs.Words.{Reads}
use Rattle.rio_words.specs.declared.command.RioCommand.{RioCommand}
use Rattle.rio_words.specs.declared.command.RioCommand.TheVariants.{Format, Serve, Registry, Check, Drill}
use Rattle.rio_commands.specs.declared.formatting.FormatSizes.{FormatSizes}
use Rattle.rio_commands.specs.Check.{Checks}
use Rattle.rio_commands.specs.Format.{Formats, disk_bytes, format_sizes, image_bytes, root_state}
use Rattle.rio_commands.specs.Outside.{Benched, HostRose, Outside, SinkRose}
use Rattle.rio_commands.specs.Registry.{Lists}
use Rattle.rio_commands.specs.Serve.{ServeRuns}
use Rattle.boots.specs.declared.transcript.Transcript.{Transcript}
use Rattle.boots.specs.Plans.{plan_of}
use Rattle.boots.specs.Told.{LacksMemory, Tells}
use Rattle.boots.specs.Legal.{Legal}

-- ---- a run of a drill

-- the drill of these numbers was run and told, or there was no memory
abbrev pub Drills : (seed boots requests status : ℕ) (rose : Type 0) (written written_after : Option (List ℕ)) → Type 0
Drills seed boots requests status rose written written_after =
    ((t : Transcript) × Legal (plan_of seed boots requests) t × Tells status rose t written written_after)
    ⊎ LacksMemory status rose written written_after

-- ---- the words

-- the words are a form of a command
pub record IsCommand (words : List Text) : Type 0 where
  pub command : RioCommand
  pub reads : Reads words command

-- the words name a file to be read that is not there
abbrev pub NamesAbsent : List Text → Option Files → Type 0
NamesAbsent words files =
    ((image : List ℕ) × Reads words (Registry image) × IsAbsent files image)
    ⊎ ((image disk : List ℕ) × Reads words (Check image disk) × (IsAbsent files image ⊎ IsAbsent files disk))
    ⊎ ((image disk : List ℕ) × (stop : Option ℕ) × Reads words (Serve image disk stop) × (IsAbsent files image ⊎ IsAbsent files disk))

-- ---- the runs, each by its status and what there was before and after

-- `format` leaves a fresh pair, or tells what could not be had
pub record FormatRuns (image disk : List ℕ) (sizes : FormatSizes) (status : ℕ) (old new : Outside) : Type 0 where
  pub formats : Formats image disk sizes status (SinkRose old new) old.files new.files old.written new.written
  pub unread : new.left ≡ old.left
  pub host_fault : status ≡ 7 → HostRose old new
  pub complete : ¬ HostRose old new → (status ≡ 0) ⊎ (status ≡ 6)
  -- where the host tells its files, both are there afterwards, and are a pair that stands for the root directory alone
  pub fresh : status ≡ 0 → (files : Files) → old.files ≡ Some files → HasPair new.files image disk (image_bytes sizes) (disk_bytes sizes) (root_state sizes)

-- `registry` lists the image's registry, or tells why there is none, and changes no file
pub record RegistryRuns (image : List ℕ) (status : ℕ) (old new : Outside) : Type 0 where
  pub lists : Lists image status (HostRose old new) (SinkRose old new) old.files old.written new.written
  pub kept : new.files ≡ old.files
  pub unread : new.left ≡ old.left
  pub host_fault : status ≡ 7 → HostRose old new ⊎ IsAbsent old.files image
  pub sink_fault : status ≡ 9 → SinkRose old new
  pub steady : status ≡ 0 → new.sink_faults ≡ old.sink_faults
  -- without a cause it lists, or refuses the image, or finds no memory or no file
  pub complete : ¬ HostRose old new → ¬ SinkRose old new → (status ≡ 0) ⊎ (status ≡ 3) ⊎ (status ≡ 6) ⊎ ((status ≡ 7) × IsAbsent old.files image)

-- `check` tells what there is on a pair, or why it is none, and changes no file
pub record CheckRuns (image disk : List ℕ) (status : ℕ) (old new : Outside) : Type 0 where
  pub checks : Checks image disk status (HostRose old new) (SinkRose old new) old.files old.written new.written
  pub kept : new.files ≡ old.files
  pub unread : new.left ≡ old.left
  pub host_fault : status ≡ 7 → HostRose old new ⊎ (IsAbsent old.files image ⊎ IsAbsent old.files disk)
  -- without a cause it tells what there is, or refuses the image or the volume, or finds no memory or no file
  pub complete : ¬ HostRose old new → (status ≡ 0) ⊎ (status ≡ 3) ⊎ (status ≡ 4) ⊎ (status ≡ 6) ⊎ ((status ≡ 7) × (IsAbsent old.files image ⊎ IsAbsent old.files disk))
  -- and of files that are a pair it tells what there is, or finds no memory
  pub sound : (image_bytes disk_bytes : List ℕ) (s : State) → HasPair old.files image disk image_bytes disk_bytes s → ¬ HostRose old new → (status ≡ 0) ⊎ (status ≡ 6)

-- `drill` runs its boots in memory alone and tells what came of them
pub record DrillRuns (seed boots requests status : ℕ) (old new : Outside) : Type 0 where
  pub drills : Drills seed boots requests status (SinkRose old new) old.written new.written
  pub kept : new.files ≡ old.files
  pub unread : new.left ≡ old.left
  pub sink_fault : status ≡ 9 → SinkRose old new
  pub steady : status ≡ 0 → new.sink_faults ≡ old.sink_faults
  -- without a cause it tells all of it, or finds no memory
  pub complete : ¬ SinkRose old new → (status ≡ 0) ⊎ (status ≡ 6)

-- by the command
abbrev pub Obeys : RioCommand → ℕ → Outside → Outside → Benched → Type 0
Obeys (Format image disk frames blocks inodes scratch) status old new bench = FormatRuns image disk (format_sizes frames blocks inodes scratch) status old new
Obeys (Serve image disk stop) status old new bench = ServeRuns image disk stop status old new bench
Obeys (Registry image) status old new bench = RegistryRuns image status old new
Obeys (Check image disk) status old new bench = CheckRuns image disk status old new
Obeys (Drill seed boots requests) status old new bench = DrillRuns seed boots requests status old new

-- a run of this command ended with this status
pub record Obeyed (command : RioCommand) (status : ℕ) (old new : Outside) (bench : Benched) : Type 0 where
  pub runs : Obeys command status old new bench

-- it is `serve`
abbrev pub IsServe : RioCommand → Type 0
IsServe (Serve image disk stop) = Unit {0}
IsServe _ = ⊥
