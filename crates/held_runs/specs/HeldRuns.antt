-- What a run leaves whose memory is held in the file IMAGE.
use Rattle.std.specs.Prelude.{◌≡◌, ◌<◌, ℕ, Bool, true, List, Option, Some, is_some}
use Rattle.rio_model.specs.declared.state.State.{State}
use Rattle.line_loop.specs.declared.ends.LinesEnd.{LinesEnd}
use Rattle.pair_files.specs.declared.ends.PairEnd.{PairEnd}
use Rattle.pair_files.specs.Pairs.{HasPair, IsPair, file_of}
use Rattle.held_memory.specs.WordFiles.{FileBytes}
use Rattle.rio_words.specs.declared.command.RioCommand.{RioCommand}
use Rattle.rio_server.specs.Commands.{Obeys}
use Rattle.rio_commands.specs.Outside.{Benched, Outside}
use Rattle.rio_commands.specs.Serve.{RunServes, ServeRuns}

-- the file that memory was held in
pub record Kept : Type 0 where
  pub name : List ℕ
  -- its bytes, or None where there is no such file, where its host tells them
  pub content : Option FileBytes
  -- it is said to have the words with which memory was left
  pub holds : Bool
  -- how many of its calls failed, and how many calls of its host in all
  pub failures : ℕ
  pub faults : ℕ

abbrev pub kept_file : List ℕ → Option FileBytes → Bool → ℕ → ℕ → Kept
kept_file name content holds failures faults = record { name = name; content = content; holds = holds; failures = failures; faults = faults }

-- the file that memory was held in is, with the disk's file, a pair of what the lines led to, from state s
pub record HeldStands (held : Option FileBytes) (end : PairEnd LinesEnd) (disk : List ℕ) (s : State) (old new : Outside) (replied : Option (List ℕ)) : Type 0 where
  pub after : State
  pub disk_now : List ℕ
  pub disk_file : file_of new.files disk ≡ Some disk_now
  pub pair : (file : FileBytes) → held ≡ Some file → (bytes : List ℕ) × (file ≡ Some bytes) × IsPair bytes disk_now after
  pub serves : RunServes end s after old new replied

-- a run of `serve` whose memory was held in a file
pub record HeldRuns (image disk : List ℕ) (stop : Option ℕ) (status : ℕ) (old new : Outside) (kept : Option Kept) : Type 0 where
  pub bench : Benched
  pub runs : ServeRuns image disk stop status old new bench
  -- of files that are a pair, which stands for s: whatever the status, the file that held memory is one with the disk's file. So a
  -- run that is cut off behind its last step needs no save
  pub stands : (image_was disk_was : List ℕ) (s : State) → HasPair old.files image disk image_was disk_was s → (k : Kept) → kept ≡ Some k → k.holds ≡ true → HeldStands k.content runs.end disk s old new runs.replied
  -- and it is the file IMAGE
  pub named : (k : Kept) → kept ≡ Some k → k.holds ≡ true → k.name ≡ image
  -- a file is kept exactly where a machine was made
  pub made : is_some kept ≡ is_some bench.pages
  -- a call of it that failed was one of its host
  pub failed : (k : Kept) → kept ≡ Some k → 0 < k.failures → 0 < k.faults

-- a run of a command, on some bench
pub record RunsAs (command : RioCommand) (status : ℕ) (old new : Outside) : Type 0 where
  pub bench : Benched
  pub obeys : Obeys command status old new bench
