-- What a run of `serve` leaves of a pair of files, and what its status tells.
use Rattle.std.specs.Prelude.{◌≡◌, ◌≢◌, ◌≤◌, ◌<◌, ◌^◌, ◌⊎◌, ℕ, true, List, length, Option, Some, None}
use Rattle.rio_base.specs.Bytes.{bytes_of}
use Rattle.rio_base.specs.Failures.{Rose, RoseBy}
use Rattle.rio_base.specs.Hosts.{Files, IsAbsent}
use Rattle.machine_bench.specs.Benches.{Leaving}
use Rattle.rio_model.specs.declared.state.State.{State}
use Rattle.rio_requests.specs.Crash.{crashed}
use Rattle.rio_requests.specs.Parts.{IsPart}
use Rattle.rio_requests.specs.Went.{faults_in}
use Rattle.rio_requests.specs.declared.request.Request.{Request}
use Rattle.rio_core.specs.Lines.{core_protocol}
use Rattle.line_loop.specs.ServeRun.{Serves, StopsOn}
use Rattle.line_loop.specs.declared.ends.ServeEnd.{ServeEnd}
use Rattle.line_loop.specs.declared.ends.ServeEnd.TheVariants.{End, SourceFault, SinkFault, InputLimit, Memory as NoMemory, Stopped}
use Rattle.pair_files.specs.Ends.{Ended, HasBegun, IsSaved, Outcome, Outset, outcome_of, outset_of}
use Rattle.pair_files.specs.Images.{Breaks, HoldsImage}
use Rattle.pair_files.specs.Pairs.{BreaksVolume, HasPair, IsPair, IsRestored, IsRoomy, file_of}
use Rattle.pair_files.specs.Scenes.{Scene, streams_of}
use Rattle.pair_files.specs.declared.ends.PairEnd.{PairEnd}
use Rattle.pair_files.specs.declared.ends.PairEnd.TheVariants.{Absent, BootFault, BootStopped, HostFault, Memory, Unsaved, Worked}
use Rattle.pair_files.specs.declared.names.PairFile.TheVariants.{Image, Disk}
use Rattle.line_loop.specs.LinesEnds.{trap_of}
use Rattle.pair_serving.specs.ServedScenes.{AsksNoFlush, Served}
use Rattle.line_loop.specs.Strikes.{AsksNoStrike, StopsBy}
use Rattle.line_loop.specs.declared.ends.LinesEnd.{LinesEnd}
use Rattle.line_loop.specs.declared.ends.LinesEnd.TheVariants.{Ended as LoopEnded, Trapped}
use Rattle.rio_commands.specs.CheckLines.{volume_rule_line}
use Rattle.rio_commands.specs.Command.{WritesLine}
use Rattle.rio_commands.specs.ServeLines.{serve_line, serve_status, stopped_line, trapped_line}
use Rattle.rio_commands.specs.Outside.{Benched, HostRose, Outside, SinkRose, SourceRose}
use Rattle.rio_commands.specs.RegistryLines.{image_rule_line}

-- the place of the wild store whose trap is told
abbrev pub trap_told : PairEnd LinesEnd → Option ℕ
trap_told (Worked end) = trap_of end
trap_told _ = None

-- ---- lines that were served, from state s. `after` is what the files stand for then, and `replied` what was written before the
-- status's line

-- the source's first lines have these replies, which lead to a state. A stop of the machine leaves `after` of it
pub record ServesLines (end : ServeEnd) (s after : State) (old new : Outside) (replied : Option (List ℕ)) : Type 0 where
  pub state : State
  pub serves : Serves core_protocol s state end old.left new.left old.written replied
  pub leaves : after ≡ crashed state
  -- replies that tell of a device fault are at most as many as calls of the host failed
  pub faults : RoseBy (faults_in serves.run.replies) old.host_faults new.host_faults
  pub faultless : ¬ HostRose old new → faults_in serves.run.replies ≡ 0

-- the machine stopped on the line behind those that have replies: a wild store trapped, for which that line asks or the last of those
-- that arm one; or the stop came at a step of the request
pub record StopsAt (end : LinesEnd) (s : State) (old new : Outside) (replied : Option (List ℕ)) : Type 0 where
  pub state : State
  pub request : Request
  pub stops : StopsOn core_protocol s state request old.left new.left old.written replied
  pub stopped_by : StopsBy end s stops.replied.requests stops.replies request

-- and of its request a part stands
pub record StopsLines (end : LinesEnd) (s after : State) (old new : Outside) (replied : Option (List ℕ)) : Type 0 where
  pub line : StopsAt end s old new replied
  pub part : State
  pub is_part : IsPart line.state line.request part
  pub leaves : after ≡ crashed part
  pub faults : RoseBy (faults_in line.stops.replies) old.host_faults new.host_faults

-- no line was read
pub record ServesNone (s after : State) (old new : Outside) (replied : Option (List ℕ)) : Type 0 where
  pub same : after ≡ s
  pub unread : new.left ≡ old.left
  pub unwritten : replied ≡ old.written

-- by the end of the lines
abbrev pub LinesServe : LinesEnd → State → State → Outside → Outside → Option (List ℕ) → Type 0
LinesServe (Trapped at) s after old new replied = StopsLines (Trapped at) s after old new replied
LinesServe (LoopEnded Stopped) s after old new replied = StopsLines (LoopEnded Stopped) s after old new replied
LinesServe (LoopEnded end) s after old new replied = ServesLines end s after old new replied

-- by the end. Where the image could not be saved, the lines were served all the same
abbrev pub RunServes : PairEnd LinesEnd → State → State → Outside → Outside → Option (List ℕ) → Type 0
RunServes (Worked end) s after old new replied = LinesServe end s after old new replied
RunServes (Unsaved (Some end)) s after old new replied = LinesServe end s after old new replied
RunServes (Unsaved None) s after old new replied = ServesNone s after old new replied
RunServes Memory s after old new replied = ServesNone s after old new replied
RunServes BootFault s after old new replied = ServesNone s after old new replied
RunServes BootStopped s after old new replied = ServesNone s after old new replied
RunServes _ s after old new replied = ⊥

-- lines were read of which none is a flush
abbrev pub ReadsNoFlush : (end : PairEnd LinesEnd) (s after : State) (old new : Outside) (replied : Option (List ℕ)) → RunServes end s after old new replied → Type 0
ReadsNoFlush (Worked (Trapped at)) s after old new replied run = AsksNoFlush run.line.stops.taken
ReadsNoFlush (Worked (LoopEnded Stopped)) s after old new replied run = AsksNoFlush run.line.stops.taken
ReadsNoFlush (Worked (LoopEnded End)) s after old new replied run = AsksNoFlush run.serves.taken
ReadsNoFlush (Worked (LoopEnded SourceFault)) s after old new replied run = AsksNoFlush run.serves.taken
ReadsNoFlush (Worked (LoopEnded SinkFault)) s after old new replied run = AsksNoFlush run.serves.taken
ReadsNoFlush (Worked (LoopEnded InputLimit)) s after old new replied run = AsksNoFlush run.serves.taken
ReadsNoFlush (Worked (LoopEnded NoMemory)) s after old new replied run = AsksNoFlush run.serves.taken
ReadsNoFlush _ s after old new replied run = ⊥

-- of files that are a pair of these bytes, which stands for s: they are a pair of what the lines led to. Where memory has a frame
-- for each block, and no line is a flush, the disk is what the reboot made of it: what the lines changed stands in memory alone
pub record LeavesPair (end : PairEnd LinesEnd) (image disk image_was disk_was : List ℕ) (s : State) (old new : Outside) (replied : Option (List ℕ)) : Type 0 where
  pub after : State
  pub image_now : List ℕ
  pub disk_now : List ℕ
  pub pair : HasPair new.files image disk image_now disk_now after
  pub serves : RunServes end s after old new replied
  pub restored : IsRoomy image_was disk_was → ReadsNoFlush end s after old new replied serves → IsRestored image_was disk_was disk_now s

-- of files that are a pair, which stands for s: the words with which memory was left are, with the disk's file, a pair of what the
-- lines led to. So a file that holds them needs no save
pub record KeepsServed (end : PairEnd LinesEnd) (disk : List ℕ) (s : State) (old new : Outside) (replied : Option (List ℕ)) (l : Leaving) : Type 0 where
  pub after : State
  pub disk_now : List ℕ
  pub disk_file : file_of new.files disk ≡ Some disk_now
  pub pair : IsPair (bytes_of l.words) disk_now after
  pub serves : RunServes end s after old new replied

-- ---- what a status tells

-- no file was changed, no line read, and no reply written
pub record Untouched (old new : Outside) (replied : Option (List ℕ)) : Type 0 where
  pub files : new.files ≡ old.files
  pub unread : new.left ≡ old.left
  pub unwritten : replied ≡ old.written

-- on which line the machine stopped, from some state; or no line was read
abbrev pub Stops : PairEnd LinesEnd → Outside → Outside → Option (List ℕ) → Type 0
Stops (Worked end) old new replied = (s : State) × StopsAt end s old new replied
Stops BootStopped old new replied = (new.left ≡ old.left) × (replied ≡ old.written)
Stops _ old new replied = ⊥

pub record ServeCauses (end : PairEnd LinesEnd) (image disk : List ℕ) (stop : Option ℕ) (status : ℕ) (old new : Outside) (replied : Option (List ℕ)) (bench : Benched) : Type 0 where
  -- 0: the sink refused nothing
  pub steady : status ≡ 0 → new.sink_faults ≡ old.sink_faults
  -- 3, 4: a rule fails first, and nothing was done
  pub image_refused : status ≡ 3 → (rule : ℕ) × (serve_line end image disk stop ≡ image_rule_line rule) × Breaks old.files image rule × Untouched old new replied
  pub volume_refused : status ≡ 4 → (rule b : ℕ) × (serve_line end image disk stop ≡ volume_rule_line rule b) × BreaksVolume old.files image disk rule b × Untouched old new replied
  -- 5, 7, 8, 9: a count rose, or a file is not there
  pub boot_fault : status ≡ 5 → HostRose old new
  pub host_fault : status ≡ 7 → HostRose old new ⊎ (IsAbsent old.files image ⊎ IsAbsent old.files disk)
  pub image_kept : status ≡ 7 → file_of new.files image ≡ file_of old.files image
  pub source_fault : status ≡ 8 → SourceRose old new
  pub sink_fault : status ≡ 9 → SinkRose old new
  -- 10: the number of a stop that was asked for is told, or where a wild store trapped; and the machine was stopped, with that trap or
  -- with none
  pub stopped : status ≡ 10 → ((steps : ℕ) × (stop ≡ Some steps) × (serve_line end image disk stop ≡ stopped_line steps)) ⊎ ((at : ℕ) × (trap_told end ≡ Some at) × (serve_line end image disk stop ≡ trapped_line at))
  pub stopped_on : status ≡ 10 → Stops end old new replied
  pub left_stopped : status ≡ 10 → bench.tells ≡ true → (l : Leaving) × (bench.left ≡ Some l) × (l.stopped ≡ true) × (l.trapped ≡ trap_told end)
  -- a machine that was left stopped is told by 10, or by 7 where the image could not be saved
  pub stopped_told : (n : ℕ) (l : Leaving) → bench.pages ≡ Some n → bench.tells ≡ true → bench.left ≡ Some l → l.stopped ≡ true → (status ≡ 10) ⊎ (status ≡ 7)
  -- 11: more input came than is taken
  pub limit : (input : List ℕ) → old.left ≡ Some input → status ≡ 11 → 2 ^ 40 < length input
  pub over : (input : List ℕ) → old.left ≡ Some input → 2 ^ 40 < length input → status ≢ 0

-- ---- what the files decide

-- this comes, but for want of memory and where the host refuses a call
abbrev pub Decided : Type 0 → ℕ → Outside → Outside → Type 0
Decided told status old new = told ⊎ (status ≡ 6) ⊎ ((status ≡ 7) × HostRose old new)

-- this comes of the image, but for want of memory and where the host refuses a call on it: no call on the disk's file comes before
abbrev pub DecidedByImage : Type 0 → PairEnd LinesEnd → ℕ → Outside → Outside → Type 0
DecidedByImage told end status old new = told ⊎ (status ≡ 6) ⊎ ((end ≡ HostFault Image) × HostRose old new)

-- the other direction: what is so of files that are told decides the status
pub record ServeRefusals (end : PairEnd LinesEnd) (image disk : List ℕ) (status : ℕ) (old new : Outside) : Type 0 where
  pub no_image : IsAbsent old.files image → DecidedByImage (end ≡ Absent Image) end status old new
  pub bad_image : (rule : ℕ) → Breaks old.files image rule → DecidedByImage (status ≡ 3) end status old new
  pub no_disk : (words : List ℕ) → HoldsImage old.files image words → IsAbsent old.files disk → Decided (end ≡ Absent Disk) status old new
  -- the reboot that looks at the volume may meet a fault before. No file is changed at any status
  pub bad_volume : (rule b : ℕ) → BreaksVolume old.files image disk rule b → Decided ((status ≡ 4) ⊎ (status ≡ 5)) status old new × (new.files ≡ old.files)

-- ---- the work on the files

abbrev pub does_serve : LinesEnd → Scene → Scene → Type 0
does_serve end before after = Served before end after

-- the outset and the outcome of the work on the files
abbrev pub outset_at : List ℕ → List ℕ → Option ℕ → Outside → Outset
outset_at image disk stop old = outset_of old.files old.host_faults image disk stop (streams_of old.left old.written old.source_faults old.sink_faults)

abbrev pub outcome_at : Outside → Option (List ℕ) → ℕ → Benched → Outcome
outcome_at new replied sink_faults bench = outcome_of new.files new.host_faults (streams_of new.left replied new.source_faults sink_faults) bench.pages bench.tells bench.left

-- ---- the bench

-- these statuses come only where a machine was made, and the image has what its memory had as it was left
abbrev pub MadeStatus : ℕ → Type 0
MadeStatus status = (status ≡ 0) ⊎ (status ≡ 5) ⊎ (status ≡ 8) ⊎ (status ≡ 9) ⊎ (status ≡ 10) ⊎ (status ≡ 11)

pub record ServeBench (o : Outset) (x : Outcome) (status : ℕ) (bench : Benched) : Type 0 where
  pub began : (n : ℕ) → bench.pages ≡ Some n → bench.tells_start ≡ true → HasBegun o bench.began
  pub parted : (n : ℕ) → bench.pages ≡ Some n → bench.parted ≡ true
  pub saved : MadeStatus status → IsSaved o x
  -- 6 may also come before a machine is made
  pub memory : status ≡ 6 → IsSaved o x ⊎ ((bench.pages ≡ None) × (x.told ≡ o.told))
  -- 7 comes after one was made only where the host failed after that
  pub unsaved : (n : ℕ) → status ≡ 7 → bench.pages ≡ Some n → bench.tells ≡ true → (l : Leaving) × (bench.left ≡ Some l) × Rose l.faults x.faults

-- ---- the run

pub record ServeRuns (image disk : List ℕ) (stop : Option ℕ) (status : ℕ) (old new : Outside) (bench : Benched) : Type 0 where
  -- how it ended, and what was written and how many calls of the sink had failed before the line of that
  pub end : PairEnd LinesEnd
  pub replied : Option (List ℕ)
  pub replied_faults : ℕ
  pub status_is : status ≡ serve_status end
  pub told : WritesLine (Rose replied_faults new.sink_faults) replied (serve_line end image disk stop) new.written
  -- of files that are a pair, also of one that the last run left, they are one again, but where the image could not be saved
  pub pair : (image_was disk_was : List ℕ) (s : State) → HasPair old.files image disk image_was disk_was s → status ≢ 7 → LeavesPair end image disk image_was disk_was s old new replied
  -- and whatever the status, also where the image could not be saved: memory, as it was left, is a pair with the disk's file
  pub memory : (image_was disk_was : List ℕ) (s : State) → HasPair old.files image disk image_was disk_was s → (n : ℕ) (l : Leaving) → bench.pages ≡ Some n → bench.tells ≡ true → bench.left ≡ Some l → KeepsServed end disk s old new replied l
  pub causes : ServeCauses end image disk stop status old new replied bench
  pub refusals : (files : Files) → old.files ≡ Some files → ServeRefusals end image disk status old new
  -- of a pair, where nothing fails, no stop is asked for and no line asks for a wild store on a protected word, it ends with 0, or for
  -- want of memory
  pub complete : (image_was disk_was : List ℕ) (s : State) (input : List ℕ) → HasPair old.files image disk image_was disk_was s → stop ≡ None → old.left ≡ Some input → length input ≤ 2 ^ 40
      → AsksNoStrike s input → ¬ HostRose old new → ¬ SourceRose old new → ¬ SinkRose old new → (status ≡ 0) ⊎ (status ≡ 6)
  -- no other file is changed
  pub others : (name : List ℕ) → name ≢ image → name ≢ disk → file_of new.files name ≡ file_of old.files name
  pub machine : ServeBench (outset_at image disk stop old) (outcome_at new replied replied_faults bench) status bench
  -- all of which follows from how the work on the files ended
  pub ended : Ended (outset_at image disk stop old) does_serve end (outcome_at new replied replied_faults bench)
