-- How work on a pair of files ends: what the files are then, and what was written.
use Rattle.std.specs.Prelude.{◌≡◌, ◌≢◌, ◌+◌, ◌*◌, ◌≤◌, ◌⊎◌, ℕ, Bool, true, false, List, nat_lt, slice_index, Option, Some, None, is_some}
use Rattle.rio_base.specs.Bytes.{bytes_of}
use Rattle.rio_base.specs.Failures.{Rose}
use Rattle.rio_base.specs.Disks.{blocks_of}
use Rattle.rio_base.specs.Hosts.{Files, IsAbsent, IsFile}
use Rattle.block_disk.specs.HostDisks.{AreFileWords}
use Rattle.machine_bench.specs.Benches.{Began, Leaving}
use Rattle.rio_model.specs.declared.state.State.{State}
use Rattle.pair_files.specs.declared.ends.PairEnd.{PairEnd}
use Rattle.pair_files.specs.declared.ends.PairEnd.TheVariants.{Absent, BadImage, BadVolume, BootFault, BootStopped, HostFault, Memory, Unsaved, Worked}
use Rattle.pair_files.specs.declared.names.PairFile.TheVariants.{Image, Disk}
use Rattle.pair_files.specs.Images.{Breaks, HoldsImage, HoldsWords}
use Rattle.pair_files.specs.Pairs.{BreaksVolume, HasPair, IsPair, IsRestored, IsRoomy, file_of}
use Rattle.pair_files.specs.Scenes.{LastsBelow, Scene, Streams}

-- ---- before and after

-- what is found
pub record Outset : Type 0 where
  -- the host's files, where it tells them, and how many of its calls failed
  pub told : Option Files
  pub faults : ℕ
  -- the names of the two files
  pub image : List ℕ
  pub disk : List ℕ
  -- how many steps the machine is to make before it stops, if it is to
  pub stop : Option ℕ
  pub streams : Streams

abbrev pub outset_of : Option Files → ℕ → List ℕ → List ℕ → Option ℕ → Streams → Outset
outset_of told faults image disk stop streams = record { told = told; faults = faults; image = image; disk = disk; stop = stop; streams = streams }

-- what is left
pub record Outcome : Type 0 where
  pub told : Option Files
  pub faults : ℕ
  pub streams : Streams
  -- how many pages the machine has that the bench made, if it made one; whether the bench tells, and how the machine was left
  pub pages : Option ℕ
  pub tells : Bool
  pub left : Option Leaving

abbrev pub outcome_of : Option Files → ℕ → Streams → Option ℕ → Bool → Option Leaving → Outcome
outcome_of told faults streams pages tells left = record { told = told; faults = faults; streams = streams; pages = pages; tells = tells; left = left }

-- no file and no stream was changed
pub record Untouched (o : Outset) (x : Outcome) : Type 0 where
  pub files : x.told ≡ o.told
  pub unread : x.streams ≡ o.streams

-- the image's file has what memory had as the machine was left
pub record IsSaved (o : Outset) (x : Outcome) : Type 0 where
  pub made : (n : ℕ) × (x.pages ≡ Some n)
  pub saved : x.tells ≡ true → (l : Leaving) × (x.left ≡ Some l) × IsFile x.told o.image (bytes_of l.words)

-- the words with which memory was left are, with the disk's file, a pair for s: a file that holds them needs no save
pub record LeavesMemory (o : Outset) (x : Outcome) (s : State) : Type 0 where
  pub disk_now : List ℕ
  pub disk_file : file_of x.told o.disk ≡ Some disk_now
  pub pair : x.tells ≡ true → (l : Leaving) × (x.left ≡ Some l) × IsPair (bytes_of l.words) disk_now s

-- memory and the disk's file stand for what the files stood for
abbrev pub KeepsMemory : Outset → Outcome → Type 0
KeepsMemory o x = (i k : List ℕ) (s : State) → HasPair o.told o.image o.disk i k s → LeavesMemory o x s

-- the bench does not tell of a machine that it made that it was stopped
abbrev pub LeftRunning : Outcome → Type 0
LeftRunning x = (n : ℕ) (l : Leaving) → x.pages ≡ Some n → x.tells ≡ true → x.left ≡ Some l → l.stopped ≡ false

-- ---- a reboot that was cut off

-- the files that a machine was made of: the image keeps its rules, and the disk has a disk's length
pub record AreFound (o : Outset) : Type 0 where
  pub words : List ℕ
  pub disk_words : List ℕ
  pub image_file : HoldsImage o.told o.image words
  pub disk_file : AreFileWords o.told o.disk disk_words

-- the image is saved, and what the files stood for they stand for
pub record KeepsPair (o : Outset) (x : Outcome) : Type 0 where
  pub found : AreFound o
  pub unread : x.streams ≡ o.streams
  pub is_saved : IsSaved o x
  pub pair : (i k : List ℕ) (s : State) → HasPair o.told o.image o.disk i k s → (j l : List ℕ) × HasPair x.told o.image o.disk j l s
  pub memory : KeepsMemory o x

-- ---- a work

-- where it begins, on a pair that stands for s: the reboot is made
pub record Begins (o : Outset) (s : State) (begin : Scene) : Type 0 where
  pub state : begin.state ≡ s
  pub unread : begin.streams ≡ o.streams
  pub counted : o.faults ≤ begin.health.faults
  pub running : begin.health.stopped ≡ false
  pub stop_set : begin.below.causes.stop_set ≡ is_some o.stop
  pub unarmed : begin.below.causes.armed ≡ None
  pub untrapped : begin.below.causes.trapped ≡ None
  pub protected : begin.below.causes.protected ≡ (λ p. nat_lt (512 * p) begin.below.memory.protected)
  pub pages : 512 * s.pages ≡ begin.below.memory.protected + begin.below.memory.scratch
  pub scratch : 512 * s.scratch ≡ begin.below.memory.scratch

-- it goes from one scene to the other. The bench tells the second of the machine that was left
pub record Goes (o : Outset) (does : Scene → Scene → Type 0) (x : Outcome) (s : State) (begin after : Scene) : Type 0 where
  pub begins : Begins o s begin
  pub leads : does begin after
  pub ends : after.streams ≡ x.streams
  pub lasts : LastsBelow begin.health begin.below after.health after.below
  pub left : x.tells ≡ true → (l : Leaving) × (x.left ≡ Some l) × (l.faults ≡ after.health.faults) × (l.stopped ≡ after.health.stopped) × (l.trapped ≡ after.below.causes.trapped)

-- it went so from some state, which the machine stood for
pub record IsDone (o : Outset) (does : Scene → Scene → Type 0) (x : Outcome) : Type 0 where
  pub state : State
  pub begin : Scene
  pub after : Scene
  pub goes : Goes o does x state begin after
  pub counted : after.health.faults ≤ x.faults

-- it went so from some state, which the machine stood for, and the image could not be saved
pub record IsDoneUnsaved (o : Outset) (does : Scene → Scene → Type 0) (x : Outcome) : Type 0 where
  pub state : State
  pub begin : Scene
  pub after : Scene
  pub goes : Goes o does x state begin after
  pub rose : Rose after.health.faults x.faults

-- of a pair of these bytes, which stands for s: the files are a pair of the state that the work led to. Where there is a frame
-- for each block, and the work left the disk as it was and the state its sizes, the disk is what the reboot made of it
pub record Works (o : Outset) (does : Scene → Scene → Type 0) (x : Outcome) (i k : List ℕ) (s : State) : Type 0 where
  pub begin : Scene
  pub after : Scene
  pub goes : Goes o does x s begin after
  pub image_now : List ℕ
  pub disk_now : List ℕ
  pub pair : HasPair x.told o.image o.disk image_now disk_now after.state
  pub memory : LeavesMemory o x after.state
  pub roomy : IsRoomy i k → begin.below.roomy ≡ true
  pub restored : IsRoomy i k → after.below.home ≡ begin.below.home → after.state.shape ≡ s.shape → IsRestored i k disk_now s
  pub counted : after.health.faults ≤ x.faults

-- of a pair that stands for s, where the image could not be saved: the work led to a state, and nothing is said of the image's file
pub record WorksUnsaved (o : Outset) (does : Scene → Scene → Type 0) (x : Outcome) (s : State) : Type 0 where
  pub begin : Scene
  pub after : Scene
  pub goes : Goes o does x s begin after
  pub memory : LeavesMemory o x after.state
  pub counted : after.health.faults ≤ x.faults
  pub rose : Rose after.health.faults x.faults

-- a machine was made of the files, the image is as before, and the count of faults rose since the machine was left
pub record IsUnsaved (o : Outset) (x : Outcome) : Type 0 where
  pub found : AreFound o
  pub image : file_of x.told o.image ≡ file_of o.told o.image
  pub rose : Rose o.faults x.faults
  pub made : (n : ℕ) × (x.pages ≡ Some n)
  pub left : x.tells ≡ true → (l : Leaving) × (x.left ≡ Some l) × Rose l.faults x.faults

-- ---- every end

-- the host tells files that are a pair
abbrev pub IsSomePair : Outset → Type 0
IsSomePair o = (files : Files) → o.told ≡ Some files → (i k : List ℕ) × (s : State) × HasPair o.told o.image o.disk i k s

-- they were a pair, or no file was changed
abbrev pub IsPairOrKept : Outset → Outcome → Type 0
IsPairOrKept o x = IsSomePair o ⊎ (x.told ≡ o.told)

-- ends without a work
abbrev pub EndsEarly : {E : Type 0} → Outset → PairEnd E → Outcome → Type 0
EndsEarly o (Absent Image) x = Untouched o x × (x.pages ≡ None) × IsAbsent o.told o.image
EndsEarly o (Absent Disk) x = Untouched o x × (x.pages ≡ None) × (words : List ℕ) × HoldsImage o.told o.image words × IsAbsent o.told o.disk
EndsEarly o (BadImage rule) x = Untouched o x × Breaks o.told o.image rule × LeftRunning x
EndsEarly o (BadVolume rule b) x = Untouched o x × BreaksVolume o.told o.image o.disk rule b.0 × LeftRunning x
EndsEarly o (HostFault Image) x = Untouched o x × (x.pages ≡ None) × Rose o.faults x.faults
EndsEarly o (HostFault Disk) x = Untouched o x × (x.pages ≡ None) × Rose o.faults x.faults × (words : List ℕ) × HoldsImage o.told o.image words
EndsEarly o Memory x = Untouched o x × ((x.pages ≡ None) ⊎ (IsSaved o x × KeepsMemory o x)) × LeftRunning x
EndsEarly o BootFault x = KeepsPair o x × Rose o.faults x.faults × IsPairOrKept o x × LeftRunning x
EndsEarly o BootStopped x = KeepsPair o x × (is_some o.stop ≡ true) × (x.tells ≡ true → (l : Leaving) × (x.left ≡ Some l) × (l.stopped ≡ true) × (l.trapped ≡ None)) × IsSomePair o
EndsEarly o (Worked e) x = ⊥
EndsEarly o (Unsaved None) x = IsUnsaved o x × (x.streams ≡ o.streams) × IsPairOrKept o x × KeepsMemory o x
EndsEarly o (Unsaved (Some e)) x = ⊥

abbrev pub PairEnds : {E : Type 0} → Outset → (E → Scene → Scene → Type 0) → PairEnd E → Outcome → Type 0
PairEnds {E} o does (Worked e) x = IsSomePair o × IsSaved o x × IsDone o (does e) x × ((i k : List ℕ) (s : State) → HasPair o.told o.image o.disk i k s → Works o (does e) x i k s)
PairEnds {E} o does (Unsaved (Some e)) x = IsUnsaved o x × IsSomePair o × IsDoneUnsaved o (does e) x × ((i k : List ℕ) (s : State) → HasPair o.told o.image o.disk i k s → WorksUnsaved o (does e) x s)
PairEnds {E} o does (Unsaved None) x = EndsEarly {E = E} o (Unsaved None) x
PairEnds {E} o does end x = EndsEarly {E = E} o end x

-- no file is absent, and no rule is told
abbrev pub EndsNoBreach : {E : Type 0} → PairEnd E → Type 0
EndsNoBreach (Absent file) = ⊥
EndsNoBreach (BadImage rule) = ⊥
EndsNoBreach (BadVolume rule b) = ⊥
EndsNoBreach _ = Unit {0}

-- what is so at every end. Of a pair neither an absent file nor a rule is told, and no file but the two is changed
pub record EndsSound {E : Type 0} (o : Outset) (end : PairEnd E) (x : Outcome) : Type 0 where
  pub sound : (i k : List ℕ) (s : State) → HasPair o.told o.image o.disk i k s → EndsNoBreach end
  pub others : (name : List ℕ) → name ≢ o.image → name ≢ o.disk → file_of x.told name ≡ file_of o.told name
  pub counted : o.faults ≤ x.faults

pub record EndedEarly {E : Type 0} (o : Outset) (end : PairEnd E) (x : Outcome) : Type 0 where
  pub ends : EndsEarly o end x
  pub every : EndsSound o end x

pub record Ended {E : Type 0} (o : Outset) (does : E → Scene → Scene → Type 0) (end : PairEnd E) (x : Outcome) : Type 0 where
  pub ends : PairEnds o does end x
  pub every : EndsSound o end x

-- what the bench's machine began with is what the two files had
pub record HasBegun (o : Outset) (began : Option Began) : Type 0 where
  pub words : List ℕ
  pub disk_words : List ℕ
  pub image_file : HoldsWords o.told o.image words
  pub disk_file : AreFileWords o.told o.disk disk_words
  pub began_is : began ≡ Some (record { words = words; blocks = blocks_of disk_words; scratch = slice_index words 3; stop = o.stop })
