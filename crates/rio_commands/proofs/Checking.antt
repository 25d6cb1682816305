-- How a look at a pair of files ends.
use Rattle.std.proofs.Common.{◌≡◌, ◌≢◌, ℕ, ◌/◌, ◌<◌, ◌≤◌, ◌^◌, Bool, true, false, List, [], length, refl, sym, ap, subst, ◌∙◌, inl, inr, arith}
use Rattle.std.specs.Prelude.{Option, None, ◌⊎◌, slice_index}
use Rattle.rio_base.specs.Bytes.{bytes_of}
use Rattle.rio_base.specs.Failures.{Rose}
use Rattle.rio_base.specs.Disks.{DiskContents, FaultCount, block_at, blocks_of, is_pending}
use Rattle.rio_base.specs.Hosts.{Asked, Files, IsAbsent}
use Rattle.rio_base.specs.Machine.{Contents, Running}
use Rattle.rio_base.proofs.Rules.{rose_later}
use Rattle.block_disk.specs.HostDisks.{HasSettled, around_of}
use Rattle.board.specs.Boards.{protected_of, scratch_of}
use Rattle.rio_model.specs.declared.state.State.{State}
use Rattle.rio_model.specs.Registry.{FailsRegistry}
use Rattle.rio_model.specs.Standing.{StandsFor}
use Rattle.registry.specs.Views.{Viewed}
use Rattle.pair_files.specs.Images.{HoldsImage}
use Rattle.pair_files.specs.Loads.{IsDiskLoaded, IsImageLoaded, Misses, MissesDisk, MissesImage, TellsNoBreach}
use Rattle.pair_files.specs.Pairs.{HasPair}
use Rattle.pair_files.specs.declared.failures.LoadFail.{LoadFail}
use Rattle.pair_files.specs.declared.failures.LoadFail.TheVariants.{Absent, BadImage, BadLength, Fault, Memory}
use Rattle.pair_files.specs.declared.names.PairFile.{PairFile}
use Rattle.pair_files.specs.declared.names.PairFile.TheVariants.{Image, Disk}
use Rattle.pair_files.proofs.BytesIn.{blocks_of_in}
use Rattle.pair_files.proofs.LeftFiles.{files_kept, leaves_by}
use Rattle.pair_files.proofs.LoadRules.{loaded_holds}
use Rattle.pair_files.proofs.PairRules.{fails_pair, file_blocks, image_parts, loaded_pair, pair_loaded}
use Rattle.warm_reboot.specs.Examining.{Unexamined}
use Rattle.warm_reboot.specs.declared.report.BootFail.{BootFail}
use Rattle.warm_reboot.specs.declared.report.BootFail.TheVariants.{BadImage as ImageFails, BadVolume as VolumeFails, Fault as BlockFault, Stopped as MachineStopped, Memory as NotExamined}
use Rattle.rio_commands.specs.declared.ends.CheckEnd.{CheckEnd}
use Rattle.rio_commands.specs.declared.ends.CheckEnd.TheVariants.{Sound, BadImage as ImageRefused, BadVolume as VolumeRefused, Absent as NotThere, HostFault as NotRead, Memory as NoMemory}
use Rattle.rio_commands.specs.CheckLines.{check_status}
use Rattle.rio_commands.specs.Check.{Checks, Examined, Examines, Finds, Found, HasDisk, HasWords, IsSureOf, unexamined_end, unloaded_end}

-- ---- nothing was loaded

image_missed : (fail : LoadFail) (image disk : List ℕ) (rose : Type 0) (files : Option Files) → MissesImage fail image rose files → Finds (unloaded_end fail) image disk rose files
image_missed (Absent Image) image disk rose files h = h
image_missed (Absent Disk) image disk rose files h = absurd h
image_missed (BadImage rule) image disk rose files h = h
image_missed BadLength image disk rose files h = absurd h
image_missed (Fault Image) image disk rose files h = h
image_missed (Fault Disk) image disk rose files h = absurd h
image_missed Memory image disk rose files h = tt

disk_missed : (fail : LoadFail) (image disk words : List ℕ) (rose : Type 0) (files : Option Files) → HoldsImage files image words → MissesDisk fail disk rose files → Finds (unloaded_end fail) image disk rose files
disk_missed (Absent Image) image disk words rose files holds h = absurd h
disk_missed (Absent Disk) image disk words rose files holds h = (words, holds, h)
disk_missed (BadImage rule) image disk words rose files holds h = absurd h
disk_missed BadLength image disk words rose files holds h = record { words = words; holds = holds; fails = inl (refl, refl, h.0, h.1, h.2) }
disk_missed (Fault Image) image disk words rose files holds h = absurd h
disk_missed (Fault Disk) image disk words rose files holds h = (h, words, holds)
disk_missed Memory image disk words rose files holds h = tt

finds_unloaded : (fail : LoadFail) (image disk : List ℕ) (rose : Type 0) (files : Option Files) → Misses fail image disk rose files → Finds (unloaded_end fail) image disk rose files
finds_unloaded fail image disk rose files (inl h) = image_missed fail image disk rose files h
finds_unloaded fail image disk rose files (inr (words, holds, h)) = disk_missed fail image disk words rose files holds h

pub found_unloaded : (fail : LoadFail) (end : CheckEnd) (image disk : List ℕ) (rose : Type 0) (files : Option Files) → end ≡ unloaded_end fail → Misses fail image disk rose files → Found end image disk rose files
found_unloaded fail end image disk rose files is h = record { finds = subst (λ (e : CheckEnd). Finds e image disk rose files) (sym is) (finds_unloaded fail image disk rose files h) }

-- a count that rose later rose
finds_later : (end : CheckEnd) (image disk : List ℕ) (files : Option Files) (a b c : ℕ) → a ≤ b → Finds end image disk (Rose b c) files → Finds end image disk (Rose a c) files
finds_later (Sound census) image disk files a b c less h = h
finds_later (ImageRefused rule) image disk files a b c less h = h
finds_later (VolumeRefused rule at) image disk files a b c less h = h
finds_later NoMemory image disk files a b c less h = h
finds_later (NotThere Image) image disk files a b c less h = h
finds_later (NotThere Disk) image disk files a b c less h = h
finds_later (NotRead Image) image disk files a b c less h = rose_later a b c less h
finds_later (NotRead Disk) image disk files a b c less (h, words, holds) = (rose_later a b c less h, words, holds)

pub found_later : (a b c : ℕ) (end : CheckEnd) (image disk : List ℕ) (files : Option Files) → a ≤ b → Found end image disk (Rose b c) files → Found end image disk (Rose a c) files
found_later a b c end image disk files less h = record { finds = finds_later end image disk files a b c less h.finds }

sure_unloaded : (fail : LoadFail) (s : State) → TellsNoBreach fail → IsSureOf s (unloaded_end fail)
sure_unloaded (Absent file) s h = h
sure_unloaded (BadImage rule) s h = h
sure_unloaded BadLength s h = h
sure_unloaded (Fault file) s h = tt
sure_unloaded Memory s h = tt

sure_as : (end other : CheckEnd) (s : State) → end ≡ other → IsSureOf s other → IsSureOf s end
sure_as end other s is h = subst (IsSureOf s) (sym is) h

pub sure_of_load : (fail : LoadFail) (end : CheckEnd) (s : State) → end ≡ unloaded_end fail → TellsNoBreach fail → IsSureOf s end
sure_of_load fail end s is h = sure_as end (unloaded_end fail) s is (sure_unloaded fail s h)

-- ---- the examination failed

examines_failed : (fail : BootFail) (old new : Contents) (s : Running) (scratch : ℕ) → s.stopped ≡ false → Unexamined old new s fail → Examines (unexamined_end fail) old scratch new
examines_failed (ImageFails rule) old new s scratch running h = h
examines_failed (VolumeFails rule b) old new s scratch running h = h.1
examines_failed BlockFault old new s scratch running h = h
examines_failed MachineStopped old new s scratch running h = absurd (let stopped : s.stopped ≡ true = h in cc (stopped, running))
examines_failed NotExamined old new s scratch running h = tt

pub examined_failed : (fail : BootFail) (end : CheckEnd) (old new : Contents) (r s : Running) (scratch : ℕ) → end ≡ unexamined_end fail → r.stopped ≡ false → s ≡ r → Unexamined old new s fail → Examined end old scratch new
examined_failed fail end old new r s scratch is running same h =
    record { examines = subst (λ (e : CheckEnd). Examines e old scratch new) (sym is) (examines_failed fail old new s scratch (ap (λ (q : Running). q.stopped) same ∙ running) h) }

-- ---- what an examination finds, of the files

-- the machine has the words and the blocks of files that were loaded
pub finds_examined : (end : CheckEnd) (told : Option Files) (image disk bytes words : List ℕ) (scratch : ℕ) (d : DiskContents) (c new : Contents) (n : ℕ) (rose : Type 0)
    → IsImageLoaded told image bytes words scratch → IsDiskLoaded told disk d → c.words ≡ protected_of words scratch → c.disk ≡ d.blocks → length (scratch_of words scratch) ≡ n
    → (Rose c.faults.count new.faults.count → rose) → Examines end c n new → Finds end image disk rose told
finds_examined (Sound census) told image disk bytes words scratch d c new n rose loaded on words_are blocks_are long later h = record {
  image_bytes = bytes;
  disk_bytes = bytes_of on.words;
  state = h.0;
  image_file = loaded.file;
  disk_file = on.file.bytes;
  pair = loaded_pair told image disk h.0 bytes words scratch d c n loaded on words_are blocks_are long h.1;
  counts = h.2;
}
finds_examined (ImageRefused rule) told image disk bytes words scratch d c new n rose loaded on words_are blocks_are long later h = record {
  bytes = bytes;
  file = loaded.file;
  fails = inr (inr (inr (inr (protected_of words scratch, scratch_of words scratch, image_parts bytes words scratch loaded.read.are, loaded.read.layout, subst (λ (ws : List ℕ). FailsRegistry ws rule) words_are h))));
}
finds_examined (VolumeRefused rule b) told image disk bytes words scratch d c new n rose loaded on words_are blocks_are long later h = record {
  words = protected_of words scratch;
  holds = loaded_holds told image bytes words scratch loaded;
  fails = inr (bytes_of on.words, blocks_of on.words, on.file.bytes, blocks_of_in on.words (length on.words / 512) (file_blocks on.words on.file.long) on.file.fit, fails_pair c (protected_of words scratch) (blocks_of on.words) rule b.0 words_are (blocks_are ∙ on.blocks) h);
}
finds_examined (NotRead Image) told image disk bytes words scratch d c new n rose loaded on words_are blocks_are long later h = absurd h
finds_examined (NotRead Disk) told image disk bytes words scratch d c new n rose loaded on words_are blocks_are long later h = (later h, protected_of words scratch, loaded_holds told image bytes words scratch loaded)
finds_examined NoMemory told image disk bytes words scratch d c new n rose loaded on words_are blocks_are long later h = tt
finds_examined (NotThere file) told image disk bytes words scratch d c new n rose loaded on words_are blocks_are long later h = absurd h

-- the same of the machine that the look was at
pub found_examined : (end : CheckEnd) (told : Option Files) (image disk bytes words : List ℕ) (scratch : ℕ) (d : DiskContents) (c new : Contents) (r : Running) (left : ℕ)
    → IsImageLoaded told image bytes words scratch → IsDiskLoaded told disk d → HasWords c r words scratch → HasDisk c d → new.faults.count ≡ left → Examined end c (length r.scratch) new
    → Found end image disk (Rose d.faults.count left) told
found_examined end told image disk bytes words scratch d c new r left loaded on has_words has_disk count h =
    record {
      finds = finds_examined end told image disk bytes words scratch d c new (length r.scratch) (Rose d.faults.count left) loaded on has_words.protected has_disk.blocks
          (ap length (sym has_words.scratch_words)) rose h.examines;
    }
  where
    rose : Rose c.faults.count new.faults.count → Rose d.faults.count left
    rose e = subst (λ (n : ℕ). Rose d.faults.count n) count (subst (λ (f : FaultCount). Rose f.count new.faults.count) has_disk.faults e)

-- what is sure of the machine is sure of the pair
pub pair_sure : (end : CheckEnd) (told : Option Files) (image disk i k bytes words : List ℕ) (scratch : ℕ) (d : DiskContents) (c : Contents) (r : Running) (s : State)
    → IsImageLoaded told image bytes words scratch → IsDiskLoaded told disk d → HasWords c r words scratch → HasDisk c d → HasPair told image disk i k s
    → ((t : State) → StandsFor c (length r.scratch) t → IsSureOf t end) → IsSureOf s end
pair_sure end told image disk i k bytes words scratch d c r s loaded on has_words has_disk pair sure =
    sure s
    (pair_loaded told image disk i k s bytes words scratch d c (length r.scratch) pair loaded on has_words.protected has_disk.blocks
    (λ b. ap (λ (p : List Bool). is_pending p b) has_disk.pending ∙ on.settled b) (ap length has_words.scratch_words))

-- ---- what a look says of its status

-- statuses that no look has
pub check_statuses : (end : CheckEnd) (status : ℕ) → status ≡ check_status end → (status ≢ 2) × (status ≢ 8) × (status ≢ 9) × (status ≢ 11)
check_statuses (Sound census) status is = (λ e. omega (arith, is, e), λ e. omega (arith, is, e), λ e. omega (arith, is, e), λ e. omega (arith, is, e))
check_statuses (ImageRefused rule) status is = (λ e. omega (arith, is, e), λ e. omega (arith, is, e), λ e. omega (arith, is, e), λ e. omega (arith, is, e))
check_statuses (VolumeRefused rule b) status is = (λ e. omega (arith, is, e), λ e. omega (arith, is, e), λ e. omega (arith, is, e), λ e. omega (arith, is, e))
check_statuses (NotThere file) status is = (λ e. omega (arith, is, e), λ e. omega (arith, is, e), λ e. omega (arith, is, e), λ e. omega (arith, is, e))
check_statuses (NotRead file) status is = (λ e. omega (arith, is, e), λ e. omega (arith, is, e), λ e. omega (arith, is, e), λ e. omega (arith, is, e))
check_statuses NoMemory status is = (λ e. omega (arith, is, e), λ e. omega (arith, is, e), λ e. omega (arith, is, e), λ e. omega (arith, is, e))

absent_one : (file : PairFile) (image disk : List ℕ) (rose : Type 0) (files : Option Files) → Finds (NotThere file) image disk rose files → IsAbsent files image ⊎ IsAbsent files disk
absent_one Image image disk rose files h = inl h
absent_one Disk image disk rose files h = inr h.2

pub check_complete : (image disk : List ℕ) (status : ℕ) (host_rose sink_rose : Type 0) (files : Option Files) (written written_now : Option (List ℕ))
    → Checks image disk status host_rose sink_rose files written written_now → ¬ host_rose
    → (status ≡ 0) ⊎ (status ≡ 3) ⊎ (status ≡ 4) ⊎ (status ≡ 6) ⊎ ((status ≡ 7) × (IsAbsent files image ⊎ IsAbsent files disk))
check_complete image disk status host_rose sink_rose files written written_now checks no_host = at checks.end checks.status_is checks.found.finds
  where
    at : (e : CheckEnd) → status ≡ check_status e → Finds e image disk host_rose files → (status ≡ 0) ⊎ (status ≡ 3) ⊎ (status ≡ 4) ⊎ (status ≡ 6) ⊎ ((status ≡ 7) × (IsAbsent files image ⊎ IsAbsent files disk))
    at (Sound census) is finds = inl is
    at (ImageRefused rule) is finds = inr (inl is)
    at (VolumeRefused rule b) is finds = inr (inr (inl is))
    at NoMemory is finds = inr (inr (inr (inl is)))
    at (NotThere file) is finds = inr (inr (inr (inr (is, absent_one file image disk host_rose files finds))))
    at (NotRead Image) is finds = absurd (no_host finds)
    at (NotRead Disk) is finds = absurd (no_host finds.0)

pub check_fault : (image disk : List ℕ) (status : ℕ) (host_rose sink_rose : Type 0) (files : Option Files) (written written_now : Option (List ℕ))
    → Checks image disk status host_rose sink_rose files written written_now → status ≡ 7 → host_rose ⊎ (IsAbsent files image ⊎ IsAbsent files disk)
check_fault image disk status host_rose sink_rose files written written_now checks told = at checks.end checks.status_is checks.found.finds
  where
    at : (e : CheckEnd) → status ≡ check_status e → Finds e image disk host_rose files → host_rose ⊎ (IsAbsent files image ⊎ IsAbsent files disk)
    at (Sound census) is finds = absurd (omega (arith, is, told))
    at (ImageRefused rule) is finds = absurd (omega (arith, is, told))
    at (VolumeRefused rule b) is finds = absurd (omega (arith, is, told))
    at NoMemory is finds = absurd (omega (arith, is, told))
    at (NotThere file) is finds = inr (absent_one file image disk host_rose files finds)
    at (NotRead Image) is finds = inl finds
    at (NotRead Disk) is finds = inl finds.0

pub check_sound : (image disk : List ℕ) (status : ℕ) (host_rose sink_rose : Type 0) (files : Option Files) (written written_now : Option (List ℕ))
    → Checks image disk status host_rose sink_rose files written written_now
    → (image_bytes disk_bytes : List ℕ) (s : State) → HasPair files image disk image_bytes disk_bytes s → ¬ host_rose → (status ≡ 0) ⊎ (status ≡ 6)
check_sound image disk status host_rose sink_rose files written written_now checks image_bytes disk_bytes s has no_host =
    at checks.end checks.status_is checks.found.finds (checks.sure image_bytes disk_bytes s has)
  where
    at : (e : CheckEnd) → status ≡ check_status e → Finds e image disk host_rose files → IsSureOf s e → (status ≡ 0) ⊎ (status ≡ 6)
    at (Sound census) is finds sure = inl is
    at (ImageRefused rule) is finds sure = absurd sure
    at (VolumeRefused rule b) is finds sure = absurd sure
    at NoMemory is finds sure = inr is
    at (NotThere file) is finds sure = absurd sure
    at (NotRead Image) is finds sure = absurd (no_host finds)
    at (NotRead Disk) is finds sure = absurd (no_host finds.0)

-- ---- the image of `registry`

-- a machine with the words of an image that was loaded
pub holds_board : (told : Option Files) (image bytes words : List ℕ) (scratch : ℕ) (now : List ℕ) → now ≡ protected_of words scratch → IsImageLoaded told image bytes words scratch → HoldsImage told image now
holds_board told image bytes words scratch now is loaded = subst (HoldsImage told image) (sym is) (loaded_holds told image bytes words scratch loaded)

-- ---- the files afterwards

-- a disk that was only read is handed back over the files that it was loaded from
pub files_read : (told left : Option Files) (asked : Asked) (disk name : List ℕ) (d e : DiskContents) → IsDiskLoaded told disk d → e.blocks ≡ d.blocks → e.pending ≡ d.pending → e.around ≡ d.around
    → HasSettled left name e → around_of left asked name ≡ e.around → ((b w : ℕ) → slice_index (block_at e.blocks b) w < 2 ^ 64) → left ≡ told
files_read told left asked disk name d e on blocks pending around settled here fit =
    files_kept told left disk c on.words (length on.words / 512) on.file.bytes (file_blocks on.words on.file.long) (blocks ∙ on.blocks) (λ b. ap (λ (p : List Bool). is_pending p b) pending ∙ on.settled b)
    (leaves_by told left on.asked asked disk name c e settled here fit (record { blocks = refl; faults = refl; writes = refl; around = refl; pending = λ b is. is }) (around ∙ on.around))
  where
    c : Contents
    c = record { words = []; open_page = None; disk = e.blocks; pending = e.pending; faults = e.faults; writes = e.writes; around = e.around }

-- the same where the machine was looked at, and then taken apart
pub files_looked : (told left : Option Files) (asked : Asked) (disk name : List ℕ) (d e : DiskContents) (c new : Contents) (r s : Running) → IsDiskLoaded told disk d → HasDisk c d → Viewed c new r s
    → e ≡ record { blocks = new.disk; pending = new.pending; faults = new.faults; writes = new.writes; around = new.around }
    → HasSettled left name e → around_of left asked name ≡ e.around → ((b w : ℕ) → slice_index (block_at e.blocks b) w < 2 ^ 64) → left ≡ told
files_looked told left asked disk name d e c new r s on has viewed is =
    files_read told left asked disk name d e on
    (ap (λ (x : DiskContents). x.blocks) is ∙ ap (λ (x : Contents). x.disk) viewed.rest ∙ has.blocks)
    (ap (λ (x : DiskContents). x.pending) is ∙ ap (λ (x : Contents). x.pending) viewed.rest ∙ has.pending)
    (ap (λ (x : DiskContents). x.around) is ∙ ap (λ (x : Contents). x.around) viewed.rest ∙ has.around)
