-- From one part of work on a pair to the next.
use Rattle.std.proofs.Common.{◌≡◌, ◌<◌, ◌⊎◌, inl, inr, ℕ, ◌+◌, ◌*◌, ◌^◌, true, false, List, [], ◌++◌, length, slice_index, Option, Some, None, refl, sym, ap, subst, ◌∙◌, arith, length-append, length-drop, get_or-take}
use Rattle.std.specs.Prelude.{Result, Ok, Err, is_some}
use Rattle.rio_base.specs.Blocks.{Causes}
use Rattle.rio_base.specs.Bytes.{bytes_of}
use Rattle.rio_base.specs.Failures.{HasCause, Rose}
use Rattle.rio_base.specs.Disks.{DiskContents, block_at, blocks_of, is_pending}
use Rattle.rio_base.specs.Hosts.{Asked, Files, with_file}
use Rattle.rio_base.specs.Image.{HasHeader}
use Rattle.rio_base.specs.Machine.{Contents, Running}
use Rattle.rio_base.specs.Shapes.{IsServed}
use Rattle.rio_base.specs.Volume.{MemorySizes, Runs}
use Rattle.rio_base.specs.declared.failures.Failed.{Failed}
use Rattle.rio_base.specs.declared.places.VolumeShape.{VolumeShape}
use Rattle.rio_base.proofs.Bytes.{length-bytes_of}
use Rattle.board.specs.BoardLaws.{count_protected}
use Rattle.board.specs.Boards.{protected_count, protected_of, scratch_of}
use Rattle.block_disk.specs.HostDisks.{HasSettled, around_of}
use Rattle.machine_bench.specs.Benches.{Began, HandsBack, left_by, made_contents, made_run}
use Rattle.rio_model.specs.declared.state.State.{State}
use Rattle.rio_model.specs.Registry.{HasLayout, KeepsRegistry}
use Rattle.rio_model.specs.Standing.{StandsFor}
use Rattle.rio_model.specs.VolumeReads.{ReadsAs}
use Rattle.rio_model.specs.VolumeReady.{Ready}
use Rattle.rio_model.proofs.StandingStates.{AreWhole}
use Rattle.cached_pages.specs.Caches.{cache_below, cache_health, cache_kept, cache_seen}
use Rattle.cached_pages.specs.declared.tables.CacheTables.{CacheTables}
use Rattle.region_recovery.specs.RegionLists.{AreRecovered}
use Rattle.warm_reboot.specs.Boots.{StandsNow}
use Rattle.warm_reboot.specs.Reboots.{Booted}
use Rattle.warm_reboot.specs.declared.report.BootReport.{BootReport}
use Rattle.warm_reboot.proofs.Examines.{stands_found}
use Rattle.warm_reboot.proofs.Starts.{stands_now}
use Rattle.pair_files.specs.declared.ends.PairEnd.TheVariants.{Memory}
use Rattle.pair_files.specs.Ends.{EndedEarly, HasBegun, Outcome, Outset}
use Rattle.pair_files.specs.Loads.{IsImageRead}
use Rattle.pair_files.specs.Saves.{Leaves, Replaces}
use Rattle.pair_files.specs.Scenes.{AsksUnarmed, IsBooted}
use Rattle.pair_files.specs.Stages.{IsFound, IsMade, SavedAs, UnsavedAs}
use Rattle.pair_files.proofs.BytesIn.{AreWords}
use Rattle.pair_files.proofs.Endings.{unmade}
use Rattle.pair_files.proofs.LeftFiles.{leaves_by}
use Rattle.pair_files.proofs.PairRules.{head_same, image_parts, image_whole}

-- ---- a machine is made

made_of : (o : Outset) (bytes words : List ℕ) (scratch : ℕ) (d : DiskContents) (stop : Option ℕ) → IsFound o bytes words scratch d stop → IsMade o (made_contents words scratch d) (made_run words scratch stop)
made_of o bytes words scratch d stop h = record {
  bytes = bytes;
  file = h.image.file;
  are = image_parts bytes words scratch h.image.read.are;
  layout = h.image.read.layout;
  keeps = h.image.read.keeps;
  disk = record { words = h.disk.words; file = h.disk.file; blocks = h.disk.blocks; settled = h.disk.settled; limit = h.disk.limit; writes = h.disk.writes; asked = h.disk.asked; around = h.disk.around };
  counted = h.counted;
  running = refl;
  stop_set = ap (λ (s : Option ℕ). is_some s) (sym h.stop_is);
  unarmed = refl;
  untrapped = refl;
}

pub is_made : (o : Outset) (bytes words : List ℕ) (scratch : ℕ) (d : DiskContents) (stop : Option ℕ) (c : Contents) (r : Running) → c ≡ made_contents words scratch d → r ≡ made_run words scratch stop → IsFound o bytes words scratch d stop → IsMade o c r
is_made o bytes words scratch d stop c r contents run h = subst (λ (y : Contents). IsMade o y r) (sym contents) (subst (IsMade o (made_contents words scratch d)) (sym run) (made_of o bytes words scratch d stop h))

-- none was made, and the disk is handed out
pub ended_unmade : {E : Type 0} (o : Outset) (asked : Asked) (bytes words : List ℕ) (scratch : ℕ) (d e : DiskContents) (stop : Option ℕ) (x : Outcome) (name : List ℕ) → IsFound o bytes words scratch d stop → e ≡ d → HasSettled x.told name e → around_of x.told asked name ≡ e.around → ((b w : ℕ) → slice_index (block_at e.blocks b) w < 2 ^ 64) → x.faults ≡ e.faults.count → x.streams ≡ o.streams → x.pages ≡ None → EndedEarly {E = E} o Memory x
ended_unmade o asked bytes words scratch d e stop x name h same file around fit faults streams none =
    unmade o c x (record { words = h.disk.words; file = h.disk.file; blocks = h.disk.blocks; settled = h.disk.settled; limit = h.disk.limit; writes = h.disk.writes; asked = h.disk.asked; around = h.disk.around }) (leaves_by o.told x.told h.disk.asked asked o.disk name c e file around fit back h.disk.around) streams none
    (let count = ap (λ (y : DiskContents). y.faults.count) same in omega (arith, faults, count, h.counted))
  where
    c : Contents
    c = record { words = []; open_page = None; disk = d.blocks; pending = d.pending; faults = d.faults; writes = d.writes; around = d.around }

    back : HandsBack c e
    back = record {
      blocks = ap (λ (y : DiskContents). y.blocks) same;
      faults = ap (λ (y : DiskContents). y.faults) same;
      writes = ap (λ (y : DiskContents). y.writes) same;
      around = ap (λ (y : DiskContents). y.around) same;
      pending = λ b pending. ap (λ (y : DiskContents). is_pending y.pending b) (sym same) ∙ pending;
    }

-- what is asked of a machine that is made
pub read_header : (bytes words : List ℕ) (scratch : ℕ) → IsImageRead bytes words scratch → HasHeader (protected_of words scratch)
read_header bytes words scratch h =
    let layout = h.layout.protected in
    let own = h.are.image.header in
    record { magic = first 0 (omega (arith, layout)) ∙ own.magic; version = first 1 (omega (arith, layout)) ∙ own.version }
  where
    first : (i : ℕ) → i < length (protected_of words scratch) → slice_index (protected_of words scratch) i ≡ slice_index words i
    first i less = sym (head_same (protected_of words scratch) (scratch_of words scratch) i less) ∙ ap (λ (ws : List ℕ). slice_index ws i) (image_whole words scratch)

pub read_long : (bytes words : List ℕ) (scratch : ℕ) → IsImageRead bytes words scratch → length bytes ≡ 8 * (length (protected_of words scratch) + length (scratch_of words scratch))
read_long bytes words scratch h = let all = ap (λ (bs : List ℕ). length bs) (image_parts bytes words scratch h.are).bytes_are in omega (arith, all, length-bytes_of (protected_of words scratch ++ scratch_of words scratch), length-append (protected_of words scratch) (scratch_of words scratch))

-- the image says how many pages are scratch
scratch_is : (bytes words : List ℕ) (scratch : ℕ) → IsImageRead bytes words scratch → scratch ≡ slice_index words 3
scratch_is bytes words scratch h =
    let tail = length-drop (protected_count words scratch) words in
    let own = h.layout.scratch_pages in
    let some = h.layout.protected in
    let same = get_or-take (protected_count words scratch) words 3 0 (omega (arith, some, count_protected words scratch)) in
    omega (arith, tail, own, h.room, same)

abbrev began_by : List ℕ → List (List ℕ) → ℕ → Option ℕ → Option Began
began_by words blocks scratch stop = Some (record { words = words; blocks = blocks; scratch = scratch; stop = stop })

-- the bench says what the files had
pub has_begun : (o : Outset) (bytes words : List ℕ) (scratch : ℕ) (d : DiskContents) (stop : Option ℕ) (began : Option Began) → IsFound o bytes words scratch d stop → began ≡ Some (record { words = words; blocks = d.blocks; scratch = scratch; stop = stop }) → HasBegun o began
has_begun o bytes words scratch d stop began h is = record {
  words = words;
  disk_words = h.disk.words;
  image_file = record { bytes = bytes; file = h.image.file; are = h.image.read.are };
  disk_file = h.disk.file;
  began_is = is ∙ ap (λ (blocks : List (List ℕ)). began_by words blocks scratch stop) h.disk.blocks ∙ ap (λ n. began_by words (blocks_of h.disk.words) n stop) (scratch_is bytes words scratch h.image.read) ∙ ap (λ (n : Option ℕ). began_by words (blocks_of h.disk.words) (slice_index words 3) n) (sym h.stop_is);
}

-- ---- a reboot is made

-- the sizes of memory stay
pub same_memory : (c d : Contents) (r q : Running) → r.protected ≡ length c.words → q.protected ≡ length d.words → (cache_below d q).memory ≡ (cache_below c r).memory → length d.words + length q.scratch ≡ length c.words + length r.scratch
same_memory c d r q here there e =
    let protected = ap (λ (m : MemorySizes). m.protected) e in
    let scratch = ap (λ (m : MemorySizes). m.scratch) e in
    omega (arith, protected, scratch, here, there)

-- the cache of a machine that stood for s
pub is_booted : (c d : Contents) (r q : Running) (t : CacheTables) (report : BootReport) (s : State) → AreWhole c → r.protected ≡ length c.words → (cache_below d q).memory ≡ (cache_below c r).memory → q.stopped ≡ false → (StandsNow c s → Booted c s report (cache_seen d) (cache_kept d t)) → StandsFor c (length r.scratch) s → IsBooted report.shape d q t s
is_booted c d r q t report s whole here memory running booted st = record {
  served = subst IsServed (sym b.shape) st.served;
  reads = subst (λ (sh : VolumeShape). ReadsAs sh (cache_seen d).words s) (sym b.shape) b.reads;
  ready = subst (λ (sh : VolumeShape). Ready sh (cache_seen d) (cache_kept d t)) (sym b.shape) b.ready;
  recovered = subst (λ (sh : VolumeShape). AreRecovered sh (cache_seen d).words) (sym b.shape) b.recovered;
  running = running;
  pages = let protected = ap (λ (m : MemorySizes). m.protected) memory in let scratch = ap (λ (m : MemorySizes). m.scratch) memory in omega (arith, st.pages, protected, scratch, here);
  scratch = let scratch = ap (λ (m : MemorySizes). m.scratch) memory in omega (arith, st.scratch_pages, scratch);
}
  where
    b : Booted c s report (cache_seen d) (cache_kept d t)
    b = booted (stands_now c (length r.scratch) s whole st)

-- which has a volume that can be served
pub booted_served : (shape : VolumeShape) (c : Contents) (r : Running) (t : CacheTables) (s : State) → IsBooted shape c r t s → IsServed s.shape
booted_served shape c r t s h = subst IsServed (sym h.reads.sizes) h.served

-- some state is booted
pub some_booted : (c d : Contents) (r q : Running) (t : CacheTables) (report : BootReport) → AreWhole c → HasHeader c.words → HasLayout c.words r.scratch → KeepsRegistry c.words → ((b : ℕ) → is_pending c.pending b ≡ false) → r.protected ≡ length c.words → (cache_below d q).memory ≡ (cache_below c r).memory → q.stopped ≡ false → ((s : State) × StandsNow c s) → ((s : State) → StandsNow c s → Booted c s report (cache_seen d) (cache_kept d t)) → (s : State) × StandsFor c (length r.scratch) s × IsBooted report.shape d q t s
some_booted c d r q t report whole header layout keeps none here memory running found booted =
    let st = stands_found c r.scratch found.0 header layout keeps found.1 none in
    (st.0, st.1, is_booted c d r q t report st.0 whole here memory running (booted st.0) st.1)

-- what was asked of the machine that was made is so of the one that booted
pub asks_booted : (asks : Causes → Type 0) (c d : Contents) (r q : Running) → AsksUnarmed asks r.stop_set → r.armed ≡ None → Runs (cache_health c r) (cache_below c r) (cache_health d q) (cache_below d q) → asks (cache_below d q).causes
asks_booted asks c d r q unarmed none runs = unarmed (cache_below d q).causes runs.stop_set (by runs.armed)
  where
    by : (q.armed ≡ r.armed) ⊎ (q.armed ≡ None) → q.armed ≡ None
    by (inl same) = same ∙ none
    by (inr now) = now

-- ---- a machine is taken back

pub saved_by : (o : Outset) (c : Contents) (r : Running) (x : Outcome) (name : List ℕ) (answer : Result (Unit {0}) Failed) (done : Unit {0}) → o.image ≡ name → answer ≡ Ok done → ((left : Option Files) × Leaves o.told o.disk c left × Replaces answer name (bytes_of (c.words ++ r.scratch)) left x.told) → AreWords (c.words ++ r.scratch) → HasCause answer c.faults.count x.faults → ((n : ℕ) × (x.pages ≡ Some n)) → (x.tells ≡ true → x.left ≡ Some (left_by c r)) → SavedAs o c r x
saved_by o c r x name answer done image is (left, leaves, replaced) fit cause made told = record {
  left = left;
  leaves = leaves;
  files = subst (λ (n : List ℕ). x.told ≡ with_file n (bytes_of (c.words ++ r.scratch)) left) (sym image) (subst (λ (a : Result (Unit {0}) Failed). Replaces a name (bytes_of (c.words ++ r.scratch)) left x.told) is replaced);
  fit = fit;
  counted = cause.later;
  made = made;
  told = told;
}

pub unsaved_by : (o : Outset) (c : Contents) (r : Running) (x : Outcome) (name : List ℕ) (answer : Result (Unit {0}) Failed) (failed : Failed) → answer ≡ Err failed → ((left : Option Files) × Leaves o.told o.disk c left × Replaces answer name (bytes_of (c.words ++ r.scratch)) left x.told) → AreWords (c.words ++ r.scratch) → HasCause answer c.faults.count x.faults → ((n : ℕ) × (x.pages ≡ Some n)) → (x.tells ≡ true → x.left ≡ Some (left_by c r)) → UnsavedAs o c r x
unsaved_by o c r x name answer failed is (left, leaves, replaced) fit cause made told = record {
  leaves = subst (λ (t : Option Files). Leaves o.told o.disk c t) (sym (subst (λ (a : Result (Unit {0}) Failed). Replaces a name (bytes_of (c.words ++ r.scratch)) left x.told) is replaced)) leaves;
  fit = fit;
  rose = rose_of answer is cause;
  counted = cause.later;
  made = made;
  told = told;
}
  where
    rose_of : (answer : Result (Unit {0}) Failed) → answer ≡ Err failed → HasCause answer c.faults.count x.faults → Rose c.faults.count x.faults
    rose_of answer is cause = (subst (λ (a : Result (Unit {0}) Failed). HasCause a c.faults.count x.faults) is cause).cause
