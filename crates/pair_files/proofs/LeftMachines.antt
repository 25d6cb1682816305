-- What a machine that was made of the two files leaves of them, and of what they stood for, where it was taken back.
use Rattle.std.proofs.Common.{◌≡◌, ◌≢◌, ℕ, ◌/◌, Bool, List, ◌++◌, length, Option, Some, refl, sym, ap, subst, ◌∙◌, arith}
use Rattle.rio_base.specs.Bytes.{bytes_of}
use Rattle.rio_base.specs.Disks.{blocks_of, is_pending}
use Rattle.rio_base.specs.Hosts.{Files, IsFile}
use Rattle.rio_base.specs.Image.{HasHeader}
use Rattle.rio_base.specs.Machine.{Contents, Running}
use Rattle.machine_bench.specs.Benches.{left_by}
use Rattle.rio_model.specs.declared.state.State.{State}
use Rattle.rio_model.specs.Cover.{MayLeave}
use Rattle.rio_model.specs.Standing.{StandsFor}
use Rattle.pair_files.specs.Ends.{AreFound, IsSaved, IsSomePair, LeavesMemory, Outcome, Outset}
use Rattle.pair_files.specs.Images.{HoldsImage, IsImageOf}
use Rattle.pair_files.specs.Loads.{IsDiskLoaded}
use Rattle.pair_files.specs.Pairs.{AreBlocksIn, HasPair, IsPair, file_of}
use Rattle.pair_files.specs.Saves.{Leaves, disk_of}
use Rattle.pair_files.specs.Stages.{IsMade, SavedAs, UnsavedAs}
use Rattle.pair_files.proofs.BytesIn.{AreWords, blocks_of_in}
use Rattle.pair_files.proofs.LeftFiles.{disk_left, file_known, files_kept, left_blocks, left_told, one_file, others_left, with_beside, with_here, with_here_told}
use Rattle.pair_files.proofs.PairRules.{file_blocks, head_same, image_of, machine_pair, pair_stands}

-- ---- the machine has what was loaded

-- a machine's disk is the one that was loaded
abbrev pub HasDisk : Outset → Contents → Type 0
HasDisk o c = IsDiskLoaded o.told o.disk (disk_of c)

-- nothing was written: the files are those of before
pub kept_files : (o : Outset) (c d : Contents) (left : Option Files) → HasDisk o c → d.disk ≡ c.disk → d.pending ≡ c.pending → Leaves o.told o.disk d left → left ≡ o.told
kept_files o c d left on disk pending h =
    files_kept o.told left o.disk d on.words (length on.words / 512) on.file.bytes (file_blocks on.words on.file.long) (disk ∙ on.blocks) (λ b. ap (λ (marks : List Bool). is_pending marks b) pending ∙ on.settled b) h

-- a machine that was made of a pair stands for the pair's state
pub made_stands : (o : Outset) (c : Contents) (r : Running) (i k : List ℕ) (s : State) → IsMade o c r → HasPair o.told o.image o.disk i k s → StandsFor c (length r.scratch) s
made_stands o c r i k s m h =
    pair_stands i k s c.words r.scratch (blocks_of m.disk.words) c (length r.scratch) h.pair
    (subst (λ (bs : List ℕ). IsImageOf bs (c.words ++ r.scratch)) (one_file o.told o.image i m.bytes h.image_file m.file) m.are) m.layout
    (subst (λ (bs : List ℕ). AreBlocksIn bs (blocks_of m.disk.words)) (one_file o.told o.disk k (bytes_of m.disk.words) h.disk_file m.disk.file.bytes) (made_blocks o c r m))
    refl m.disk.blocks m.disk.settled refl
  where
    made_blocks : (o : Outset) (c : Contents) (r : Running) (m : IsMade o c r) → AreBlocksIn (bytes_of m.disk.words) (blocks_of m.disk.words)
    made_blocks o c r m = blocks_of_in m.disk.words (length m.disk.words / 512) (file_blocks m.disk.words m.disk.file.long) m.disk.file.fit

pub made_in : (o : Outset) (c : Contents) (r : Running) (m : IsMade o c r) → AreBlocksIn (bytes_of m.disk.words) c.disk
made_in o c r m = subst (AreBlocksIn (bytes_of m.disk.words)) (sym m.disk.blocks) (blocks_of_in m.disk.words (length m.disk.words / 512) (file_blocks m.disk.words m.disk.file.long) m.disk.file.fit)

-- and if it stands for one, the files are a pair
pub made_pair : (o : Outset) (c : Contents) (r : Running) (s : State) → IsMade o c r → StandsFor c (length r.scratch) s → IsSomePair o
made_pair o c r s m h = λ files e. (
  m.bytes,
  bytes_of m.disk.words,
  s,
  record {
    image_file = file_known o.told files o.image m.bytes e m.file;
    disk_file = file_known o.told files o.disk (bytes_of m.disk.words) e m.disk.file.bytes;
    pair = machine_pair m.bytes (bytes_of m.disk.words) s c.words r.scratch c.disk c (length r.scratch) m.are (made_in o c r m) (record { count = refl; whole = (made_in o c r m).whole; kept = λ b clear. refl }) refl refl h;
  },
)

-- its image keeps its rules
pub made_holds : (o : Outset) (c : Contents) (r : Running) → IsMade o c r → HoldsImage o.told o.image c.words
made_holds o c r m = record { scratch = r.scratch; holds = record { bytes = m.bytes; file = m.file; are = m.are }; layout = m.layout; keeps = m.keeps }

pub made_header : (o : Outset) (c : Contents) (r : Running) → IsMade o c r → HasHeader c.words
made_header o c r m =
    let long = m.layout.protected in
    let own = m.are.image.header in
    record { magic = sym (head_same c.words r.scratch 0 (omega (arith, long))) ∙ own.magic; version = sym (head_same c.words r.scratch 1 (omega (arith, long))) ∙ own.version }

-- it was made of files that were found
pub made_found : (o : Outset) (c : Contents) (r : Running) → IsMade o c r → AreFound o
made_found o c r m = record { words = c.words; disk_words = m.disk.words; image_file = made_holds o c r m; disk_file = m.disk.file }

-- ---- a machine was taken back

-- the files but the two are as before
pub others_unsaved : (o : Outset) (c : Contents) (left : Option Files) (name : List ℕ) → Leaves o.told o.disk c left → name ≢ o.disk → file_of left name ≡ file_of o.told name
others_unsaved o c left name h ne = others_left o.told left h.asked_before h.asked o.disk name h.around ne

pub others_saved : (o : Outset) (c : Contents) (r : Running) (x : Outcome) (name : List ℕ) → SavedAs o c r x → name ≢ o.image → name ≢ o.disk → file_of x.told name ≡ file_of o.told name
others_saved o c r x name h image disk =
    ap (λ (t : Option Files). file_of t name) h.files ∙ with_beside h.left o.image (bytes_of (c.words ++ r.scratch)) name image ∙ others_unsaved o c h.left name h.leaves disk

-- the image's file has the words of memory
pub saved_is : (o : Outset) (c : Contents) (r : Running) (x : Outcome) → SavedAs o c r x → IsSaved o x
saved_is o c r x h = record {
  made = h.made;
  saved = λ e. (left_by c r, h.told e, subst (λ (t : Option Files). IsFile t o.image (bytes_of (c.words ++ r.scratch))) (sym h.files) (with_here h.left o.image (bytes_of (c.words ++ r.scratch))));
}

-- what the machine stood for its words are a pair of, with the disk's file
pub record MemoryNow (o : Outset) (c : Contents) (r : Running) (left : Option Files) (s : State) : Type 0 where
  pub disk_now : List ℕ
  pub disk_file : file_of left o.disk ≡ Some disk_now
  pub pair : IsPair (bytes_of (c.words ++ r.scratch)) disk_now s
  pub blocks : List (List ℕ)
  pub in_disk : AreBlocksIn disk_now blocks
  pub leaves : MayLeave c blocks

memory_now : (o : Outset) (c : Contents) (r : Running) (left : Option Files) (files : Files) (s : State) → o.told ≡ Some files → Leaves o.told o.disk c left → AreWords (c.words ++ r.scratch) → StandsFor c (length r.scratch) s → MemoryNow o c r left s
memory_now o c r left files s e leaves fit st = by (left_told o.told left leaves.asked_before leaves.asked o.disk files leaves.around e)
  where
    by : (now : Files) × (left ≡ Some now) → MemoryNow o c r left s
    by (now, is) =
        let own = disk_left left now o.disk c is leaves.settled in
        let all = left_blocks c own.0 own.2 leaves.fit in
        record {
          disk_now = own.0;
          disk_file = own.1;
          pair = machine_pair (bytes_of (c.words ++ r.scratch)) own.0 s c.words r.scratch all.0 c (length r.scratch) (record { fits = fit; bytes_are = refl; image = image_of c r.scratch st.image }) all.1 all.2 refl refl st;
          blocks = all.0;
          in_disk = all.1;
          leaves = all.2;
        }

-- the disk's file is as it was before the image was saved
disk_beside : (o : Outset) (c : Contents) (r : Running) (x : Outcome) → o.image ≢ o.disk → (h : SavedAs o c r x) → file_of x.told o.disk ≡ file_of h.left o.disk
disk_beside o c r x two h = ap (λ (t : Option Files). file_of t o.disk) h.files ∙ with_beside h.left o.image (bytes_of (c.words ++ r.scratch)) o.disk (λ same. two (sym same))

-- what the machine stood for the files are a pair of
pub record PairNow (o : Outset) (c : Contents) (x : Outcome) (s : State) : Type 0 where
  pub image_now : List ℕ
  pub disk_now : List ℕ
  pub pair : HasPair x.told o.image o.disk image_now disk_now s
  pub blocks : List (List ℕ)
  pub in_disk : AreBlocksIn disk_now blocks
  pub leaves : MayLeave c blocks

pub saved_pair : (o : Outset) (c : Contents) (r : Running) (x : Outcome) (files : Files) (s : State) → o.told ≡ Some files → o.image ≢ o.disk → SavedAs o c r x → StandsFor c (length r.scratch) s → PairNow o c x s
saved_pair o c r x files s e two h st = by (left_told o.told h.left h.leaves.asked_before h.leaves.asked o.disk files h.leaves.around e) (memory_now o c r h.left files s e h.leaves h.fit st)
  where
    by : (now : Files) × (h.left ≡ Some now) → MemoryNow o c r h.left s → PairNow o c x s
    by (now, is) m = record {
      image_now = bytes_of (c.words ++ r.scratch);
      disk_now = m.disk_now;
      pair = record {
        image_file = ap (λ (t : Option Files). file_of t o.image) h.files ∙ with_here_told h.left now o.image (bytes_of (c.words ++ r.scratch)) is;
        disk_file = disk_beside o c r x two h ∙ m.disk_file;
        pair = m.pair;
      };
      blocks = m.blocks;
      in_disk = m.in_disk;
      leaves = m.leaves;
    }

-- ---- memory as it was left, whether its image was saved or not

pub saved_memory : (o : Outset) (c : Contents) (r : Running) (x : Outcome) (files : Files) (s : State) → o.told ≡ Some files → o.image ≢ o.disk → SavedAs o c r x → StandsFor c (length r.scratch) s → LeavesMemory o x s
saved_memory o c r x files s e two h st =
    let m = memory_now o c r h.left files s e h.leaves h.fit st in record { disk_now = m.disk_now; disk_file = disk_beside o c r x two h ∙ m.disk_file; pair = λ tells. (left_by c r, h.told tells, m.pair) }

pub unsaved_memory : (o : Outset) (c : Contents) (r : Running) (x : Outcome) (files : Files) (s : State) → o.told ≡ Some files → UnsavedAs o c r x → StandsFor c (length r.scratch) s → LeavesMemory o x s
unsaved_memory o c r x files s e h st =
    let m = memory_now o c r x.told files s e h.leaves h.fit st in record { disk_now = m.disk_now; disk_file = m.disk_file; pair = λ tells. (left_by c r, h.told tells, m.pair) }
