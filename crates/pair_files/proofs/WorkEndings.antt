-- How work on a pair ends that was begun.
use Rattle.std.proofs.Common.{◌≡◌, ◌≢◌, ◌<◌, ◌≤◌, ℕ, ◌*◌, Bool, true, false, not, nat_lt, List, [], ◌++◌, length, slice_index, Option, Some, None, ◌⊎◌, inl, inr, refl, sym, ap, subst, ◌∙◌, arith}
use Rattle.std.proofs.lemmas.List.{ext_get_or, get_or_append_left}
use Rattle.rio_base.specs.Blocks.{Causes, Home}
use Rattle.rio_base.specs.Bytes.{bytes_of, word_at}
use Rattle.rio_base.specs.Disks.{block_at, is_pending}
use Rattle.rio_base.specs.Machine.{Contents, Running}
use Rattle.rio_base.specs.Volume.{StopCause}
use Rattle.rio_base.specs.declared.places.VolumeShape.{VolumeShape}
use Rattle.machine_bench.specs.Benches.{left_by}
use Rattle.rio_model.specs.declared.state.State.{State}
use Rattle.rio_model.specs.Cover.{MayLeave, causes_of, home_of, stands}
use Rattle.rio_model.specs.Placed.{volume_layout}
use Rattle.rio_model.specs.Registry.{frames_of}
use Rattle.rio_model.specs.Standing.{Restored, StandsFor}
use Rattle.rio_model.proofs.PlacedRules.{cases_lt}
use Rattle.rio_model.proofs.StandingStates.{AreWhole}
use Rattle.cached_pages.specs.Caches.{cache_below, cache_health, is_roomy}
use Rattle.cached_pages.specs.declared.tables.CacheTables.{CacheTables}
use Rattle.pair_files.specs.declared.ends.PairEnd.TheVariants.{Unsaved, Worked}
use Rattle.pair_files.specs.Ends.{Begins, Ended, Goes, IsDone, IsDoneUnsaved, Outcome, Outset, Works}
use Rattle.pair_files.specs.Images.{IsImageOf}
use Rattle.pair_files.specs.Pairs.{AreBlocksIn, HasPair, IsRestored, IsRoomy}
use Rattle.pair_files.specs.Scenes.{IsBooted, LastsBelow, Scene, Streams, scene_of}
use Rattle.pair_files.specs.Stages.{IsMade, IsStarted, SavedAs, UnsavedAs}
use Rattle.pair_files.proofs.BytesIn.{word_back}
use Rattle.pair_files.proofs.LeftFiles.{files_told, one_file}
use Rattle.pair_files.proofs.Endings.{every_saved, unsaved_is}
use Rattle.pair_files.proofs.LeftMachines.{PairNow, made_found, made_in, made_pair, made_stands, others_unsaved, saved_is, saved_memory, saved_pair, unsaved_memory}

-- ---- where it begins

trapped_kept : (old new : Causes) (a b : Bool) → a ≡ false → b ≡ false → StopCause old new a b → new.trapped ≡ old.trapped
trapped_kept old new a b was is h = by (subst (λ (y : Bool). StopCause old new false y) is (subst (λ (y : Bool). StopCause old new y b) was h))
  where
    by : StopCause old new false false → new.trapped ≡ old.trapped
    by e = e

still_none : (old new : Option ℕ) → old ≡ None → (new ≡ old) ⊎ (new ≡ None) → new ≡ None
still_none old new none (inl e) = e ∙ none
still_none old new none (inr e) = e

begins : (o : Outset) (shape : VolumeShape) (c : Contents) (r : Running) (t : CacheTables) (streams : Streams) (s : State) → IsStarted o shape c r t → o.streams ≡ streams → IsBooted shape c r t s → Begins o s (scene_of s c r streams)
begins o shape c r t streams s h given booted = record {
  state = refl;
  unread = sym given;
  counted = omega (arith, h.runs.later, h.made.counted);
  running = h.running;
  stop_set = h.runs.stop_set ∙ h.made.stop_set;
  unarmed = still_none h.run.armed r.armed h.made.unarmed h.runs.armed;
  untrapped = trapped_kept (causes_of h.run) (causes_of r) h.run.stopped r.stopped h.made.running h.running h.runs.cause ∙ h.made.untrapped;
  protected = refl;
  pages = booted.pages;
  scratch = booted.scratch;
}

-- ---- a disk that only the reboot wrote

told_or : Home → Option Home → Home
told_or h None = h
told_or h (Some k) = k

same_home : (c d : Contents) → Some (home_of d) ≡ Some (home_of c) → home_of d ≡ home_of c
unfolding told_or
same_home c d e = ap (told_or (home_of c)) e

roomy_by : (n m : ℕ) → m ≤ n → not (nat_lt n m) ≡ true
roomy_by n m h = by (cases_lt n m)
  where
    by : ((n < m) × (nat_lt n m ≡ true)) ⊎ ((m ≤ n) × (nat_lt n m ≡ false)) → not (nat_lt n m) ≡ true
    by (inl less) = absurd (let l = less.0 in omega (arith, l, h))
    by (inr more) = ap not more.1

made_roomy : (o : Outset) (c : Contents) (r : Running) (i k : List ℕ) (s : State) → IsMade o c r → HasPair o.told o.image o.disk i k s → IsRoomy i k → is_roomy c ≡ true
made_roomy o c r i k s m h roomy = roomy_by (frames_of c.words) (length c.disk) (omega (arith, roomy, long, frames))
  where
    disk_same : bytes_of m.disk.words ≡ k
    disk_same = one_file o.told o.disk k (bytes_of m.disk.words) h.disk_file m.disk.file.bytes

    long : length k ≡ 4096 * length c.disk
    long = ap (λ (bs : List ℕ). length bs) (sym disk_same) ∙ (made_in o c r m).count

    some : 2 < length c.words
    some = let protected = m.layout.protected in omega (arith, protected)

    within : 2 < length (c.words ++ r.scratch)
    within = let all = m.are.image.long.least in omega (arith, all)

    frames : word_at i 2 ≡ frames_of c.words
    frames =
        ap (λ (bs : List ℕ). word_at bs 2) (sym (one_file o.told o.image i m.bytes h.image_file m.file) ∙ m.are.bytes_are)
        ∙ word_back (c.words ++ r.scratch) 2 m.are.fits within
        ∙ get_or_append_left c.words r.scratch 0 2 some

-- the blocks of the file are those that the reboot left
still_blocks : (c d : Contents) (blocks : List (List ℕ)) (bytes : List ℕ) → AreWhole c → length blocks ≡ length c.disk → AreBlocksIn bytes blocks → MayLeave d blocks → home_of d ≡ home_of c → ((b : ℕ) → is_pending c.pending b ≡ false) → blocks ≡ c.disk
still_blocks c d blocks bytes whole count own leaves same clear = ext_get_or [] blocks c.disk count (λ b less.
    let inner : b < length c.disk = omega (arith, less, count) in
    ext_get_or 0 (block_at blocks b) (block_at c.disk b) (own.whole b less ∙ sym (whole b inner)) (λ w small.
    ap (λ (l : List ℕ). slice_index l w) (leaves.kept b (ap (λ (h : Home). h.pending b) same ∙ clear b)) ∙ ap (λ (h : Home). h.disk b w) same))

restored : (o : Outset) (shape : VolumeShape) (c d : Contents) (r q : Running) (t : CacheTables) (x : Outcome) (i k : List ℕ) (s u : State) → AreWhole c → (h : IsStarted o shape c r t) → IsBooted shape c r t s → HasPair o.told o.image o.disk i k s → (now : PairNow o d x u) → StandsFor d (length q.scratch) u → IsRoomy i k → (cache_below d q).home ≡ (cache_below c r).home → u.shape ≡ s.shape → IsRestored i k now.disk_now s
restored o shape c d r q t x i k s u whole h booted pair now st roomy home same = record {
  words = h.old.words;
  scratch = h.run.scratch;
  in_image = subst (λ (bs : List ℕ). IsImageOf bs (h.old.words ++ h.run.scratch)) (one_file o.told o.image i h.made.bytes pair.image_file h.made.file) h.made.are;
  layout = h.made.layout;
  old = h.old.disk;
  new = now.blocks;
  in_disk = subst (λ (bs : List ℕ). AreBlocksIn bs h.old.disk) (one_file o.told o.disk k (bytes_of h.made.disk.words) pair.disk_file h.made.disk.file.bytes) (made_in o h.old h.run h.made);
  in_now = now.in_disk;
  restored =
      subst (λ (sh : VolumeShape). Restored (volume_layout sh (stands h.old)) h.old.words h.old.disk now.blocks) (sym booted.reads.sizes)
      (subst (λ (blocks : List (List ℕ)). Restored (volume_layout shape (stands h.old)) h.old.words h.old.disk blocks) (sym blocks) (h.restored is_so));
}
  where
    is_so : is_roomy h.old ≡ true
    is_so = made_roomy o h.old h.run i k s h.made pair roomy

    count : length now.blocks ≡ length c.disk
    count = now.leaves.count ∙ st.blocks ∙ ap (λ (sh : VolumeShape). sh.blocks) (same ∙ booted.reads.sizes) ∙ sym booted.ready.order.has_shape.count

    blocks : now.blocks ≡ c.disk
    blocks = still_blocks c d now.blocks now.disk_now whole count now.in_disk now.leaves (same_home c d home) (h.synced is_so)

-- ---- where it ends

-- what the work said of it
abbrev pub WorkDone : {E : Type 0} → (E → Scene → Scene → Type 0) → E → VolumeShape → Contents → Running → CacheTables → Streams → Contents → Running → Streams → Type 0
WorkDone does e shape c r t streams d q later = (s : State) → IsBooted shape c r t s → (u : State) × does e (scene_of s c r streams) (scene_of u d q later) × StandsFor d (length q.scratch) u

goes : {E : Type 0} (o : Outset) (does : E → Scene → Scene → Type 0) (e : E) (shape : VolumeShape) (c d : Contents) (r q : Running) (t : CacheTables) (x : Outcome) (streams : Streams) (s u : State) → IsStarted o shape c r t → o.streams ≡ streams → IsBooted shape c r t s → does e (scene_of s c r streams) (scene_of u d q x.streams) → LastsBelow (cache_health c r) (cache_below c r) (cache_health d q) (cache_below d q) → (x.tells ≡ true → x.left ≡ Some (left_by d q)) → Goes o (does e) x s (scene_of s c r streams) (scene_of u d q x.streams)
goes o does e shape c d r q t x streams s u h given booted leads lasts told = record {
  begins = begins o shape c r t streams s h given booted;
  leads = leads;
  ends = refl;
  lasts = lasts;
  left = λ tells. (left_by d q, told tells, refl, refl, refl);
}

pub ended_worked : {E : Type 0} (o : Outset) (does : E → Scene → Scene → Type 0) (e : E) (shape : VolumeShape) (c d : Contents) (r q : Running) (t : CacheTables) (x : Outcome) (streams : Streams) → AreWhole c → o.image ≢ o.disk → o.streams ≡ streams → IsStarted o shape c r t → WorkDone does e shape c r t streams d q x.streams → LastsBelow (cache_health c r) (cache_below c r) (cache_health d q) (cache_below d q) → SavedAs o d q x → Ended o does (Worked e) x
ended_worked o does e shape c d r q t x streams whole two given h done lasts saved = record {
  ends = (made_pair o h.old h.run h.found.0 h.made h.found.1, saved_is o d q x saved, gone, works);
  every = every_saved o d q x (Worked e) (omega (arith, lasts.later, h.runs.later, h.made.counted)) saved tt;
}
  where
    gone : IsDone o (does e) x
    gone =
        let booted = h.booted h.found.0 h.found.1 in
        let led = done h.found.0 booted in
        record {
          state = h.found.0;
          begin = scene_of h.found.0 c r streams;
          after = scene_of led.0 d q x.streams;
          goes = goes o does e shape c d r q t x streams h.found.0 led.0 h given booted led.1 lasts saved.told;
          counted = saved.counted;
        }

    works : (i k : List ℕ) (s : State) → HasPair o.told o.image o.disk i k s → Works o (does e) x i k s
    works i k s pair =
        let files = files_told o.told o.image i pair.image_file in
        let booted = h.booted s (made_stands o h.old h.run i k s h.made pair) in
        let led = done s booted in
        let now = saved_pair o d q x files.0 led.0 files.1 two saved led.2 in
        record {
          begin = scene_of s c r streams;
          after = scene_of led.0 d q x.streams;
          goes = goes o does e shape c d r q t x streams s led.0 h given booted led.1 lasts saved.told;
          image_now = now.image_now;
          disk_now = now.disk_now;
          pair = now.pair;
          memory = saved_memory o d q x files.0 led.0 files.1 two saved led.2;
          roomy = λ roomy. h.runs.roomy ∙ made_roomy o h.old h.run i k s h.made pair roomy;
          restored = λ roomy home same. restored o shape c d r q t x i k s led.0 whole h booted pair now led.2 roomy home same;
          counted = saved.counted;
        }

pub ended_unsaved_work : {E : Type 0} (o : Outset) (does : E → Scene → Scene → Type 0) (e : E) (shape : VolumeShape) (c d : Contents) (r q : Running) (t : CacheTables) (x : Outcome) (streams : Streams) → o.image ≢ o.disk → o.streams ≡ streams → IsStarted o shape c r t → WorkDone does e shape c r t streams d q x.streams → LastsBelow (cache_health c r) (cache_below c r) (cache_health d q) (cache_below d q) → UnsavedAs o d q x → Ended o does (Unsaved (Some e)) x
ended_unsaved_work o does e shape c d r q t x streams two given h done lasts unsaved = record {
  ends = (
    unsaved_is o d q x (made_found o h.old h.run h.made) two counted unsaved,
    made_pair o h.old h.run h.found.0 h.made h.found.1,
    gone,
    λ i k s pair.
        let files = files_told o.told o.image i pair.image_file in
        let booted = h.booted s (made_stands o h.old h.run i k s h.made pair) in
        let led = done s booted in
        record {
          begin = scene_of s c r streams;
          after = scene_of led.0 d q x.streams;
          goes = goes o does e shape c d r q t x streams s led.0 h given booted led.1 lasts unsaved.told;
          memory = unsaved_memory o d q x files.0 led.0 files.1 unsaved led.2;
          counted = unsaved.counted;
          rose = unsaved.rose;
        },
  );
  every = record { sound = λ i k s pair. tt; others = λ name image disk. others_unsaved o d x.told name unsaved.leaves disk; counted = omega (arith, counted, unsaved.counted) };
}
  where
    counted : o.faults ≤ d.faults.count
    counted = omega (arith, lasts.later, h.runs.later, h.made.counted)

    gone : IsDoneUnsaved o (does e) x
    gone =
        let booted = h.booted h.found.0 h.found.1 in
        let led = done h.found.0 booted in
        record {
          state = h.found.0;
          begin = scene_of h.found.0 c r streams;
          after = scene_of led.0 d q x.streams;
          goes = goes o does e shape c d r q t x streams h.found.0 led.0 h given booted led.1 lasts unsaved.told;
          rose = unsaved.rose;
        }
