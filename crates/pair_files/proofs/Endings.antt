-- How work on a pair ends, by what each of its parts left.
use Rattle.std.proofs.Common.{◌≡◌, ◌≢◌, ◌<◌, ◌≤◌, ℕ, Bool, true, false, List, ◌++◌, length, Option, Some, None, ◌⊎◌, inl, inr, refl, sym, ap, subst, ◌∙◌, arith}
use Rattle.rio_base.specs.Blocks.{Causes}
use Rattle.rio_base.specs.Bytes.{bytes_of}
use Rattle.rio_base.specs.Failures.{Rose}
use Rattle.rio_base.specs.Disks.{block_at, is_pending}
use Rattle.rio_base.specs.Hosts.{Files, with_file}
use Rattle.rio_base.specs.Machine.{Contents, Running}
use Rattle.rio_base.specs.Rules.{none_some, true_false}
use Rattle.rio_base.specs.Volume.{StopCause}
use Rattle.rio_base.specs.declared.places.Block.{Block}
use Rattle.rio_base.proofs.Rules.{rose_later, rose_stays}
use Rattle.block_disk.specs.HostDisks.{around_of}
use Rattle.machine_bench.specs.Benches.{Leaving, left_by}
use Rattle.rio_model.specs.declared.state.State.{State}
use Rattle.rio_model.specs.Cover.{MayLeave, causes_of}
use Rattle.rio_model.specs.Standing.{StandsFor}
use Rattle.rio_model.proofs.StandingStates.{stands_for_stopped}
use Rattle.registry.specs.Views.{Viewed}
use Rattle.warm_reboot.specs.declared.report.BootFail.{BootFail}
use Rattle.warm_reboot.specs.declared.report.BootFail.TheVariants.{BadImage as BootImage, BadVolume as BootVolume, Fault as BootFaulted, Memory as BootMemory, Stopped as BootStop}
use Rattle.warm_reboot.specs.Reboots.{FailsLooked}
use Rattle.warm_reboot.proofs.Examines.{none_registry, stands_found}
use Rattle.pair_files.specs.declared.ends.PairEnd.{PairEnd}
use Rattle.pair_files.specs.declared.ends.PairEnd.TheVariants.{Absent as NoFile, BadImage as NoImage, BadVolume, BootFault, BootStopped, HostFault, Memory, Unsaved, Worked}
use Rattle.pair_files.specs.declared.failures.LoadFail.{LoadFail}
use Rattle.pair_files.specs.declared.failures.LoadFail.TheVariants.{Absent, BadImage, BadLength, Fault, Memory as LoadMemory}
use Rattle.pair_files.specs.declared.names.PairFile.TheVariants.{Image, Disk}
use Rattle.pair_files.specs.Ends.{AreFound, EndedEarly, Ended, EndsEarly, EndsNoBreach, EndsSound, IsPairOrKept, IsSomePair, IsUnsaved, KeepsMemory, KeepsPair, LeftRunning, Outcome, Outset, PairEnds, Untouched}
use Rattle.pair_files.specs.Loads.{Misses, TellsNoBreach}
use Rattle.pair_files.specs.Pairs.{BreaksVolume, file_of}
use Rattle.pair_files.specs.Saves.{Leaves}
use Rattle.pair_files.specs.Scenes.{Scene}
use Rattle.pair_files.specs.Stages.{IsFailed, IsMade, SavedAs, SavedOrNot, UnsavedAs, end_of}
use Rattle.pair_files.proofs.LeftFiles.{files_told, with_same}
use Rattle.pair_files.proofs.LeftMachines.{HasDisk, kept_files, made_found, made_header, made_holds, made_in, made_pair, made_stands, others_saved, others_unsaved, saved_is, saved_memory, saved_pair, unsaved_memory}
use Rattle.pair_files.proofs.PairRules.{fails_pair, pair_loads, volume_none}

-- ---- ends without a work

early_ends : {E : Type 0} (o : Outset) (does : E → Scene → Scene → Type 0) (end : PairEnd E) (x : Outcome) → EndsEarly o end x → PairEnds o does end x
early_ends o does (NoFile file) x h = h
early_ends o does (NoImage rule) x h = h
early_ends o does (BadVolume rule b) x h = h
early_ends o does (HostFault file) x h = h
early_ends o does Memory x h = h
early_ends o does BootFault x h = h
early_ends o does BootStopped x h = h
early_ends o does (Worked e) x h = absurd h
early_ends o does (Unsaved None) x h = h
early_ends o does (Unsaved (Some e)) x h = absurd h

pub ended_early : {E : Type 0} (o : Outset) (does : E → Scene → Scene → Type 0) (end : PairEnd E) (x : Outcome) → EndedEarly o end x → Ended o does end x
ended_early o does end x h = record { ends = early_ends o does end x h.ends; every = h.every }

-- where nothing was changed
same_others : (o : Outset) (x : Outcome) (name : List ℕ) → Untouched o x → file_of x.told name ≡ file_of o.told name
same_others o x name h = ap (λ (t : Option Files). file_of t name) h.files

-- ---- nothing was loaded

-- no machine was made, so that none was left stopped
none_left : (x : Outcome) → x.pages ≡ None → LeftRunning x
none_left x none n l made tells left = absurd (none_some n x.pages none made)

unloaded_ends : (E : Type 0) (o : Outset) (fail : LoadFail) (x : Outcome) → Untouched o x → x.pages ≡ None → Misses fail o.image o.disk (Rose o.faults x.faults) o.told → EndsEarly {E = E} o (end_of fail) x
unloaded_ends E o (Absent Image) x u none (inl h) = (u, none, h)
unloaded_ends E o (Absent Image) x u none (inr h) = absurd h.2
unloaded_ends E o (Absent Disk) x u none (inl h) = absurd h
unloaded_ends E o (Absent Disk) x u none (inr (words, holds, h)) = (u, none, words, holds, h)
unloaded_ends E o (BadImage rule) x u none (inl h) = (u, h, none_left x none)
unloaded_ends E o (BadImage rule) x u none (inr h) = absurd h.2
unloaded_ends E o BadLength x u none (inl h) = absurd h
unloaded_ends E o BadLength x u none (inr (words, holds, (size, is, long))) = (u, record { words = words; holds = holds; fails = inl (refl, refl, size, is, long) }, none_left x none)
unloaded_ends E o (Fault Image) x u none (inl h) = (u, none, h)
unloaded_ends E o (Fault Image) x u none (inr h) = absurd h.2
unloaded_ends E o (Fault Disk) x u none (inl h) = absurd h
unloaded_ends E o (Fault Disk) x u none (inr (words, holds, h)) = (u, none, h, words, holds)
unloaded_ends E o LoadMemory x u none h = (u, inl none, none_left x none)

no_breach : (E : Type 0) (fail : LoadFail) → TellsNoBreach fail → EndsNoBreach {E = E} (end_of fail)
no_breach E (Absent file) h = h
no_breach E (BadImage rule) h = h
no_breach E BadLength h = h
no_breach E (Fault file) h = tt
no_breach E LoadMemory h = tt

unloaded : {E : Type 0} (o : Outset) (fail : LoadFail) (x : Outcome) → Untouched o x → x.pages ≡ None → o.faults ≤ x.faults → Misses fail o.image o.disk (Rose o.faults x.faults) o.told → EndedEarly {E = E} o (end_of fail) x
unloaded {E} o fail x u none counted h = record {
  ends = unloaded_ends E o fail x u none h;
  every = record {
    sound = λ i k s pair. no_breach E fail (pair_loads o.told o.image o.disk i k s (Rose o.faults x.faults) fail pair h);
    others = λ name image disk. same_others o x name u;
    counted = counted;
  };
}

pub ended_unloaded : {E : Type 0} (o : Outset) (does : E → Scene → Scene → Type 0) (fail : LoadFail) (told : PairEnd E) (x : Outcome) → told ≡ end_of fail → Untouched o x → x.pages ≡ None → o.faults ≤ x.faults → Misses fail o.image o.disk (Rose o.faults x.faults) o.told → Ended o does told x
ended_unloaded {E} o does fail told x is u none counted h = subst (λ (end : PairEnd E). Ended o does end x) (sym is) (ended_early o does (end_of fail) x (unloaded o fail x u none counted h))

-- ---- no machine was made

-- of what was loaded
pub unmade : {E : Type 0} (o : Outset) (c : Contents) (x : Outcome) → HasDisk o c → Leaves o.told o.disk c x.told → x.streams ≡ o.streams → x.pages ≡ None → o.faults ≤ x.faults → EndedEarly {E = E} o Memory x
unmade o c x on h streams none counted =
    let u : Untouched o x = record { files = kept_files o c c x.told on refl refl h; unread = streams } in
    record { ends = (u, inl none, none_left x none); every = record { sound = λ i k s pair. tt; others = λ name image disk. same_others o x name u; counted = counted } }

-- ---- a reboot that failed

-- its disk is still that of the file
pub failed_around : (o : Outset) (c : Contents) (r : Running) (fail : BootFail) (h : IsFailed o c r fail) → c.around ≡ around_of o.told h.made.disk.asked o.disk
failed_around o c r fail h = h.runs.around ∙ h.made.disk.around

-- a machine that runs as it is left
abbrev stopped_in : Option Leaving → Bool
stopped_in None = false
stopped_in (Some l) = l.stopped

left_running : (c : Contents) (r : Running) (x : Outcome) → r.stopped ≡ false → (x.tells ≡ true → x.left ≡ Some (left_by c r)) → LeftRunning x
left_running c r x runs told n l made tells left = ap (λ (o : Option Leaving). stopped_in o) (sym left ∙ told tells) ∙ runs

-- a look changes nothing of the run
viewed_runs : (o : Outset) (old c : Contents) (run r : Running) → IsMade o old run → Viewed old c run r → r.stopped ≡ false
viewed_runs o old c run r m viewed = ap (λ (q : Running). q.stopped) viewed.run ∙ m.running

-- nor of the disk, so that the files are those of before
viewed_files : (o : Outset) (old c : Contents) (run r : Running) (left : Option Files) → IsMade o old run → Viewed old c run r → Leaves o.told o.disk c left → left ≡ o.told
viewed_files o old c run r left m viewed leaves = kept_files o old c left m.disk (ap (λ (y : Contents). y.disk) viewed.rest) (ap (λ (y : Contents). y.pending) viewed.rest) leaves

-- nor of memory, so that they are still where the image is saved
viewed_saved : (o : Outset) (old c : Contents) (run r : Running) (x : Outcome) → IsMade o old run → Viewed old c run r → SavedAs o c r x → x.told ≡ o.told
viewed_saved o old c run r x m viewed saved =
    saved.files
    ∙ ap (λ (t : Option Files). with_file o.image (bytes_of (c.words ++ r.scratch)) t) (viewed_files o old c run r saved.left m viewed saved.leaves)
    ∙ ap (λ (ws : List ℕ). with_file o.image (bytes_of ws) o.told) words
    ∙ ap (λ (bs : List ℕ). with_file o.image bs o.told) (sym m.are.bytes_are)
    ∙ with_same o.told o.image m.bytes m.file
  where
    words : c.words ++ r.scratch ≡ old.words ++ run.scratch
    words = ap (λ (y : Contents). y.words ++ r.scratch) viewed.rest ∙ ap (λ (q : Running). old.words ++ q.scratch) viewed.run

-- the machine stood for a state, so that the files were a pair; or nothing was stored
looked_pair : (o : Outset) (c : Contents) (r : Running) (fail : BootFail) → (h : IsFailed o c r fail) → IsSomePair o ⊎ Viewed h.old c h.run r
looked_pair o c r fail h = by h.looked
  where
    by : FailsLooked h.old h.run c r → IsSomePair o ⊎ Viewed h.old c h.run r
    by (inl (t, now)) =
        let st = stands_found h.old h.run.scratch t (made_header o h.old h.run h.made) h.made.layout h.made.keeps now h.made.disk.settled in
        inl (made_pair o h.old h.run st.0 h.made st.1)
    by (inr viewed) = inr viewed

-- and where that leaves the files as they were
pair_or_kept : (V : Type 0) (o : Outset) (x : Outcome) → (V → x.told ≡ o.told) → IsSomePair o ⊎ V → IsPairOrKept o x
pair_or_kept V o x same (inl pair) = inl pair
pair_or_kept V o x same (inr v) = inr (same v)

-- nor of what the machine stood for
viewed_survives : (o : Outset) (old c : Contents) (run r : Running) (s : State) → IsMade o old run → Viewed old c run r → StandsFor old (length run.scratch) s → StandsFor c (length r.scratch) s
viewed_survives o old c run r s m viewed h =
    stands_for_stopped old c (length run.scratch) (length r.scratch) s (ap (λ (y : Contents). y.words) viewed.rest) leaves
    (λ b. ap (λ (y : Contents). is_pending y.pending b) viewed.rest ∙ m.disk.settled b)
    (ap (λ (q : Running). length q.scratch) viewed.run) h
  where
    disk : c.disk ≡ old.disk
    disk = ap (λ (y : Contents). y.disk) viewed.rest

    leaves : MayLeave old c.disk
    leaves = record {
      count = ap (λ (ds : List (List ℕ)). length ds) disk;
      whole = subst (λ (ds : List (List ℕ)). (b : ℕ) → b < length ds → length (block_at ds b) ≡ 512) (sym disk) (made_in o old run m).whole;
      kept = λ b clear. ap (λ (ds : List (List ℕ)). block_at ds b) disk;
    }

not_bad : (o : Outset) (c : Contents) (r : Running) (rule : ℕ) → IsFailed o c r (BootImage rule) → ⊥
not_bad o c r rule h = none_registry h.old.words rule h.made.keeps h.unbooted.0

pub ended_image : {E : Type 0} (o : Outset) (c : Contents) (r : Running) (rule : ℕ) (x : Outcome) → IsFailed o c r (BootImage rule) → EndedEarly {E = E} o (NoImage rule) x
ended_image o c r rule x h = absurd (not_bad o c r rule h)

pub ended_volume : {E : Type 0} (o : Outset) (c : Contents) (r : Running) (rule : ℕ) (b : Block) (x : Outcome) → IsFailed o c r (BootVolume rule b) → Leaves o.told o.disk c x.told → x.streams ≡ o.streams → c.faults.count ≤ x.faults → (x.tells ≡ true → x.left ≡ Some (left_by c r)) → EndedEarly {E = E} o (BadVolume rule b) x
ended_volume o c r rule b x h leaves streams counted told =
    record { ends = (u, breaks, left_running c r x (viewed_runs o h.old c h.run r m viewed) told); every = record { sound = λ i k s pair. volume_none o.told o.image o.disk i k s rule b.0 pair breaks; others = λ name image disk. same_others o x name u; counted = omega (arith, counted, h.runs.later, h.made.counted) } }
  where
    m : IsMade o h.old h.run
    m = h.made

    viewed : Viewed h.old c h.run r
    viewed = h.unbooted.2

    u : Untouched o x
    u = record { files = viewed_files o h.old c h.run r x.told m viewed leaves; unread = streams }

    breaks : BreaksVolume o.told o.image o.disk rule b.0
    breaks = record {
      words = h.old.words;
      holds = made_holds o h.old h.run m;
      fails = inr (bytes_of m.disk.words, h.old.disk, m.disk.file.bytes, made_in o h.old h.run m, fails_pair h.old h.old.words h.old.disk rule b.0 refl refl h.unbooted.1);
    }

-- the image could not be saved
pub unsaved_is : (o : Outset) (c : Contents) (r : Running) (x : Outcome) → AreFound o → o.image ≢ o.disk → o.faults ≤ c.faults.count → UnsavedAs o c r x → IsUnsaved o x
unsaved_is o c r x found two counted h = record {
  found = found;
  image = others_unsaved o c x.told o.image h.leaves two;
  rose = rose_later o.faults c.faults.count x.faults counted h.rose;
  made = h.made;
  left = λ e. (left_by c r, h.told e, h.rose);
}

pub every_saved : {E : Type 0} (o : Outset) (c : Contents) (r : Running) (x : Outcome) (end : PairEnd E) → o.faults ≤ c.faults.count → SavedAs o c r x → EndsNoBreach end → EndsSound o end x
every_saved o c r x end counted h none = record { sound = λ i k s pair. none; others = λ name image disk. others_saved o c r x name h image disk; counted = omega (arith, counted, h.counted) }

failed_counted : (o : Outset) (c : Contents) (r : Running) (fail : BootFail) → IsFailed o c r fail → o.faults ≤ c.faults.count
failed_counted o c r fail h = omega (arith, h.runs.later, h.made.counted)

-- whatever the machine stood for before its reboot it stands for
abbrev Stays : (o : Outset) (c : Contents) (r : Running) (fail : BootFail) → IsFailed o c r fail → Type 0
Stays o c r fail h = (s : State) → StandsFor h.old (length h.run.scratch) s → StandsFor c (length r.scratch) s

unsaved_keeps : (o : Outset) (c : Contents) (r : Running) (fail : BootFail) (x : Outcome) → (h : IsFailed o c r fail) → Stays o c r fail h → UnsavedAs o c r x → KeepsMemory o x
unsaved_keeps o c r fail x h stays unsaved = λ i k s pair. let files = files_told o.told o.image i pair.image_file in unsaved_memory o c r x files.0 s files.1 unsaved (stays s (made_stands o h.old h.run i k s h.made pair))

saved_keeps : (o : Outset) (c : Contents) (r : Running) (fail : BootFail) (x : Outcome) → (h : IsFailed o c r fail) → o.image ≢ o.disk → Stays o c r fail h → SavedAs o c r x → KeepsMemory o x
saved_keeps o c r fail x h two stays saved = λ i k s pair. let files = files_told o.told o.image i pair.image_file in saved_memory o c r x files.0 s files.1 two saved (stays s (made_stands o h.old h.run i k s h.made pair))

ended_unsaved : {E : Type 0} (o : Outset) (c : Contents) (r : Running) (fail : BootFail) (x : Outcome) → (h : IsFailed o c r fail) → o.image ≢ o.disk → x.streams ≡ o.streams → Stays o c r fail h → UnsavedAs o c r x → EndedEarly {E = E} o (Unsaved None) x
ended_unsaved o c r fail x h two streams stays unsaved = record {
  ends = (unsaved_is o c r x (made_found o h.old h.run h.made) two counted unsaved, streams, pair_or_kept (Viewed h.old c h.run r) o x (λ viewed. viewed_files o h.old c h.run r x.told h.made viewed unsaved.leaves) (looked_pair o c r fail h), unsaved_keeps o c r fail x h stays unsaved);
  every = record { sound = λ i k s pair. tt; others = λ name image disk. others_unsaved o c x.told name unsaved.leaves disk; counted = omega (arith, counted, unsaved.counted) };
}
  where
    counted : o.faults ≤ c.faults.count
    counted = failed_counted o c r fail h

memory_stays : (o : Outset) (c : Contents) (r : Running) (h : IsFailed o c r BootMemory) → Stays o c r BootMemory h
memory_stays o c r h = λ s st. viewed_survives o h.old c h.run r s h.made h.unbooted st

ended_memory : {E : Type 0} (o : Outset) (c : Contents) (r : Running) (x : Outcome) → IsFailed o c r BootMemory → o.image ≢ o.disk → x.streams ≡ o.streams → SavedAs o c r x → EndedEarly {E = E} o Memory x
ended_memory o c r x h two streams saved = record { ends = (u, inr (saved_is o c r x saved, saved_keeps o c r BootMemory x h two (memory_stays o c r h) saved), left_running c r x (viewed_runs o h.old c h.run r m viewed) saved.told); every = every_saved o c r x Memory (failed_counted o c r BootMemory h) saved tt }
  where
    m : IsMade o h.old h.run
    m = h.made

    viewed : Viewed h.old c h.run r
    viewed = h.unbooted

    u : Untouched o x
    u = record { files = viewed_saved o h.old c h.run r x m viewed saved; unread = streams }

-- what was stood for is stood for
kept_pair : (o : Outset) (c : Contents) (r : Running) (fail : BootFail) (x : Outcome) → (h : IsFailed o c r fail) → o.image ≢ o.disk → x.streams ≡ o.streams → SavedAs o c r x → Stays o c r fail h → KeepsPair o x
kept_pair o c r fail x h two streams saved stays = record {
  found = made_found o h.old h.run h.made;
  unread = streams;
  is_saved = saved_is o c r x saved;
  pair = λ i k s pair.
      let files = files_told o.told o.image i pair.image_file in
      let now = saved_pair o c r x files.0 s files.1 two saved (stays s (made_stands o h.old h.run i k s h.made pair)) in (now.image_now, now.disk_now, now.pair);
  memory = saved_keeps o c r fail x h two stays saved;
}

ended_fault : {E : Type 0} (o : Outset) (c : Contents) (r : Running) (x : Outcome) → IsFailed o c r BootFaulted → o.image ≢ o.disk → x.streams ≡ o.streams → SavedAs o c r x → EndedEarly {E = E} o BootFault x
ended_fault o c r x h two streams saved = record {
  ends = (
    kept_pair o c r BootFaulted x h two streams saved h.unbooted.1.state,
    rose_later o.faults h.old.faults.count x.faults h.made.counted (rose_stays h.old.faults.count c.faults.count x.faults h.unbooted.0 saved.counted),
    pair_or_kept (Viewed h.old c h.run r) o x (λ viewed. viewed_saved o h.old c h.run r x h.made viewed saved) (looked_pair o c r BootFaulted h),
    left_running c r x (h.unbooted.2 ∙ h.made.running) saved.told,
  );
  every = every_saved o c r x BootFault (failed_counted o c r BootFaulted h) saved tt;
}

-- what stopped a machine on which nothing was armed is its stop, and nothing trapped
stop_given : (old new : Causes) (a b : Bool) → a ≡ false → b ≡ true → old.armed ≡ None → StopCause old new a b → (new.trapped ≡ old.trapped) × (old.stop_set ≡ true)
stop_given old new a b was is unarmed h = by (subst (λ (y : Bool). StopCause old new false y) is (subst (λ (y : Bool). StopCause old new y b) was h))
  where
    by : StopCause old new false true → (new.trapped ≡ old.trapped) × (old.stop_set ≡ true)
    by (inl (at, armed, low, trapped)) = absurd (none_some at old.armed unarmed armed)
    by (inr same) = same

ended_stopped : {E : Type 0} (o : Outset) (c : Contents) (r : Running) (x : Outcome) → IsFailed o c r BootStop → o.image ≢ o.disk → x.streams ≡ o.streams → SavedAs o c r x → EndedEarly {E = E} o BootStopped x
ended_stopped o c r x h two streams saved = record {
  ends = (
    kept_pair o c r BootStop x h two streams saved h.unbooted.1.state,
    sym h.made.stop_set ∙ cause.1,
    λ e. (left_by c r, saved.told e, h.unbooted.0, cause.0 ∙ h.made.untrapped),
    pair (looked_pair o c r BootStop h),
  );
  every = every_saved o c r x BootStopped (failed_counted o c r BootStop h) saved tt;
}
  where
    -- a machine that was only read would run on
    pair : IsSomePair o ⊎ Viewed h.old c h.run r → IsSomePair o
    pair (inl some) = some
    pair (inr viewed) = absurd (true_false (sym h.unbooted.0 ∙ viewed_runs o h.old c h.run r h.made viewed))

    cause : ((causes_of r).trapped ≡ (causes_of h.run).trapped) × ((causes_of h.run).stop_set ≡ true)
    cause = stop_given (causes_of h.run) (causes_of r) h.run.stopped r.stopped h.made.running h.unbooted.0 h.made.unarmed h.runs.cause

-- either the image was saved, or it was not
either : {E : Type 0} (o : Outset) (c : Contents) (r : Running) (fail : BootFail) (x : Outcome) (end told : PairEnd E) → o.image ≢ o.disk → x.streams ≡ o.streams → (h : IsFailed o c r fail) → Stays o c r fail h → (SavedAs o c r x → EndedEarly o end x) → SavedOrNot end told o c r x → EndedEarly o told x
either {E} o c r fail x end told two streams h stays on (inl (is, saved)) = subst (λ (y : PairEnd E). EndedEarly o y x) (sym is) (on saved)
either {E} o c r fail x end told two streams h stays on (inr (is, unsaved)) = subst (λ (y : PairEnd E). EndedEarly o y x) (sym is) (ended_unsaved o c r fail x h two streams stays unsaved)

pub either_memory : {E : Type 0} (o : Outset) (c : Contents) (r : Running) (x : Outcome) (told : PairEnd E) → o.image ≢ o.disk → x.streams ≡ o.streams → IsFailed o c r BootMemory → SavedOrNot Memory told o c r x → EndedEarly o told x
either_memory o c r x told two streams h = either o c r BootMemory x Memory told two streams h (memory_stays o c r h) (ended_memory o c r x h two streams)

pub either_fault : {E : Type 0} (o : Outset) (c : Contents) (r : Running) (x : Outcome) (told : PairEnd E) → o.image ≢ o.disk → x.streams ≡ o.streams → IsFailed o c r BootFaulted → SavedOrNot BootFault told o c r x → EndedEarly o told x
either_fault o c r x told two streams h = either o c r BootFaulted x BootFault told two streams h h.unbooted.1.state (ended_fault o c r x h two streams)

pub either_stopped : {E : Type 0} (o : Outset) (c : Contents) (r : Running) (x : Outcome) (told : PairEnd E) → o.image ≢ o.disk → x.streams ≡ o.streams → IsFailed o c r BootStop → SavedOrNot BootStopped told o c r x → EndedEarly o told x
either_stopped o c r x told two streams h = either o c r BootStop x BootStopped told two streams h h.unbooted.1.state (ended_stopped o c r x h two streams)
