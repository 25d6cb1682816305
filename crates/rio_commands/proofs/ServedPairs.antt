-- Lines served over files that are a pair: what the files are a pair of afterwards.
use Rattle.std.proofs.Common.{◌≡◌, ◌≢◌, ◌≤◌, ℕ, suc, zero, true, List, refl, sym, ap, subst, ◌∙◌, inl, inr, arith}
use Rattle.std.specs.Prelude.{Option, Some, None, ◌⊎◌}
use Rattle.rio_base.specs.Bytes.{bytes_of}
use Rattle.rio_base.specs.Failures.{Rose, RoseBy}
use Rattle.rio_base.specs.Hosts.{Files}
use Rattle.machine_bench.specs.Benches.{Leaving}
use Rattle.rio_model.specs.declared.state.State.{State}
use Rattle.rio_requests.specs.Crash.{crashed}
use Rattle.rio_requests.specs.Went.{faults_in}
use Rattle.rio_core.specs.Lines.{core_protocol}
use Rattle.line_loop.specs.ServeRun.{Serves}
use Rattle.line_loop.specs.declared.ends.ServeEnd.{ServeEnd}
use Rattle.line_loop.specs.declared.ends.ServeEnd.TheVariants.{End, SourceFault, SinkFault, InputLimit, Memory as NoMemory, Stopped}
use Rattle.pair_files.specs.Ends.{Ended, Goes, IsSaved, KeepsMemory, LeavesMemory, Outcome, Outset, Works}
use Rattle.pair_files.specs.Pairs.{HasPair, IsPair}
use Rattle.pair_files.specs.Scenes.{Scene, Streams, streams_of}
use Rattle.pair_files.specs.declared.ends.PairEnd.{PairEnd}
use Rattle.pair_files.specs.declared.ends.PairEnd.TheVariants.{Absent, BadImage, BadVolume, BootFault, BootStopped, HostFault, Memory, Unsaved, Worked}
use Rattle.pair_files.specs.declared.names.PairFile.TheVariants.{Image, Disk}
use Rattle.line_loop.specs.LinesEnds.{trap_of}
use Rattle.pair_serving.specs.ServedScenes.{RunsFrom, Served}
use Rattle.line_loop.specs.declared.ends.LinesEnd.{LinesEnd}
use Rattle.line_loop.specs.declared.ends.LinesEnd.TheVariants.{Ended as LoopEnded, Trapped}
use Rattle.rio_core.proofs.Sizes.{keeps_then, part_keeps, run_keeps}
use Rattle.rio_commands.specs.Outside.{Benched, Outside}
use Rattle.rio_commands.specs.ServeLines.{serve_status}
use Rattle.rio_commands.specs.Serve.{KeepsServed, LeavesPair, LinesServe, ReadsNoFlush, RunServes, ServesLines, ServesNone, StopsAt, StopsLines, does_serve, outcome_at, outset_at}
use Rattle.rio_commands.proofs.StopCauses.{IsCalm, calm_at, stops_by}

-- ---- scenes, by what is known of them

abbrev pub scene_with : State → Scene → Streams → Scene
scene_with s a p = record { state = s; health = a.health; below = a.below; streams = p }

pub served_as : (s : State) (p q : Streams) (a b : Scene) (e : LinesEnd) → a.state ≡ s → a.streams ≡ p → b.streams ≡ q → Served a e b → Served (scene_with s a p) e (scene_with b.state b q)
served_as s p q a b e state before after h =
    subst (λ (u : State). Served (scene_with u a p) e (scene_with b.state b q)) state
    (subst (λ (r : Streams). Served (scene_with a.state a r) e (scene_with b.state b q)) before
    (subst (λ (r : Streams). Served a e (scene_with b.state b r)) after h))

-- ---- replies that tell of a fault

rose_within : (n a b c d : ℕ) → a ≤ b → c ≤ d → RoseBy n b c → RoseBy n a d
rose_within n a b c d low high (inl few) = inl (omega (arith, low, high, few))
rose_within n a b c d low high (inr full) = inr (omega (arith, high, full))

none_told : (n a b : ℕ) → (Rose a b → ⊥) → RoseBy n a b → n ≡ 0
none_told zero a b none rose = refl
none_told (suc n) a b none (inl few) = absurd (none (inl (omega (arith, few))))
none_told (suc n) a b none (inr full) = absurd (none (inr full))

-- ---- what was served

-- what the source has left and the sink has taken, before and after
abbrev pub streams_before : Outside → Streams
streams_before old = streams_of old.left old.written old.source_faults old.sink_faults

abbrev pub streams_behind : Outside → Option (List ℕ) → ℕ → Streams
streams_behind new replied faults = streams_of new.left replied new.source_faults faults

abbrev lines_by : (e : ServeEnd) (s t after : State) (old new : Outside) (replied : Option (List ℕ)) (serves : Serves core_protocol s t e old.left new.left old.written replied) (low high : ℕ)
    → after ≡ crashed t → RoseBy (faults_in serves.run.replies) low high → old.host_faults ≤ low → high ≤ new.host_faults → ServesLines e s after old new replied
lines_by e s t after old new replied serves low high left counted first last = record {
  state = t;
  serves = serves;
  leaves = left;
  faults = rose_within (faults_in serves.run.replies) old.host_faults low high new.host_faults first last counted;
  faultless = λ none. none_told (faults_in serves.run.replies) old.host_faults new.host_faults none (rose_within (faults_in serves.run.replies) old.host_faults low high new.host_faults first last counted);
}

-- lines that were stopped
abbrev pub stops_at : (e : LinesEnd) (s : State) (old new : Outside) (replied : Option (List ℕ)) (faults : ℕ) (a b : Scene) → IsCalm s a.below → RunsFrom (scene_with s a (streams_before old)) Stopped (scene_with b.state b (streams_behind new replied faults)) → b.below.causes.trapped ≡ trap_of e → StopsAt e s old new replied
stops_at e s old new replied faults a b calm run trapped = record {
  state = run.0;
  request = run.1;
  stops = run.3;
  stopped_by = stops_by s run.3.replied.requests run.3.replies run.1 a.health a.below run.6 run.7 b.health b.below calm run.8 run.9 e trapped;
}

abbrev stop_lines : (e : LinesEnd) (s : State) (old new : Outside) (replied : Option (List ℕ)) (faults : ℕ) (a b : Scene) → IsCalm s a.below → RunsFrom (scene_with s a (streams_before old)) Stopped (scene_with b.state b (streams_behind new replied faults)) → b.below.causes.trapped ≡ trap_of e → old.host_faults ≤ a.health.faults → b.health.faults ≤ new.host_faults
    → StopsLines e s b.state old new replied
stop_lines e s old new replied faults a b calm run trapped low high = record {
  line = stops_at e s old new replied faults a b calm run trapped;
  part = run.2;
  is_part = run.4;
  leaves = run.5;
  faults = let more = run.9.later in rose_within (faults_in run.3.replies) old.host_faults a.health.faults run.6.faults new.host_faults low (omega (arith, more, high)) run.8.counted;
}

-- the run, and that where no line is a flush the disk is as the reboot left it
abbrev pub RunTold : LinesEnd → State → Outside → Outside → Option (List ℕ) → Scene → Scene → Type 0
RunTold e s old new replied a b = (run : LinesServe e s b.state old new replied) × (a.below.roomy ≡ true → ReadsNoFlush (Worked e) s b.state old new replied run → b.below.home ≡ a.below.home)

run_told : (e : LinesEnd) (s : State) (old new : Outside) (replied : Option (List ℕ)) (faults : ℕ) (a b : Scene) → IsCalm s a.below → Served (scene_with s a (streams_before old)) e (scene_with b.state b (streams_behind new replied faults)) → old.host_faults ≤ a.health.faults → b.health.faults ≤ new.host_faults
    → RunTold e s old new replied a b
run_told (LoopEnded End) s old new replied faults a b calm h low high = (lines_by End s h.run.0 b.state old new replied h.run.2 a.health.faults b.health.faults h.run.1 h.run.3.counted low high, λ roomy none. h.quiet roomy none)
run_told (LoopEnded SourceFault) s old new replied faults a b calm h low high = (lines_by SourceFault s h.run.0 b.state old new replied h.run.2 a.health.faults b.health.faults h.run.1 h.run.3.counted low high, λ roomy none. h.quiet roomy none)
run_told (LoopEnded SinkFault) s old new replied faults a b calm h low high = (lines_by SinkFault s h.run.0 b.state old new replied h.run.2 a.health.faults b.health.faults h.run.1 h.run.3.counted low high, λ roomy none. h.quiet roomy none)
run_told (LoopEnded InputLimit) s old new replied faults a b calm h low high = (lines_by InputLimit s h.run.0 b.state old new replied h.run.2 a.health.faults b.health.faults h.run.1 h.run.3.counted low high, λ roomy none. h.quiet roomy none)
run_told (LoopEnded NoMemory) s old new replied faults a b calm h low high = (lines_by NoMemory s h.run.0 b.state old new replied h.run.2 a.health.faults b.health.faults h.run.1 h.run.3.counted low high, λ roomy none. h.quiet roomy none)
run_told (LoopEnded Stopped) s old new replied faults a b calm h low high = (stop_lines (LoopEnded Stopped) s old new replied faults a b calm h.run (h.trapped refl) low high, λ roomy none. h.quiet roomy none)
run_told (Trapped at) s old new replied faults a b calm h low high = (stop_lines (Trapped at) s old new replied faults a b calm h.run (h.trapped refl) low high, λ roomy none. h.quiet roomy none)

-- the same of a work
goes_told : (image disk : List ℕ) (stop : Option ℕ) (old new : Outside) (replied : Option (List ℕ)) (faults : ℕ) (bench : Benched) (e : LinesEnd) (s : State) (a b : Scene)
    → Goes (outset_at image disk stop old) (does_serve e) (outcome_at new replied faults bench) s a b → b.health.faults ≤ new.host_faults → RunTold e s old new replied a b
goes_told image disk stop old new replied faults bench e s a b h high =
    run_told e s old new replied faults a b (calm_at (outset_at image disk stop old) s a h.begins) (served_as s (streams_before old) (streams_behind new replied faults) a b e h.begins.state h.begins.unread h.ends h.leads) h.begins.counted high

-- no line was read of a run whose streams are as before
none_read : (s : State) (old new : Outside) (replied : Option (List ℕ)) (faults : ℕ) → streams_behind new replied faults ≡ streams_before old → ServesNone s s old new replied
none_read s old new replied faults same = record { same = refl; unread = ap (λ (p : Streams). p.left) same; unwritten = ap (λ (p : Streams). p.written) same }

-- no request changes the volume's sizes
stop_shape : (e : LinesEnd) (s after : State) (old new : Outside) (replied : Option (List ℕ)) → StopsLines e s after old new replied → after.shape ≡ s.shape
stop_shape e s after old new replied h = ap (λ (u : State). u.shape) h.leaves ∙ (keeps_then s h.line.state h.part (run_keeps s _ _ h.line.state h.line.stops.replied.run) (part_keeps h.line.state h.line.request h.part h.is_part)).shape

shape_kept : (e : LinesEnd) (s after : State) (old new : Outside) (replied : Option (List ℕ)) → RunServes (Worked e) s after old new replied → after.shape ≡ s.shape
shape_kept (Trapped at) s after old new replied h = stop_shape (Trapped at) s after old new replied h
shape_kept (LoopEnded Stopped) s after old new replied h = stop_shape (LoopEnded Stopped) s after old new replied h
shape_kept (LoopEnded End) s after old new replied h = ap (λ (u : State). u.shape) h.leaves ∙ (run_keeps s _ _ h.state h.serves.run.replied.run).shape
shape_kept (LoopEnded SourceFault) s after old new replied h = ap (λ (u : State). u.shape) h.leaves ∙ (run_keeps s _ _ h.state h.serves.run.replied.run).shape
shape_kept (LoopEnded SinkFault) s after old new replied h = ap (λ (u : State). u.shape) h.leaves ∙ (run_keeps s _ _ h.state h.serves.run.replied.run).shape
shape_kept (LoopEnded InputLimit) s after old new replied h = ap (λ (u : State). u.shape) h.leaves ∙ (run_keeps s _ _ h.state h.serves.run.replied.run).shape
shape_kept (LoopEnded NoMemory) s after old new replied h = ap (λ (u : State). u.shape) h.leaves ∙ (run_keeps s _ _ h.state h.serves.run.replied.run).shape

-- ---- the pair

worked_pair : (image disk : List ℕ) (stop : Option ℕ) (old new : Outside) (replied : Option (List ℕ)) (faults : ℕ) (bench : Benched) (e : LinesEnd) (i k : List ℕ) (s : State)
    → Works (outset_at image disk stop old) (does_serve e) (outcome_at new replied faults bench) i k s → LeavesPair (Worked e) image disk i k s old new replied
worked_pair image disk stop old new replied faults bench e i k s w = by (goes_told image disk stop old new replied faults bench e s w.begin w.after w.goes w.counted)
  where
    by : RunTold e s old new replied w.begin w.after → LeavesPair (Worked e) image disk i k s old new replied
    by (run, quiet) = record {
      after = w.after.state;
      image_now = w.image_now;
      disk_now = w.disk_now;
      pair = w.pair;
      serves = run;
      restored = λ roomy none. w.restored roomy (quiet (w.roomy roomy) none) (shape_kept e s w.after.state old new replied run);
    }

pub leaves_pair : (image disk : List ℕ) (stop : Option ℕ) (old new : Outside) (replied : Option (List ℕ)) (faults : ℕ) (bench : Benched) (end : PairEnd LinesEnd) (i k : List ℕ) (s : State)
    → Ended (outset_at image disk stop old) does_serve end (outcome_at new replied faults bench) → HasPair old.files image disk i k s → serve_status end ≢ 7 → LeavesPair end image disk i k s old new replied
leaves_pair image disk stop old new replied faults bench (Worked e) i k s h pair fine = worked_pair image disk stop old new replied faults bench e i k s (h.ends.3 i k s pair)
leaves_pair image disk stop old new replied faults bench Memory i k s h pair fine = record {
  after = s;
  image_now = i;
  disk_now = k;
  pair = subst (λ (files : Option Files). HasPair files image disk i k s) (sym h.ends.0.files) pair;
  serves = none_read s old new replied faults h.ends.0.unread;
  restored = λ roomy none. absurd none;
}
leaves_pair image disk stop old new replied faults bench BootFault i k s h pair fine =
    let now = h.ends.0.pair i k s pair in
    record {
      after = s;
      image_now = now.0;
      disk_now = now.1;
      pair = now.2;
      serves = none_read s old new replied faults h.ends.0.unread;
      restored = λ roomy none. absurd none;
    }
leaves_pair image disk stop old new replied faults bench BootStopped i k s h pair fine =
    let now = h.ends.0.pair i k s pair in
    record {
      after = s;
      image_now = now.0;
      disk_now = now.1;
      pair = now.2;
      serves = none_read s old new replied faults h.ends.0.unread;
      restored = λ roomy none. absurd none;
    }
leaves_pair image disk stop old new replied faults bench (Absent file) i k s h pair fine = absurd (h.every.sound i k s pair)
leaves_pair image disk stop old new replied faults bench (BadImage rule) i k s h pair fine = absurd (h.every.sound i k s pair)
leaves_pair image disk stop old new replied faults bench (BadVolume rule b) i k s h pair fine = absurd (h.every.sound i k s pair)
leaves_pair image disk stop old new replied faults bench (HostFault file) i k s h pair fine = absurd (fine refl)
leaves_pair image disk stop old new replied faults bench (Unsaved e) i k s h pair fine = absurd (fine refl)

-- ---- memory as it was left

some_left : (x y : Leaving) → Some x ≡ Some y → x ≡ y
some_left x y e = cc

-- what the bench tells of it
keeps_served : (image disk : List ℕ) (stop : Option ℕ) (old new : Outside) (replied : Option (List ℕ)) (faults : ℕ) (bench : Benched) (end : PairEnd LinesEnd) (s after : State) (l : Leaving)
    → LeavesMemory (outset_at image disk stop old) (outcome_at new replied faults bench) after → bench.tells ≡ true → bench.left ≡ Some l → RunServes end s after old new replied → KeepsServed end disk s old new replied l
keeps_served image disk stop old new replied faults bench end s after l m tells left serves =
    let told = m.pair tells in
    record {
      after = after;
      disk_now = m.disk_now;
      disk_file = m.disk_file;
      pair = subst (λ (y : Leaving). IsPair (bytes_of y.words) m.disk_now after) (some_left told.0 l (sym told.1 ∙ left)) told.2;
      serves = serves;
    }

module _ (image disk : List ℕ) (stop : Option ℕ) (old new : Outside) (replied : Option (List ℕ)) (faults : ℕ) (bench : Benched) where
  abbrev Found : Outset
  Found = outset_at image disk stop old

  abbrev Left : Outcome
  Left = outcome_at new replied faults bench

  made_memory : (n : ℕ) → bench.pages ≡ Some n → (bench.pages ≡ None) ⊎ (IsSaved Found Left × KeepsMemory Found Left) → KeepsMemory Found Left
  made_memory n made (inl none) = absurd (cc (none, made))
  made_memory n made (inr kept) = kept.1

  pub memory_kept : (end : PairEnd LinesEnd) (i k : List ℕ) (s : State) (n : ℕ) (l : Leaving) → Ended Found does_serve end Left → HasPair old.files image disk i k s → bench.pages ≡ Some n → bench.tells ≡ true → bench.left ≡ Some l → KeepsServed end disk s old new replied l
  memory_kept (Worked e) i k s n l h pair made tells left =
      let w = h.ends.3 i k s pair in
      keeps_served image disk stop old new replied faults bench (Worked e) s w.after.state l w.memory tells left (goes_told image disk stop old new replied faults bench e s w.begin w.after w.goes w.counted).0
  memory_kept (Unsaved (Some e)) i k s n l h pair made tells left =
      let w = h.ends.3 i k s pair in
      keeps_served image disk stop old new replied faults bench (Unsaved (Some e)) s w.after.state l w.memory tells left (goes_told image disk stop old new replied faults bench e s w.begin w.after w.goes w.counted).0
  memory_kept (Unsaved None) i k s n l h pair made tells left =
      keeps_served image disk stop old new replied faults bench (Unsaved None) s s l (h.ends.3 i k s pair) tells left (none_read s old new replied faults h.ends.1)
  memory_kept Memory i k s n l h pair made tells left =
      keeps_served image disk stop old new replied faults bench Memory s s l (made_memory n made h.ends.1 i k s pair) tells left (none_read s old new replied faults h.ends.0.unread)
  memory_kept BootFault i k s n l h pair made tells left =
      keeps_served image disk stop old new replied faults bench BootFault s s l (h.ends.0.memory i k s pair) tells left (none_read s old new replied faults h.ends.0.unread)
  memory_kept BootStopped i k s n l h pair made tells left =
      keeps_served image disk stop old new replied faults bench BootStopped s s l (h.ends.0.memory i k s pair) tells left (none_read s old new replied faults h.ends.0.unread)
  memory_kept (HostFault Image) i k s n l h pair made tells left = absurd (let none = h.ends.1 in cc (none, made))
  memory_kept (HostFault Disk) i k s n l h pair made tells left = absurd (let none = h.ends.1 in cc (none, made))
  memory_kept (Absent file) i k s n l h pair made tells left = absurd (h.every.sound i k s pair)
  memory_kept (BadImage rule) i k s n l h pair made tells left = absurd (h.every.sound i k s pair)
  memory_kept (BadVolume rule b) i k s n l h pair made tells left = absurd (h.every.sound i k s pair)
