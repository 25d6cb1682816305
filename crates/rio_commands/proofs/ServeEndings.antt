-- What a run of `serve` comes to, by how the work on its files ended, and what its status says.
use Rattle.std.proofs.Common.{◌≡◌, ◌≢◌, ◌<◌, ◌≤◌, ◌^◌, ◌+◌, ℕ, true, List, length, refl, sym, ap, subst, ◌∙◌, inl, inr, arith, length-append}
use Rattle.std.specs.Prelude.{Option, Some, None, ◌⊎◌, is_some}
use Rattle.rio_base.specs.Failures.{Rose}
use Rattle.rio_base.specs.Hosts.{Files, IsAbsent}
use Rattle.rio_base.specs.Streams.{IsSpent, prepended}
use Rattle.rio_base.proofs.Rules.{rose_stays}
use Rattle.machine_bench.specs.Benches.{Leaving}
use Rattle.rio_model.specs.declared.state.State.{State}
use Rattle.line_loop.specs.declared.ends.ServeEnd.{ServeEnd}
use Rattle.line_loop.specs.declared.ends.ServeEnd.TheVariants.{End, SourceFault, SinkFault, InputLimit, Memory as NoMemory, Stopped}
use Rattle.pair_files.specs.Ends.{Ended, HasBegun, IsDone, IsSaved, KeepsMemory, Outcome, Outset}
use Rattle.pair_files.specs.Images.{Breaks}
use Rattle.pair_files.specs.Pairs.{BreaksVolume, HasPair, file_of}
use Rattle.pair_files.specs.Scenes.{Streams}
use Rattle.pair_files.specs.declared.ends.PairEnd.{PairEnd}
use Rattle.pair_files.specs.declared.ends.PairEnd.TheVariants.{Absent, BadImage, BadVolume, BootFault, BootStopped, HostFault, Memory, Unsaved, Worked}
use Rattle.pair_files.specs.declared.names.PairFile.TheVariants.{Image, Disk}
use Rattle.line_loop.specs.LinesEnds.{loop_end}
use Rattle.pair_serving.specs.ServedScenes.{RunsFrom, Served}
use Rattle.line_loop.specs.Strikes.{AsksNoStrike}
use Rattle.line_loop.specs.declared.ends.LinesEnd.{LinesEnd}
use Rattle.line_loop.specs.declared.ends.LinesEnd.TheVariants.{Ended as LoopEnded, Trapped}
use Rattle.rio_commands.specs.Command.{WritesLine}
use Rattle.rio_commands.specs.Outside.{Benched, HostRose, Outside, SinkRose, SourceRose}
use Rattle.rio_commands.specs.ServeLines.{lines_status, loop_line, serve_line, serve_status, stop_line, stopped_line, trapped_line}
use Rattle.rio_commands.specs.Serve.{MadeStatus, ServeCauses, ServeRuns, Stops, StopsAt, Untouched, does_serve, outcome_at, outset_at, trap_told}
use Rattle.rio_commands.proofs.InputLines.{given_all}
use Rattle.rio_commands.proofs.ServeRefusals.{refusals}
use Rattle.rio_commands.proofs.ServedPairs.{leaves_pair, memory_kept, scene_with, served_as, stops_at, streams_before, streams_behind}
use Rattle.rio_commands.proofs.StoppedMachines.{stopped_told}
use Rattle.rio_commands.proofs.StopCauses.{calm_at, no_trap, stop_given}

-- ---- which end has a status

no_lines : (e : ServeEnd) (n : ℕ) → n ≡ lines_status e → (n ≢ 2) × (n ≢ 3) × (n ≢ 4) × (n ≢ 5) × (n ≢ 7)
no_lines End n is = (λ e. omega (arith, is, e), λ e. omega (arith, is, e), λ e. omega (arith, is, e), λ e. omega (arith, is, e), λ e. omega (arith, is, e))
no_lines NoMemory n is = (λ e. omega (arith, is, e), λ e. omega (arith, is, e), λ e. omega (arith, is, e), λ e. omega (arith, is, e), λ e. omega (arith, is, e))
no_lines SourceFault n is = (λ e. omega (arith, is, e), λ e. omega (arith, is, e), λ e. omega (arith, is, e), λ e. omega (arith, is, e), λ e. omega (arith, is, e))
no_lines SinkFault n is = (λ e. omega (arith, is, e), λ e. omega (arith, is, e), λ e. omega (arith, is, e), λ e. omega (arith, is, e), λ e. omega (arith, is, e))
no_lines Stopped n is = (λ e. omega (arith, is, e), λ e. omega (arith, is, e), λ e. omega (arith, is, e), λ e. omega (arith, is, e), λ e. omega (arith, is, e))
no_lines InputLimit n is = (λ e. omega (arith, is, e), λ e. omega (arith, is, e), λ e. omega (arith, is, e), λ e. omega (arith, is, e), λ e. omega (arith, is, e))

-- words that are read are not refused
pub serve_not_2 : (end : PairEnd LinesEnd) (n : ℕ) → n ≡ serve_status end → n ≢ 2
serve_not_2 (Worked e) n is told = (no_lines (loop_end e) n is).0 told
serve_not_2 (BadImage rule) n is told = omega (arith, is, told)
serve_not_2 (BadVolume rule b) n is told = omega (arith, is, told)
serve_not_2 BootFault n is told = omega (arith, is, told)
serve_not_2 Memory n is told = omega (arith, is, told)
serve_not_2 (Absent file) n is told = omega (arith, is, told)
serve_not_2 (HostFault file) n is told = omega (arith, is, told)
serve_not_2 (Unsaved e) n is told = omega (arith, is, told)
serve_not_2 BootStopped n is told = omega (arith, is, told)

-- the end of lines with each status
lines_end : (e : ServeEnd) (n : ℕ) → n ≡ lines_status e
    → (n ≡ 0 → e ≡ End) × (n ≡ 6 → e ≡ NoMemory) × (n ≡ 8 → e ≡ SourceFault) × (n ≡ 9 → e ≡ SinkFault) × (n ≡ 10 → e ≡ Stopped) × (n ≡ 11 → e ≡ InputLimit)
lines_end End n is = (λ k. refl, λ k. absurd (omega (arith, is, k)), λ k. absurd (omega (arith, is, k)), λ k. absurd (omega (arith, is, k)), λ k. absurd (omega (arith, is, k)), λ k. absurd (omega (arith, is, k)))
lines_end NoMemory n is = (λ k. absurd (omega (arith, is, k)), λ k. refl, λ k. absurd (omega (arith, is, k)), λ k. absurd (omega (arith, is, k)), λ k. absurd (omega (arith, is, k)), λ k. absurd (omega (arith, is, k)))
lines_end SourceFault n is = (λ k. absurd (omega (arith, is, k)), λ k. absurd (omega (arith, is, k)), λ k. refl, λ k. absurd (omega (arith, is, k)), λ k. absurd (omega (arith, is, k)), λ k. absurd (omega (arith, is, k)))
lines_end SinkFault n is = (λ k. absurd (omega (arith, is, k)), λ k. absurd (omega (arith, is, k)), λ k. absurd (omega (arith, is, k)), λ k. refl, λ k. absurd (omega (arith, is, k)), λ k. absurd (omega (arith, is, k)))
lines_end Stopped n is = (λ k. absurd (omega (arith, is, k)), λ k. absurd (omega (arith, is, k)), λ k. absurd (omega (arith, is, k)), λ k. absurd (omega (arith, is, k)), λ k. refl, λ k. absurd (omega (arith, is, k)))
lines_end InputLimit n is = (λ k. absurd (omega (arith, is, k)), λ k. absurd (omega (arith, is, k)), λ k. absurd (omega (arith, is, k)), λ k. absurd (omega (arith, is, k)), λ k. absurd (omega (arith, is, k)), λ k. refl)

worked : (e f : LinesEnd) → e ≡ f → Worked e ≡ Worked f
worked e f is = ap (λ (g : LinesEnd). Worked g) is

-- any end of the loop but a stop is told as it is
loop_is : (e : LinesEnd) (f : ServeEnd) → loop_end e ≡ f → f ≢ Stopped → Worked e ≡ Worked (LoopEnded f)
loop_is (LoopEnded e) f is other = worked (LoopEnded e) (LoopEnded f) (ap (λ (g : ServeEnd). LoopEnded g) is)
loop_is (Trapped at) f is other = absurd (other (sym is))

-- a status of lines that no other end has
of_lines : (end : PairEnd LinesEnd) (n : ℕ) → n ≡ serve_status end
    → (n ≡ 0 → end ≡ Worked (LoopEnded End)) × (n ≡ 8 → end ≡ Worked (LoopEnded SourceFault)) × (n ≡ 9 → end ≡ Worked (LoopEnded SinkFault)) × (n ≡ 11 → end ≡ Worked (LoopEnded InputLimit))
of_lines (Worked e) n is =
    let at = lines_end (loop_end e) n is in (λ k. loop_is e End (at.0 k) (λ x. cc), λ k. loop_is e SourceFault (at.2 k) (λ x. cc), λ k. loop_is e SinkFault (at.3 k) (λ x. cc), λ k. loop_is e InputLimit (at.5 k) (λ x. cc))
of_lines (BadImage rule) n is = (λ k. absurd (omega (arith, is, k)), λ k. absurd (omega (arith, is, k)), λ k. absurd (omega (arith, is, k)), λ k. absurd (omega (arith, is, k)))
of_lines (BadVolume rule b) n is = (λ k. absurd (omega (arith, is, k)), λ k. absurd (omega (arith, is, k)), λ k. absurd (omega (arith, is, k)), λ k. absurd (omega (arith, is, k)))
of_lines BootFault n is = (λ k. absurd (omega (arith, is, k)), λ k. absurd (omega (arith, is, k)), λ k. absurd (omega (arith, is, k)), λ k. absurd (omega (arith, is, k)))
of_lines Memory n is = (λ k. absurd (omega (arith, is, k)), λ k. absurd (omega (arith, is, k)), λ k. absurd (omega (arith, is, k)), λ k. absurd (omega (arith, is, k)))
of_lines (Absent file) n is = (λ k. absurd (omega (arith, is, k)), λ k. absurd (omega (arith, is, k)), λ k. absurd (omega (arith, is, k)), λ k. absurd (omega (arith, is, k)))
of_lines (HostFault file) n is = (λ k. absurd (omega (arith, is, k)), λ k. absurd (omega (arith, is, k)), λ k. absurd (omega (arith, is, k)), λ k. absurd (omega (arith, is, k)))
of_lines (Unsaved e) n is = (λ k. absurd (omega (arith, is, k)), λ k. absurd (omega (arith, is, k)), λ k. absurd (omega (arith, is, k)), λ k. absurd (omega (arith, is, k)))
of_lines BootStopped n is = (λ k. absurd (omega (arith, is, k)), λ k. absurd (omega (arith, is, k)), λ k. absurd (omega (arith, is, k)), λ k. absurd (omega (arith, is, k)))

-- ---- how the work on the files ended

abbrev EndedAs : List ℕ → List ℕ → Option ℕ → Outside → Outside → Option (List ℕ) → ℕ → Benched → PairEnd LinesEnd → Type 0
EndedAs image disk stop old new replied faults bench end = Ended (outset_at image disk stop old) does_serve end (outcome_at new replied faults bench)

-- lines that were served from some state
served_some : (image disk : List ℕ) (stop : Option ℕ) (old new : Outside) (replied : Option (List ℕ)) (faults : ℕ) (bench : Benched) (e : LinesEnd) → (d : IsDone (outset_at image disk stop old) (does_serve e) (outcome_at new replied faults bench))
    → Served (scene_with d.state d.begin (streams_before old)) e (scene_with d.after.state d.after (streams_behind new replied faults))
served_some image disk stop old new replied faults bench e d =
    served_as d.state (streams_before old) (streams_behind new replied faults) d.begin d.after e d.goes.begins.state d.goes.begins.unread d.goes.ends d.goes.leads

stop_asked : (stop : Option ℕ) → is_some stop ≡ true → (steps : ℕ) × (stop ≡ Some steps)
stop_asked (Some steps) is = (steps, refl)
stop_asked None is = absurd (cc is)

-- where no store trapped, lines stop the machine only where that was asked for
lines_stop : (image disk : List ℕ) (stop : Option ℕ) (old new : Outside) (replied : Option (List ℕ)) (faults : ℕ) (bench : Benched) → IsDone (outset_at image disk stop old) (does_serve (LoopEnded Stopped)) (outcome_at new replied faults bench) → (steps : ℕ) × (stop ≡ Some steps)
lines_stop image disk stop old new replied faults bench d =
    let run = d.goes.leads.run in
    stop_asked stop
    (sym d.goes.begins.stop_set
    ∙ stop_given d.state run.3.replied.requests run.3.replies run.1 d.begin.health d.begin.below run.6 run.7 d.after.health d.after.below (calm_at (outset_at image disk stop old) d.state d.begin d.goes.begins) run.8 run.9 (d.goes.leads.trapped refl))

-- on which line
line_stopped : (image disk : List ℕ) (stop : Option ℕ) (old new : Outside) (replied : Option (List ℕ)) (faults : ℕ) (bench : Benched) (e : LinesEnd) → loop_end e ≡ Stopped → IsDone (outset_at image disk stop old) (does_serve e) (outcome_at new replied faults bench) → (s : State) × StopsAt e s old new replied
line_stopped image disk stop old new replied faults bench e is d =
    let served = served_some image disk stop old new replied faults bench e d in
    let run = subst (λ (l : ServeEnd). RunsFrom (scene_with d.state d.begin (streams_before old)) l (scene_with d.after.state d.after (streams_behind new replied faults))) is served.run in
    (d.state, stops_at e d.state old new replied faults d.begin d.after (calm_at (outset_at image disk stop old) d.state d.begin d.goes.begins) run (served.trapped is))

-- ---- causes

module _ (image disk : List ℕ) (stop : Option ℕ) (status : ℕ) (old new : Outside) (replied : Option (List ℕ)) (faults : ℕ) (bench : Benched) where
  abbrev Ends : PairEnd LinesEnd → Type 0
  Ends end = EndedAs image disk stop old new replied faults bench end

  -- nothing was done
  untouched : new.files ≡ old.files → streams_behind new replied faults ≡ streams_before old → Untouched old new replied
  untouched files streams = record { files = files; unread = ap (λ (p : Streams). p.left) streams; unwritten = ap (λ (p : Streams). p.written) streams }

  steady : (end : PairEnd LinesEnd) → status ≡ serve_status end → Ends end → status ≡ 0 → (status ≡ 0 → new.sink_faults ≡ faults) → new.sink_faults ≡ old.sink_faults
  steady end is h told line =
      let at : Ends (Worked (LoopEnded End)) = subst Ends ((of_lines end status is).0 told) h in
      line told ∙ (served_some image disk stop old new replied faults bench (LoopEnded End) at.ends.2).steady (λ e. cc e)

  image_refused : (end : PairEnd LinesEnd) → status ≡ serve_status end → Ends end → status ≡ 3 → (rule : ℕ) × (serve_line end image disk stop ≡ serve_line (BadImage rule) image disk stop) × Breaks old.files image rule × Untouched old new replied
  image_refused (BadImage rule) is h told = (rule, refl, h.ends.1, untouched h.ends.0.files h.ends.0.unread)
  image_refused (Worked e) is h told = absurd ((no_lines (loop_end e) status is).1 told)
  image_refused (BadVolume rule b) is h told = absurd (omega (arith, is, told))
  image_refused BootFault is h told = absurd (omega (arith, is, told))
  image_refused Memory is h told = absurd (omega (arith, is, told))
  image_refused (Absent file) is h told = absurd (omega (arith, is, told))
  image_refused (HostFault file) is h told = absurd (omega (arith, is, told))
  image_refused (Unsaved e) is h told = absurd (omega (arith, is, told))
  image_refused BootStopped is h told = absurd (omega (arith, is, told))

  volume_refused : (end : PairEnd LinesEnd) → status ≡ serve_status end → Ends end → status ≡ 4 → (rule b : ℕ) × (serve_line end image disk stop ≡ serve_line (BadVolume rule (record { 0 = b })) image disk stop) × BreaksVolume old.files image disk rule b × Untouched old new replied
  volume_refused (BadVolume rule b) is h told = (rule, b.0, refl, h.ends.1, untouched h.ends.0.files h.ends.0.unread)
  volume_refused (Worked e) is h told = absurd ((no_lines (loop_end e) status is).2 told)
  volume_refused (BadImage rule) is h told = absurd (omega (arith, is, told))
  volume_refused BootFault is h told = absurd (omega (arith, is, told))
  volume_refused Memory is h told = absurd (omega (arith, is, told))
  volume_refused (Absent file) is h told = absurd (omega (arith, is, told))
  volume_refused (HostFault file) is h told = absurd (omega (arith, is, told))
  volume_refused (Unsaved e) is h told = absurd (omega (arith, is, told))
  volume_refused BootStopped is h told = absurd (omega (arith, is, told))

  boot_fault : (end : PairEnd LinesEnd) → status ≡ serve_status end → Ends end → status ≡ 5 → HostRose old new
  boot_fault BootFault is h told = h.ends.1
  boot_fault (Worked e) is h told = absurd ((no_lines (loop_end e) status is).3 told)
  boot_fault (BadImage rule) is h told = absurd (omega (arith, is, told))
  boot_fault (BadVolume rule b) is h told = absurd (omega (arith, is, told))
  boot_fault Memory is h told = absurd (omega (arith, is, told))
  boot_fault (Absent file) is h told = absurd (omega (arith, is, told))
  boot_fault (HostFault file) is h told = absurd (omega (arith, is, told))
  boot_fault (Unsaved e) is h told = absurd (omega (arith, is, told))
  boot_fault BootStopped is h told = absurd (omega (arith, is, told))

  -- 7: which file is not there, or that the host failed; and the image is as it was
  abbrev Fails : Type 0
  Fails = (HostRose old new ⊎ (IsAbsent old.files image ⊎ IsAbsent old.files disk)) × (file_of new.files image ≡ file_of old.files image)

  host_fault : (end : PairEnd LinesEnd) → status ≡ serve_status end → Ends end → status ≡ 7 → Fails
  host_fault (Absent Image) is h told = (inr (inl h.ends.2), ap (λ (files : Option Files). file_of files image) h.ends.0.files)
  host_fault (Absent Disk) is h told = (inr (inr h.ends.4), ap (λ (files : Option Files). file_of files image) h.ends.0.files)
  host_fault (HostFault Image) is h told = (inl h.ends.2, ap (λ (files : Option Files). file_of files image) h.ends.0.files)
  host_fault (HostFault Disk) is h told = (inl h.ends.2, ap (λ (files : Option Files). file_of files image) h.ends.0.files)
  host_fault (Unsaved None) is h told = (inl h.ends.0.rose, h.ends.0.image)
  host_fault (Unsaved (Some e)) is h told = (inl h.ends.0.rose, h.ends.0.image)
  host_fault (Worked e) is h told = absurd ((no_lines (loop_end e) status is).4 told)
  host_fault (BadImage rule) is h told = absurd (omega (arith, is, told))
  host_fault (BadVolume rule b) is h told = absurd (omega (arith, is, told))
  host_fault BootFault is h told = absurd (omega (arith, is, told))
  host_fault Memory is h told = absurd (omega (arith, is, told))
  host_fault BootStopped is h told = absurd (omega (arith, is, told))

  source_fault : (end : PairEnd LinesEnd) → status ≡ serve_status end → Ends end → status ≡ 8 → SourceRose old new
  source_fault end is h told =
      let at : Ends (Worked (LoopEnded SourceFault)) = subst Ends ((of_lines end status is).1 told) h in
      (served_some image disk stop old new replied faults bench (LoopEnded SourceFault) at.ends.2).source_fault refl

  sink_fault : (end : PairEnd LinesEnd) → status ≡ serve_status end → Ends end → faults ≤ new.sink_faults → status ≡ 9 → SinkRose old new
  sink_fault end is h later told =
      let at : Ends (Worked (LoopEnded SinkFault)) = subst Ends ((of_lines end status is).2 told) h in
      rose_stays old.sink_faults faults new.sink_faults ((served_some image disk stop old new replied faults bench (LoopEnded SinkFault) at.ends.2).sink_fault refl) later

  -- 10: the number that was asked for is told, or where a store trapped
  abbrev StopTold : PairEnd LinesEnd → Type 0
  StopTold end = ((steps : ℕ) × (stop ≡ Some steps) × (serve_line end image disk stop ≡ stopped_line steps)) ⊎ ((at : ℕ) × (trap_told end ≡ Some at) × (serve_line end image disk stop ≡ trapped_line at))

  number_told : (end : PairEnd LinesEnd) → serve_line end image disk stop ≡ stop_line stop → (steps : ℕ) × (stop ≡ Some steps) → StopTold end
  number_told end line asked = inl (asked.0, asked.1, line ∙ ap (λ (o : Option ℕ). stop_line o) asked.1)

  loop_stopped : (e : ServeEnd) → e ≡ Stopped → Ends (Worked (LoopEnded e)) → StopTold (Worked (LoopEnded e))
  loop_stopped e same h = number_told (Worked (LoopEnded e)) (ap (λ (f : ServeEnd). loop_line f stop) same) (lines_stop image disk stop old new replied faults bench (subst (λ (f : ServeEnd). Ends (Worked (LoopEnded f))) same h).ends.2)

  stopped : (end : PairEnd LinesEnd) → status ≡ serve_status end → Ends end → status ≡ 10 → StopTold end
  stopped BootStopped is h told = number_told BootStopped refl (stop_asked stop h.ends.1)
  stopped (Worked (LoopEnded e)) is h told = loop_stopped e ((lines_end e status is).4 told) h
  stopped (Worked (Trapped at)) is h told = inr (at.0, refl, refl)
  stopped (BadImage rule) is h told = absurd (omega (arith, is, told))
  stopped (BadVolume rule b) is h told = absurd (omega (arith, is, told))
  stopped BootFault is h told = absurd (omega (arith, is, told))
  stopped Memory is h told = absurd (omega (arith, is, told))
  stopped (Absent file) is h told = absurd (omega (arith, is, told))
  stopped (HostFault file) is h told = absurd (omega (arith, is, told))
  stopped (Unsaved e) is h told = absurd (omega (arith, is, told))

  stopped_on : (end : PairEnd LinesEnd) → status ≡ serve_status end → Ends end → status ≡ 10 → Stops end old new replied
  stopped_on BootStopped is h told = (ap (λ (p : Streams). p.left) h.ends.0.unread, ap (λ (p : Streams). p.written) h.ends.0.unread)
  stopped_on (Worked e) is h told = line_stopped image disk stop old new replied faults bench e ((lines_end (loop_end e) status is).4 told) h.ends.2
  stopped_on (BadImage rule) is h told = absurd (omega (arith, is, told))
  stopped_on (BadVolume rule b) is h told = absurd (omega (arith, is, told))
  stopped_on BootFault is h told = absurd (omega (arith, is, told))
  stopped_on Memory is h told = absurd (omega (arith, is, told))
  stopped_on (Absent file) is h told = absurd (omega (arith, is, told))
  stopped_on (HostFault file) is h told = absurd (omega (arith, is, told))
  stopped_on (Unsaved e) is h told = absurd (omega (arith, is, told))

  -- the machine that was left was stopped, and has the trap that is told, or none
  abbrev LeftStopped : PairEnd LinesEnd → Type 0
  LeftStopped end = bench.tells ≡ true → (l : Leaving) × (bench.left ≡ Some l) × (l.stopped ≡ true) × (l.trapped ≡ trap_told end)

  lines_left : (e : LinesEnd) → loop_end e ≡ Stopped → IsDone (outset_at image disk stop old) (does_serve e) (outcome_at new replied faults bench) → LeftStopped (Worked e)
  lines_left e stopped d tells = let l = d.goes.left tells in (l.0, l.1, l.3 ∙ d.goes.leads.stopped stopped, l.4 ∙ d.goes.leads.trapped stopped)

  left_stopped : (end : PairEnd LinesEnd) → status ≡ serve_status end → Ends end → status ≡ 10 → LeftStopped end
  left_stopped BootStopped is h told = h.ends.2
  left_stopped (Worked e) is h told = lines_left e ((lines_end (loop_end e) status is).4 told) h.ends.2
  left_stopped (BadImage rule) is h told = absurd (omega (arith, is, told))
  left_stopped (BadVolume rule b) is h told = absurd (omega (arith, is, told))
  left_stopped BootFault is h told = absurd (omega (arith, is, told))
  left_stopped Memory is h told = absurd (omega (arith, is, told))
  left_stopped (Absent file) is h told = absurd (omega (arith, is, told))
  left_stopped (HostFault file) is h told = absurd (omega (arith, is, told))
  left_stopped (Unsaved e) is h told = absurd (omega (arith, is, told))

  -- ---- how much input there was

  at_limit : (taken : List ℕ) (left_after : Option (List ℕ)) (input : List ℕ) → Some input ≡ prepended taken left_after → length taken ≡ 2 ^ 40 + 1 → 2 ^ 40 < length input
  at_limit taken left_after input gave size =
      let all = given_all taken left_after input gave in
      let whole : length input ≡ length taken + length all.0 = ap length all.2 ∙ length-append taken all.0 in
      omega (arith, whole, size)

  at_end : (taken : List ℕ) (left_after : Option (List ℕ)) (input : List ℕ) → Some input ≡ prepended taken left_after → IsSpent left_after → length taken ≤ 2 ^ 40 → length input ≤ 2 ^ 40
  at_end taken None input gave spent few = cc
  at_end taken (Some rest) input gave spent few =
      let all = given_all taken (Some rest) input gave in
      let whole : length input ≡ length taken + length all.0 = ap length all.2 ∙ length-append taken all.0 in
      let same : rest ≡ all.0 = let e = all.1 in cc e in
      let none : length rest ≡ 0 = ap length spent in
      let size : length rest ≡ length all.0 = ap length same in
      omega (arith, whole, none, size, few)

  past_limit : Ends (Worked (LoopEnded InputLimit)) → (input : List ℕ) → old.left ≡ Some input → 2 ^ 40 < length input
  past_limit h input has =
      let run = (served_some image disk stop old new replied faults bench (LoopEnded InputLimit) h.ends.2).run in
      at_limit run.2.taken new.left input (sym has ∙ run.2.gave) run.2.run.finish.0

  limit : (end : PairEnd LinesEnd) → status ≡ serve_status end → Ends end → (input : List ℕ) → old.left ≡ Some input → status ≡ 11 → 2 ^ 40 < length input
  limit end is h input has told = past_limit (subst Ends ((of_lines end status is).3 told) h) input has

  over : (end : PairEnd LinesEnd) → status ≡ serve_status end → Ends end → (input : List ℕ) → old.left ≡ Some input → 2 ^ 40 < length input → status ≢ 0
  over end is h input has more told =
      let at : Ends (Worked (LoopEnded End)) = subst Ends ((of_lines end status is).0 told) h in
      let run = (served_some image disk stop old new replied faults bench (LoopEnded End) at.ends.2).run in
      let few = at_end run.2.taken new.left input (sym has ∙ run.2.gave) run.2.run.finish.0 run.2.run.finish.2 in
      omega (arith, few, more)

  causes : (end : PairEnd LinesEnd) → status ≡ serve_status end → Ends end → (status ≡ 0 → new.sink_faults ≡ faults) → faults ≤ new.sink_faults → ServeCauses end image disk stop status old new replied bench
  causes end is h line later = record {
    steady = λ told. steady end is h told line;
    image_refused = image_refused end is h;
    volume_refused = volume_refused end is h;
    boot_fault = boot_fault end is h;
    host_fault = λ told. (host_fault end is h told).0;
    image_kept = λ told. (host_fault end is h told).1;
    source_fault = source_fault end is h;
    sink_fault = sink_fault end is h later;
    stopped = stopped end is h;
    stopped_on = stopped_on end is h;
    left_stopped = left_stopped end is h;
    stopped_told = λ n l made tells left halted. stopped_told (outset_at image disk stop old) (outcome_at new replied faults bench) n l made tells left halted status end is h;
    limit = limit end is h;
    over = over end is h;
  }

  -- ---- where nothing fails

  abbrev Complete : Type 0
  Complete = (status ≡ 0) ⊎ (status ≡ 6)

  complete : (end : PairEnd LinesEnd) → status ≡ serve_status end → Ends end → faults ≤ new.sink_faults → (i k : List ℕ) (s : State) (input : List ℕ) → HasPair old.files image disk i k s → stop ≡ None → old.left ≡ Some input → length input ≤ 2 ^ 40
      → AsksNoStrike s input → ¬ HostRose old new → ¬ SourceRose old new → ¬ SinkRose old new → Complete
  complete (Worked (LoopEnded End)) is h later i k s input pair none has few quiet no_host no_source no_sink = inl is
  complete (Worked (LoopEnded NoMemory)) is h later i k s input pair none has few quiet no_host no_source no_sink = inr is
  complete (Worked (LoopEnded SourceFault)) is h later i k s input pair none has few quiet no_host no_source no_sink = absurd (no_source (source_fault (Worked (LoopEnded SourceFault)) is h is))
  complete (Worked (LoopEnded SinkFault)) is h later i k s input pair none has few quiet no_host no_source no_sink = absurd (no_sink (sink_fault (Worked (LoopEnded SinkFault)) is h later is))
  complete (Worked (LoopEnded InputLimit)) is h later i k s input pair none has few quiet no_host no_source no_sink = absurd (let more = past_limit h input has in omega (arith, few, more))
  complete (Worked (LoopEnded Stopped)) is h later i k s input pair none has few quiet no_host no_source no_sink = let set = lines_stop image disk stop old new replied faults bench h.ends.2 in absurd (let e = set.1 in cc (none, e))
  complete (Worked (Trapped at)) is h later i k s input pair none has few quiet no_host no_source no_sink =
      let left = leaves_pair image disk stop old new replied faults bench (Worked (Trapped at)) i k s h pair (λ e. omega (arith, e)) in absurd (no_trap at s old new replied input left.serves.line has quiet)
  complete Memory is h later i k s input pair none has few quiet no_host no_source no_sink = inr is
  complete BootFault is h later i k s input pair none has few quiet no_host no_source no_sink = absurd (no_host h.ends.1)
  complete BootStopped is h later i k s input pair none has few quiet no_host no_source no_sink = let set = stop_asked stop h.ends.1 in absurd (let e = set.1 in cc (none, e))
  complete (HostFault Image) is h later i k s input pair none has few quiet no_host no_source no_sink = absurd (no_host h.ends.2)
  complete (HostFault Disk) is h later i k s input pair none has few quiet no_host no_source no_sink = absurd (no_host h.ends.2)
  complete (Unsaved None) is h later i k s input pair none has few quiet no_host no_source no_sink = absurd (no_host h.ends.0.rose)
  complete (Unsaved (Some e)) is h later i k s input pair none has few quiet no_host no_source no_sink = absurd (no_host h.ends.0.rose)
  complete (Absent file) is h later i k s input pair none has few quiet no_host no_source no_sink = absurd (h.every.sound i k s pair)
  complete (BadImage rule) is h later i k s input pair none has few quiet no_host no_source no_sink = absurd (h.every.sound i k s pair)
  complete (BadVolume rule b) is h later i k s input pair none has few quiet no_host no_source no_sink = absurd (h.every.sound i k s pair)

  -- ---- the bench

  abbrev Found : Outset
  Found = outset_at image disk stop old

  abbrev Left : Outcome
  Left = outcome_at new replied faults bench

  not_made : (n : ℕ) → status ≡ n → (n ≢ 0) × (n ≢ 5) × (n ≢ 8) × (n ≢ 9) × (n ≢ 10) × (n ≢ 11) → MadeStatus status → ⊥
  not_made n is none (inl e) = none.0 (sym is ∙ e)
  not_made n is none (inr (inl e)) = none.1 (sym is ∙ e)
  not_made n is none (inr (inr (inl e))) = none.2 (sym is ∙ e)
  not_made n is none (inr (inr (inr (inl e)))) = none.3 (sym is ∙ e)
  not_made n is none (inr (inr (inr (inr (inl e))))) = none.4 (sym is ∙ e)
  not_made n is none (inr (inr (inr (inr (inr e))))) = none.5 (sym is ∙ e)

  image_saved : (end : PairEnd LinesEnd) → status ≡ serve_status end → Ends end → MadeStatus status → IsSaved Found Left
  image_saved (Worked e) is h made = h.ends.1
  image_saved BootFault is h made = h.ends.0.is_saved
  image_saved BootStopped is h made = h.ends.0.is_saved
  image_saved (BadImage rule) is h made = absurd (not_made 3 is (λ e. omega (arith, e), λ e. omega (arith, e), λ e. omega (arith, e), λ e. omega (arith, e), λ e. omega (arith, e), λ e. omega (arith, e)) made)
  image_saved (BadVolume rule b) is h made = absurd (not_made 4 is (λ e. omega (arith, e), λ e. omega (arith, e), λ e. omega (arith, e), λ e. omega (arith, e), λ e. omega (arith, e), λ e. omega (arith, e)) made)
  image_saved Memory is h made = absurd (not_made 6 is (λ e. omega (arith, e), λ e. omega (arith, e), λ e. omega (arith, e), λ e. omega (arith, e), λ e. omega (arith, e), λ e. omega (arith, e)) made)
  image_saved (Absent file) is h made = absurd (not_made 7 is (λ e. omega (arith, e), λ e. omega (arith, e), λ e. omega (arith, e), λ e. omega (arith, e), λ e. omega (arith, e), λ e. omega (arith, e)) made)
  image_saved (HostFault file) is h made = absurd (not_made 7 is (λ e. omega (arith, e), λ e. omega (arith, e), λ e. omega (arith, e), λ e. omega (arith, e), λ e. omega (arith, e), λ e. omega (arith, e)) made)
  image_saved (Unsaved e) is h made = absurd (not_made 7 is (λ e. omega (arith, e), λ e. omega (arith, e), λ e. omega (arith, e), λ e. omega (arith, e), λ e. omega (arith, e), λ e. omega (arith, e)) made)

  abbrev SavedOrUnmade : Type 0
  SavedOrUnmade = IsSaved Found Left ⊎ ((bench.pages ≡ None) × (new.files ≡ old.files))

  either_way : (bench.pages ≡ None) ⊎ (IsSaved Found Left × KeepsMemory Found Left) → new.files ≡ old.files → SavedOrUnmade
  either_way (inl none) files = inr (none, files)
  either_way (inr saved) files = inl saved.0

  out_of_memory : (end : PairEnd LinesEnd) → status ≡ serve_status end → Ends end → status ≡ 6 → SavedOrUnmade
  out_of_memory Memory is h told = either_way h.ends.1 h.ends.0.files
  out_of_memory (Worked e) is h told = inl h.ends.1
  out_of_memory BootFault is h told = absurd (omega (arith, is, told))
  out_of_memory BootStopped is h told = absurd (omega (arith, is, told))
  out_of_memory (BadImage rule) is h told = absurd (omega (arith, is, told))
  out_of_memory (BadVolume rule b) is h told = absurd (omega (arith, is, told))
  out_of_memory (Absent file) is h told = absurd (omega (arith, is, told))
  out_of_memory (HostFault file) is h told = absurd (omega (arith, is, told))
  out_of_memory (Unsaved e) is h told = absurd (omega (arith, is, told))

  -- the host failed since the machine was left
  abbrev FailedSince : Type 0
  FailedSince = bench.tells ≡ true → (l : Leaving) × (bench.left ≡ Some l) × Rose l.faults new.host_faults

  unsaved : (end : PairEnd LinesEnd) → status ≡ serve_status end → Ends end → (n : ℕ) → status ≡ 7 → bench.pages ≡ Some n → FailedSince
  unsaved (Unsaved None) is h n told made = h.ends.0.left
  unsaved (Unsaved (Some e)) is h n told made = h.ends.0.left
  unsaved (Absent Image) is h n told made = absurd (let none = h.ends.1 in cc (none, made))
  unsaved (Absent Disk) is h n told made = absurd (let none = h.ends.1 in cc (none, made))
  unsaved (HostFault Image) is h n told made = absurd (let none = h.ends.1 in cc (none, made))
  unsaved (HostFault Disk) is h n told made = absurd (let none = h.ends.1 in cc (none, made))
  unsaved (Worked e) is h n told made = absurd ((no_lines (loop_end e) status is).4 told)
  unsaved BootFault is h n told made = absurd (omega (arith, is, told))
  unsaved BootStopped is h n told made = absurd (omega (arith, is, told))
  unsaved (BadImage rule) is h n told made = absurd (omega (arith, is, told))
  unsaved (BadVolume rule b) is h n told made = absurd (omega (arith, is, told))
  unsaved Memory is h n told made = absurd (omega (arith, is, told))

  -- ---- the run

  pub serve_runs_as : (end : PairEnd LinesEnd) → status ≡ serve_status end → Ends end → (status ≡ 0 → new.sink_faults ≡ faults) → faults ≤ new.sink_faults → WritesLine (Rose faults new.sink_faults) replied (serve_line end image disk stop) new.written
      → ((n : ℕ) → bench.pages ≡ Some n → bench.tells_start ≡ true → HasBegun Found bench.began) → ((n : ℕ) → bench.pages ≡ Some n → bench.parted ≡ true) → ServeRuns image disk stop status old new bench
  serve_runs_as end is h line later told began parted = record {
    end = end;
    replied = replied;
    replied_faults = faults;
    status_is = is;
    told = told;
    pair = λ i k s pair fine. leaves_pair image disk stop old new replied faults bench end i k s h pair (λ seven. fine (is ∙ seven));
    memory = λ i k s pair n l made tells left. memory_kept image disk stop old new replied faults bench end i k s n l h pair made tells left;
    causes = causes end is h line later;
    refusals = λ files told_files. refusals image disk stop status old new replied faults bench files told_files end is h;
    complete = λ i k s input pair none has few quiet no_host no_source no_sink. complete end is h later i k s input pair none has few quiet no_host no_source no_sink;
    others = h.every.others;
    machine = record { began = began; parted = parted; saved = image_saved end is h; memory = out_of_memory end is h; unsaved = unsaved end is h };
    ended = h;
  }

-- there was no memory to begin
pub none_served : (image disk : List ℕ) (stop : Option ℕ) (status : ℕ) (old new : Outside) (bench : Benched) → status ≡ 6 → new.files ≡ old.files → new.left ≡ old.left → new.source_faults ≡ old.source_faults → new.host_faults ≡ old.host_faults → old.sink_faults ≤ new.sink_faults → bench.pages ≡ None
    → WritesLine (SinkRose old new) old.written (serve_line Memory image disk stop) new.written → ServeRuns image disk stop status old new bench
none_served image disk stop status old new bench is files left source host later none told =
    serve_runs_as image disk stop status old new old.written old.sink_faults bench Memory is ended (λ zero. absurd (omega (arith, is, zero))) later told (λ n made tells. absurd (cc (none, made))) (λ n made. absurd (cc (none, made)))
  where
    same : streams_behind new old.written old.sink_faults ≡ streams_before old
    same = ap (λ (l : Option (List ℕ)). streams_behind (record new { left = l }) old.written old.sink_faults) left ∙ ap (λ (n : ℕ). record (streams_before old) { source_faults = n }) source

    ended : EndedAs image disk stop old new old.written old.sink_faults bench Memory
    ended = record {
      ends = (record { files = files; unread = same }, inl none, λ n l made tells left. absurd (cc (none, made)));
      every = record { sound = λ i k s pair. tt; others = λ name other two. ap (λ (f : Option Files). file_of f name) files; counted = omega (arith, host) };
    }
