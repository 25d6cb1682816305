-- A machine that the bench tells to have been left stopped is told by its status.
use Rattle.std.proofs.Common.{◌≡◌, ℕ, Bool, true, false, sym, ap, ◌∙◌, inl, inr}
use Rattle.std.specs.Prelude.{Option, Some, None, ◌⊎◌}
use Rattle.rio_base.specs.Rules.{true_false}
use Rattle.machine_bench.specs.Benches.{Leaving}
use Rattle.line_loop.specs.declared.ends.ServeEnd.{ServeEnd}
use Rattle.line_loop.specs.declared.ends.ServeEnd.TheVariants.{End, SourceFault, SinkFault, InputLimit, Memory as NoMemory, Stopped}
use Rattle.pair_files.specs.Ends.{Ended, IsDone, Outcome, Outset}
use Rattle.pair_files.specs.declared.ends.PairEnd.{PairEnd}
use Rattle.pair_files.specs.declared.ends.PairEnd.TheVariants.{Absent, BadImage, BadVolume, BootFault, BootStopped, HostFault, Memory, Unsaved, Worked}
use Rattle.line_loop.specs.declared.ends.LinesEnd.{LinesEnd}
use Rattle.line_loop.specs.declared.ends.LinesEnd.TheVariants.{Ended as LoopEnded, Trapped}
use Rattle.rio_commands.specs.ServeLines.{serve_status}
use Rattle.rio_commands.specs.Serve.{does_serve}

abbrev stopped_in : Option Leaving → Bool
stopped_in None = false
stopped_in (Some l) = l.stopped

module _ (o : Outset) (x : Outcome) (n : ℕ) (l : Leaving) (made : x.pages ≡ Some n) (tells : x.tells ≡ true) (left : x.left ≡ Some l) (stopped : l.stopped ≡ true) where
  -- lines that were all answered leave the machine running
  ran : (end : ServeEnd) (d : IsDone o (does_serve (LoopEnded end)) x) → d.after.health.stopped ≡ d.begin.health.stopped → ⊥
  ran end d runs = let m = d.goes.left tells in true_false (sym stopped ∙ ap (λ (y : Option Leaving). stopped_in y) (sym left ∙ m.1) ∙ m.3 ∙ runs ∙ d.goes.begins.running)

  runs_on : l.stopped ≡ false → ⊥
  runs_on runs = true_false (sym stopped ∙ runs)

  pub stopped_told : (status : ℕ) (end : PairEnd LinesEnd) → status ≡ serve_status end → Ended o does_serve end x → (status ≡ 10) ⊎ (status ≡ 7)
  stopped_told status BootStopped is h = inl is
  stopped_told status (Worked (Trapped at)) is h = inl is
  stopped_told status (Worked (LoopEnded Stopped)) is h = inl is
  stopped_told status (Worked (LoopEnded End)) is h = absurd (ran End h.ends.2 h.ends.2.goes.leads.run.3.running)
  stopped_told status (Worked (LoopEnded SourceFault)) is h = absurd (ran SourceFault h.ends.2 h.ends.2.goes.leads.run.3.running)
  stopped_told status (Worked (LoopEnded SinkFault)) is h = absurd (ran SinkFault h.ends.2 h.ends.2.goes.leads.run.3.running)
  stopped_told status (Worked (LoopEnded InputLimit)) is h = absurd (ran InputLimit h.ends.2 h.ends.2.goes.leads.run.3.running)
  stopped_told status (Worked (LoopEnded NoMemory)) is h = absurd (ran NoMemory h.ends.2 h.ends.2.goes.leads.run.3.running)
  stopped_told status (BadImage rule) is h = absurd (runs_on (h.ends.2 n l made tells left))
  stopped_told status (BadVolume rule b) is h = absurd (runs_on (h.ends.2 n l made tells left))
  stopped_told status Memory is h = absurd (runs_on (h.ends.2 n l made tells left))
  stopped_told status BootFault is h = absurd (runs_on (h.ends.3 n l made tells left))
  stopped_told status (Absent file) is h = inr is
  stopped_told status (HostFault file) is h = inr is
  stopped_told status (Unsaved end) is h = inr is
