use Rattle.std.proofs.Common.{◌≡◌, ◌∙◌, false, ap, refl, sym, arith}
use Rattle.rio_base.specs.Machine.{Steps}
use Rattle.rio_base.proofs.MachineRules.{steps_trans, falls_trans}
use Rattle.rio_base.specs.Rules.{true_false}
use Rattle.board.specs.declared.guard.Guard.{Guard}
use Rattle.board.specs.Guards.{HaltsWithin, page_of}
use Rattle.board.specs.Boards.{protected_count, running_of, scratch_of}
use Rattle.board.proofs.Runs.{passed_ends, passed_falls, passed_within}
use Rattle.board.proofs.StepRuns.{begun_fits, clear_behind, halts_within, makes_clear, makes_more, makes_one, sooner_begun, sooner_clear, sooner_more}
use Rattle.std.proofs.lemmas.Result.{IfOk-from_err}
use Rattle.rio_base.proofs.Exits.{on_err}
use Rattle.board.proofs.DiskSteps.{ends_by}
use Rattle.board.proofs.board.Board.begin_run.Goals as goal

pub returns-clause-sooner : goal.returns-clause-sooner
returns-clause-sooner g c =
    let begun = c.in_ok-begin.ensures in
    let passed = c.pass-further.ensures in
    let old = c.args.self.now in
    let mid = c.begin.new.self in
    let size = protected_count (g.F.MemWords.words old.mem) old.scratch in
    let step = begun.made.made.1 in
    let runs : mid.guard.stopped ≡ false = begun.ends.runs (λ e. true_false (sym e)) ∙ begun.running in
    sooner_more 1 c.pass-further.result size old.guard mid.guard c.pass-further.new.self
    (sooner_begun size begun.made.made.0 old.guard mid.guard step (begun_fits size begun.made.made.0 old.guard mid.guard step passed.fits))
    (sooner_clear c.pass-further.result size mid.guard c.pass-further.new.self runs passed.clear passed.fits passed.counted)

pub returns-clause-made : goal.returns-clause-made
returns-clause-made g c =
    let old = c.args.self.now in
    let mid = c.begin.new.self in
    let size = protected_count (g.F.MemWords.words old.mem) old.scratch in
    let first = scratch_of (g.F.MemWords.words old.mem) old.scratch in
    let last = scratch_of (g.F.MemWords.words mid.mem) mid.scratch in
    makes_more 1 c.pass-further.result size first last last old.guard mid.guard c.pass-further.new.self
    (makes_one size first last old.guard mid.guard c.in_ok-begin.ensures.made)
    (makes_clear c.pass-further.result size last mid.guard c.pass-further.new.self c.pass-further.ensures.clear c.pass-further.ensures.counted)

pub returns-clause-at_first : goal.returns-clause-at_first
returns-clause-at_first g c =
    let old = c.args.self.now in
    let made = c.in_ok-begin.ensures.made.made in
    clear_behind c.pass-further.result (protected_count (g.F.MemWords.words old.mem) old.scratch) made.0 old.guard c.begin.new.self.guard made.1 c.pass-further.ensures.clear

pub returns-clause-ends : goal.returns-clause-ends
returns-clause-ends g c =
    let begun = c.in_ok-begin.ensures in
    let passed = c.pass-further.ensures in
    let mid = c.begin.new.self in
    let words = g.F.MemWords.words mid.mem in
    let runs : mid.guard.stopped ≡ false = begun.ends.runs (λ e. true_false (sym e)) ∙ begun.running in
    let more : Steps (running_of words mid.scratch mid.guard) (running_of words mid.scratch c.pass-further.new.self) = passed_ends words mid.scratch c.pass-further.result mid.guard c.pass-further.new.self runs passed.clear passed.counted in
    record {
      steps = steps_trans _ _ _ begun.ends.steps more;
      told = λ s. absurd (true_false (sym s));
      runs = λ n. ap (λ (k : Guard). k.stopped) passed.counted ∙ begun.ends.runs (λ e. true_false (sym e));
    }

pub returns-in_err-begin-clause-halts : goal.returns-in_err-begin-clause-halts
returns-in_err-begin-clause-halts g c =
    let old = c.args.self.now in
    let size = protected_count (g.F.MemWords.words old.mem) old.scratch in
    let halts : HaltsWithin old.guard c.args.most size = halts_within old.guard c.args.most size c.requires (c.in_err-begin.ensures.halts.0 refl) in
    on_err c.from_residual.result _ halts

pub returns-in_err-begin-clause-at_first : goal.returns-in_err-begin-clause-at_first
returns-in_err-begin-clause-at_first g c = IfOk-from_err c.from_residual.result _ c.from_residual.ensures.0

pub returns-in_err-begin-clause-some : goal.returns-in_err-begin-clause-some
returns-in_err-begin-clause-some g c = IfOk-from_err c.from_residual.result _ c.from_residual.ensures.0

pub returns-in_err-begin-clause-made : goal.returns-in_err-begin-clause-made
returns-in_err-begin-clause-made g c = IfOk-from_err c.from_residual.result _ c.from_residual.ensures.0

pub returns-in_err-begin-clause-sooner : goal.returns-in_err-begin-clause-sooner
returns-in_err-begin-clause-sooner g c = IfOk-from_err c.from_residual.result _ c.from_residual.ensures.0

pub returns-in_err-begin-clause-running : goal.returns-in_err-begin-clause-running
returns-in_err-begin-clause-running g c = IfOk-from_err c.from_residual.result _ c.from_residual.ensures.0

pub returns-in_err-begin-clause-stops : goal.returns-in_err-begin-clause-stops
returns-in_err-begin-clause-stops g c = on_err c.from_residual.result _ c.in_err-begin.ensures.stops

pub returns-in_err-begin-clause-unmoved : goal.returns-in_err-begin-clause-unmoved
returns-in_err-begin-clause-unmoved g c = on_err c.from_residual.result _ c.in_err-begin.ensures.unmoved

pub returns-in_err-begin-clause-ends : goal.returns-in_err-begin-clause-ends
returns-in_err-begin-clause-ends g c = ends_by _ _ _ _ (λ s. refl) (λ w. c.from_residual.ensures.0) c.in_err-begin.ensures.ends

pub returns-clause-open_page : goal.returns-clause-open_page
returns-clause-open_page g c = ap page_of c.pass-further.ensures.counted ∙ c.in_ok-begin.ensures.open_page

pub returns-clause-running : goal.returns-clause-running
returns-clause-running g c = (c.in_ok-begin.ensures.running, ap (λ (k : Guard). k.stopped) c.pass-further.ensures.counted ∙ c.in_ok-begin.ensures.ends.runs (λ e. true_false (sym e)) ∙ c.in_ok-begin.ensures.running)

pub returns-clause-some : goal.returns-clause-some
returns-clause-some g c = (omega arith, omega (arith, c.pass-further.ensures.most, c.requires))

pub returns-clause-falls : goal.returns-clause-falls
returns-clause-falls g c =
    let mid = c.begin.new.self in
    let words = g.F.MemWords.words mid.mem in
    let runs : mid.guard.stopped ≡ false = c.in_ok-begin.ensures.ends.runs (λ e. true_false (sym e)) ∙ c.in_ok-begin.ensures.running in
    falls_trans (page_of c.args.self.now.guard) _ _ _ c.in_ok-begin.ensures.ends.steps (passed_ends words mid.scratch c.pass-further.result mid.guard c.pass-further.new.self runs c.pass-further.ensures.clear c.pass-further.ensures.counted) c.in_ok-begin.ensures.falls
    (passed_falls _ words mid.scratch c.pass-further.result mid.guard c.pass-further.new.self c.pass-further.ensures.counted)

pub overflow_sub-most : goal.overflow_sub-most
overflow_sub-most g c = omega (arith, c.requires)

pub overflow_add-result : goal.overflow_add-result
overflow_add-result g c = omega (arith, c.pass-further.ensures.most, c.ranges.most.fits)

pub invariant_of-self : goal.invariant_of-self
invariant_of-self g c =
    let mid = c.begin.new.self in
    record {
      whole = mid.whole;
      room = mid.room;
      open_within = λ p e. mid.open_within p (sym (ap page_of c.pass-further.ensures.counted) ∙ e);
      armed_within = passed_within c.pass-further.result mid.guard c.pass-further.new.self _ c.pass-further.ensures.counted mid.armed_within;
    }
