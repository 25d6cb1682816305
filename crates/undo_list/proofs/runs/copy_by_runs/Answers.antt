use Rattle.std.proofs.Common.{arith, ◌∙◌, le_trans, ◌+◌, ◌≡◌, length, take, length-take, ap}
use Rattle.std.proofs.lemmas.Result.{err_from_is_err_and}
use Rattle.rio_base.proofs.BlockRules.{ends_later}
use Rattle.rio_base.proofs.RegionRules.{stays_trans}
use Rattle.undo_list.proofs.Copies.{copied_on, front_on}
use Rattle.undo_list.proofs.Outcomes.{ends_err}
use Rattle.undo_list.specs.Stages.{copied}
use Rattle.undo_list.proofs.runs.copy_by_runs.Goals as goal

pub returns-in_err-copy_run-clause-front : goal.returns-in_err-copy_run-clause-front
returns-in_err-copy_run-clause-front g c = front_on (g.R.RegionWords.words c.args.r.now) (g.R.RegionWords.words c.loop-done.r) (g.R.RegionWords.words c.copy_run.new.r) c.args.from c.args.to c.args.n c.loop-done.done _ c.requires.apart (omega (arith, length-take c.min-count.result c.loop-done.run, c.min-count.ensures)) c.loop-done.invariant.words c.copy_run.ensures.front

pub loop-done-preserved : goal.loop-done-preserved
loop-done-preserved g c =
    let inv = c.loop-done.invariant in
    let now = c.copy_run.ensures in
    let long : length (take c.min-count.result c.loop-done.run) ≡ c.min-count.result = omega (arith, length-take c.min-count.result c.loop-done.run, c.min-count.ensures) in
    record {
      within = omega (arith, c.min-count.ensures);
      words = c.in_ok-copy_run.ensures.ok ∙ copied_on (g.R.RegionWords.words c.args.r.now) (g.R.RegionWords.words c.loop-done.r) c.args.from c.args.to c.args.n c.loop-done.done _ c.requires.apart (omega (arith, long, c.min-count.ensures)) inv.words ∙ ap (λ k. copied (g.R.RegionWords.words c.args.r.now) c.args.from c.args.to (c.loop-done.done + k)) long;
      stays = stays_trans g.met.R.RegionWords.rest_trans inv.stays now.stays;
      later = le_trans inv.later now.ends.later;
      running = c.in_ok-copy_run.ensures.ends.cause ∙ inv.running;
    }

pub returns-in_err-copy_run-clause-ok : goal.returns-in_err-copy_run-clause-ok
returns-in_err-copy_run-clause-ok g c =
    let p = err_from_is_err_and c.from_residual.result c.from_residual.ensures.1 in
    rw (p.1) tt

pub returns-in_err-copy_run-clause-stays : goal.returns-in_err-copy_run-clause-stays
returns-in_err-copy_run-clause-stays g c = stays_trans g.met.R.RegionWords.rest_trans c.loop-done.invariant.stays c.copy_run.ensures.stays

pub returns-in_err-copy_run-clause-ends : goal.returns-in_err-copy_run-clause-ends
returns-in_err-copy_run-clause-ends g c =
    let p = err_from_is_err_and c.from_residual.result c.from_residual.ensures.1 in
    ends_later _ _ _ _ c.loop-done.invariant.later c.loop-done.invariant.running (ends_err _ _ c.copy_run.result c.from_residual.result _ _ c.in_err-copy_run.was p.1 p.2 c.copy_run.ensures.ends)

pub returns-clause-ok : goal.returns-clause-ok
returns-clause-ok g c = c.loop-done.invariant.words ∙ ap (λ k. copied (g.R.RegionWords.words c.args.r.now) c.args.from c.args.to k) (omega (arith, c.loop-done.invariant.within))

pub returns-clause-front : goal.returns-clause-front
returns-clause-front g c = (c.loop-done.done, c.loop-done.invariant.within, c.loop-done.invariant.words)

pub returns-clause-ends : goal.returns-clause-ends
returns-clause-ends g c = record { later = c.loop-done.invariant.later; stays = λ stopped. c.loop-done.invariant.running ∙ stopped; cause = c.loop-done.invariant.running }

pub loop-done-smaller : goal.loop-done-smaller
loop-done-smaller g c = omega (arith, c.min-count.ensures, c.loop-done-test.true)

pub overflow_add-from : goal.overflow_add-from
overflow_add-from g c = omega (arith, g.met.R.RegionWords.small c.args.r.now c.requires.ready, c.requires.source, c.loop-done-test.true)

pub overflow_add-to : goal.overflow_add-to
overflow_add-to g c = omega (arith, g.met.R.RegionWords.small c.args.r.now c.requires.ready, c.requires.target, c.loop-done-test.true)

pub copy_run-requires-clause-source : goal.copy_run-requires-clause-source
copy_run-requires-clause-source g c = omega (arith, length-take c.min-count.result c.loop-done.run, c.min-count.ensures, c.requires.source, c.loop-done.invariant.stays.count, c.loop-done-test.true)

pub copy_run-requires-clause-target : goal.copy_run-requires-clause-target
copy_run-requires-clause-target g c = omega (arith, length-take c.min-count.result c.loop-done.run, c.min-count.ensures, c.requires.target, c.loop-done.invariant.stays.count, c.loop-done-test.true)
