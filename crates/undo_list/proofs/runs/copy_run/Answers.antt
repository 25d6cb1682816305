use Rattle.std.proofs.Common.{ap, arith, length, ◌∙◌}
use Rattle.std.proofs.lemmas.Result.{err_from_is_err_and}
use Rattle.rio_base.proofs.BlockRules.{ends_later}
use Rattle.rio_base.proofs.RegionRules.{stays_trans}
use Rattle.undo_list.proofs.Copies.{copied_put, front_none, front_put}
use Rattle.undo_list.proofs.Outcomes.{ends_err, on_word, word_ends}
use Rattle.undo_list.specs.Stages.{copied}
use Rattle.undo_list.proofs.runs.copy_run.Goals as goal

pub returns-in_err-read_run-clause-ok : goal.returns-in_err-read_run-clause-ok
returns-in_err-read_run-clause-ok g c =
    let p = err_from_is_err_and c.from_residual.result c.from_residual.ensures.1 in
    rw (p.1) tt

pub returns-in_err-read_run-clause-front : goal.returns-in_err-read_run-clause-front
returns-in_err-read_run-clause-front g c = front_none (g.R.RegionWords.words c.args.r.now) (g.R.RegionWords.words c.read_run.new.self) c.args.from c.args.to (length c.args.run.now) c.read_run.ensures.words

pub returns-in_err-read_run-clause-ends : goal.returns-in_err-read_run-clause-ends
returns-in_err-read_run-clause-ends g c =
    let p = err_from_is_err_and c.from_residual.result c.from_residual.ensures.1 in
    ends_err _ _ c.read_run.result c.from_residual.result _ _ c.in_err-read_run.was p.1 p.2 c.read_run.ensures.ends

pub set_run-requires-clause-place : goal.set_run-requires-clause-place
set_run-requires-clause-place g c = omega (arith, c.read_run.ensures.stays.count, c.read_run.ensures.len, c.requires.target)

pub returns-clause-ok : goal.returns-clause-ok
returns-clause-ok g c =
    let long = c.read_run.ensures.len in
    on_word c.set_run.result c.uncounted.result _ _ c.uncounted.ensures (λ put. put ∙ copied_put (g.R.RegionWords.words c.args.r.now) (g.R.RegionWords.words c.read_run.new.self) c.args.from c.args.to (length c.read_run.new.into) (length c.args.run.now) c.read_run.new.into c.read_run.ensures.words (omega (arith, long)) c.in_ok-read_run.ensures.value ∙ ap (λ k. copied (g.R.RegionWords.words c.args.r.now) c.args.from c.args.to k) long) c.set_run.ensures.ok

pub returns-clause-front : goal.returns-clause-front
returns-clause-front g c =
    front_put (g.R.RegionWords.words c.args.r.now) (g.R.RegionWords.words c.read_run.new.self) (g.R.RegionWords.words c.set_run.new.self) c.args.from c.args.to (length c.read_run.new.into) (length c.args.run.now) c.read_run.new.into c.read_run.ensures.words (omega (arith, c.read_run.ensures.len)) c.in_ok-read_run.ensures.value c.set_run.ensures.front

pub returns-clause-stays : goal.returns-clause-stays
returns-clause-stays g c = stays_trans g.met.R.RegionWords.rest_trans c.read_run.ensures.stays c.set_run.ensures.stays

pub returns-clause-ends : goal.returns-clause-ends
returns-clause-ends g c = ends_later _ _ _ _ c.read_run.ensures.ends.later c.in_ok-read_run.ensures.ends.cause (word_ends _ _ c.set_run.result c.uncounted.result c.uncounted.ensures c.set_run.ensures.ends)
