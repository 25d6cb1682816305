use Rattle.std.proofs.Common.{arith, subst, sym, ◌∙◌, ◌+◌, ◌≤◌}
use Rattle.std.proofs.lemmas.List.{length-take-le}
use Rattle.std.proofs.lemmas.Result.{err_from_is_err_and}
use Rattle.rio_base.proofs.BlockRules.{ends_later}
use Rattle.rio_base.proofs.RegionRules.{stays_trans}
use Rattle.undo_list.proofs.Frames.{staged_short, off_same, off_taken}
use Rattle.undo_list.proofs.Outcomes.{on_word, ends_err, word_ends}
use Rattle.undo_list.proofs.ranges.stage_short.Goals as goal

pub returns-clause-ok : goal.returns-clause-ok
returns-clause-ok g c =
    on_word c.set_run.result c.uncounted.result _ _ c.uncounted.ensures (staged_short _ _ _ c.args.at c.args.head c.args.place _ c.args.from c.args.count _ _ _ _ c.requires.behind c.from.ensures c.from-2.ensures c.read_run.ensures.words c.read_run.ensures.len (length-take-le _ _ (omega (arith, c.requires.few)) ∙ omega arith) c.in_ok-read_run.ensures.value) c.set_run.ensures.ok

pub returns-in_err-read_run-clause-ok : goal.returns-in_err-read_run-clause-ok
returns-in_err-read_run-clause-ok g c =
    let p = err_from_is_err_and c.from_residual.result c.from_residual.ensures.1 in
    rw (p.1) tt

pub returns-in_err-read_run-clause-off : goal.returns-in_err-read_run-clause-off
returns-in_err-read_run-clause-off g c = off_same (512 + c.args.at) (515 + c.args.at + c.args.count) (g.R.RegionWords.words c.args.r.now) (g.R.RegionWords.words c.read_run.new.self) c.read_run.ensures.words

pub returns-in_err-read_run-clause-ends : goal.returns-in_err-read_run-clause-ends
returns-in_err-read_run-clause-ends g c =
    let p = err_from_is_err_and c.from_residual.result c.from_residual.ensures.1 in
    ends_err _ _ c.read_run.result c.from_residual.result _ _ c.in_err-read_run.was p.1 p.2 c.read_run.ensures.ends

pub returns-clause-off : goal.returns-clause-off
returns-clause-off g c = off_taken _ _ _ (512 + c.args.at) (515 + c.args.at + c.args.count) (3 + c.args.count) _ c.read_run.ensures.words (omega arith) c.set_run.ensures.front

pub returns-clause-stays : goal.returns-clause-stays
returns-clause-stays g c = stays_trans g.met.R.RegionWords.rest_trans c.read_run.ensures.stays c.set_run.ensures.stays

pub returns-clause-ends : goal.returns-clause-ends
returns-clause-ends g c = ends_later _ _ _ _ c.read_run.ensures.ends.later c.in_ok-read_run.ensures.ends.cause (word_ends _ _ c.set_run.result c.uncounted.result c.uncounted.ensures c.set_run.ensures.ends)

pub overflow_add-at : goal.overflow_add-at
overflow_add-at g c = omega (arith, g.met.R.RegionWords.small c.args.r.now c.requires.ready, c.requires.behind, c.requires.source)

pub read_run-requires-clause-place : goal.read_run-requires-clause-place
read_run-requires-clause-place g c = subst (λ n. c.args.from + n ≤ g.R.RegionWords.count c.args.r.now) (sym (length-take-le _ _ (omega (arith, c.requires.few)))) (omega (arith, c.requires.source))
