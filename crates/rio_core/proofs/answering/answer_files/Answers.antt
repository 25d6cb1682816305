use Rattle.rio_core.proofs.Common.{◌∙◌, sym}
use Rattle.rio_core.proofs.MemoRules.{ok_not_err}
use Rattle.rio_core.proofs.answering.answer_files.Goals as goal

pub returns-then-is_ok-clause-in_step : goal.returns-then-is_ok-clause-in_step
returns-then-is_ok-clause-in_step g c = c.answer_on-answer.ensures.in_step (ok_not_err c.answer_on-answer.result (sym c.is_ok.ensures.value ∙ c.if-is_ok.true))

pub returns-clause-in_step : goal.returns-clause-in_step
returns-clause-in_step g c = c.forget.ensures c.args.shape.now _
