use Rattle.rio_requests.specs.Answers.{row_wanted}
use Rattle.plain_requests.proofs.AnswerSteps.{ends_as, wants_none, wants_some}
use Rattle.plain_requests.proofs.answering.renaming.move_wanted.Goals as goal

pub returns-then-dir-to_dir : goal.returns-then-dir-to_dir
returns-then-dir-to_dir c = wants_none c.args.dir.0 c.args.to_dir.0 (row_wanted c.args.s.now c.args.to_dir.0) c.if-dir-to_dir.true

pub returns : goal.returns
returns c = ends_as c.row_wanted.result _ _ (wants_some c.args.dir.0 c.args.to_dir.0 (row_wanted c.args.s.now c.args.to_dir.0) c.if-dir-to_dir.false) c.row_wanted.ensures.is
