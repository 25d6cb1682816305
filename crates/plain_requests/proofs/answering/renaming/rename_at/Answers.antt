use Rattle.plain_requests.proofs.Common.{open_inodes}
use Rattle.plain_requests.proofs.AnswerSteps.{ends_as, from_missing}
use Rattle.plain_requests.proofs.answering.renaming.rename_at.Goals as goal

pub returns-in-Err : goal.returns-in-Err
returns-in-Err c = ends_as c.refused.result _ _ (from_missing c.args.s.now (open_inodes c.args.s.now) c.args.from.now c.args.to.now c.in-Err.number c.in-Err.ensures) c.refused.ensures
