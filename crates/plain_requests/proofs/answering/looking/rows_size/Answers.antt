use Rattle.plain_requests.proofs.Common.{◌*◌, ap}
use Rattle.plain_requests.proofs.AnswerSteps.{ends_as}
use Rattle.plain_requests.proofs.answering.looking.rows_size.Goals as goal

pub returns : goal.returns
returns c = ends_as c.bytes_of.result _ _ (ap (λ n. 64 * n) c.in_ok-count.ensures.is) c.bytes_of.ensures
