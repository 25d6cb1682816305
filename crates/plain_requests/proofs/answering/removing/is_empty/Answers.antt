use Rattle.plain_requests.proofs.AnswerSteps.{empty_count}
use Rattle.plain_requests.proofs.answering.removing.is_empty.Goals as goal

pub returns : goal.returns
returns c = empty_count _ c.in_ok-count.count c.in_ok-count.ensures.is
