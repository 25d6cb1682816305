use Rattle.plain_requests.proofs.Common.{◌*◌, ap, ◌∙◌, blocks_for}
use Rattle.plain_requests.proofs.answering.room.directory_blocks.Goals as goal

pub returns : goal.returns
returns c = c.rows_blocks.ensures.is ∙ ap (λ n. blocks_for (64 * n)) c.in_ok-count.ensures.is
