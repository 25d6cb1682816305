use Rattle.plain_requests.proofs.Room.{row_wanted_is}
use Rattle.plain_requests.proofs.answering.room.row_wanted.Goals as goal

pub returns-clause-is : goal.returns-clause-is
returns-clause-is c = row_wanted_is c.args.s.now c.args.dir.0 c.in_ok-count.count c.rows_blocks-before.result c.rows_blocks-after.result c.saturating_sub.result c.in_ok-count.ensures.is c.rows_blocks-before.ensures.is c.rows_blocks-after.ensures.is c.saturating_sub.ensures
