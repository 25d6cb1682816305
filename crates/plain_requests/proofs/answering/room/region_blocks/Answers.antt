use Rattle.plain_requests.proofs.Common.{◌+◌, cond, ap, ◌∙◌, nat_lt}
use Rattle.rio_model.specs.Sizes.{data_pages}
use Rattle.plain_requests.proofs.Room.{region_pages}
use Rattle.plain_requests.proofs.answering.room.region_blocks.Goals as goal

pub returns-clause-is : goal.returns-clause-is
returns-clause-is c = c.with_table.ensures.is ∙ ap (λ p. p + cond (nat_lt 24 p) 1 0) (region_pages c.args.region.now.undo (data_pages c.args.region.now) c.data_pages-content.result c.div_ceil-map.result c.data_pages-content.ensures.is c.div_ceil-map.ensures)
