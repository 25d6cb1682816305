use Rattle.plain_requests.proofs.Common.{◌≡◌, ◌+◌, ◌*◌, ◌/◌, cond, ap, ◌∙◌, arith, nat_lt}
use Rattle.plain_requests.proofs.answering.room.rows_blocks.Goals as goal

pub returns-clause-is : goal.returns-clause-is
returns-clause-is c = let pages : c.div_ceil-pages.result ≡ (64 * c.args.count + 4095) / 4096 = omega (arith, c.div_ceil-pages.ensures) in c.with_table.ensures.is ∙ ap (λ p. p + cond (nat_lt 24 p) 1 0) pages
