use Rattle.std.proofs.Common.{arith, le_refl, refl}
use Rattle.undo_list.proofs.Outcomes.{stays_none}
use Rattle.recov_alloc.proofs.extents.block_at.Goals as goal

pub returns-then-pages-unit-clause-value : goal.returns-then-pages-unit-clause-value
returns-then-pages-unit-clause-value g c = λ n block. absurd (omega (arith, block.some, block.within, c.if-pages-unit.true, c.requires.header.data_pages))

pub units_at-requires-clause-unit : goal.units_at-requires-clause-unit
units_at-requires-clause-unit g c = omega (arith, c.if-pages-unit.false)

pub returns-then-pages-unit-clause-stays : goal.returns-then-pages-unit-clause-stays
returns-then-pages-unit-clause-stays g c = stays_none c.args.r.now (g.met.R.RegionWords.rest_refl c.args.r.now) c.requires.ready

pub returns-then-pages-unit-clause-ends : goal.returns-then-pages-unit-clause-ends
returns-then-pages-unit-clause-ends g c = record { later = le_refl _; stays = λ stopped. stopped; cause = refl }
