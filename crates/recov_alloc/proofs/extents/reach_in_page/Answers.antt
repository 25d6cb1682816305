use Rattle.recov_alloc.proofs.Reaches.{reach_by, reach_none}
use Rattle.recov_alloc.proofs.extents.reach_in_page.Goals as goal

pub returns-then-bit-eq64 : goal.returns-then-bit-eq64
returns-then-bit-eq64 c = reach_none c.args.used c.args.starts c.args.unit c.if-bit-eq64.true

pub returns : goal.returns
returns c = reach_by c.args.used c.args.starts c.args.unit c.units_on.result c.units_on.ensures
