use Rattle.std.proofs.Common.{refl}
use Rattle.block_alloc.proofs.Marks.{bit_unused, bit_used}
use Rattle.block_alloc.proofs.marking.with_bit.Goals as goal

pub returns-then-used : goal.returns-then-used
returns-then-used c = bit_used _ _ _ _ c.if-used.true c.requires refl

pub returns-else-used : goal.returns-else-used
returns-else-used c = bit_unused _ _ _ _ c.if-used.false c.requires refl
