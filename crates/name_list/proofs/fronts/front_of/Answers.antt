use Rattle.std.proofs.Common.{arith}
use Rattle.name_list.proofs.FrontRules.{front_fits, front_more}
use Rattle.name_list.proofs.fronts.front_of.Goals as goal

pub overflow_mul-front : goal.overflow_mul-front
overflow_mul-front c = let small = front_fits c.loop-k.k c.args.name.now (λ k. omega (arith, c.type_inv.name k)) c.loop-k-test.true in omega (arith, small, c.loop-k.invariant)

pub overflow_add-front : goal.overflow_add-front
overflow_add-front c = let small = front_fits c.loop-k.k c.args.name.now (λ k. omega (arith, c.type_inv.name k)) c.loop-k-test.true in omega (arith, small, c.loop-k.invariant, c.from.ensures, c.byte_or_zero.ensures)

pub loop-k-preserved : goal.loop-k-preserved
loop-k-preserved c = let more = front_more c.loop-k.k c.args.name.now in omega (arith, more, c.loop-k.invariant, c.from.ensures, c.byte_or_zero.ensures)
