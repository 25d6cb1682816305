use Rattle.std.proofs.Common.{arith, refl}
use Rattle.block_alloc.proofs.Free.{push_kept, push_done, first_bit}
use Rattle.block_alloc.proofs.taking.push_free.Goals as goal

pub loop-rest-preserved : goal.loop-rest-preserved
loop-rest-preserved c = record { kept = push_kept _ _ c.args.first _ _ _ _ _ (omega arith) c.in_ok-push.ensures.items (first_bit c.loop-rest.rest c.args.first _ (omega arith) (omega arith) refl) c.loop-rest.invariant.kept }

pub returns-after-loop-rest : goal.returns-after-loop-rest
returns-after-loop-rest c = push_done _ _ c.args.first c.loop-rest.rest _ c.loop-rest-test.false c.loop-rest.invariant.kept
