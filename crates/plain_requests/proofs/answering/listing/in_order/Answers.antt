use Rattle.plain_requests.proofs.Common.{arith}
use Rattle.plain_requests.proofs.Listing.{none_placed, placed_next}
use Rattle.plain_requests.proofs.answering.listing.in_order.Goals as goal

pub loop-left-init : goal.loop-left-init
loop-left-init c = record { within = omega arith; placed = none_placed c.args.rows.now _ c.new-made.ensures.items }

pub loop-left-preserved : goal.loop-left-preserved
loop-left-preserved c = record {
  within = omega (arith, c.loop-left.invariant.within);
  placed = placed_next c.args.rows.now c.loop-left.left c.index-rows-left.result c.in_ok-clone.field-0 _ _ c.loop-left-test.true c.loop-left.invariant.within c.index-rows-left.is c.in_ok-clone.ensures.cases c.loop-left.invariant.placed c.in_ok-put_row.ensures;
}
