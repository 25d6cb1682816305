use Rattle.region_tests.proofs.TestHeaps.{of_fresh}
use Rattle.region_tests.proofs.heap_calls.fresh_heap.Goals as goal

pub returns-clause-heap : goal.returns-clause-heap
returns-clause-heap c = of_fresh c.args.pages c.in_ok-r.r c.in_ok-r.ensures.fresh
