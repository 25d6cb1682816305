use Rattle.boots.specs.Legal.{first_state}
use Rattle.boots.proofs.ManyBoots.{is_legal}
use Rattle.boots.proofs.many_boots.live.Goals as goal

pub run_boots-requires-clause-plans : goal.run_boots-requires-clause-plans
run_boots-requires-clause-plans c = rw (c.as_slice.ensures, c.in_ok-parts.ensures.words) c.requires.boots

pub run_boots-requires-clause-stand : goal.run_boots-requires-clause-stand
run_boots-requires-clause-stand c = (_, c.in_ok-parts.ensures.stand)

pub count_parts-requires : goal.count_parts-requires
count_parts-requires c =
    let led = c.in_ok-boots.ensures.lead _ c.in_ok-parts.ensures.stand in
    record { stand = (led.0, led.2) }

pub returns : goal.returns
returns c =
    let led = c.in_ok-boots.ensures.lead (first_state c.args.plan.now) c.in_ok-parts.ensures.stand in
    let counted = c.in_ok-counts.ensures.counts led.0 led.2 in
    record { legal = is_legal c.args.plan.now _ c.as_slice.result.now c.in_ok-boots.boots.items led.0 c.as_slice.ensures c.into.ensures led.1 counted.0 counted.1 }
