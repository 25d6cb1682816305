use Rattle.std.proofs.Common.{◌∙◌}
use Rattle.boots.specs.Plans.{last_boots}
use Rattle.boots.proofs.Drawing.{all_planned, one_more_boot}
use Rattle.boots.proofs.drawn_plan.planned_boots.Goals as goal

pub loop-made-preserved : goal.loop-made-preserved
loop-made-preserved c =
    one_more_boot c.loop-made.plans.items c.push.new.self.items (last_boots c.args.boots c.args.requests c.args.boots c.args.seed) c.args.boots c.args.requests c.loop-made.made c.request_share-count.result
    c.loop-made.draws c.planned_boot.new.draws c.in_ok-plan.plan c.loop-made.invariant c.loop-made-test.true c.request_share-count.ensures c.in_ok-plan.ensures c.in_ok-push.ensures.items

pub returns : goal.returns
returns c = c.from.ensures ∙ all_planned c.loop-made.plans.items _ c.args.boots c.args.requests c.loop-made.made c.loop-made.draws c.loop-made.invariant c.loop-made-test.false
