use Rattle.std.proofs.Common.{◌≡◌, ◌-◌, ◌++◌}
use Rattle.boots.specs.Plans.{last_boots}
use Rattle.boots.proofs.drawn_plan.planned_boots.Given as goal

-- what is there, and what is to come
abbrev pub invariant-loop-made : goal.invariant-loop-made
invariant-loop-made l = l.plans.items ++ last_boots l.boots l.requests (l.boots - l.made) l.draws ≡ last_boots l.boots l.requests l.boots l.seed
