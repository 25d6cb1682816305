use Rattle.std.proofs.Common.{◌-◌}
use Rattle.boots.specs.Plans.{some_requests}
use Rattle.boots.proofs.Drawing.{Lacks}
use Rattle.boots.proofs.drawn_boots.drawn_requests.Given as goal

-- what is there, and what is to come
abbrev pub invariant-loop : goal.invariant-loop
invariant-loop l = Lacks l.requests.items (l.count - l.counter) l.draws (some_requests l.count l.fn.draws)
