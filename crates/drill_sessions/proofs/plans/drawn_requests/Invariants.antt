use Rattle.std.proofs.Common.{All}
use Rattle.rio_requests.specs.Requests.{IsRequest}
use Rattle.drill_sessions.proofs.plans.drawn_requests.Given as goal

abbrev pub invariant-loop : goal.invariant-loop
invariant-loop l = All IsRequest l.requests.items
