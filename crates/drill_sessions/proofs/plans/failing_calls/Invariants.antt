use Rattle.std.proofs.Common.{◌≤◌, ℕ, All}
use Rattle.drill_sessions.proofs.plans.failing_calls.Given as goal

abbrev pub invariant-loop-n : goal.invariant-loop-n
invariant-loop-n l = All (λ (n : ℕ). 1 ≤ n) l.calls.items
