use Rattle.std.specs.Prelude.{length}
use Rattle.std.proofs.Common.{◌≡◌}
use Rattle.machine_tests.proofs.cached.found_in.Given as goal

abbrev pub invariant-loop-k : goal.invariant-loop-k
invariant-loop-k g l = length l.into.items ≡ 512
