use Rattle.std.proofs.Common.{◌≡◌, ◌<◌, ◌⊎◌, ℕ}
use Rattle.rio_model.specs.Registry.{IsValid}
use Rattle.machine_tests.proofs.shadow_tests.are_only.Given as goal

abbrev pub invariant-loop-k : goal.invariant-loop-k
invariant-loop-k g l = (k : ℕ) → k < l.k → IsValid (g.M.Machine.contents l.m).words k → (k ≡ 3) ⊎ (k ≡ 4)
