use Rattle.std.proofs.Common.{ℕ, ◌<◌}
use Rattle.rio_model.specs.Registry.{tag_at}
use Rattle.machine_tests.specs.TestMachines.{NoneOrDirty}
use Rattle.machine_tests.proofs.cached.are_dirty.Given as goal

abbrev pub invariant-loop-k : goal.invariant-loop-k
invariant-loop-k g l = (k : ℕ) → k < l.k → NoneOrDirty (tag_at (g.M.Machine.contents l.m).words k)
