use Rattle.std.proofs.Common.{◌≡◌, ◌+◌, ◌<◌, ℕ, []}
use Rattle.std.specs.Prelude.{slice_index_or}
use Rattle.volume_check.proofs.names.neighbours_differ.Given as goal

abbrev pub invariant-loop-k : goal.invariant-loop-k
invariant-loop-k l = (k : ℕ) → k + 1 < l.k → slice_index_or l.names k [] ≡ slice_index_or l.names (k + 1) [] → ⊥
