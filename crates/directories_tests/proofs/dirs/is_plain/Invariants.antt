use Rattle.directories.proofs.Common.{◌<◌, ℕ}
use Rattle.std.specs.Prelude.{slice_index}
use Rattle.directories_tests.specs.TestDirs.{IsPlainByte}
use Rattle.directories_tests.proofs.dirs.is_plain.Given as goal

abbrev pub invariant-loop-k : goal.invariant-loop-k
invariant-loop-k l = (q : ℕ) → q < l.k → IsPlainByte (slice_index l.name q)
