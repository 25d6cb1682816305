use Rattle.std.proofs.Common.{arith}
use Rattle.directories_tests.proofs.numbered.remove_numbered.Goals as goal

pub remove-requires-clause-dir : goal.remove-requires-clause-dir
remove-requires-clause-dir c = record { from = omega arith; to = omega arith }
