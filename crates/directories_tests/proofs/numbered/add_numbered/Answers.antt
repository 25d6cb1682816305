use Rattle.std.proofs.Common.{arith}
use Rattle.directories_tests.proofs.numbered.add_numbered.Goals as goal

pub add-requires-clause-dir : goal.add-requires-clause-dir
add-requires-clause-dir c = record { from = omega arith; to = omega arith }

pub add-requires-clause-ino : goal.add-requires-clause-ino
add-requires-clause-ino c = record { from = omega arith; to = omega arith }
