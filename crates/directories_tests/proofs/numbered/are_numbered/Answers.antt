use Rattle.std.proofs.Common.{arith}
use Rattle.directories_tests.proofs.numbered.are_numbered.Goals as goal

pub names_ino-requires-clause-dir : goal.names_ino-requires-clause-dir
names_ino-requires-clause-dir c = record { from = omega arith; to = omega arith }
