use Rattle.directories_tests.proofs.PlansMade.{dirs_read, dirs_rows}
use Rattle.directories_tests.proofs.dirs.list.Goals as goal

pub returns-clause-dirs : goal.returns-clause-dirs
returns-clause-dirs g c = dirs_read c.args.shape.now _ _ _ _ _ _ _ _ c.requires.dirs c.names.ensures.read.looks.looks c.names.ensures.read.looks.has_shape c.names.ensures.read.looks.named (g.met.V.Volume.passes_keeps _ _ c.names.ensures.read.passed)

pub names-requires-clause-can : goal.names-requires-clause-can
names-requires-clause-can g c = record { keeps = c.requires.sound; meets = dirs_rows c.requires.dirs }
