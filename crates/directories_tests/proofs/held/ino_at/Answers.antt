use Rattle.directories_tests.proofs.PlansMade.{dirs_read, dirs_rows}
use Rattle.directories_tests.proofs.held.ino_at.Goals as goal

pub returns-clause-dirs : goal.returns-clause-dirs
returns-clause-dirs g c = dirs_read c.args.shape.now _ _ _ _ _ _ _ _ c.inode_in.ensures.dirs c.row_at.ensures.read.looks.looks c.row_at.ensures.read.looks.has_shape c.row_at.ensures.read.looks.named (g.met.V.Volume.passes_keeps _ _ c.row_at.ensures.read.passed)

pub row_at-requires-clause-can : goal.row_at-requires-clause-can
row_at-requires-clause-can g c = record { keeps = c.inode_in.ensures.sound; meets = dirs_rows c.inode_in.ensures.dirs }
