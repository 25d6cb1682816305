use Rattle.directories_tests.proofs.PlansMade.{dirs_read, dirs_rows}
use Rattle.directories_tests.proofs.held.hold.Goals as goal

pub returns-in_err-hold_names-clause-dirs : goal.returns-in_err-hold_names-clause-dirs
returns-in_err-hold_names-clause-dirs g c = dirs_read c.args.shape.now _ _ _ _ _ _ _ _ c.inode_in.ensures.dirs c.hold_names.ensures.read.looks.looks c.hold_names.ensures.read.looks.has_shape c.hold_names.ensures.read.looks.named (g.met.V.Volume.passes_keeps _ _ c.hold_names.ensures.read.passed)

pub returns-clause-dirs : goal.returns-clause-dirs
returns-clause-dirs g c = dirs_read c.args.shape.now _ _ _ _ _ _ _ _ c.inode_in.ensures.dirs c.hold_names.ensures.read.looks.looks c.hold_names.ensures.read.looks.has_shape c.hold_names.ensures.read.looks.named (g.met.V.Volume.passes_keeps _ _ c.hold_names.ensures.read.passed)

pub hold_names-requires-clause-can : goal.hold_names-requires-clause-can
hold_names-requires-clause-can g c = record { keeps = c.inode_in.ensures.sound; meets = dirs_rows c.inode_in.ensures.dirs }
