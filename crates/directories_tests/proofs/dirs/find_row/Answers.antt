use Rattle.directories.proofs.Common.{sym, subst, IfOk, BlockWords, held_of}
use Rattle.directories.specs.Rows.{Finds}
use Rattle.directories_tests.proofs.PlansMade.{dirs_read, dirs_rows}
use Rattle.directories_tests.proofs.dirs.find_row.Goals as goal

pub returns-clause-value : goal.returns-clause-value
returns-clause-value g c = subst (λ (f : BlockWords). IfOk c.find.result (Finds (held_of c.args.shape.now f c.args.dir.0) c.args.name.now)) (sym c.find.ensures.read.looks.looks.words) c.find.ensures.value

pub returns-clause-dirs : goal.returns-clause-dirs
returns-clause-dirs g c = dirs_read c.args.shape.now _ _ _ _ _ _ _ _ c.requires.dirs c.find.ensures.read.looks.looks c.find.ensures.read.looks.has_shape c.find.ensures.read.looks.named (g.met.V.Volume.passes_keeps _ _ c.find.ensures.read.passed)

pub find-requires-clause-can : goal.find-requires-clause-can
find-requires-clause-can g c = record { keeps = c.requires.sound; meets = dirs_rows c.requires.dirs }
