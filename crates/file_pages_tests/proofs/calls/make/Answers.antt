use Rattle.file_pages_tests.proofs.TestFiles.{files_stand}
use Rattle.file_pages_tests.proofs.calls.make.Goals as goal

pub returns-in-Err-clause-stand : goal.returns-in-Err-clause-stand
returns-in-Err-clause-stand g c = files_stand c.args.shape.now _ _ c.requires.files (g.met.V.Volume.settled _ c.requires.sound)
