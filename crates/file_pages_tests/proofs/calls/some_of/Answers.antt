use Rattle.file_pages_tests.proofs.TestFiles.{files_read}
use Rattle.file_pages_tests.proofs.calls.some_of.Goals as goal

pub returns-clause-files : goal.returns-clause-files
returns-clause-files g c =
    let call = c.read.ensures in
    files_read c.args.shape.now _ _ _ _ _ _ _ _ c.requires.files call.looks call.shape call.named (g.met.V.Volume.passes_keeps _ _ call.passes)
