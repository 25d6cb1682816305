use Rattle.node_pages.specs.declared.failures.WriteFail.TheVariants.{Stopped}
use Rattle.file_pages_tests.proofs.TestFiles.{written_ready, written_stand}
use Rattle.file_pages_tests.proofs.calls.write_file.Goals as goal

pub returns-clause-files : goal.returns-clause-files
returns-clause-files g c =
    let call = c.write.ensures in
    written_ready c.args.shape.now _ _ _ _ c.args.i.0 c.args.off c.args.bytes.now _ c.write.result c.requires.files c.requires.file (g.met.V.Volume.settled _ c.requires.sound) call.ok call.refused call.fault call.ready

pub returns-clause-stand : goal.returns-clause-stand
returns-clause-stand g c =
    let call = c.write.ensures in
    written_stand c.args.shape.now _ _ _ _ c.args.i.0 _ c.write.result Stopped c.requires.files c.requires.file (g.met.V.Volume.settled _ call.sound) call.stopped (returns-clause-files g c)
