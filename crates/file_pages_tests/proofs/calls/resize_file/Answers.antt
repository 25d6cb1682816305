use Rattle.node_pages.specs.declared.failures.SizeFail.TheVariants.{Stopped}
use Rattle.file_pages_tests.proofs.TestFiles.{sized_ready, written_stand}
use Rattle.file_pages_tests.proofs.calls.resize_file.Goals as goal

pub returns-clause-files : goal.returns-clause-files
returns-clause-files g c =
    let call = c.resize.ensures in
    sized_ready c.args.shape.now _ _ _ _ c.args.i.0 _ _ c.resize.result c.requires.files c.requires.file (g.met.V.Volume.settled _ c.requires.sound) call.ok call.refused call.fault call.ready

pub returns-clause-stand : goal.returns-clause-stand
returns-clause-stand g c =
    let call = c.resize.ensures in
    written_stand c.args.shape.now _ _ _ _ c.args.i.0 _ c.resize.result Stopped c.requires.files c.requires.file (g.met.V.Volume.settled _ call.sound) call.stopped (returns-clause-files g c)
