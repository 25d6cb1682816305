use Rattle.test_objects.specs.ListVolumes.{list_kept, list_seen, list_settled}
use Rattle.file_pages_tests.proofs.TestFiles.{files_made, files_stand}
use Rattle.file_pages_tests.proofs.volumes.with_files.Goals as goal

pub returns-clause-files : goal.returns-clause-files
returns-clause-files g c = files_made c.args.shape.now _ _ c.in-Ok.ensures.ready c.in-Ok.ensures.nodes

pub returns-clause-stand : goal.returns-clause-stand
returns-clause-stand g c =
    let v = c.in-Ok.v in
    files_stand c.args.shape.now (list_seen v) (list_kept v) (returns-clause-files g c) (list_settled v c.in-Ok.ensures.sound)
