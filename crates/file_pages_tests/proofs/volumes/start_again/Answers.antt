use Rattle.test_objects.specs.ListVolumes.{list_kept, list_seen, list_settled}
use Rattle.file_pages_tests.proofs.TestFiles.{files_again, files_stand}
use Rattle.file_pages_tests.proofs.volumes.start_again.Goals as goal

pub returns-clause-files : goal.returns-clause-files
returns-clause-files c = files_again c.args.shape.now _ _ _ _ c.requires.stand c.start_again.ensures.ready c.start_again.ensures.words

pub returns-clause-stand : goal.returns-clause-stand
returns-clause-stand c =
    let v = c.start_again.new.v in
    files_stand c.args.shape.now (list_seen v) (list_kept v) (returns-clause-files c) (list_settled v c.start_again.ensures.sound)
