use Rattle.test_objects.specs.ListVolumes.{list_kept, list_seen}
use Rattle.file_store_tests.proofs.Played.{started_can}
use Rattle.file_store_tests.proofs.playing.play_or_start.Goals as goal

pub returns-in-Err-clause-can : goal.returns-in-Err-clause-can
returns-in-Err-clause-can c = started_can c.args.shape.now (list_seen c.first_other.new.v) (list_kept c.first_other.new.v) (list_seen c.start_again.new.v) (list_kept c.start_again.new.v) c.in-Err.ensures.follows.err c.start_again.ensures.ready c.start_again.ensures.words
