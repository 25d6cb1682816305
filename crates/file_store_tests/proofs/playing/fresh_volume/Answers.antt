use Rattle.test_objects.specs.ListVolumes.{list_kept, list_seen}
use Rattle.file_store_tests.proofs.Played.{fresh_can}
use Rattle.file_store_tests.proofs.playing.fresh_volume.Goals as goal

pub returns-clause-can : goal.returns-clause-can
returns-clause-can g c = fresh_can c.args.shape.now (list_seen c.in-Ok.v) (list_kept c.in-Ok.v) c.in-Ok.ensures.fresh
