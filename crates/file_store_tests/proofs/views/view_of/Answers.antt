use Rattle.test_objects.specs.ListVolumes.{list_kept, list_seen}
use Rattle.file_store_tests.proofs.Viewed.{view_sound}
use Rattle.file_store_tests.proofs.views.view_of.Goals as goal

pub returns-clause-sound : goal.returns-clause-sound
returns-clause-sound g c =
    let view = c.view_after-view.result in
    view_sound view.shape c.stand_on.new.view.shape (list_seen view.v) (list_kept view.v) (list_seen c.stand_on.new.view.v) (list_kept c.stand_on.new.view.v) c.stand_on.new.view.ino.0 c.stand_on.new.view.words c.view_after-view.ensures.can c.stand_on.ensures.shape c.stand_on.ensures.words c.in-Ok.ensures.on
