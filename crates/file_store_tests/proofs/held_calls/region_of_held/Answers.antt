use Rattle.request_ends.proofs.Reading.{file_served}
use Rattle.test_objects.specs.ListVolumes.{list_below, list_kept}
use Rattle.file_store_tests.proofs.held_calls.region_of_held.Goals as goal

pub returns-in-Ok-node_is_due-clause-can : goal.returns-in-Ok-node_is_due-clause-can
returns-in-Ok-node_is_due-clause-can c = (file_served {below = list_below} {kept = list_kept} (λ x y passed. passed) c.requires.can c.region_at.ensures.read).can

pub returns-in-Err-node_is_due-clause-can : goal.returns-in-Err-node_is_due-clause-can
returns-in-Err-node_is_due-clause-can c = (file_served {below = list_below} {kept = list_kept} (λ x y passed. passed) c.requires.can c.region_at.ensures.read).can
