use Rattle.test_objects.specs.ListVolumes.{list_seen}
use Rattle.file_store_tests.proofs.Played.{held_looked}
use Rattle.file_store_tests.proofs.held_calls.answers_held.Goals as goal

pub returns-in-Free-clause-follows : goal.returns-in-Free-clause-follows
returns-in-Free-clause-follows c = held_looked _ (list_seen c.args.v.now) _ _ _ _ c.free_as.ensures.can c.free_as.ensures.words c.requires.in_step

pub returns-in-Block-clause-follows : goal.returns-in-Block-clause-follows
returns-in-Block-clause-follows c = held_looked _ (list_seen c.args.v.now) _ _ _ _ c.block_as.ensures.can c.block_as.ensures.words c.requires.in_step
