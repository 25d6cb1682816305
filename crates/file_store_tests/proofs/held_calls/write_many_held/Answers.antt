use Rattle.file_store_tests.proofs.Played.{held_ok}
use Rattle.file_store_tests.proofs.held_calls.write_many_held.Goals as goal

pub returns-in_default-clause-follows : goal.returns-in_default-clause-follows
returns-in_default-clause-follows c = held_ok _ _ _ _ _ c.requires.can c.requires.in_step
