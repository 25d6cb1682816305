use Rattle.file_store_tests.proofs.Played.{follows_ok}
use Rattle.file_store_tests.proofs.calls.write_many_as.Goals as goal

pub returns-in_default-clause-follows : goal.returns-in_default-clause-follows
returns-in_default-clause-follows c = follows_ok _ _ _ _ c.requires.can
