use Rattle.file_store_tests.proofs.Played.{follows_ok}
use Rattle.file_store_tests.proofs.calls.answers.Goals as goal

pub returns-in-Free-clause-follows : goal.returns-in-Free-clause-follows
returns-in-Free-clause-follows c = follows_ok _ _ _ _ c.free_as.ensures.can

pub returns-in-Block-clause-follows : goal.returns-in-Block-clause-follows
returns-in-Block-clause-follows c = follows_ok _ _ _ _ c.block_as.ensures.can
