use Rattle.test_objects.specs.ListVolumes.{list_kept, list_seen}
use Rattle.rio_requests.specs.Answers.{unlink as unlink_of}
use Rattle.rio_requests.specs.Parts.{NoneDone}
use Rattle.request_ends.specs.Ends.{SaysDone}
use Rattle.file_tree.specs.Walks.{ino_numbers}
use Rattle.file_store_tests.proofs.Played.{follows_end}
use Rattle.file_store_tests.proofs.calls.unlink_as.Goals as goal

pub returns-clause-follows : goal.returns-clause-follows
returns-clause-follows c = follows_end SaysDone c.args.shape.now (list_seen c.args.v.now) (list_kept c.args.v.now) (list_seen c.unlink-answer.new.v) (list_kept c.unlink-answer.new.v) (λ s. unlink_of s c.args.path.now (ino_numbers c.from-busy.result)) (λ s. NoneDone s) c.unlink-answer.result c.done_is_due.result c.requires.can c.unlink-answer.ensures.leaves c.done_is_due.ensures
