use Rattle.std.proofs.Common.{refl}
use Rattle.test_objects.specs.ListVolumes.{list_kept, list_seen}
use Rattle.rio_requests.specs.Answers.{rename as rename_of}
use Rattle.rio_requests.specs.Parts.{NoneDone}
use Rattle.request_ends.specs.Ends.{SaysDone}
use Rattle.file_tree.specs.Walks.{ino_numbers}
use Rattle.file_store_tests.proofs.Played.{follows_end, follows_ok}
use Rattle.file_store_tests.proofs.calls.rename_as.Goals as goal

pub returns-clause-follows : goal.returns-clause-follows
returns-clause-follows c = follows_end SaysDone c.args.shape.now (list_seen c.args.v.now) (list_kept c.args.v.now) (list_seen c.rename-answer.new.v) (list_kept c.rename-answer.new.v) (λ s. rename_of s c.args.path.now c.args.to.now (ino_numbers c.from-busy.result)) (λ s. NoneDone s) c.rename-answer.result c.done_is_due.result c.requires.can c.rename-answer.ensures.leaves c.done_is_due.ensures

pub returns-then-not-is_path-clause-follows : goal.returns-then-not-is_path-clause-follows
returns-then-not-is_path-clause-follows c = follows_ok _ _ _ _ c.requires.can

pub rename-answer-requires-clause-to : goal.rename-answer-requires-clause-to
rename-answer-requires-clause-to c = c.if-not-is_path.ensures.0 refl
