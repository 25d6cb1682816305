use Rattle.std.proofs.Common.{refl}
use Rattle.test_objects.specs.ListVolumes.{list_kept, list_seen}
use Rattle.rio_requests.specs.Answers.{create as create_of}
use Rattle.rio_requests.specs.Parts.{NoneDone}
use Rattle.request_ends.specs.Ends.{SaysIno}
use Rattle.file_store_tests.proofs.Played.{follows_end, follows_ok}
use Rattle.file_store_tests.proofs.calls.create_as.Goals as goal

pub returns-clause-follows : goal.returns-clause-follows
returns-clause-follows c = follows_end SaysIno c.args.shape.now (list_seen c.args.v.now) (list_kept c.args.v.now) (list_seen c.create-answer.new.v) (list_kept c.create-answer.new.v) (λ s. create_of s c.args.path.now) (λ s. NoneDone s) c.create-answer.result c.node_is_due.result c.requires.can c.create-answer.ensures.leaves c.node_is_due.ensures

pub returns-then-not-is_path-clause-follows : goal.returns-then-not-is_path-clause-follows
returns-then-not-is_path-clause-follows c = follows_ok _ _ _ _ c.requires.can

pub create-answer-requires-clause-path : goal.create-answer-requires-clause-path
create-answer-requires-clause-path c = c.if-not-is_path.ensures.0 refl
