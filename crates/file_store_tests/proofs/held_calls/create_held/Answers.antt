use Rattle.std.proofs.Common.{refl}
use Rattle.test_objects.specs.ListVolumes.{list_kept, list_seen}
use Rattle.rio_requests.specs.Answers.{create as create_of}
use Rattle.rio_requests.specs.Parts.{NoneDone}
use Rattle.request_ends.specs.Ends.{SaysIno}
use Rattle.file_store_tests.proofs.Played.{held_end, held_ok}
use Rattle.file_store_tests.proofs.held_calls.create_held.Goals as goal

pub returns-clause-follows : goal.returns-clause-follows
returns-clause-follows c = held_end SaysIno c.args.shape.now (list_seen c.args.v.now) (list_kept c.args.v.now) (list_seen c.create-answer.new.v) (list_kept c.create-answer.new.v) c.create-answer.new.memo (λ s. create_of s c.args.path.now) (λ s. NoneDone s) c.create-answer.result c.node_is_due.result c.requires.can c.create-answer.ensures.leaves c.create-answer.ensures.in_step c.node_is_due.ensures

pub returns-then-not-is_path-clause-follows : goal.returns-then-not-is_path-clause-follows
returns-then-not-is_path-clause-follows c = held_ok _ _ _ _ _ c.requires.can c.requires.in_step

pub create-answer-requires-clause-path : goal.create-answer-requires-clause-path
create-answer-requires-clause-path c = c.if-not-is_path.ensures.0 refl
