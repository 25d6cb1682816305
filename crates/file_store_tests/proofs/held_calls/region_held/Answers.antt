use Rattle.test_objects.specs.ListVolumes.{list_kept, list_seen}
use Rattle.rio_requests.specs.Answers.{make_region as make_region_of}
use Rattle.rio_requests.specs.Parts.{NoneDone}
use Rattle.request_ends.specs.Ends.{SaysIno}
use Rattle.file_store_tests.proofs.Played.{held_end, held_ok}
use Rattle.file_store_tests.proofs.held_calls.region_held.Goals as goal

pub returns-clause-follows : goal.returns-clause-follows
returns-clause-follows c = held_end SaysIno c.args.shape.now (list_seen c.args.v.now) (list_kept c.args.v.now) (list_seen c.make_region-answer.new.v) (list_kept c.make_region-answer.new.v) c.make_region-answer.new.memo (λ s. make_region_of s c.args.path.now c.args.data_pages c.args.undo_pages) (λ s. NoneDone s) c.make_region-answer.result c.node_is_due.result c.requires.can c.make_region-answer.ensures.leaves c.make_region-answer.ensures.in_step c.node_is_due.ensures

pub returns-then-data_pages-eq0-clause-follows : goal.returns-then-data_pages-eq0-clause-follows
returns-then-data_pages-eq0-clause-follows c = held_ok _ _ _ _ _ c.requires.can c.requires.in_step

pub returns-then-undo_pages-eq0-clause-follows : goal.returns-then-undo_pages-eq0-clause-follows
returns-then-undo_pages-eq0-clause-follows c = held_ok _ _ _ _ _ c.requires.can c.requires.in_step
