use Rattle.test_objects.specs.ListVolumes.{list_kept, list_seen}
use Rattle.rio_requests.specs.Answers.{read as read_of, stat as stat_of, truncate as truncate_of}
use Rattle.rio_requests.specs.Parts.{NoneDone}
use Rattle.request_ends.specs.Ends.{SaysBytes, SaysDone, SaysStat}
use Rattle.file_store_tests.proofs.Played.{held_end}
use Rattle.file_store_tests.proofs.held_calls.bytes_held.Goals as goal

pub returns-in-Read-clause-follows : goal.returns-in-Read-clause-follows
returns-in-Read-clause-follows c = held_end SaysBytes c.args.shape.now (list_seen c.args.v.now) (list_kept c.args.v.now) (list_seen c.read.new.v) (list_kept c.read.new.v) c.read.new.memo (λ s. read_of s c.args.path.now c.in-Read.off c.in-Read.len) (λ s. NoneDone s) c.read.result c.bytes_are_due.result c.requires.can c.read.ensures.leaves c.read.ensures.in_step c.bytes_are_due.ensures

pub returns-in-Truncate-clause-follows : goal.returns-in-Truncate-clause-follows
returns-in-Truncate-clause-follows c = held_end SaysDone c.args.shape.now (list_seen c.args.v.now) (list_kept c.args.v.now) (list_seen c.truncate.new.v) (list_kept c.truncate.new.v) c.truncate.new.memo (λ s. truncate_of s c.args.path.now c.in-Truncate.len) (λ s. NoneDone s) c.truncate.result c.done_is_due.result c.requires.can c.truncate.ensures.leaves c.truncate.ensures.in_step c.done_is_due.ensures

pub returns-in-Stat-clause-follows : goal.returns-in-Stat-clause-follows
returns-in-Stat-clause-follows c = held_end SaysStat c.args.shape.now (list_seen c.args.v.now) (list_kept c.args.v.now) (list_seen c.stat.new.v) (list_kept c.stat.new.v) c.stat.new.memo (λ s. stat_of s c.args.path.now) (λ s. NoneDone s) c.stat.result c.stat_is_due.result c.requires.can c.stat.ensures.leaves c.stat.ensures.in_step c.stat_is_due.ensures
