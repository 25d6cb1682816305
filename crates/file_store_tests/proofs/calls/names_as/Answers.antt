use Rattle.test_objects.specs.ListVolumes.{list_kept, list_seen}
use Rattle.rio_requests.specs.Answers.{list as list_of, mkdir as mkdir_of, rmdir as rmdir_of}
use Rattle.rio_requests.specs.Parts.{NoneDone}
use Rattle.request_ends.specs.Ends.{SaysDone, SaysIno, SaysNames}
use Rattle.file_store_tests.proofs.Played.{follows_end}
use Rattle.file_store_tests.proofs.calls.names_as.Goals as goal

pub returns-in-Mkdir-clause-follows : goal.returns-in-Mkdir-clause-follows
returns-in-Mkdir-clause-follows c = follows_end SaysIno c.args.shape.now (list_seen c.args.v.now) (list_kept c.args.v.now) (list_seen c.mkdir.new.v) (list_kept c.mkdir.new.v) (λ s. mkdir_of s c.args.path.now) (λ s. NoneDone s) c.mkdir.result c.node_is_due.result c.requires.can c.mkdir.ensures.leaves c.node_is_due.ensures

pub returns-in-Rmdir-clause-follows : goal.returns-in-Rmdir-clause-follows
returns-in-Rmdir-clause-follows c = follows_end SaysDone c.args.shape.now (list_seen c.args.v.now) (list_kept c.args.v.now) (list_seen c.rmdir.new.v) (list_kept c.rmdir.new.v) (λ s. rmdir_of s c.args.path.now) (λ s. NoneDone s) c.rmdir.result c.done_is_due.result c.requires.can c.rmdir.ensures.leaves c.done_is_due.ensures

pub returns-in-List-clause-follows : goal.returns-in-List-clause-follows
returns-in-List-clause-follows c = follows_end SaysNames c.args.shape.now (list_seen c.args.v.now) (list_kept c.args.v.now) (list_seen c.list.new.v) (list_kept c.list.new.v) (λ s. list_of s c.args.path.now) (λ s. NoneDone s) c.list.result c.names_are_due.result c.requires.can c.list.ensures.leaves c.names_are_due.ensures
