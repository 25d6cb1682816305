use Rattle.test_objects.specs.ListVolumes.{list_kept, list_seen}
use Rattle.rio_requests.specs.Answers.{write as write_of}
use Rattle.rio_requests.specs.Parts.{WriteDone}
use Rattle.request_ends.specs.Ends.{SaysCount}
use Rattle.file_store_tests.proofs.Played.{follows_end}
use Rattle.file_store_tests.proofs.calls.write_as.Goals as goal

pub returns-clause-follows : goal.returns-clause-follows
returns-clause-follows c = follows_end SaysCount c.args.shape.now (list_seen c.args.v.now) (list_kept c.args.v.now) (list_seen c.write-answer.new.v) (list_kept c.write-answer.new.v) (λ s. write_of s c.args.path.now c.args.off c.args.bytes.now) (λ s. WriteDone s c.args.path.now c.args.off c.args.bytes.now (write_of s c.args.path.now c.args.off c.args.bytes.now)) c.write-answer.result c.count_is_due.result c.requires.can c.write-answer.ensures.leaves c.count_is_due.ensures
