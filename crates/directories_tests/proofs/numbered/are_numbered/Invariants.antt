use Rattle.test_objects.specs.ListVolumes.{ListSound, list_kept, list_seen}
use Rattle.directories_tests.specs.TestDirs.{DirsReady}
use Rattle.directories_tests.proofs.numbered.are_numbered.Given as goal

abbrev pub invariant-loop-n : goal.invariant-loop-n
invariant-loop-n l = record { dirs : DirsReady l.shape (list_seen l.v) (list_kept l.v); sound : ListSound l.v }
