use Rattle.test_objects.specs.ListVolumes.{ListSound, list_kept, list_seen}
use Rattle.directories_tests.specs.TestDirs.{DirsReady}
use Rattle.directories_tests.proofs.rows.first_other.Given as goal

abbrev pub invariant-loop-k : goal.invariant-loop-k
invariant-loop-k l = record { dirs : DirsReady l.shape (list_seen l.v) (list_kept l.v); sound : ListSound l.v }
