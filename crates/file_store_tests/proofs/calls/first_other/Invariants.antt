use Rattle.test_objects.specs.ListVolumes.{ListSound, list_kept, list_seen}
use Rattle.request_ends.specs.Ends.{CanServe}
use Rattle.file_store_tests.proofs.calls.first_other.Given as goal

abbrev pub invariant-loop-t : goal.invariant-loop-t
invariant-loop-t l = record { can : CanServe l.shape (list_seen l.v) (list_kept l.v); sound : ListSound l.v }
