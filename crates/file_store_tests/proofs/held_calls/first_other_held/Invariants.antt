use Rattle.test_objects.specs.ListVolumes.{ListSound, list_kept, list_seen}
use Rattle.request_ends.specs.Ends.{CanServe}
use Rattle.file_tree.specs.Memos.{InStep}
use Rattle.file_store_tests.proofs.held_calls.first_other_held.Given as goal

abbrev pub invariant-loop-t : goal.invariant-loop-t
invariant-loop-t l = record { can : CanServe l.shape (list_seen l.v) (list_kept l.v); in_step : InStep l.shape (list_seen l.v).words l.memo; sound : ListSound l.v }
