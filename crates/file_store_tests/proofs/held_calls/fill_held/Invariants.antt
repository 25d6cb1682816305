use Rattle.test_objects.specs.ListVolumes.{ListSound, list_kept, list_seen}
use Rattle.request_ends.specs.Ends.{CanServe}
use Rattle.file_tree.specs.Memos.{InStep}
use Rattle.file_store_tests.proofs.held_calls.fill_held.Given as goal

abbrev pub invariant-loop-n : goal.invariant-loop-n
invariant-loop-n l = record {
  can : CanServe l.shape (list_seen l.v) (list_kept l.v);
  in_step : InStep l.shape (list_seen l.v).words l.memo;
  sound : ListSound l.v;
}
