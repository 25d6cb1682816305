use Rattle.std.proofs.Common.{◌≡◌, false}
use Rattle.test_objects.specs.ListVolumes.{ListSound, list_kept, list_seen}
use Rattle.volume_tests.proofs.inode_tests.with_used.Given as goal

abbrev pub invariant-loop-i : goal.invariant-loop-i
invariant-loop-i l = record {
  sound : ListSound l.v;
  count : (list_seen l.v).count ≡ 16;
  idle : (list_kept l.v).updating ≡ false;
}
