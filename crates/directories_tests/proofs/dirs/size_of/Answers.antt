use Rattle.test_objects.specs.ListVolumes.{list_kept, list_seen}
use Rattle.directories.proofs.Common.{refl}
use Rattle.directories_tests.proofs.PlansMade.{size_said}
use Rattle.directories_tests.proofs.dirs.size_of.Goals as goal

pub returns-clause-value : goal.returns-clause-value
returns-clause-value c = size_said c.args.shape.now (list_seen c.inode_in.new.v) (list_kept c.inode_in.new.v) (list_seen c.inode_in.new.v) c.args.dir.0 c.in_ok-inode.inode c.inode_in.ensures.dirs c.requires.dir refl c.in_ok-inode.ensures.value
