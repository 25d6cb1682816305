use Rattle.rio_base.proofs.Frames.{read_more}
use Rattle.node_pages.proofs.LookingUpRules.{looked_inode}
use Rattle.directories.proofs.CanRead.{can_look, can_stays}
use Rattle.directories.proofs.pages.dir_inode.Goals as goal

pub returns-clause-read : goal.returns-clause-read
returns-clause-read g c = read_more (looked_inode c.args.shape.now _ _ c.args.dir.0 (can_look c.args.shape.now _ c.args.dir.0 c.requires.can.meets) c.requires.can.meets.ino c.read_inode.ensures.read.looks.looks c.read_inode.ensures.caches) c.read_inode.ensures.read

pub returns-clause-can : goal.returns-clause-can
returns-clause-can g c = can_stays c.args.shape.now _ _ c.args.dir.0 c.requires.can.meets (returns-clause-read g c).looks

pub read_inode-requires-clause-can : goal.read_inode-requires-clause-can
read_inode-requires-clause-can g c = record { keeps = c.requires.can.keeps; meets = c.requires.can.meets.has_shape }
