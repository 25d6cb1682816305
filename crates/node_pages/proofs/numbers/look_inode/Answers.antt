use Rattle.rio_base.proofs.Frames.{read_more}
use Rattle.node_pages.proofs.LookingUpRules.{looked_inode}
use Rattle.node_pages.proofs.numbers.look_inode.Goals as goal

pub returns-clause-read : goal.returns-clause-read
returns-clause-read g c = read_more (looked_inode c.args.shape.now _ _ c.args.i.0 c.requires.can.meets c.requires.ino c.read_inode.ensures.read.looks.looks c.read_inode.ensures.caches) c.read_inode.ensures.read

pub read_inode-requires-clause-can : goal.read_inode-requires-clause-can
read_inode-requires-clause-can g c = record { keeps = c.requires.can.keeps; meets = c.requires.can.meets.has_shape }
