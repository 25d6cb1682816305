use Rattle.file_tree.proofs.walking.inode_of.Goals as goal

pub returns-clause-read : goal.returns-clause-read
returns-clause-read g c = c.node_inode.ensures.read

pub node_inode-requires-clause-can : goal.node_inode-requires-clause-can
node_inode-requires-clause-can g c = c.requires.can
