use Rattle.rio_base.proofs.Frames.{read_word}
use Rattle.node_pages.proofs.LookingUpRules.{looked_inode}
use Rattle.node_pages.proofs.lookup.inode_word.Goals as goal

pub returns-clause-read : goal.returns-clause-read
returns-clause-read g c = read_word c.word.result (looked_inode c.args.shape.now _ _ c.args.i.0 c.requires.can.meets c.requires.ino c.word.ensures.looks c.word.ensures.caches) c.word.ensures.passes c.word.ensures.ends c.word.ensures.sound
