use Rattle.std.proofs.Common.{◌∙◌}
use Rattle.inode_table.specs.Inodes.{inode_words}
use Rattle.volume_tests.proofs.StoredBeside.{stored_stay}
use Rattle.volume_tests.proofs.inode_tests.store.Goals as goal

pub returns-clause-others : goal.returns-clause-others
returns-clause-others g c = stored_stay _ _ _ _ _ c.args.i.0 (inode_words c.args.inode.now) c.requires.ino (c.touch.ensures.looks.words ∙ c.begin.ensures.looks.words) c.in_ok-edit_inode.ensures.ok c.commit.ensures.looks.words
