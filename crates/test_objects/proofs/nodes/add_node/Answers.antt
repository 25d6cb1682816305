use Rattle.std.proofs.Common.{ap, arith, inr, ◌∙◌}
use Rattle.rio_base.proofs.BlockRules.{shape_dropped, still_unnamed}
use Rattle.rio_base.specs.Layout.{inode_block, inode_place}
use Rattle.rio_base.specs.Rules.{firm_trans}
use Rattle.rio_base.specs.Volume.{put_run}
use Rattle.inode_table.specs.Inodes.{inode_words}
use Rattle.test_objects.proofs.nodes.add_node.Goals as goal

pub returns-in_err-begin-clause-shape : goal.returns-in_err-begin-clause-shape
returns-in_err-begin-clause-shape g c = shape_dropped c.args.shape.now _ _ c.requires.shape c.begin.ensures.looks.count c.begin.ensures.drops

pub returns-in_err-touch-clause-firm : goal.returns-in_err-touch-clause-firm
returns-in_err-touch-clause-firm g c = firm_trans _ _ _ c.begin.ensures.firm c.touch.ensures.firm

pub returns-in_err-touch-clause-shape : goal.returns-in_err-touch-clause-shape
returns-in_err-touch-clause-shape g c = still_unnamed c.args.shape.now _ _ _ (shape_dropped c.args.shape.now _ _ c.requires.shape c.begin.ensures.looks.count c.begin.ensures.drops) c.touch.ensures.looks.count c.touch.ensures.caches

pub returns-in_err-edit_inode-clause-firm : goal.returns-in_err-edit_inode-clause-firm
returns-in_err-edit_inode-clause-firm g c = firm_trans _ _ _ (firm_trans _ _ _ c.begin.ensures.firm c.touch.ensures.firm) c.edit_inode.ensures.firm

pub returns-in_err-commit-clause-firm : goal.returns-in_err-commit-clause-firm
returns-in_err-commit-clause-firm g c = firm_trans _ _ _ (firm_trans _ _ _ (firm_trans _ _ _ c.begin.ensures.firm c.touch.ensures.firm) c.edit_inode.ensures.firm) c.commit.ensures.firm

pub returns-in_err-commit-clause-shape : goal.returns-in_err-commit-clause-shape
returns-in_err-commit-clause-shape g c = shape_dropped c.args.shape.now _ _ c.edit_inode.ensures.shape c.commit.ensures.looks.count c.commit.ensures.drops

pub returns-clause-words : goal.returns-clause-words
returns-clause-words g c = c.commit.ensures.looks.words ∙ (c.in_ok-edit_inode.ensures.ok ∙ ap (λ f. put_run f (inode_block c.args.i.0) (inode_place c.args.i.0) 16 (inode_words c.args.inode.now)) (c.touch.ensures.looks.words ∙ c.begin.ensures.looks.words))

pub returns-clause-firm : goal.returns-clause-firm
returns-clause-firm g c = firm_trans _ _ _ (firm_trans _ _ _ (firm_trans _ _ _ c.begin.ensures.firm c.touch.ensures.firm) c.edit_inode.ensures.firm) c.commit.ensures.firm

pub returns-clause-shape : goal.returns-clause-shape
returns-clause-shape g c = shape_dropped c.args.shape.now _ _ c.edit_inode.ensures.shape c.commit.ensures.looks.count c.commit.ensures.drops

pub touch-requires-clause-room : goal.touch-requires-clause-room
touch-requires-clause-room g c = inr (let none = c.in_ok-begin.ensures.ok.touches in omega (arith, none))

pub edit_inode-requires-clause-shape : goal.edit_inode-requires-clause-shape
edit_inode-requires-clause-shape g c = still_unnamed c.args.shape.now _ _ _ (shape_dropped c.args.shape.now _ _ c.requires.shape c.begin.ensures.looks.count c.begin.ensures.drops) c.touch.ensures.looks.count c.touch.ensures.caches
