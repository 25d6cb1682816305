use Rattle.rio_base.proofs.BlockRules.{shape_dropped}
use Rattle.inode_table.proofs.Stored.{front_at, run_at, span_at}
use Rattle.inode_table.proofs.storing.edit_inode.Goals as goal

pub edit_run-requires-clause-place : goal.edit_run-requires-clause-place
edit_run-requires-clause-place g c = span_at c.args.shape.now _ c.args.i.0 c.args.inode.now _ _ _ c.requires.shape c.requires.ino c.inode_block-block.ensures c.inode_place-place.ensures c.words_of-words.ensures

pub returns-in_err-edit_run-clause-front : goal.returns-in_err-edit_run-clause-front
returns-in_err-edit_run-clause-front g c = front_at _ _ c.args.i.0 c.args.inode.now _ _ _ c.inode_block-block.ensures c.inode_place-place.ensures c.words_of-words.ensures c.edit_run.ensures.front

pub returns-in_err-edit_run-clause-shape : goal.returns-in_err-edit_run-clause-shape
returns-in_err-edit_run-clause-shape g c = shape_dropped _ _ _ c.requires.shape c.edit_run.ensures.count c.edit_run.ensures.drops

pub returns-clause-ok : goal.returns-clause-ok
returns-clause-ok g c = run_at _ _ c.args.i.0 c.args.inode.now _ _ _ c.inode_block-block.ensures c.inode_place-place.ensures c.words_of-words.ensures c.in_ok-edit_run.ensures.ok

pub returns-clause-front : goal.returns-clause-front
returns-clause-front g c = front_at _ _ c.args.i.0 c.args.inode.now _ _ _ c.inode_block-block.ensures c.inode_place-place.ensures c.words_of-words.ensures c.edit_run.ensures.front

pub returns-clause-shape : goal.returns-clause-shape
returns-clause-shape g c = shape_dropped _ _ _ c.requires.shape c.edit_run.ensures.count c.edit_run.ensures.drops
