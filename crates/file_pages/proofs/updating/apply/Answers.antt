use Rattle.file_pages.proofs.Common.{subst, sym, Contains}
use Rattle.node_pages.proofs.Updated.{bitmap_dropped, applied_as, can_update}
use Rattle.file_pages.proofs.Touched.{change_is_touched}
use Rattle.file_pages.proofs.updating.apply.Goals as goal

pub make_words-requires-clause-edited : goal.make_words-requires-clause-edited
make_words-requires-clause-edited g c = λ e on. c.requires.touched.edited e (subst (λ xs. Contains xs e) c.as_slice-edits.ensures on)

pub make_words-requires-clause-can : goal.make_words-requires-clause-can
make_words-requires-clause-can g c = let keeps = c.keeps_blocks.ensures.keeps c.if-keeps_blocks.true in can_update c.args.shape.now _ _ _ _ _ _ c.as_slice-edits.ensures (sym keeps.0) (sym keeps.1) c.requires.can

pub returns-then-keeps_blocks-clause-ok : goal.returns-then-keeps_blocks-clause-ok
returns-then-keeps_blocks-clause-ok g c = let keeps = c.keeps_blocks.ensures.keeps c.if-keeps_blocks.true in applied_as c.args.shape.now c.args.i.0 c.args.change.now.inode _ _ _ _ _ _ _ _ _ c.as_slice-edits.ensures (sym keeps.0) (sym keeps.1) c.make_words.ensures.ok

pub returns-then-keeps_blocks-clause-caches : goal.returns-then-keeps_blocks-clause-caches
returns-then-keeps_blocks-clause-caches g c = bitmap_dropped _ _ c.make_words.ensures.drops

pub make_update-requires-clause-touched : goal.make_update-requires-clause-touched
make_update-requires-clause-touched g c = change_is_touched _ c.args.i.0 c.args.change.now _ c.as_slice-edits.ensures (c.keeps_blocks.ensures.marks c.if-keeps_blocks.false) c.requires.touched

pub make_update-requires-clause-can : goal.make_update-requires-clause-can
make_update-requires-clause-can g c = can_update c.args.shape.now _ _ _ _ _ _ c.as_slice-edits.ensures c.as_slice.ensures c.as_slice-2.ensures c.requires.can

pub returns-clause-ok : goal.returns-clause-ok
returns-clause-ok g c = applied_as c.args.shape.now c.args.i.0 c.args.change.now.inode _ _ _ _ _ _ _ _ _ c.as_slice-edits.ensures c.as_slice.ensures c.as_slice-2.ensures c.make_update.ensures.ok
