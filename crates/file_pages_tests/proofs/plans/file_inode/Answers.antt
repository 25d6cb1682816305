use Rattle.std.proofs.Common.{sym, subst}
use Rattle.std.specs.Prelude.{IfOk}
use Rattle.rio_base.specs.Blocks.{BlockWords}
use Rattle.inode_table.specs.Inodes.{IsInode}
use Rattle.node_pages.proofs.LookingUpRules.{can_look_up, looked_inode}
use Rattle.file_pages_tests.proofs.TestFiles.{files_looked, inode_is_file, test_ino, test_kind}
use Rattle.file_pages_tests.proofs.plans.file_inode.Goals as goal

pub read_inode-requires-clause-can : goal.read_inode-requires-clause-can
read_inode-requires-clause-can g c = record { keeps = c.requires.sound; meets = c.requires.files.ready.order.has_shape }

pub read_inode-requires-clause-ino : goal.read_inode-requires-clause-ino
read_inode-requires-clause-ino g c = test_ino c.args.shape.now _ _ c.args.i.0 c.requires.files c.requires.file

pub read_inode-requires-clause-kind : goal.read_inode-requires-clause-kind
read_inode-requires-clause-kind g c = test_kind c.args.shape.now _ _ c.args.i.0 c.requires.files c.requires.file

pub returns-clause-is : goal.returns-clause-is
returns-clause-is g c =
    let call = c.read_inode.ensures in
    subst (λ (f : BlockWords). IfOk c.read_inode.result (IsInode f c.args.i.0)) (sym call.read.looks.looks.words) call.value

pub returns-clause-kind : goal.returns-clause-kind
returns-clause-kind g c = inode_is_file c.args.shape.now _ _ c.args.i.0 c.read_inode.result c.requires.files c.requires.file c.read_inode.ensures.value

pub returns-clause-files : goal.returns-clause-files
returns-clause-files g c =
    let h = c.requires.files in
    let call = c.read_inode.ensures in
    files_looked c.args.shape.now _ _ _ _ _ _ _ _ h (looked_inode c.args.shape.now _ _ c.args.i.0 (can_look_up c.args.shape.now _ h.ready.order.has_shape h.ready.order.mapped h.ready.order.named) (test_ino c.args.shape.now _ _ c.args.i.0 h c.requires.file) call.read.looks.looks call.caches) (g.met.V.Volume.passes_keeps _ _ call.read.passed)
