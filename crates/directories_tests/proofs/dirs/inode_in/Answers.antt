use Rattle.directories.proofs.Common.{sym, subst, IfOk, BlockWords, IsInode}
use Rattle.node_pages.proofs.LookingUpRules.{can_look_up, looked_inode}
use Rattle.directories_tests.proofs.MadeDirs.{test_ino, test_kind}
use Rattle.directories_tests.proofs.PlansMade.{dirs_looked}
use Rattle.directories_tests.proofs.dirs.inode_in.Goals as goal

pub read_inode-requires-clause-ino : goal.read_inode-requires-clause-ino
read_inode-requires-clause-ino g c = test_ino c.args.shape.now _ _ c.args.dir.0 c.requires.dirs c.requires.dir

pub read_inode-requires-clause-kind : goal.read_inode-requires-clause-kind
read_inode-requires-clause-kind g c = test_kind c.args.shape.now _ _ c.args.dir.0 c.requires.dirs c.requires.dir

pub returns-clause-value : goal.returns-clause-value
returns-clause-value g c = subst (λ (f : BlockWords). IfOk c.read_inode.result (IsInode f c.args.dir.0)) (sym c.read_inode.ensures.read.looks.looks.words) c.read_inode.ensures.value

pub returns-clause-dirs : goal.returns-clause-dirs
returns-clause-dirs g c =
    let h = c.requires.dirs in
    let call = c.read_inode.ensures in
    dirs_looked c.args.shape.now _ _ _ _ _ _ _ _ h (looked_inode c.args.shape.now _ _ c.args.dir.0 (can_look_up c.args.shape.now _ h.ready.order.has_shape h.ready.order.mapped h.ready.order.named) (test_ino c.args.shape.now _ _ c.args.dir.0 h c.requires.dir) call.read.looks.looks call.caches) (g.met.V.Volume.passes_keeps _ _ call.read.passed)

pub read_inode-requires-clause-can : goal.read_inode-requires-clause-can
read_inode-requires-clause-can g c = record { keeps = c.requires.sound; meets = c.requires.dirs.ready.order.has_shape }
