use Rattle.rio_base.proofs.Frames.{read_more, read_ok}
use Rattle.request_ends.proofs.Reading.{file_value, file_refused, file_vol}
use Rattle.file_tree.proofs.Lookups.{inode_looked, refuses_vol}
use Rattle.region_view.proofs.UsedInodes.{used_ino}
use Rattle.request_ends.proofs.Failed.{never_ok, never_some}
use Rattle.request_ends.proofs.Common.{refl, sym, ◌∙◌, err_from_is_err_and}
use Rattle.file_tree.proofs.LookedAt.{inode_kind_held}
use Rattle.file_tree.proofs.walking.must_be_dir.Goals as goal

pub returns-in_err-inode-clause-refused : goal.returns-in_err-inode-clause-refused
returns-in_err-inode-clause-refused g c =
    let p = err_from_is_err_and c.from_residual.result c.from_residual.ensures.1 in
    refuses_vol 4 _ c.from_residual.result _ p.0 p.1 p.2

pub returns-then-inode-ne-DIRECTORY-clause-refused : goal.returns-then-inode-ne-DIRECTORY-clause-refused
returns-then-inode-ne-DIRECTORY-clause-refused g c = (refl, λ dir. c.if-inode-ne-DIRECTORY.true (inode_kind_held c.args.shape.now (g.V.Blocks.seen c.args.v.now).words c.args.i.0 c.in_ok-inode.inode c.requires.used c.in_ok-inode.ensures.value ∙ dir))

pub returns-clause-ok : goal.returns-clause-ok
returns-clause-ok g c = sym (inode_kind_held c.args.shape.now (g.V.Blocks.seen c.args.v.now).words c.args.i.0 c.in_ok-inode.inode c.requires.used c.in_ok-inode.ensures.value) ∙ c.if-inode-ne-DIRECTORY.false

pub returns-in_err-inode-clause-ok : goal.returns-in_err-inode-clause-ok
returns-in_err-inode-clause-ok g c = let p = err_from_is_err_and c.from_residual.result c.from_residual.ensures.1 in never_ok _ _ p.0 p.1

pub returns-in_err-inode-clause-inode : goal.returns-in_err-inode-clause-inode
returns-in_err-inode-clause-inode g c = let p = err_from_is_err_and c.from_residual.result c.from_residual.ensures.1 in never_some _ _ p.0 p.1

pub read_inode-requires-clause-ino : goal.read_inode-requires-clause-ino
read_inode-requires-clause-ino g c = used_ino _ (g.V.Blocks.seen c.args.v.now).words _ c.requires.used

pub read_inode-requires-clause-kind : goal.read_inode-requires-clause-kind
read_inode-requires-clause-kind g c = (c.requires.can.meets.reads.mapped.laid.kinds.each _ (used_ino _ (g.V.Blocks.seen c.args.v.now).words _ c.requires.used)).0

pub returns-in_err-inode-clause-read : goal.returns-in_err-inode-clause-read
returns-in_err-inode-clause-read g c = file_vol c.read_inode.result c.from_residual.result c.in_err-inode.was c.from_residual.ensures.1 (read_more (record { looks = c.read_inode.ensures.read.looks.looks; has_shape = (inode_looked c.args.shape.now _ _ c.args.i.0 _ c.requires.can.meets.has_shape c.requires.can.meets.named c.requires.can.meets.reads c.requires.used c.read_inode.ensures.read.looks.looks c.read_inode.ensures.caches).0; named = (inode_looked c.args.shape.now _ _ c.args.i.0 _ c.requires.can.meets.has_shape c.requires.can.meets.named c.requires.can.meets.reads c.requires.used c.read_inode.ensures.read.looks.looks c.read_inode.ensures.caches).1 }) c.read_inode.ensures.read)

pub returns-then-inode-ne-DIRECTORY-clause-read : goal.returns-then-inode-ne-DIRECTORY-clause-read
returns-then-inode-ne-DIRECTORY-clause-read g c = file_refused 4 (read_ok c.read_inode.result _ c.in_ok-inode.was (read_more (record { looks = c.read_inode.ensures.read.looks.looks; has_shape = (inode_looked c.args.shape.now _ _ c.args.i.0 _ c.requires.can.meets.has_shape c.requires.can.meets.named c.requires.can.meets.reads c.requires.used c.read_inode.ensures.read.looks.looks c.read_inode.ensures.caches).0; named = (inode_looked c.args.shape.now _ _ c.args.i.0 _ c.requires.can.meets.has_shape c.requires.can.meets.named c.requires.can.meets.reads c.requires.used c.read_inode.ensures.read.looks.looks c.read_inode.ensures.caches).1 }) c.read_inode.ensures.read))

pub returns-clause-read : goal.returns-clause-read
returns-clause-read g c = file_value _ (read_ok c.read_inode.result _ c.in_ok-inode.was (read_more (record { looks = c.read_inode.ensures.read.looks.looks; has_shape = (inode_looked c.args.shape.now _ _ c.args.i.0 _ c.requires.can.meets.has_shape c.requires.can.meets.named c.requires.can.meets.reads c.requires.used c.read_inode.ensures.read.looks.looks c.read_inode.ensures.caches).0; named = (inode_looked c.args.shape.now _ _ c.args.i.0 _ c.requires.can.meets.has_shape c.requires.can.meets.named c.requires.can.meets.reads c.requires.used c.read_inode.ensures.read.looks.looks c.read_inode.ensures.caches).1 }) c.read_inode.ensures.read))

pub read_inode-requires-clause-can : goal.read_inode-requires-clause-can
read_inode-requires-clause-can g c = record { keeps = c.requires.can.keeps; meets = c.requires.can.meets.has_shape }
