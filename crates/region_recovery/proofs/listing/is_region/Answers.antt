use Rattle.rio_base.proofs.Frames.{vol_ends}
use Rattle.std.proofs.lemmas.Result.{err_from_is_err_and, IfOk-from_err}
use Rattle.inode_table.proofs.Exits.{ends_err, ends_none}
use Rattle.region_recovery.proofs.Lists.{inode_cached}
use Rattle.region_recovery.proofs.listing.is_region.Goals as goal

pub returns-in_err-inode-clause-value : goal.returns-in_err-inode-clause-value
returns-in_err-inode-clause-value g c = IfOk-from_err c.from_residual.result _ c.from_residual.ensures.0

pub returns-in_err-inode-clause-caches : goal.returns-in_err-inode-clause-caches
returns-in_err-inode-clause-caches g c = inode_cached c.args.shape.now _ _ c.args.i.0 c.requires.shape.sizes c.requires.ino c.read_inode.ensures.caches

pub returns-in_err-inode-clause-ends : goal.returns-in_err-inode-clause-ends
returns-in_err-inode-clause-ends g c =
    let p = err_from_is_err_and c.from_residual.result c.from_residual.ensures.1 in
    ends_err _ _ c.read_inode.result c.from_residual.result _ p.0 c.in_err-inode.was p.1 p.2 (vol_ends _ _ _ c.read_inode.ensures.read.ends)

pub returns-clause-caches : goal.returns-clause-caches
returns-clause-caches g c = inode_cached c.args.shape.now _ _ c.args.i.0 c.requires.shape.sizes c.requires.ino c.read_inode.ensures.caches

pub returns-clause-ends : goal.returns-clause-ends
returns-clause-ends g c = ends_none _ _ _ (vol_ends _ _ _ c.in_ok-inode.ensures.read.ends).later (vol_ends _ _ _ c.in_ok-inode.ensures.read.ends).cause

pub read_inode-requires-clause-can : goal.read_inode-requires-clause-can
read_inode-requires-clause-can g c = record { keeps = c.requires.sound; meets = c.requires.shape }
