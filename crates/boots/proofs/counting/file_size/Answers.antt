use Rattle.std.proofs.Common.{◌∙◌, sym}
use Rattle.std.proofs.lemmas.Result.{err_from_is_err_and}
use Rattle.rio_base.proofs.Frames.{vol_ends}
use Rattle.inode_table.proofs.Exits.{ends_err, ends_none}
use Rattle.boots.proofs.FileSizes.{file_sized}
use Rattle.boots.proofs.counting.file_size.Goals as goal

pub read_inode-requires-clause-can : goal.read_inode-requires-clause-can
read_inode-requires-clause-can g c = record { keeps = c.requires.sound; meets = c.requires.shape }

pub returns-in_err-inode-clause-ends : goal.returns-in_err-inode-clause-ends
returns-in_err-inode-clause-ends g c =
    let p = err_from_is_err_and c.from_residual.result c.from_residual.ensures.1 in
    ends_err _ _ c.read_inode.result c.from_residual.result _ p.0 c.in_err-inode.was p.1 p.2 (vol_ends _ _ _ c.read_inode.ensures.read.ends)

pub returns-then-inode-ne-FILE-clause-ends : goal.returns-then-inode-ne-FILE-clause-ends
returns-then-inode-ne-FILE-clause-ends g c = ends_none _ _ _ (vol_ends _ _ _ c.in_ok-inode.ensures.read.ends).later (vol_ends _ _ _ c.in_ok-inode.ensures.read.ends).cause

pub returns-clause-ends : goal.returns-clause-ends
returns-clause-ends g c = ends_none _ _ _ (vol_ends _ _ _ c.in_ok-inode.ensures.read.ends).later (vol_ends _ _ _ c.in_ok-inode.ensures.read.ends).cause

pub returns-clause-size : goal.returns-clause-size
returns-clause-size g c = λ s reads.
    let inode = c.in_ok-inode.ensures.value in
    inode.size ∙ file_sized _ _ s _ reads c.requires.ino (sym inode.kind ∙ c.if-inode-ne-FILE.false)
