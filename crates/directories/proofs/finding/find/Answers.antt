use Rattle.rio_base.proofs.Frames.{read_then, read_ok, read_on}
use Rattle.rio_model.proofs.NamedReading.{named_trans}
use Rattle.directories.proofs.Common.{◌≡◌, sym, subst, IfOk, BlockWords, held_of, IsInode}
use Rattle.directories.specs.Rows.{Finds}
use Rattle.directories.proofs.CanRead.{can_read, rows_of, named_read}
use Rattle.node_pages.proofs.EndsOn.{if_err}
use Rattle.directories.proofs.finding.find.Goals as goal

pub find_at_inode-requires-clause-dir : goal.find_at_inode-requires-clause-dir
find_at_inode-requires-clause-dir g c = subst (λ (f : BlockWords). (held_of c.args.shape.now f c.args.dir.0).kind ≡ 1) (sym c.in_ok-inode.ensures.read.looks.looks.words) c.requires.dir

pub find_at_inode-requires-clause-inode : goal.find_at_inode-requires-clause-inode
find_at_inode-requires-clause-inode g c = subst (λ (f : BlockWords). IsInode f c.args.dir.0 c.in_ok-inode.inode) (sym c.in_ok-inode.ensures.read.looks.looks.words) c.in_ok-inode.ensures.value

pub returns-clause-value : goal.returns-clause-value
returns-clause-value g c = subst (λ (f : BlockWords). IfOk c.find_at_inode.result (Finds (held_of c.args.shape.now f c.args.dir.0) c.args.name.now)) c.in_ok-inode.ensures.read.looks.looks.words c.find_at_inode.ensures.value

pub returns-in_err-inode-clause-value : goal.returns-in_err-inode-clause-value
returns-in_err-inode-clause-value g c = if_err c.from_residual.result _ c.from_residual.ensures.0

pub returns-in_err-inode-clause-read : goal.returns-in_err-inode-clause-read
returns-in_err-inode-clause-read g c = named_read c.requires.can.meets.mapped c.requires.can.meets.named (read_on c.dir_inode.result c.from_residual.result c.in_err-inode.was c.from_residual.ensures.1 c.dir_inode.ensures.read)

pub returns-clause-read : goal.returns-clause-read
returns-clause-read g c = read_then g.met.V.Blocks.passes_trans (named_trans c.args.shape.now) (named_read c.requires.can.meets.mapped c.requires.can.meets.named (read_ok c.dir_inode.result _ c.in_ok-inode.was c.dir_inode.ensures.read)) c.find_at_inode.ensures.read

pub dir_inode-requires : goal.dir_inode-requires
dir_inode-requires g c = record { can = record { keeps = c.requires.can.keeps; meets = can_read _ _ _ c.requires.can.meets.has_shape c.requires.can.meets.mapped c.requires.can.meets.named c.requires.can.meets.entries c.requires.dir } }

pub find_at_inode-requires-clause-can : goal.find_at_inode-requires-clause-can
find_at_inode-requires-clause-can g c = record { keeps = c.dir_inode.ensures.read.keeps; meets = rows_of c.dir_inode.ensures.can }
