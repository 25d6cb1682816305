use Rattle.rio_base.proofs.Frames.{read_none, read_value}
use Rattle.node_pages.proofs.LookingUpRules.{look_refl}
use Rattle.directories.proofs.Common.{arith}
use Rattle.directories.proofs.CanRead.{can_look, has_page}
use Rattle.directories.proofs.planning.last_block.Goals as goal

pub returns-then-inode-eq0-clause-value : goal.returns-then-inode-eq0-clause-value
returns-then-inode-eq0-clause-value g c = λ some. absurd (omega (arith, some))

pub page_block-requires-clause-page : goal.page_block-requires-clause-page
page_block-requires-clause-page g c = has_page c.args.shape.now (g.V.Blocks.seen c.args.v.now) c.args.dir.0 _ c.args.inode.now.size c.requires.can.meets c.requires.inode.size (omega arith)

pub returns-then-inode-eq0-clause-read : goal.returns-then-inode-eq0-clause-read
returns-then-inode-eq0-clause-read g c = read_value _ (read_none (g.met.V.Blocks.passes_refl _) (look_refl c.args.shape.now _ (can_look c.args.shape.now _ c.args.dir.0 c.requires.can.meets)) c.requires.can.keeps)

pub page_block-requires-clause-can : goal.page_block-requires-clause-can
page_block-requires-clause-can g c = c.requires.can
