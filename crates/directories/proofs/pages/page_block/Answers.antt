use Rattle.rio_base.proofs.Frames.{read_none, read_value}
use Rattle.directories.proofs.Common.{◌∙◌, placed_at}
use Rattle.node_pages.proofs.LookingUpRules.{look_refl}
use Rattle.rio_model.proofs.PlacedRules.{direct_of, lies_self}
use Rattle.directories.proofs.CanRead.{can_look, can_stays}
use Rattle.directories.proofs.pages.page_block.Goals as goal

pub returns-then-p-lt-DIRECT_PAGES-clause-value : goal.returns-then-p-lt-DIRECT_PAGES-clause-value
returns-then-p-lt-DIRECT_PAGES-clause-value g c =
    let f = (g.V.Blocks.seen c.args.v.now).words in
    c.requires.inode.direct c.args.p c.if-p-lt-DIRECT_PAGES.true ∙ direct_of f c.args.dir.0 (placed_at f c.args.dir.0) c.args.p (lies_self f c.args.dir.0) c.if-p-lt-DIRECT_PAGES.true c.requires.page

pub returns-clause-can : goal.returns-clause-can
returns-clause-can g c = can_stays c.args.shape.now _ _ c.args.dir.0 c.requires.can.meets c.block_of.ensures.read.looks

pub returns-then-p-lt-DIRECT_PAGES-clause-read : goal.returns-then-p-lt-DIRECT_PAGES-clause-read
returns-then-p-lt-DIRECT_PAGES-clause-read g c = read_value _ (read_none (g.met.V.Blocks.passes_refl _) (look_refl _ _ (can_look c.args.shape.now _ c.args.dir.0 c.requires.can.meets)) c.requires.can.keeps)

pub block_of-requires-clause-can : goal.block_of-requires-clause-can
block_of-requires-clause-can g c = record { keeps = c.requires.can.keeps; meets = can_look c.args.shape.now _ c.args.dir.0 c.requires.can.meets }
