use Rattle.rio_base.proofs.Frames.{read_ok, read_value, read_on}
use Rattle.directories.proofs.CanRead.{has_slot}
use Rattle.directories.proofs.storing.words_for_slot.Goals as goal

pub page_block-requires-clause-page : goal.page_block-requires-clause-page
page_block-requires-clause-page g c = has_slot c.args.shape.now (g.V.Blocks.seen c.args.v.now) c.args.dir.0 c.args.slot _ c.requires.can.meets c.requires.inode.size c.requires.slot

pub returns-clause-into : goal.returns-clause-into
returns-clause-into g c = record { page = has_slot c.args.shape.now (g.V.Blocks.seen c.args.v.now) c.args.dir.0 c.args.slot _ c.requires.can.meets c.requires.inode.size c.requires.slot; block = c.in_ok-block.ensures.value; first = c.first_word.ensures.is }

pub returns-in_err-block-clause-read : goal.returns-in_err-block-clause-read
returns-in_err-block-clause-read g c = read_on c.page_block.result c.from_residual.result c.in_err-block.was c.from_residual.ensures.1 c.page_block.ensures.read

pub returns-clause-read : goal.returns-clause-read
returns-clause-read g c = read_value _ (read_ok c.page_block.result _ c.in_ok-block.was c.page_block.ensures.read)

pub page_block-requires-clause-can : goal.page_block-requires-clause-can
page_block-requires-clause-can g c = c.requires.can
