use Rattle.node_pages.proofs.LookingUpRules.{can_look_up}
use Rattle.file_pages_tests.proofs.TestFiles.{files_looked}
use Rattle.file_pages_tests.proofs.plans.page_block.Goals as goal

pub block_of-requires-clause-can : goal.block_of-requires-clause-can
block_of-requires-clause-can g c = record { keeps = c.file_inode.ensures.sound; meets = can_look_up c.args.shape.now _ c.file_inode.ensures.files.ready.order.has_shape c.file_inode.ensures.files.ready.order.mapped c.file_inode.ensures.files.ready.order.named }

pub returns-in_err-block-clause-files : goal.returns-in_err-block-clause-files
returns-in_err-block-clause-files g c =
    let call = c.block_of.ensures in
    files_looked c.args.shape.now _ _ _ _ _ _ _ _ c.file_inode.ensures.files call.read.looks (g.met.V.Volume.passes_keeps _ _ call.read.passed)

pub returns-clause-files : goal.returns-clause-files
returns-clause-files g c =
    let call = c.block_of.ensures in
    files_looked c.args.shape.now _ _ _ _ _ _ _ _ c.file_inode.ensures.files call.read.looks (g.met.V.Volume.passes_keeps _ _ call.read.passed)
