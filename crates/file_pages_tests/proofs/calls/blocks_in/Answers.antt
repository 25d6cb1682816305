use Rattle.node_pages.proofs.LookingUpRules.{can_look_up}
use Rattle.file_pages_tests.proofs.TestFiles.{files_looked}
use Rattle.file_pages_tests.proofs.calls.blocks_in.Goals as goal

pub blocks_of-requires-clause-can : goal.blocks_of-requires-clause-can
blocks_of-requires-clause-can g c = record { keeps = c.requires.sound; meets = can_look_up c.args.shape.now _ c.requires.files.ready.order.has_shape c.requires.files.ready.order.mapped c.requires.files.ready.order.named }

pub returns-clause-files : goal.returns-clause-files
returns-clause-files g c =
    let call = c.blocks_of.ensures in
    files_looked c.args.shape.now _ _ _ _ _ _ _ _ c.requires.files call.read.looks (g.met.V.Volume.passes_keeps _ _ call.read.passed)
