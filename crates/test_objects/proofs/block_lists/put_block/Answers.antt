use Rattle.test_objects.proofs.Reading.{block_put}
use Rattle.test_objects.proofs.block_lists.put_block.Goals as goal

pub returns-clause-stored : goal.returns-clause-stored
returns-clause-stored c = block_put c.args.to.now c.copy_from_slice.new.self c.args.from.now c.args.b.0 c.copy_from_slice.ensures.after c.requires.words c.requires.room

pub returns-clause-len : goal.returns-clause-len
returns-clause-len c = (block_put c.args.to.now c.copy_from_slice.new.self c.args.from.now c.args.b.0 c.copy_from_slice.ensures.after c.requires.words c.requires.room).count
