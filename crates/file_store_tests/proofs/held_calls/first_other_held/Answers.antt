use Rattle.file_store_tests.proofs.held_calls.first_other_held.Goals as goal

pub loop-t-init : goal.loop-t-init
loop-t-init c = record { can = c.requires.can; in_step = c.new-memo.ensures c.args.shape.now _; sound = c.requires.sound }
