use Rattle.test_objects.proofs.FreshVolumes.{restarted, restarted_words}
use Rattle.test_objects.proofs.starting.start_again.Goals as goal

pub returns-clause-ready : goal.returns-clause-ready
returns-clause-ready c = restarted c.args.shape.now c.args.stop_after c.args.v.now c.restart.new.self c.requires.stands c.restart.ensures

pub returns-clause-words : goal.returns-clause-words
returns-clause-words c = restarted_words c.args.stop_after c.args.v.now c.restart.new.self c.restart.ensures
