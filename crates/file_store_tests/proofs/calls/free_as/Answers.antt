use Rattle.file_store_tests.proofs.Played.{can_counted}
use Rattle.file_store_tests.proofs.calls.free_as.Goals as goal

pub returns-clause-can : goal.returns-clause-can
returns-clause-can g c = can_counted c.args.shape.now _ _ _ _ _ _ _ _ c.requires.can c.free_count-answer.ensures.read.looks.looks c.free_count-answer.ensures.caches (g.met.V.Volume.passes_keeps _ _ c.free_count-answer.ensures.read.passed)

pub free_count-answer-requires : goal.free_count-answer-requires
free_count-answer-requires g c = record { can = record { keeps = c.requires.sound; meets = c.requires.can.ready.order.has_shape } }

pub returns-clause-words : goal.returns-clause-words
returns-clause-words g c = c.free_count-answer.ensures.read.looks.looks.words
