use Rattle.std.proofs.Common.{refl}
use Rattle.pair_files.proofs.Endings.{ended_unloaded}
use Rattle.pair_files.proofs.running.work_on_pair.Goals as goal

pub returns-in-Ok-clause-ended : goal.returns-in-Ok-clause-ended
returns-in-Ok-clause-ended g c = c.work_loaded.ensures.ended _ (record { image_is = refl; streams_are = refl; two = c.requires.two }) (record { image = c.in-Ok.ensures.image; disk = c.in-Ok.ensures.disk; counted = c.in-Ok.ensures.later; stop_is = refl })

pub returns-in-Ok-clause-began : goal.returns-in-Ok-clause-began
returns-in-Ok-clause-began g c = λ n made tells. c.work_loaded.ensures.began _ (record { image = c.in-Ok.ensures.image; disk = c.in-Ok.ensures.disk; counted = c.in-Ok.ensures.later; stop_is = refl }) n made tells

pub returns-in-Err-clause-ended : goal.returns-in-Err-clause-ended
returns-in-Err-clause-ended g c = ended_unloaded _ (λ end before after. g.W.PairWork.does c.args.work.now before end after) c.in-Err.fail c.end_unloaded.result _ c.end_unloaded.ensures (record { files = c.in-Err.ensures.back; unread = refl }) c.requires.unmade c.in-Err.ensures.counted c.in-Err.ensures.fails
