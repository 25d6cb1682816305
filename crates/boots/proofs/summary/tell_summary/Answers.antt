use Rattle.std.proofs.Common.{refl, inr}
use Rattle.boots.proofs.Telling.{wrote_front}
use Rattle.boots.proofs.summary.tell_summary.Goals as goal

pub returns-in-Err-clause-tells : goal.returns-in-Err-clause-tells
returns-in-Err-clause-tells g c = inr (refl, wrote_front c.in-Err.ensures)
