use Rattle.std.proofs.Common.{arith, inl, inr}
use Rattle.rio_server.proofs.drill_command.drill.Goals as goal

pub returns-in-Ok-clause-run : goal.returns-in-Ok-clause-run
returns-in-Ok-clause-run g c = inl (c.in-Ok.transcript, c.in-Ok.ensures.legal, c.tell_summary.ensures.tells)

pub returns-in-Err-clause-run : goal.returns-in-Err-clause-run
returns-in-Err-clause-run g c = inr c.tell_memory.ensures.lacks

pub returns-in-Err-clause-steady : goal.returns-in-Err-clause-steady
returns-in-Err-clause-steady g c = λ is. absurd (omega (arith, is, c.tell_memory.ensures.lacks.status_is))
