use Rattle.line_loop.proofs.Waits.{text_sends}
use Rattle.line_loop.proofs.waiting.Waiting.write.Goals as goal

pub returns-clause-sends : goal.returns-clause-sends
returns-clause-sends g c = text_sends c.write_reply.result _ _ _ _ _ c.write_reply.ensures.ok c.write_reply.ensures.cut c.write_reply.ensures.steady c.write_reply.ensures.cause
