use Rattle.line_loop.proofs.Turns.{answering_line, no_request}
use Rattle.line_loop.proofs.serving.reply_to.Goals as goal

pub returns-in_default-clause-answered : goal.returns-in_default-clause-answered
returns-in_default-clause-answered g c = λ s h. no_request g.C.LineServer.protocol (g.C.LineServer.holds c.args.core.now) (g.C.LineServer.stands c.args.core.now) s c.args.request c.refusal.result c.in_default.is (c.refusal.ensures.step s) h

pub returns-clause-answered : goal.returns-clause-answered
returns-clause-answered g c = λ s h.
    answering_line g.C.LineServer.protocol (g.C.LineServer.holds c.answer-reply.new.self) (g.C.LineServer.stands c.answer-reply.new.self) s c.in-Some.request c.args.request c.answer-reply.result c.in-Some.is (c.answer-reply.ensures.answered s h)
