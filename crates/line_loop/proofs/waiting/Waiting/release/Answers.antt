use Rattle.line_loop.proofs.Leaving.{all_refused, all_sent, no_ok, none_held, sent_nothing}
use Rattle.line_loop.proofs.waiting.Waiting.release.Goals as goal

pub returns-then-self-eq0-clause-ok : goal.returns-then-self-eq0-clause-ok
returns-then-self-eq0-clause-ok g c = sent_nothing (none_held c.self.inside.held c.self.inside.room.items c.self.view_is c.if-self-eq0.true)

pub returns-then-self-eq0-clause-none : goal.returns-then-self-eq0-clause-none
returns-then-self-eq0-clause-none g c = none_held c.self.inside.held c.self.inside.room.items c.self.view_is c.if-self-eq0.true

pub returns-in_err-send-clause-ok : goal.returns-in_err-send-clause-ok
returns-in_err-send-clause-ok g c = no_ok c.from_residual.result _ c.from_residual.ensures.0

pub returns-in_err-send-clause-none : goal.returns-in_err-send-clause-none
returns-in_err-send-clause-none g c = no_ok c.from_residual.result _ c.from_residual.ensures.0

pub returns-in_err-send-clause-err : goal.returns-in_err-send-clause-err
returns-in_err-send-clause-err g c = all_refused c.from_residual.result c.self.inside.held c.self.inside.room.items c.in_err-send.ensures.err c.deref.ensures.value c.self.view_is c.if-self-eq0.false c.self.invariant.0

pub returns-clause-ok : goal.returns-clause-ok
returns-clause-ok g c = all_sent c.self.inside.held c.self.inside.room.items c.in_ok-send.ensures.ok c.deref.ensures.value c.self.view_is
