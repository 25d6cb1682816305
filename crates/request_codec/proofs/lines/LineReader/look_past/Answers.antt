use Rattle.std.proofs.Common.{ap, arith, ◌∙◌}
use Rattle.request_codec.specs.Lines.{Reading}
use Rattle.request_codec.proofs.Passing.{fails_unread, limit_no_fault, runs_over}
use Rattle.request_codec.proofs.lines.LineReader.look_past.Goals as goal

pub returns-in-Ok-clause-err : goal.returns-in-Ok-clause-err
returns-in-Ok-clause-err g c =
    runs_over _ _ _ _ _ _ _ _ c.self.view_is c.requires.empty c.requires.full c.in-Ok.ensures.bytes c.in-Ok.ensures.count.0 c.in-Ok.ensures.count.1 c.in-Ok.count-test.1 c.skip.ensures

pub returns-in-Ok-clause-unended : goal.returns-in-Ok-clause-unended
returns-in-Ok-clause-unended g c = ap (λ (r : Reading). r.ended) c.self.view_is ∙ c.requires.unended

pub returns-in-Ok-clause-cause : goal.returns-in-Ok-clause-cause
returns-in-Ok-clause-cause g c = λ f. absurd (limit_no_fault f)

pub returns-in-Err-clause-err : goal.returns-in-Err-clause-err
returns-in-Err-clause-err g c =
    fails_unread _ _ _ _ _ c.self.view_is c.requires.empty (omega (arith, c.requires.full)) c.in-Err.ensures.err.0 c.in-Err.ensures.err.1

pub returns-in-Err-clause-unended : goal.returns-in-Err-clause-unended
returns-in-Err-clause-unended g c = ap (λ (r : Reading). r.ended) c.self.view_is ∙ c.requires.unended

pub returns-in-Err-clause-cause : goal.returns-in-Err-clause-cause
returns-in-Err-clause-cause g c = λ f. c.in-Err.ensures.cause.cause
