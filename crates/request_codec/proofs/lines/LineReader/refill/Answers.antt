use Rattle.std.proofs.Common.{ap, ◌∙◌}
use Rattle.rio_base.proofs.MachineRules.{never}
use Rattle.request_codec.specs.Lines.{Reading}
use Rattle.request_codec.proofs.Passing.{fails_unread}
use Rattle.request_codec.proofs.lines.LineReader.refill.Goals as goal

pub returns-in-Ok-clause-cause : goal.returns-in-Ok-clause-cause
returns-in-Ok-clause-cause g c = λ f. absurd (never _ _ f)

pub returns-in-Err-clause-err : goal.returns-in-Err-clause-err
returns-in-Err-clause-err g c =
    fails_unread _ _ _ _ _ c.self.view_is c.requires.empty c.requires.within c.in-Err.ensures.err.0 c.in-Err.ensures.err.1

pub returns-in-Err-clause-unended : goal.returns-in-Err-clause-unended
returns-in-Err-clause-unended g c = ap (λ (r : Reading). r.ended) c.self.view_is ∙ c.requires.unended

pub returns-in-Err-clause-cause : goal.returns-in-Err-clause-cause
returns-in-Err-clause-cause g c = λ f. c.in-Err.ensures.cause.cause
