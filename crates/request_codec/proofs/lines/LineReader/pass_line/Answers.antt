use Rattle.std.proofs.Common.{ap, ◌∙◌, ◌+◌, drop}
use Rattle.request_codec.specs.Lines.{Reading}
use Rattle.request_codec.proofs.HeldLines.{passes_line}
use Rattle.request_codec.proofs.lines.LineReader.pass_line.Goals as goal

pub returns-clause-passed : goal.returns-clause-passed
returns-clause-passed c = λ line left holds is.
    passes_line c.args.self.now _ line c.args.len left holds is (c.skip.ensures ∙ ap (λ (r : Reading). drop (c.args.len + 1) r.held) c.self.view_is) (ap (λ (r : Reading). r.taken) c.self.view_is)
