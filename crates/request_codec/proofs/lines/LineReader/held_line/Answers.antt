use Rattle.std.proofs.Common.{◌≡◌, true, [], subst, ap, ◌∙◌}
use Rattle.request_codec.specs.Lines.{Reading}
use Rattle.request_codec.proofs.HeldLines.{holds_line}
use Rattle.request_codec.proofs.lines.LineReader.held_line.Goals as goal

pub returns : goal.returns
returns c = record {
  line = holds_line c.args.self.now c.held-held.result.now c.in_ok-end.end (c.held-held.ensures.bytes ∙ ap (λ (r : Reading). r.held) c.self.view_is) c.held-held.ensures.few c.in_ok-end.ensures.0 c.in_ok-end.ensures.1 (subst (λ (r : Reading). r.ended ≡ true → r.held ≡ []) c.self.view_is c.self.invariant);
}
