use Rattle.std.proofs.Common.{ℕ, List, ◌≤◌, length, drop, sym, ap, subst, ◌∙◌}
use Rattle.request_codec.proofs.Held.{held_after}
use Rattle.request_codec.proofs.piece.Piece.skip.Goals as goal

pub returns : goal.returns
returns c =
    let within = subst (λ (held : List ℕ). c.args.n ≤ length held) (sym c.self.view_is) c.requires in
    held_after c.self.inside.bytes.items c.self.inside.start c.self.inside.end c.args.n within ∙ ap (drop c.args.n) c.self.view_is
