use Rattle.request_codec.proofs.Cuts.{number_behind}
use Rattle.request_codec.proofs.parts.path_number_at_front.Goals as goal

pub returns-in_err-path : goal.returns-in_err-path
returns-in_err-path c = rw c.from_residual.ensures (λ path n rest h. c.in_err-path.ensures path h.0 h.1)

pub returns-in_err-number : goal.returns-in_err-number
returns-in_err-number c = rw c.from_residual-in_err-number.ensures (λ path n rest h. c.in_err-number.ensures n rest (number_behind c.args.text.now _ _ path h.0 n rest c.in_ok-path.ensures h.1 h.2))
