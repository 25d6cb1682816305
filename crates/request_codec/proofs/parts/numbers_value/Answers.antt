use Rattle.request_codec.proofs.Cuts.{number_of, behind_number, number_then}
use Rattle.request_codec.proofs.parts.numbers_value.Goals as goal

pub returns-in_err-first : goal.returns-in_err-first
returns-in_err-first c = rw c.from_residual.ensures (λ m n v h. c.in_err-first.ensures m h.rest (number_of m c.args.text.now h))

pub returns-in_err-second : goal.returns-in_err-second
returns-in_err-second c = rw c.from_residual-in_err-second.ensures (λ m n v h. c.in_err-second.ensures n v (behind_number c.args.text.now _ _ m c.in_ok-first.ensures h).1)

pub returns : goal.returns
returns c = number_then c.args.text.now _ _ c.in_ok-first.ensures c.in_ok-second.ensures
