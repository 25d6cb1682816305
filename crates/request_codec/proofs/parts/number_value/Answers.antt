use Rattle.request_codec.proofs.Cuts.{number_of, behind_number, number_then}
use Rattle.request_codec.proofs.parts.number_value.Goals as goal

pub returns-in_err-number : goal.returns-in_err-number
returns-in_err-number c = rw c.from_residual.ensures (λ n v h. c.in_err-number.ensures n h.rest (number_of n c.args.text.now h))

pub returns-in_err-value : goal.returns-in_err-value
returns-in_err-value c = rw c.from_residual-in_err-value.ensures (λ n v h. c.in_err-value.ensures v (behind_number c.args.text.now _ _ n c.in_ok-number.ensures h).1)

pub returns : goal.returns
returns c = number_then c.args.text.now _ _ c.in_ok-number.ensures c.in_ok-value.ensures
