use Rattle.request_codec.proofs.Cuts.{no_number_first, other_number_first}
use Rattle.request_codec.proofs.parts.number_at_front.Goals as goal

pub returns-in_err-digits : goal.returns-in_err-digits
returns-in_err-digits c = rw c.from_residual.ensures (no_number_first c.args.text.now c.in_err-digits.ensures)

pub returns-in_err-number : goal.returns-in_err-number
returns-in_err-number c = rw c.from_residual-in_err-number.ensures (other_number_first c.args.text.now _ _ c.in_ok-digits.ensures c.in_err-number.ensures)
