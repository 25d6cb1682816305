use Rattle.rio_base.proofs.DecimalDigits.{Parsed}
use Rattle.rio_base.proofs.numbers.number_of.Given as goal

abbrev pub invariant-loop-digit : goal.invariant-loop-digit
invariant-loop-digit l = Parsed l.digits l.digit-index l.number
