use Rattle.std.proofs.Common.{arith}
use Rattle.std.proofs.lemmas.Fmt.{length-decimal-le}
use Rattle.itoa.proofs.Decimal.{length_four}
use Rattle.request_codec.proofs.digit_count.digit_count.Goals as goal

pub overflow_add-count : goal.overflow_add-count
overflow_add-count c = record { fits = omega (arith, c.fours.invariant, length-decimal-le 20 c.args.n (omega arith) (omega arith) (omega arith)) }

pub overflow_add-result : goal.overflow_add-result
overflow_add-result c = record { fits = omega (arith, c.fours.invariant, c.last_count.ensures, length-decimal-le 20 c.args.n (omega arith) (omega arith) (omega arith)) }

pub fours-preserved : goal.fours-preserved
fours-preserved c = omega (arith, c.fours.invariant, length_four c.fours.left c.fours-test.true c.fours.auto.left-fits.fits)
