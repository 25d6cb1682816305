use Rattle.std.proofs.Common.{arith}
use Rattle.rio_words.specs.Clap.{found_in}
use Rattle.rio_words.proofs.Ranges.{same_number}
use Rattle.rio_words.proofs.numbers.ranged.Goals as goal

pub returns-in_err-number : goal.returns-in_err-number
returns-in_err-number c = rw c.from_residual.ensures (λ n has least most. c.in_err-number.ensures n has)

pub returns-then-number-from : goal.returns-then-number-from
returns-then-number-from c = λ n has least most.
    let same = same_number (found_in c.args.matches.now) c.args.option.now n c.in_ok-number.number has c.in_ok-number.ensures in
    omega (arith, same, least, c.if-number-from.true, c.from.ensures)

pub returns-then-from-number : goal.returns-then-from-number
returns-then-from-number c = λ n has least most.
    let same = same_number (found_in c.args.matches.now) c.args.option.now n c.in_ok-number.number has c.in_ok-number.ensures in
    omega (arith, same, most, c.if-from-number.true, c.from-2.ensures)
