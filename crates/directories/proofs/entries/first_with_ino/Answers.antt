use Rattle.directories.proofs.Common.{◌≡◌, ◌*◌, ◌/◌, ◌%◌, ◌^◌, ◌∙◌, ap, arith}
use Rattle.std.proofs.Common.{bit_or}
use Rattle.std.specs.Int.Bits.{or_shifted_r}
use Rattle.directories.proofs.entries.first_with_ino.Goals as goal

pub returns : goal.returns
returns c =
    let i = c.args.i.0 in
    let w = c.args.word in
    let small : w / 4294967296 * 4294967296 % 18446744073709551616 ≡ w / 2 ^ 32 * 2 ^ 32 = omega arith in
    ap (bit_or i) small ∙ or_shifted_r (w / 2 ^ 32) 32 i (omega arith) ∙ omega arith
