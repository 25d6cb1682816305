use Rattle.std.proofs.Common.{◌<◌, refl, arith}
use Rattle.request_codec.proofs.Digits.{reads_by}
use Rattle.request_codec.proofs.hex_digits.Digit.of.Goals as goal

pub returns : goal.returns
returns c =
    let small : c.args.c < 256 = omega arith in
    reads_by c.args.c _ small refl c.min.ensures
