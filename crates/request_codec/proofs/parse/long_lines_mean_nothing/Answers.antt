use Rattle.std.proofs.Common.{arith}
use Rattle.request_codec.proofs.OneMeaning.{form_length}
use Rattle.request_codec.proofs.parse.long_lines_mean_nothing.Goals as goal

pub returns : goal.returns
returns c = λ line long request h. absurd (omega (arith, form_length line request h))
