use Rattle.std.proofs.Common.{◌*◌, arith}
use Rattle.std.proofs.lemmas.Nat.Bits.{ones_shr}
use Rattle.name_list.proofs.fronts.ones_behind.Goals as goal

pub returns : goal.returns
returns c = ones_shr 64 (8 * c.args.count) (omega (arith, c.requires))
