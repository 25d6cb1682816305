use Rattle.std.proofs.Common.{sym, arith}
use Rattle.map_laws.proofs.Depths.{full, height-le, height_most, length-pairs}
use Rattle.map_laws.proofs.bounds.depth.Goals as goal

pub returns-clause-size : goal.returns-clause-size
returns-clause-size c = λ t. sym (length-pairs t)

pub returns-clause-full : goal.returns-clause-full
returns-clause-full c = λ t h. omega (arith, full t h)

pub returns-clause-ways : goal.returns-clause-ways
returns-clause-ways c = height-le

pub returns-clause-most : goal.returns-clause-most
returns-clause-most c = height_most
