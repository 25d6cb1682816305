use Rattle.std.proofs.Common.{arith}
use Rattle.block_alloc.proofs.Bits.{free_masked}
use Rattle.block_alloc.proofs.words.free_of.Goals as goal

pub returns : goal.returns
returns c = λ words is. free_masked c.args.shape.now words c.args.used c.low_ones.result c.args.w (omega arith) is (omega arith) c.low_ones.ensures
