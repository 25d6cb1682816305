use Rattle.std.proofs.Common.{arith, sym}
use Rattle.rio_base.proofs.Bitmap.{first_bitmap}
use Rattle.block_alloc.proofs.marking.bitmap_block.Goals as goal

pub returns : goal.returns
returns c = sym (first_bitmap c.args.shape.now c.args.b.0 (omega arith))
