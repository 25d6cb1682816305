use Rattle.std.proofs.Common.{arith}
use Rattle.image_codec.specs.Volume.{bitmap_word}
use Rattle.image_codec.proofs.Fresh.{mark_step}
use Rattle.image_codec.proofs.volume.mark_front.Goals as goal

pub loop-at-preserved : goal.loop-at-preserved
loop-at-preserved c = mark_step (bitmap_word c.args.count) c.loop-at.at c.used_word.result c.args.words.now c.loop-at.words (omega arith) c.used_word.ensures c.loop-at.invariant
