use Rattle.std.proofs.Common.{arith, ℕ, subst}
use Rattle.image_codec.specs.Volume.{bitmap_word}
use Rattle.image_codec.proofs.Fresh.{IsMarked, fresh_volume_is, reserved_fresh}
use Rattle.image_codec.proofs.volume.write_volume.Goals as goal

pub returns : goal.returns
returns c =
    let marked = subst (λ (n : ℕ). IsMarked (bitmap_word n) 512 c.args.words.now c.mark_front.new.words) (reserved_fresh c.args.shape.now.blocks c.args.shape.now.inodes) c.mark_front.ensures in
    fresh_volume_is c.args.words.now c.mark_front.new.words c.args.shape.now.blocks c.args.shape.now.inodes c.requires.zeros (omega arith) (omega arith) marked
