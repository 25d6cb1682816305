use Rattle.image_codec.specs.Volume.{bitmap_word}
use Rattle.image_codec.proofs.Fresh.{IsMarked}
use Rattle.image_codec.proofs.volume.mark_front.Given as goal

abbrev pub invariant-loop-at : goal.invariant-loop-at
invariant-loop-at l = IsMarked (bitmap_word l.count) l.at l.initial.words l.words
