use Rattle.volume_check.proofs.Common.{ℕ, ◌%◌, ◌/◌, ◌<◌, ◌==◌, ◌^◌, ◌∙◌, ap, arith, length}
use Rattle.std.specs.Prelude.{bit_and}
use Rattle.volume_check.proofs.Bitmaps.{marked_is, word_is}
use Rattle.volume_check.proofs.bitmap.Bitmap.is_marked.Goals as goal

pub returns : goal.returns
returns c =
    let long = c.args.self.now.long in
    let few = c.requires in
    let within : c.args.b / 64 < length c.args.self.now.words.items = omega (arith, long, few) in
    ap (λ (w : ℕ). bit_and (w / 2 ^ (c.args.b % 64)) 1 == 1) (word_is c.args.self.now.words.items (c.args.b / 64) c.index.result.now c.index.ensures within) ∙ marked_is c.args.self.now.words.items c.args.b
