use Rattle.std.proofs.Common.{ℕ, ◌*◌, ap}
use Rattle.image_codec.proofs.Fresh.{fresh_entry, fresh_header}
use Rattle.image_codec.proofs.image.fresh_image.Goals as goal

pub returns-clause-value : goal.returns-clause-value
returns-clause-value c =
    fresh_header c.in_ok-words.words.items (512 * c.pages_of.result) c.args.frames c.args.scratch (c.in_ok-words.ensures.items_if_clones_equal (λ y e. e)) (ap (λ (n : ℕ). 512 * n) c.pages_of.ensures.pages)

pub returns-clause-empty : goal.returns-clause-empty
returns-clause-empty c = λ k lt.
    fresh_entry c.in_ok-words.words.items (512 * c.pages_of.result) c.args.frames c.args.scratch k (c.in_ok-words.ensures.items_if_clones_equal (λ y e. e))
