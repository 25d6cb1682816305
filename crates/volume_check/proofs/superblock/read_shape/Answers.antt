use Rattle.volume_check.proofs.Looking.{looked_err, looked_none, looked_quiet, refused_err}
use Rattle.volume_check.proofs.Common.{err_from_is_err_and}
use Rattle.volume_check.proofs.superblock.read_shape.Goals as goal

pub returns-then-count-lt-FEWEST_BLOCKS-clause-looked : goal.returns-then-count-lt-FEWEST_BLOCKS-clause-looked
returns-then-count-lt-FEWEST_BLOCKS-clause-looked g c = looked_none g.V.Blocks.seen g.V.Blocks.health g.V.Blocks.sound g.V.Blocks.passes c.args.v.now _ (g.met.V.Blocks.passes_refl c.args.v.now) c.requires.can.keeps tt

pub returns-then-count-gt-BLOCK_BITS-clause-looked : goal.returns-then-count-gt-BLOCK_BITS-clause-looked
returns-then-count-gt-BLOCK_BITS-clause-looked g c = looked_none g.V.Blocks.seen g.V.Blocks.health g.V.Blocks.sound g.V.Blocks.passes c.args.v.now _ (g.met.V.Blocks.passes_refl c.args.v.now) c.requires.can.keeps tt

pub returns-in_err-read_words-clause-refused : goal.returns-in_err-read_words-clause-refused
returns-in_err-read_words-clause-refused g c =
    let p = err_from_is_err_and c.from_residual.result c.from_residual.ensures.1 in
    refused_err (λ _ _. ⊥) _ c.read_words.result c.from_residual.result _ p.0 c.in_err-read_words.was p.1 p.2 (λ rule b h. absurd h) c.read_words.ensures.unrefused

pub returns-in_err-read_words-clause-looked : goal.returns-in_err-read_words-clause-looked
returns-in_err-read_words-clause-looked g c =
    let p = err_from_is_err_and c.from_residual.result c.from_residual.ensures.1 in
    looked_err g.V.Blocks.seen g.V.Blocks.health g.V.Blocks.sound g.V.Blocks.passes _ _ c.read_words.result c.from_residual.result _ p.0 c.in_err-read_words.was p.1 p.2 c.read_words.ensures.looked

pub returns-in-Some-clause-looked : goal.returns-in-Some-clause-looked
returns-in-Some-clause-looked g c = looked_quiet g.V.Blocks.seen g.V.Blocks.health g.V.Blocks.sound g.V.Blocks.passes _ _ _ _ tt tt c.in_ok-read_words.ensures.looked

pub returns-in-None-clause-looked : goal.returns-in-None-clause-looked
returns-in-None-clause-looked g c = looked_quiet g.V.Blocks.seen g.V.Blocks.health g.V.Blocks.sound g.V.Blocks.passes _ _ _ _ tt tt c.in_ok-read_words.ensures.looked
