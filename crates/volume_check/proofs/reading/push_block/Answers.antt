use Rattle.volume_check.proofs.Common.{ℕ, ◌∙◌, err_from_is_err_and}
use Rattle.std.proofs.lemmas.List.{length-replicate}
use Rattle.volume_check.proofs.Blocks.{pushed}
use Rattle.volume_check.proofs.Looking.{looked_err, looked_quiet, quiet_memory, refused_err, refused_memory}
use Rattle.volume_check.proofs.reading.push_block.Goals as goal

pub returns-in_err-read_words-clause-unrefused : goal.returns-in_err-read_words-clause-unrefused
returns-in_err-read_words-clause-unrefused g c =
    let p = err_from_is_err_and c.from_residual.result c.from_residual.ensures.1 in
    refused_err (λ _ _. ⊥) (λ _ _. ⊥) c.read_words.result c.from_residual.result _ p.0 c.in_err-read_words.was p.1 p.2 (λ rule b h. h) c.read_words.ensures.unrefused

pub returns-in_err-read_words-clause-looked : goal.returns-in_err-read_words-clause-looked
returns-in_err-read_words-clause-looked g c =
    let p = err_from_is_err_and c.from_residual.result c.from_residual.ensures.1 in
    looked_err g.V.Blocks.seen g.V.Blocks.health g.V.Blocks.sound g.V.Blocks.passes _ _ c.read_words.result c.from_residual.result _ p.0 c.in_err-read_words.was p.1 p.2 c.read_words.ensures.looked

pub returns-in_err-extend_from_slice-clause-unrefused : goal.returns-in_err-extend_from_slice-clause-unrefused
returns-in_err-extend_from_slice-clause-unrefused g c =
    let p = err_from_is_err_and c.from_residual-in_err-extend_from_slice.result c.from_residual-in_err-extend_from_slice.ensures.1 in
    refused_memory (λ _ _. ⊥) c.from_residual-in_err-extend_from_slice.result p.0 p.1 p.2

pub returns-in_err-extend_from_slice-clause-looked : goal.returns-in_err-extend_from_slice-clause-looked
returns-in_err-extend_from_slice-clause-looked g c =
    let p = err_from_is_err_and c.from_residual-in_err-extend_from_slice.result c.from_residual-in_err-extend_from_slice.ensures.1 in
    looked_quiet g.V.Blocks.seen g.V.Blocks.health g.V.Blocks.sound g.V.Blocks.passes _ _ _ _ tt (quiet_memory c.from_residual-in_err-extend_from_slice.result p.0 p.1 p.2) c.in_ok-read_words.ensures.looked

pub returns-clause-words : goal.returns-clause-words
returns-clause-words g c = pushed (g.V.Blocks.seen c.args.v.now).words c.args.b.0 c.args.words.now.items c.read_words.new.into _ (c.read_words.ensures.len ∙ length-replicate {A = ℕ} 512 0) c.in_ok-read_words.ensures.words c.in_ok-extend_from_slice.ensures.items

pub returns-clause-looked : goal.returns-clause-looked
returns-clause-looked g c = looked_quiet g.V.Blocks.seen g.V.Blocks.health g.V.Blocks.sound g.V.Blocks.passes _ _ _ _ tt tt c.in_ok-read_words.ensures.looked
