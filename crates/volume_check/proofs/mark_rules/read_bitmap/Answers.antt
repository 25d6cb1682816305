use Rattle.volume_check.proofs.Common.{List, ℕ, err_from_is_err_and, arith, subst, sym}
use Rattle.volume_check.specs.NodeBlocks.{PushesBlock}
use Rattle.volume_check.proofs.Bitmaps.{has_bitmap, whole_len}
use Rattle.volume_check.proofs.Looking.{looked_err, looked_none, looked_quiet, quiet_memory, refused_err, refused_memory}
use Rattle.volume_check.proofs.mark_rules.read_bitmap.Goals as goal

pub returns-in_err-words-clause-unrefused : goal.returns-in_err-words-clause-unrefused
returns-in_err-words-clause-unrefused g c =
    let p = err_from_is_err_and c.from_residual.result c.from_residual.ensures.1 in
    refused_memory (λ _ _. ⊥) c.from_residual.result p.0 p.1 p.2

pub returns-in_err-words-clause-looked : goal.returns-in_err-words-clause-looked
returns-in_err-words-clause-looked g c =
    let p = err_from_is_err_and c.from_residual.result c.from_residual.ensures.1 in
    looked_none g.V.Blocks.seen g.V.Blocks.health g.V.Blocks.sound g.V.Blocks.passes c.args.v.now c.from_residual.result (g.met.V.Blocks.passes_refl c.args.v.now) c.requires.can.keeps (quiet_memory c.from_residual.result p.0 p.1 p.2)

pub push_block-requires-clause-block : goal.push_block-requires-clause-block
push_block-requires-clause-block g c =
    let all = c.requires.count in
    let from = c.requires.served.sizes.blocks_from in
    omega (arith, all, from)

pub returns-in_err-push_block-clause-unrefused : goal.returns-in_err-push_block-clause-unrefused
returns-in_err-push_block-clause-unrefused g c =
    let p = err_from_is_err_and c.from_residual-in_err-push_block.result c.from_residual-in_err-push_block.ensures.1 in
    refused_err (λ _ _. ⊥) (λ _ _. ⊥) c.push_block.result c.from_residual-in_err-push_block.result _ p.0 c.in_err-push_block.was p.1 p.2 (λ rule b h. h) c.push_block.ensures.unrefused

pub returns-in_err-push_block-clause-looked : goal.returns-in_err-push_block-clause-looked
returns-in_err-push_block-clause-looked g c =
    let p = err_from_is_err_and c.from_residual-in_err-push_block.result c.from_residual-in_err-push_block.ensures.1 in
    looked_err g.V.Blocks.seen g.V.Blocks.health g.V.Blocks.sound g.V.Blocks.passes _ _ c.push_block.result c.from_residual-in_err-push_block.result _ p.0 c.in_err-push_block.was p.1 p.2 c.push_block.ensures.looked

pub new-requires : goal.new-requires
new-requires g c = whole_len (g.V.Blocks.seen c.args.v.now).words 1 _ _ c.in_ok-words.ensures.items c.in_ok-push_block.ensures.words

pub returns-clause-bitmap : goal.returns-clause-bitmap
returns-clause-bitmap g c =
    let f = (g.V.Blocks.seen c.args.v.now).words in
    has_bitmap f c.args.shape.now c.new.result c.in_ok-words.words.items c.requires.served.version c.in_ok-words.ensures.items (subst (λ (xs : List ℕ). PushesBlock f 1 c.in_ok-words.words.items xs) (sym c.new.ensures) c.in_ok-push_block.ensures.words)

pub returns-clause-looked : goal.returns-clause-looked
returns-clause-looked g c = looked_quiet g.V.Blocks.seen g.V.Blocks.health g.V.Blocks.sound g.V.Blocks.passes _ _ _ _ tt tt c.in_ok-push_block.ensures.looked
