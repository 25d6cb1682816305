use Rattle.volume_check.proofs.Common.{◌*◌, ◌+◌, ◌/◌, ◌≡◌, ◌∙◌, arith, refl, subst, ap, err_from_is_err_and, BlockWords}
use Rattle.volume_check.specs.NodeBlocks.{PushesBlock}
use Rattle.volume_check.proofs.Blocks.{HasBlocks, blocks_next, inodes_count, no_blocks}
use Rattle.volume_check.proofs.Chains.{inodes_made}
use Rattle.volume_check.proofs.Looking.{can_go_on, looked_none, on_err, on_none, on_ok, on_quiet, quiet_memory, refused_err, refused_memory}
use Rattle.volume_check.proofs.reading.read_inodes.Goals as goal

pub returns-in_err-words-clause-unrefused : goal.returns-in_err-words-clause-unrefused
returns-in_err-words-clause-unrefused g c =
    let p = err_from_is_err_and c.from_residual.result c.from_residual.ensures.1 in
    refused_memory (λ _ _. ⊥) c.from_residual.result p.0 p.1 p.2

pub returns-in_err-words-clause-looked : goal.returns-in_err-words-clause-looked
returns-in_err-words-clause-looked g c =
    let p = err_from_is_err_and c.from_residual.result c.from_residual.ensures.1 in
    looked_none g.V.Blocks.seen g.V.Blocks.health g.V.Blocks.sound g.V.Blocks.passes c.args.v.now c.from_residual.result (g.met.V.Blocks.passes_refl c.args.v.now) c.requires.can.keeps (quiet_memory c.from_residual.result p.0 p.1 p.2)

pub loop-k-init : goal.loop-k-init
loop-k-init g c = record {
  looked = on_none g.V.Blocks.seen g.V.Blocks.health g.V.Blocks.sound g.V.Blocks.passes c.args.v.now (g.met.V.Blocks.passes_refl c.args.v.now) c.requires.can.keeps;
  blocks = no_blocks (g.V.Blocks.seen c.args.v.now).words (λ k. 2 + k) _ c.in_ok-words.ensures.items;
}

pub push_block-requires-clause-can : goal.push_block-requires-clause-can
push_block-requires-clause-can g c = can_go_on g.V.Blocks.seen g.V.Blocks.health g.V.Blocks.sound g.V.Blocks.passes g.met.V.Blocks.passes_trans _ _ c.requires.can c.loop-k.invariant.looked

pub push_block-requires-clause-block : goal.push_block-requires-clause-block
push_block-requires-clause-block g c =
    let same = c.loop-k.invariant.looked.looks.count in
    let all = c.requires.count in
    let from = c.requires.served.sizes.blocks_from in
    let less = c.loop-k-test.true in
    omega (arith, same, all, from, less)

pub loop-k-preserved : goal.loop-k-preserved
loop-k-preserved g c =
    let inv = c.loop-k.invariant in
    let f = (g.V.Blocks.seen c.args.v.now).words in
    record {
      looked = on_ok g.V.Blocks.seen g.V.Blocks.health g.V.Blocks.sound g.V.Blocks.passes g.met.V.Blocks.passes_trans _ _ _ _ inv.looked c.in_ok-push_block.ensures.looked;
      blocks = blocks_next f (λ k. 2 + k) c.loop-k.k (2 + c.loop-k.k) c.loop-k.words.items _ refl inv.blocks (subst (λ (h : BlockWords). PushesBlock h (2 + c.loop-k.k) c.loop-k.words.items c.push_block.new.words.items) inv.looked.looks.words c.in_ok-push_block.ensures.words);
    }

pub returns-in_err-push_block-clause-unrefused : goal.returns-in_err-push_block-clause-unrefused
returns-in_err-push_block-clause-unrefused g c =
    let p = err_from_is_err_and c.from_residual-in_err-push_block.result c.from_residual-in_err-push_block.ensures.1 in
    refused_err (λ _ _. ⊥) (λ _ _. ⊥) c.push_block.result c.from_residual-in_err-push_block.result _ p.0 c.in_err-push_block.was p.1 p.2 (λ rule b h. h) c.push_block.ensures.unrefused

pub returns-in_err-push_block-clause-looked : goal.returns-in_err-push_block-clause-looked
returns-in_err-push_block-clause-looked g c =
    let p = err_from_is_err_and c.from_residual-in_err-push_block.result c.from_residual-in_err-push_block.ensures.1 in
    on_err g.V.Blocks.seen g.V.Blocks.health g.V.Blocks.sound g.V.Blocks.passes g.met.V.Blocks.passes_trans _ _ _ c.push_block.result c.from_residual-in_err-push_block.result _ p.0 c.loop-k.invariant.looked c.in_err-push_block.was p.1 p.2 c.push_block.ensures.looked

pub new-requires : goal.new-requires
new-requires g c =
    let end : c.loop-k.k ≡ c.args.shape.now.inodes / 32 = omega (arith, c.loop-k-test.false) in
    let len = c.loop-k.invariant.blocks.len in
    record { count = inodes_count c.args.shape.now _ c.requires.served.sizes.inode_blocks (len ∙ ap (λ k. 512 * k) end) }

pub returns-clause-inodes : goal.returns-clause-inodes
returns-clause-inodes g c =
    let f = (g.V.Blocks.seen c.args.v.now).words in
    let end : c.loop-k.k ≡ c.args.shape.now.inodes / 32 = omega (arith, c.loop-k-test.false) in
    let all = subst (λ k. HasBlocks f (λ j. 2 + j) k c.loop-k.words.items) end c.loop-k.invariant.blocks in
    inodes_made (g.V.Blocks.seen c.args.v.now) c.args.shape.now c.new.result c.loop-k.words.items c.requires.served c.requires.count c.new.ensures.shape c.new.ensures.words all

pub returns-clause-looked : goal.returns-clause-looked
returns-clause-looked g c = on_quiet g.V.Blocks.seen g.V.Blocks.health g.V.Blocks.sound g.V.Blocks.passes _ _ _ tt c.loop-k.invariant.looked
