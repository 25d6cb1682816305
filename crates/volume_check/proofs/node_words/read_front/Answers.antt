use Rattle.volume_check.proofs.Common.{◌<◌, ◌≡◌, arith, subst, err_from_is_err_and, BlockWords, AtPage}
use Rattle.volume_check.specs.Inodes.{layout_of}
use Rattle.volume_check.specs.NodeBlocks.{PushesBlock}
use Rattle.volume_check.proofs.Blocks.{HasBlocks, blocks_next, no_blocks}
use Rattle.volume_check.proofs.Chains.{can_number, front_page, front_within}
use Rattle.volume_check.proofs.Fronts.{front_held}
use Rattle.rio_base.proofs.Rules.{looks_refl}
use Rattle.volume_check.proofs.Counts.{kind_said}
use Rattle.volume_check.proofs.Looking.{can_go_on, looked_err, looked_quiet, on_err, on_first, on_ok, on_quiet, quiet_memory, refused_err, refused_memory}
use Rattle.volume_check.proofs.node_words.read_front.Goals as goal

pub returns-in_err-read_numbers-clause-unrefused : goal.returns-in_err-read_numbers-clause-unrefused
returns-in_err-read_numbers-clause-unrefused g c =
    let p = err_from_is_err_and c.from_residual.result c.from_residual.ensures.1 in
    refused_err (λ _ _. ⊥) (λ _ _. ⊥) c.read_numbers.result c.from_residual.result _ p.0 c.in_err-read_numbers.was p.1 p.2 (λ rule b h. h) c.read_numbers.ensures.unrefused

pub returns-in_err-read_numbers-clause-looked : goal.returns-in_err-read_numbers-clause-looked
returns-in_err-read_numbers-clause-looked g c =
    let p = err_from_is_err_and c.from_residual.result c.from_residual.ensures.1 in
    looked_err g.V.Blocks.seen g.V.Blocks.health g.V.Blocks.sound g.V.Blocks.passes _ _ c.read_numbers.result c.from_residual.result _ p.0 c.in_err-read_numbers.was p.1 p.2 c.read_numbers.ensures.looked

pub returns-in_err-words-clause-unrefused : goal.returns-in_err-words-clause-unrefused
returns-in_err-words-clause-unrefused g c =
    let p = err_from_is_err_and c.from_residual-in_err-words.result c.from_residual-in_err-words.ensures.1 in
    refused_memory (λ _ _. ⊥) c.from_residual-in_err-words.result p.0 p.1 p.2

pub returns-in_err-words-clause-looked : goal.returns-in_err-words-clause-looked
returns-in_err-words-clause-looked g c =
    let p = err_from_is_err_and c.from_residual-in_err-words.result c.from_residual-in_err-words.ensures.1 in
    looked_quiet g.V.Blocks.seen g.V.Blocks.health g.V.Blocks.sound g.V.Blocks.passes _ _ _ _ tt (quiet_memory c.from_residual-in_err-words.result p.0 p.1 p.2) c.in_ok-read_numbers.ensures.looked

pub push_block-requires-clause-can : goal.push_block-requires-clause-can
push_block-requires-clause-can g c =
    can_go_on g.V.Blocks.seen g.V.Blocks.health g.V.Blocks.sound g.V.Blocks.passes g.met.V.Blocks.passes_trans _ _ c.requires.can c.loop-page.invariant.looked

pub returns-in_err-push_block-clause-unrefused : goal.returns-in_err-push_block-clause-unrefused
returns-in_err-push_block-clause-unrefused g c =
    let p = err_from_is_err_and c.from_residual-in_err-push_block.result c.from_residual-in_err-push_block.ensures.1 in
    refused_err (λ _ _. ⊥) (λ _ _. ⊥) c.push_block.result c.from_residual-in_err-push_block.result _ p.0 c.in_err-push_block.was p.1 p.2 (λ rule b h. h) c.push_block.ensures.unrefused

pub returns-in_err-push_block-clause-looked : goal.returns-in_err-push_block-clause-looked
returns-in_err-push_block-clause-looked g c =
    let p = err_from_is_err_and c.from_residual-in_err-push_block.result c.from_residual-in_err-push_block.ensures.1 in
    on_err g.V.Blocks.seen g.V.Blocks.health g.V.Blocks.sound g.V.Blocks.passes g.met.V.Blocks.passes_trans _ _ _ c.push_block.result c.from_residual-in_err-push_block.result _ p.0 c.loop-page.invariant.looked c.in_err-push_block.was p.1 p.2 c.push_block.ensures.looked

pub returns-clause-looked : goal.returns-clause-looked
returns-clause-looked g c =
    on_quiet g.V.Blocks.seen g.V.Blocks.health g.V.Blocks.sound g.V.Blocks.passes _ _ _ tt c.loop-page.invariant.looked

pub read_numbers-requires-clause-numbers : goal.read_numbers-requires-clause-numbers
read_numbers-requires-clause-numbers g c =
    let s = g.V.Blocks.seen c.args.v.now in
    can_number s s c.args.inodes.now c.args.i.0 (looks_refl s) c.requires.inodes c.requires.sizes c.requires.numbers c.requires.ino

pub loop-page-init : goal.loop-page-init
loop-page-init g c =
    let s = g.V.Blocks.seen c.args.v.now in
    record {
      looked = on_first g.V.Blocks.seen g.V.Blocks.health g.V.Blocks.sound g.V.Blocks.passes _ _ _ c.in_ok-read_numbers.ensures.looked;
      read = no_blocks s.words (λ p. ((layout_of s c.args.inodes.now).node c.args.i.0).block (AtPage p)) _ c.in_ok-words.ensures.items;
    }

pub index-requires : goal.index-requires
index-requires g c =
    let s = g.V.Blocks.seen c.args.v.now in
    let within = front_within s c.args.inodes.now c.args.i.0 c.loop-page.page c.args.count c.read_numbers.new.blocks.items c.requires.inodes c.requires.ino c.requires.used c.requires.within c.loop-page-test.true c.in_ok-read_numbers.ensures.numbers in
    let long = c.read_numbers.new.blocks.ok.0 in
    omega (arith, within, long)

pub push_block-requires-clause-block : goal.push_block-requires-clause-block
push_block-requires-clause-block g c =
    let s = g.V.Blocks.seen c.args.v.now in
    let all = c.requires.inodes.count in
    let same = c.loop-page.invariant.looked.looks.count in
    let at = front_page s c.args.inodes.now c.args.i.0 c.loop-page.page c.args.count c.read_numbers.new.blocks.items c.index.result.now c.requires.inodes c.requires.numbers c.requires.ino c.requires.used c.requires.within c.loop-page-test.true c.in_ok-read_numbers.ensures.numbers c.index.ensures in
    let below = at.1 in
    omega (arith, all, same, below)

pub loop-page-preserved : goal.loop-page-preserved
loop-page-preserved g c =
    let s = g.V.Blocks.seen c.args.v.now in
    let inv = c.loop-page.invariant in
    let n = c.args.inodes.now in
    let at = front_page s n c.args.i.0 c.loop-page.page c.args.count c.read_numbers.new.blocks.items c.index.result.now c.requires.inodes c.requires.numbers c.requires.ino c.requires.used c.requires.within c.loop-page-test.true c.in_ok-read_numbers.ensures.numbers c.index.ensures in
    record {
      looked = on_ok g.V.Blocks.seen g.V.Blocks.health g.V.Blocks.sound g.V.Blocks.passes g.met.V.Blocks.passes_trans _ _ _ _ inv.looked c.in_ok-push_block.ensures.looked;
      read = blocks_next s.words (λ p. ((layout_of s n).node c.args.i.0).block (AtPage p)) c.loop-page.page c.index.result.now.0 c.loop-page.words.items c.push_block.new.words.items at.0 inv.read (subst (λ (h : BlockWords). PushesBlock h c.index.result.now.0 c.loop-page.words.items c.push_block.new.words.items) inv.looked.looks.words c.in_ok-push_block.ensures.words);
    }

pub returns-clause-words : goal.returns-clause-words
returns-clause-words g c =
    let s = g.V.Blocks.seen c.args.v.now in
    let n = c.args.inodes.now in
    let i = c.args.i.0 in
    let end : c.loop-page.page ≡ c.args.count = omega (arith, c.loop-page-test.false) in
    front_held n.shape s.words i c.args.count c.loop-page.words.items c.requires.ino (subst (λ x. 0 < x) (kind_said s n i c.requires.inodes c.requires.ino) c.requires.used) (subst (λ k. HasBlocks s.words (λ p. ((layout_of s n).node i).block (AtPage p)) k c.loop-page.words.items) end c.loop-page.invariant.read)
