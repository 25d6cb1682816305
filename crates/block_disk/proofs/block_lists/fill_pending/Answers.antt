use Rattle.std.proofs.Common.{◌≡◌, ◌<◌, ℕ, List, length, slice_index, replicate, refl, sym, subst, arith}
use Rattle.std.proofs.lemmas.List.{length-replicate}
use Rattle.block_disk.specs.BlockLists.{AreWhole, Lists, rows}
use Rattle.block_disk.proofs.Marks.{listed_within}
use Rattle.block_disk.proofs.Replacing.{ReplacedFirst, first_all, first_put, set_whole}
use Rattle.block_disk.proofs.block_lists.fill_pending.Goals as goal

pub fill_block-requires-clause-within : goal.fill_block-requires-clause-within
fill_block-requires-clause-within c =
    let lists = subst (λ (ns : List ℕ). Lists ns c.args.pending.now.marks.items) (sym c.numbers-numbers.ensures) c.args.pending.now.lists in
    omega (arith, listed_within _ _ lists c.loop-i.i c.loop-i-test.true, c.requires.marks, c.loop-i.invariant.replaced.count)

pub fill_block-requires-clause-words : goal.fill_block-requires-clause-words
fill_block-requires-clause-words c =
    let lists = subst (λ (ns : List ℕ). Lists ns c.args.pending.now.marks.items) (sym c.numbers-numbers.ensures) c.args.pending.now.lists in
    c.loop-i.invariant.whole (slice_index c.numbers-numbers.result.now c.loop-i.i) (omega (arith, listed_within _ _ lists c.loop-i.i c.loop-i-test.true, c.requires.marks, c.loop-i.invariant.replaced.count))

pub loop-i-preserved : goal.loop-i-preserved
loop-i-preserved c =
    let lists = subst (λ (ns : List ℕ). Lists ns c.args.pending.now.marks.items) (sym c.numbers-numbers.ensures) c.args.pending.now.lists in
    let b = slice_index c.numbers-numbers.result.now c.loop-i.i in
    let within : b < length (rows c.args.blocks.now.items) = omega (arith, listed_within _ _ lists c.loop-i.i c.loop-i-test.true, c.requires.marks) in
    record {
      replaced = first_put _ b _ (λ k. replicate 512 c.args.word) _ _ _ c.loop-i.invariant.replaced refl within c.fill_block.ensures;
      whole = subst AreWhole (sym c.fill_block.ensures) (set_whole _ b _ c.loop-i.invariant.whole (length-replicate 512 c.args.word));
    }

pub returns-clause-replaced : goal.returns-clause-replaced
returns-clause-replaced c =
    let lists = subst (λ (ns : List ℕ). Lists ns c.args.pending.now.marks.items) (sym c.numbers-numbers.ensures) c.args.pending.now.lists in
    let all : c.loop-i.i ≡ length c.numbers-numbers.result.now = omega arith in
    first_all _ _ _ _ _ lists (subst (λ n. ReplacedFirst n c.numbers-numbers.result.now (λ b. replicate 512 c.args.word) (rows c.args.blocks.now.items) (rows c.loop-i.blocks.items)) all c.loop-i.invariant.replaced)
