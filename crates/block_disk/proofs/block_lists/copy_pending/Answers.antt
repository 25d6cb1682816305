use Rattle.std.proofs.Common.{◌≡◌, ◌<◌, ℕ, List, length, slice_index, set, refl, ap, sym, subst, ◌∙◌, arith}
use Rattle.rio_base.specs.Disks.{block_at}
use Rattle.block_disk.specs.BlockLists.{AreWhole, Lists, rows}
use Rattle.block_disk.proofs.Marks.{listed_within}
use Rattle.block_disk.proofs.Replacing.{ReplacedFirst, first_all, first_put, set_whole}
use Rattle.block_disk.proofs.Rows.{row_read, rows_length}
use Rattle.block_disk.proofs.block_lists.copy_pending.Goals as goal

pub bounds-from-b : goal.bounds-from-b
bounds-from-b c =
    let lists = subst (λ (ns : List ℕ). Lists ns c.args.pending.now.marks.items) (sym c.numbers-numbers.ensures) c.args.pending.now.lists in
    omega (arith, listed_within _ _ lists c.loop-i.i c.loop-i-test.true, c.requires.marks, c.requires.count, rows_length c.args.from.now)

pub put_block-requires-clause-within : goal.put_block-requires-clause-within
put_block-requires-clause-within c =
    let lists = subst (λ (ns : List ℕ). Lists ns c.args.pending.now.marks.items) (sym c.numbers-numbers.ensures) c.args.pending.now.lists in
    omega (arith, listed_within _ _ lists c.loop-i.i c.loop-i-test.true, c.requires.marks, c.loop-i.invariant.replaced.count)

pub put_block-requires-clause-words : goal.put_block-requires-clause-words
put_block-requires-clause-words c =
    let lists = subst (λ (ns : List ℕ). Lists ns c.args.pending.now.marks.items) (sym c.numbers-numbers.ensures) c.args.pending.now.lists in
    let b = slice_index c.numbers-numbers.result.now c.loop-i.i in
    let within : b < length (rows c.loop-i.to.items) = omega (arith, listed_within _ _ lists c.loop-i.i c.loop-i-test.true, c.requires.marks, c.loop-i.invariant.replaced.count) in
    let within_from : b < length (rows c.args.from.now) = omega (arith, within, c.loop-i.invariant.replaced.count, c.requires.count) in
    let given = c.deref.ensures.value ∙ row_read _ _ _ within_from c.index-from-b.is in
    c.loop-i.invariant.whole b within ∙ sym (ap length given ∙ c.requires.from b within_from)

pub loop-i-preserved : goal.loop-i-preserved
loop-i-preserved c =
    let lists = subst (λ (ns : List ℕ). Lists ns c.args.pending.now.marks.items) (sym c.numbers-numbers.ensures) c.args.pending.now.lists in
    let b = slice_index c.numbers-numbers.result.now c.loop-i.i in
    let within : b < length (rows c.args.to.now.items) = omega (arith, listed_within _ _ lists c.loop-i.i c.loop-i-test.true, c.requires.marks) in
    let within_from : b < length (rows c.args.from.now) = omega (arith, within, c.requires.count) in
    let given = c.deref.ensures.value ∙ row_read _ _ _ within_from c.index-from-b.is in
    let put = c.put_block.ensures ∙ ap (set (rows c.loop-i.to.items) b) given in
    record {
      replaced = first_put _ b _ (block_at (rows c.args.from.now)) _ _ _ c.loop-i.invariant.replaced refl within put;
      whole = subst AreWhole (sym put) (set_whole _ b _ c.loop-i.invariant.whole (c.requires.from b within_from));
    }

pub returns-clause-replaced : goal.returns-clause-replaced
returns-clause-replaced c =
    let lists = subst (λ (ns : List ℕ). Lists ns c.args.pending.now.marks.items) (sym c.numbers-numbers.ensures) c.args.pending.now.lists in
    let all : c.loop-i.i ≡ length c.numbers-numbers.result.now = omega arith in
    first_all _ _ _ _ _ lists (subst (λ n. ReplacedFirst n c.numbers-numbers.result.now (block_at (rows c.args.from.now)) (rows c.args.to.now.items) (rows c.loop-i.to.items)) all c.loop-i.invariant.replaced)
