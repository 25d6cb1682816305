use Rattle.volume_check.proofs.Common.{◌∙◌, ap, arith, err_from_is_err_and}
use Rattle.volume_check.specs.Inodes.{layout_of}
use Rattle.volume_check.specs.NodeBlocks.{numbers}
use Rattle.volume_check.proofs.Looking.{looked_err, looked_quiet, refused_err, looked_none}
use Rattle.volume_check.proofs.NodeNumbers.{ranges_keep, tables_break}
use Rattle.volume_check.proofs.numbers.keeps_numbers.Goals as goal

pub returns-in_err-read_numbers-clause-unrefused : goal.returns-in_err-read_numbers-clause-unrefused
returns-in_err-read_numbers-clause-unrefused g c =
    let p = err_from_is_err_and c.from_residual.result c.from_residual.ensures.1 in
    refused_err (λ _ _. ⊥) (λ _ _. ⊥) c.read_numbers.result c.from_residual.result _ p.0 c.in_err-read_numbers.was p.1 p.2 (λ rule b h. h) c.read_numbers.ensures.unrefused

pub returns-in_err-read_numbers-clause-looked : goal.returns-in_err-read_numbers-clause-looked
returns-in_err-read_numbers-clause-looked g c =
    let p = err_from_is_err_and c.from_residual.result c.from_residual.ensures.1 in
    looked_err g.V.Blocks.seen g.V.Blocks.health g.V.Blocks.sound g.V.Blocks.passes _ _ c.read_numbers.result c.from_residual.result _ p.0 c.in_err-read_numbers.was p.1 p.2 c.read_numbers.ensures.looked

pub returns-clause-keeps : goal.returns-clause-keeps
returns-clause-keeps g c =
    let s = g.V.Blocks.seen c.args.v.now in
    let n = c.args.inodes.now in
    let node = (layout_of s n).node c.args.i.0 in
    ranges_keep n.shape node c.deref.result.now c.are_in_range.result (ap numbers c.deref.ensures.value ∙ c.in_ok-read_numbers.ensures.numbers) c.are_in_range.ensures

pub returns-clause-looked : goal.returns-clause-looked
returns-clause-looked g c =
    looked_quiet g.V.Blocks.seen g.V.Blocks.health g.V.Blocks.sound g.V.Blocks.passes _ _ _ _ tt tt c.in_ok-read_numbers.ensures.looked

pub returns-then-not-has_table_in_range-clause-keeps : goal.returns-then-not-has_table_in_range-clause-keeps
returns-then-not-has_table_in_range-clause-keeps g c =
    let s = g.V.Blocks.seen c.args.v.now in
    let n = c.args.inodes.now in
    tables_break n.shape ((layout_of s n).node c.args.i.0) c.has_table_in_range.result c.if-not-has_table_in_range.true (c.has_table_in_range.ensures s c.requires.inodes)

pub read_numbers-requires-clause-numbers : goal.read_numbers-requires-clause-numbers
read_numbers-requires-clause-numbers g c =
    let s = g.V.Blocks.seen c.args.v.now in
    let all = c.requires.inodes.count in
    record {
      size = λ used. (c.requires.size used).most;
      tables = λ k has. (let range = ((c.has_table_in_range.ensures s c.requires.inodes).0 c.if-not-has_table_in_range.false k has).1 in omega (arith, range, all));
    }

pub returns-then-not-has_table_in_range-clause-looked : goal.returns-then-not-has_table_in_range-clause-looked
returns-then-not-has_table_in_range-clause-looked g c = looked_none g.V.Blocks.seen g.V.Blocks.health g.V.Blocks.sound g.V.Blocks.passes c.args.v.now _ (g.met.V.Blocks.passes_refl c.args.v.now) c.requires.can.keeps tt
