use Rattle.std.proofs.Common.{arith, ap, ◌∙◌}
use Rattle.block_alloc.proofs.Marks.{marks_none, marks_one, one_bit, touched_first}
use Rattle.rio_base.proofs.BlockRules.{shape_dropped}
use Rattle.rio_base.specs.Rules.{goes_trans}
use Rattle.block_alloc.proofs.Ends.{halts_later, halts_told}
use Rattle.block_alloc.proofs.marking.set_used.Goals as goal

pub touched_word-requires-clause-touched : goal.touched_word-requires-clause-touched
touched_word-requires-clause-touched g c = touched_first c.args.shape.now (g.V.Volume.kept c.args.v.now).touched c.args.b.0 (omega arith) c.requires.touched

pub edit-requires-clause-touched : goal.edit-requires-clause-touched
edit-requires-clause-touched g c = ap (λ f. f 1) c.in_ok-word.ensures.update.touched ∙ touched_first c.args.shape.now (g.V.Volume.kept c.args.v.now).touched c.args.b.0 (omega arith) c.requires.touched

pub returns-in_err-word-clause-marks : goal.returns-in_err-word-clause-marks
returns-in_err-word-clause-marks g c =
    let now = c.touched_word.ensures in
    marks_none c.args.shape.now c.args.b.0 _ _ _ _ _ _ (omega arith) c.from_residual.ensures.0 now.looks now.caches now.in_update now.standing now.firm

pub returns-clause-marks : goal.returns-clause-marks
returns-clause-marks g c =
    let now = c.in_ok-word.ensures in
    let end = c.edit.ensures in
    marks_one c.args.shape.now c.args.b.0 _ _ _ _ _ _ _ _ _ (omega arith) (one_bit _ c.in_ok-word.word _ _ _ now.value c.with_bit.ensures)
    now.looks now.caches now.update now.standing now.firm end.ok end.either end.drops end.update end.in_update end.standing end.firm

pub touched_word-requires-clause-place : goal.touched_word-requires-clause-place
touched_word-requires-clause-place g c = omega (arith, c.requires.block, c.requires.shape.sizes.blocks_to)

pub edit-requires-clause-place : goal.edit-requires-clause-place
edit-requires-clause-place g c = record { block = omega (arith, c.in_ok-word.ensures.shape.count, c.in_ok-word.ensures.shape.sizes.blocks_from); word = omega (arith, c.requires.block, c.requires.shape.sizes.blocks_to) }

pub overflow_cast-w : goal.overflow_cast-w
overflow_cast-w g c = omega (arith, c.requires.block, c.requires.shape.sizes.blocks_to)

pub returns-in_err-word-clause-ends : goal.returns-in_err-word-clause-ends
returns-in_err-word-clause-ends g c = halts_told _ _ c.in_err-word.field-0.0 c.from_residual.result c.from_residual.ensures.0 c.in_err-word.ensures.ends

pub returns-clause-shape : goal.returns-clause-shape
returns-clause-shape g c = shape_dropped c.args.shape.now _ _ c.in_ok-word.ensures.shape c.edit.ensures.count c.edit.ensures.drops

pub returns-clause-goes : goal.returns-clause-goes
returns-clause-goes g c = goes_trans _ _ _ _ _ _ c.in_ok-word.ensures.goes c.edit.ensures.goes

pub returns-clause-ends : goal.returns-clause-ends
returns-clause-ends g c = halts_later _ _ _ c.edit.result c.in_ok-word.ensures.ends.later c.in_ok-word.ensures.ends.cause c.edit.ensures.ends
