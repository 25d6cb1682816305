use Rattle.rio_base.proofs.Frames.{read_none, read_ok, read_value, read_on, shaped_refl}
use Rattle.std.proofs.Common.{arith}
use Rattle.std.specs.Prelude.{None}
use Rattle.std.proofs.lemmas.Result.{IfOk-from_err}
use Rattle.std.proofs.Common.{refl}
use Rattle.rio_base.proofs.BlockRules.{caches_refl}
use Rattle.std.proofs.Common.{◌∙◌, ap, slice_index, sym}
use Rattle.block_alloc.proofs.words.free_bits.Goals as goal

pub free_of-requires-clause-word : goal.free_of-requires-clause-word
free_of-requires-clause-word g c = omega (arith, c.requires.within, c.requires.can.meets.sizes.blocks_to)

pub free_of-requires-2-clause-word : goal.free_of-requires-2-clause-word
free_of-requires-2-clause-word g c = omega (arith, c.requires.within, c.requires.can.meets.sizes.blocks_to)

pub fill_run-requires-clause-begins : goal.fill_run-requires-clause-begins
fill_run-requires-clause-begins g c = omega (arith, c.if-place-ne0.false)

pub returns-then-place-ne0-clause-value : goal.returns-then-place-ne0-clause-value
returns-then-place-ne0-clause-value g c = c.free_of.ensures (g.V.Blocks.seen c.args.v.now).words ((c.requires.run c.if-place-ne0.true).each c.args.w refl c.requires.within)

pub returns-clause-value : goal.returns-clause-value
returns-clause-value g c = c.free_of-2.ensures (g.V.Blocks.seen c.args.v.now).words (ap (λ i. slice_index c.fill_run.new.run i) (sym c.if-place-ne0.false) ∙ c.in_ok-fill_run.ensures.run.each c.args.w refl c.requires.within)

pub returns-then-place-ne0-clause-run : goal.returns-then-place-ne0-clause-run
returns-then-place-ne0-clause-run g c = c.requires.run c.if-place-ne0.true

pub returns-then-place-ne0-clause-caches : goal.returns-then-place-ne0-clause-caches
returns-then-place-ne0-clause-caches g c = caches_refl _ 1 None

pub returns-in_err-fill_run-clause-value : goal.returns-in_err-fill_run-clause-value
returns-in_err-fill_run-clause-value g c = IfOk-from_err c.from_residual.result _ c.from_residual.ensures.0

pub returns-in_err-fill_run-clause-run : goal.returns-in_err-fill_run-clause-run
returns-in_err-fill_run-clause-run g c = IfOk-from_err c.from_residual.result _ c.from_residual.ensures.0

pub returns-then-place-ne0-clause-read : goal.returns-then-place-ne0-clause-read
returns-then-place-ne0-clause-read g c = read_value _ (read_none (g.met.V.Blocks.passes_refl _) (shaped_refl c.args.shape.now _ c.requires.can.meets) c.requires.can.keeps)

pub returns-in_err-fill_run-clause-read : goal.returns-in_err-fill_run-clause-read
returns-in_err-fill_run-clause-read g c = read_on c.fill_run.result c.from_residual.result c.in_err-fill_run.was c.from_residual.ensures.1 c.fill_run.ensures.read

pub returns-clause-read : goal.returns-clause-read
returns-clause-read g c = read_value _ (read_ok c.fill_run.result _ c.in_ok-fill_run.was c.fill_run.ensures.read)

pub fill_run-requires-clause-can : goal.fill_run-requires-clause-can
fill_run-requires-clause-can g c = c.requires.can
