use Rattle.rio_base.proofs.Frames.{read_none, can_on, read_then, read_ok, read_value, read_on, shaped_refl, shaped_trans}
use Rattle.std.proofs.Common.{arith, ap, ◌∙◌, length}
use Rattle.rio_base.proofs.BlockRules.{caches_trans}
use Rattle.block_alloc.proofs.Free.{run_on, count_more, count_fits, whole}
use Rattle.std.proofs.Common.{subst, sym}
use Rattle.std.proofs.lemmas.Result.{IfOk-from_err}
use Rattle.rio_base.specs.Blocks.{BlockWords}
use Rattle.block_alloc.specs.Words.{HoldsRun}
use Rattle.std.proofs.Common.{refl}
use Rattle.std.specs.Prelude.{None}
use Rattle.rio_base.proofs.BlockRules.{caches_refl}
use Rattle.block_alloc.proofs.counting.free_count.Goals as goal

pub overflow_add-free : goal.overflow_add-free
overflow_add-free g c =
    let small = count_fits c.args.shape.now (g.V.Blocks.seen c.args.v.now).words c.loop-w.w c.in_ok-free.field-0 c.loop-w.free (omega (arith, c.requires.can.meets.sizes.blocks_to)) (omega arith) c.loop-w.invariant.free in
    omega (arith, small)

pub loop-w-preserved : goal.loop-w-preserved
loop-w-preserved g c =
    let inv = c.loop-w.invariant in
    let now = c.free_bits.ensures in
    record {
      free = count_more _ _ _ _ _ _ inv.read.looks.looks.words (omega arith) c.in_ok-free.ensures.value inv.free;
      run = λ on. run_on _ _ _ _ _ on inv.read.looks.looks.words c.in_ok-free.ensures.run;
      read = read_then g.met.V.Blocks.passes_trans (shaped_trans c.args.shape.now) c.loop-w.invariant.read (read_ok c.free_bits.result _ c.in_ok-free.was c.free_bits.ensures.read);
      caches = caches_trans _ _ _ _ _ inv.caches now.caches;
    }

pub returns-clause-value : goal.returns-clause-value
returns-clause-value g c = c.loop-w.invariant.free ∙ ap length (whole c.args.shape.now (g.V.Blocks.seen c.args.v.now).words c.loop-w.w (omega arith))

pub free_bits-requires-clause-run : goal.free_bits-requires-clause-run
free_bits-requires-clause-run g c = λ on. subst (λ (f : BlockWords). HoldsRun c.args.shape.now f c.loop-w.w c.loop-w.run) (sym c.loop-w.invariant.read.looks.looks.words) (c.loop-w.invariant.run on)

pub free_bits-requires-clause-within : goal.free_bits-requires-clause-within
free_bits-requires-clause-within g c = omega (arith, c.loop-w-test.true, c.div_ceil-w-end.ensures)

pub loop-w-init : goal.loop-w-init
loop-w-init g c = record {
  free = refl;
  run = λ n. absurd (n refl);
  read = read_none (g.met.V.Blocks.passes_refl _) (shaped_refl c.args.shape.now _ c.requires.can.meets) c.requires.can.keeps;
  caches = caches_refl _ 1 None;
}

pub returns-in_err-free-clause-value : goal.returns-in_err-free-clause-value
returns-in_err-free-clause-value g c = IfOk-from_err c.from_residual.result _ c.from_residual.ensures.0

pub returns-in_err-free-clause-caches : goal.returns-in_err-free-clause-caches
returns-in_err-free-clause-caches g c = caches_trans _ _ _ _ _ c.loop-w.invariant.caches c.free_bits.ensures.caches

pub returns-in_err-free-clause-read : goal.returns-in_err-free-clause-read
returns-in_err-free-clause-read g c = read_then g.met.V.Blocks.passes_trans (shaped_trans c.args.shape.now) c.loop-w.invariant.read (read_on c.free_bits.result c.from_residual.result c.in_err-free.was c.from_residual.ensures.1 c.free_bits.ensures.read)

pub returns-clause-read : goal.returns-clause-read
returns-clause-read g c = read_value _ c.loop-w.invariant.read

pub free_bits-requires-clause-can : goal.free_bits-requires-clause-can
free_bits-requires-clause-can g c = can_on c.loop-w.invariant.read (λ s. s.has_shape)
