use Rattle.rio_base.proofs.Frames.{read_none, can_on, read_then, read_as, read_ok, shaped_refl, shaped_trans, vol_ends}
use Rattle.std.proofs.Common.{arith, ap, subst, sym, ◌∙◌}
use Rattle.std.proofs.lemmas.Result.{IfOk-from_err, err_from_is_err_and}
use Rattle.rio_base.proofs.MachineRules.{never}
use Rattle.rio_base.proofs.BlockRules.{caches_trans}
use Rattle.rio_base.specs.Blocks.{BlockWords}
use Rattle.block_alloc.proofs.Ends.{ends_handed, ends_memory, ends_none, ends_well, space_handed, space_memory}
use Rattle.block_alloc.proofs.Free.{run_on, take_more, too_few, enough}
use Rattle.block_alloc.specs.Bitmap.{numbers}
use Rattle.block_alloc.specs.Words.{HoldsRun}
use Rattle.std.proofs.Common.{refl}
use Rattle.std.proofs.Math.Seq.{take-nil}
use Rattle.std.specs.Prelude.{None}
use Rattle.rio_base.proofs.BlockRules.{caches_refl}
use Rattle.block_alloc.proofs.taking.take.Goals.{then-loop-w-test+else-len-n, else-loop-w-test}
use Rattle.block_alloc.proofs.taking.take.Goals as goal

pub free_bits-requires-clause-run : goal.free_bits-requires-clause-run
free_bits-requires-clause-run g c = λ on. subst (λ (f : BlockWords). HoldsRun c.args.shape.now f c.loop-w.w c.loop-w.run) (sym c.loop-w.invariant.read.looks.looks.words) (c.loop-w.invariant.run on)

pub loop-w-preserved : goal.loop-w-preserved
loop-w-preserved g c =
    let inv = c.loop-w.invariant in
    let now = c.free_bits.ensures in
    record {
      within = omega arith;
      found = take_more _ _ _ _ _ _ _ _ inv.read.looks.looks.words c.in_ok-free.ensures.value inv.found c.in_ok-push_free.ensures;
      run = λ on. run_on _ _ _ _ _ on inv.read.looks.looks.words c.in_ok-free.ensures.run;
      read = read_then g.met.V.Blocks.passes_trans (shaped_trans c.args.shape.now) c.loop-w.invariant.read (read_ok c.free_bits.result _ c.in_ok-free.was c.free_bits.ensures.read);
      caches = caches_trans _ _ _ _ _ inv.caches now.caches;
    }

pub returns-in_err-free-clause-value : goal.returns-in_err-free-clause-value
returns-in_err-free-clause-value g c = IfOk-from_err c.from_residual.result _ c.from_residual.ensures.0

pub returns-in_err-free-clause-room : goal.returns-in_err-free-clause-room
returns-in_err-free-clause-room g c = IfOk-from_err c.from_residual.result _ c.from_residual.ensures.0

pub returns-in_err-free-clause-no_space : goal.returns-in_err-free-clause-no_space
returns-in_err-free-clause-no_space g c =
    let p = err_from_is_err_and c.from_residual.result c.from_residual.ensures.1 in
    λ is. absurd (space_handed c.from_residual.result _ _ p.1 p.2 is)

pub returns-in_err-free-clause-caches : goal.returns-in_err-free-clause-caches
returns-in_err-free-clause-caches g c = caches_trans _ _ _ _ _ c.loop-w.invariant.caches c.free_bits.ensures.caches

pub returns-in_err-push_free-clause-value : goal.returns-in_err-push_free-clause-value
returns-in_err-push_free-clause-value g c = IfOk-from_err c.from_residual-in_err-push_free.result _ c.from_residual-in_err-push_free.ensures.0

pub returns-in_err-push_free-clause-room : goal.returns-in_err-push_free-clause-room
returns-in_err-push_free-clause-room g c = IfOk-from_err c.from_residual-in_err-push_free.result _ c.from_residual-in_err-push_free.ensures.0

pub returns-in_err-push_free-clause-no_space : goal.returns-in_err-push_free-clause-no_space
returns-in_err-push_free-clause-no_space g c =
    let p = err_from_is_err_and c.from_residual-in_err-push_free.result c.from_residual-in_err-push_free.ensures.1 in
    λ is. absurd (space_memory c.from_residual-in_err-push_free.result _ p.1 p.2 is)

pub returns-in_err-push_free-clause-caches : goal.returns-in_err-push_free-clause-caches
returns-in_err-push_free-clause-caches g c = caches_trans _ _ _ _ _ c.loop-w.invariant.caches c.free_bits.ensures.caches

pub returns-then-len-n-2-clause-no_space : goal.returns-then-len-n-2-clause-no_space
returns-then-len-n-2-clause-no_space g c = λ is.
    let words = (g.V.Blocks.seen c.args.v.now).words in
    elim c.loop-w-test.branch [
      | then-loop-w-test+else-len-n w ↦ absurd (omega arith)
      | else-loop-w-test w ↦ too_few c.args.shape.now words c.loop-w.w c.args.n c.loop-w.found.items (omega arith) c.loop-w.invariant.found (omega arith)
    ]

pub returns-clause-value : goal.returns-clause-value
returns-clause-value g c = ap numbers c.from.ensures ∙ (enough c.args.shape.now (g.V.Blocks.seen c.args.v.now).words c.loop-w.w c.args.n c.loop-w.found.items c.requires.can.meets.sizes.blocks_to c.loop-w.invariant.found (omega arith)).0

pub returns-clause-room : goal.returns-clause-room
returns-clause-room g c = (enough c.args.shape.now (g.V.Blocks.seen c.args.v.now).words c.loop-w.w c.args.n c.loop-w.found.items c.requires.can.meets.sizes.blocks_to c.loop-w.invariant.found (omega arith)).1

pub returns-clause-no_space : goal.returns-clause-no_space
returns-clause-no_space g c = λ is. absurd (never _ _ is)

pub loop-w-init : goal.loop-w-init
loop-w-init g c = record {
  within = omega arith;
  found = ap numbers c.new-found.ensures.items ∙ sym (take-nil c.args.n);
  run = λ n. absurd (n refl);
  read = read_none (g.met.V.Blocks.passes_refl _) (shaped_refl c.args.shape.now _ c.requires.can.meets) c.requires.can.keeps;
  caches = caches_refl _ 1 None;
}

pub free_bits-requires-clause-within : goal.free_bits-requires-clause-within
free_bits-requires-clause-within g c = omega (arith, c.loop-w-test.true, c.div_ceil-words.ensures)

pub push_free-requires : goal.push_free-requires
push_free-requires g c = omega (arith, c.loop-w-test.true, c.div_ceil-words.ensures, c.requires.can.meets.sizes.blocks_to)

pub loop-w-smaller : goal.loop-w-smaller
loop-w-smaller g c = omega (arith, c.loop-w-test.true)

pub overflow_mul-w : goal.overflow_mul-w
overflow_mul-w g c = omega (arith, c.loop-w-test.true, c.div_ceil-words.ensures, c.requires.can.meets.sizes.blocks_to)

pub returns-in_err-free-clause-read : goal.returns-in_err-free-clause-read
returns-in_err-free-clause-read g c = read_as (read_then g.met.V.Blocks.passes_trans (shaped_trans c.args.shape.now) c.loop-w.invariant.read c.free_bits.ensures.read) (let p = err_from_is_err_and c.from_residual.result c.from_residual.ensures.1 in
    ends_handed _ _ _ c.free_bits.result c.from_residual.result _ _ c.in_err-free.was p.1 p.2 c.loop-w.invariant.read.ends.later (c.loop-w.invariant.read.ends.runs (λ a. a)) (vol_ends _ _ _ c.free_bits.ensures.read.ends))

pub returns-in_err-push_free-clause-read : goal.returns-in_err-push_free-clause-read
returns-in_err-push_free-clause-read g c = read_as (read_then g.met.V.Blocks.passes_trans (shaped_trans c.args.shape.now) c.loop-w.invariant.read c.free_bits.ensures.read) (let p = err_from_is_err_and c.from_residual-in_err-push_free.result c.from_residual-in_err-push_free.ensures.1 in
    ends_memory _ _ _ c.from_residual-in_err-push_free.result _ p.1 p.2 c.loop-w.invariant.read.ends.later (c.loop-w.invariant.read.ends.runs (λ a. a)) (vol_ends _ _ _ c.free_bits.ensures.read.ends).later (vol_ends _ _ _ c.in_ok-free.ensures.read.ends).cause)

pub returns-then-len-n-2-clause-read : goal.returns-then-len-n-2-clause-read
returns-then-len-n-2-clause-read g c = read_as c.loop-w.invariant.read (ends_none _ _ c.loop-w.invariant.read.ends.later (c.loop-w.invariant.read.ends.runs (λ a. a)))

pub returns-clause-read : goal.returns-clause-read
returns-clause-read g c = read_as c.loop-w.invariant.read (ends_well _ _ _ c.loop-w.invariant.read.ends.later (c.loop-w.invariant.read.ends.runs (λ a. a)))

pub free_bits-requires-clause-can : goal.free_bits-requires-clause-can
free_bits-requires-clause-can g c = can_on c.loop-w.invariant.read (λ s. s.has_shape)
