use Rattle.rio_base.proofs.Frames.{read_word, shaped_block}
use Rattle.std.proofs.Common.{arith}
use Rattle.rio_base.proofs.BlockRules.{metadata}
use Rattle.std.proofs.Common.{◌≡◌, length, length-take}
use Rattle.block_alloc.proofs.Free.{run_read}
use Rattle.block_alloc.proofs.words.fill_run.Goals as goal

pub read_run-requires-clause-name : goal.read_run-requires-clause-name
read_run-requires-clause-name g c = metadata c.args.shape.now _ 1 c.requires.can.meets (omega arith)

pub returns-clause-run : goal.returns-clause-run
returns-clause-run g c =
    let long : length c.args.run.now ≡ 64 = c.told-run in
    run_read c.read_run.result c.args.shape.now (g.V.Blocks.seen c.args.v.now).words c.args.w _ c.read_run.new.into _ c.requires.begins (c.read_run.ensures.len)
    (λ i most less. omega (arith, length-take c.min-count.result c.args.run.now, long, c.min-count.ensures, c.div_ceil.ensures, most, less)) c.read_run.ensures.words

pub read_run-requires-clause-place : goal.read_run-requires-clause-place
read_run-requires-clause-place g c = record {
  block = omega (arith, c.requires.can.meets.count, c.requires.can.meets.sizes.blocks_from);
  within = omega (arith, length-take c.min-count.result c.args.run.now, c.min-count.ensures, c.requires.begins, c.requires.within, c.requires.can.meets.sizes.blocks_to);
}

pub overflow_sub-div_ceil : goal.overflow_sub-div_ceil
overflow_sub-div_ceil g c = omega (arith, c.div_ceil.ensures, c.requires.within)

pub overflow_cast-w : goal.overflow_cast-w
overflow_cast-w g c = omega (arith, c.requires.within, c.requires.can.meets.sizes.blocks_to)

pub returns-clause-read : goal.returns-clause-read
returns-clause-read g c = read_word c.read_run.result (shaped_block c.args.shape.now _ _ _ c.requires.can.meets c.read_run.ensures.looks c.read_run.ensures.caches) c.read_run.ensures.passes c.read_run.ensures.ends c.read_run.ensures.sound
