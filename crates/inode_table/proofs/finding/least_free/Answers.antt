use Rattle.rio_base.proofs.Frames.{read_none, can_on, read_then, read_ok, read_value, read_on, shaped_refl, shaped_trans}
use Rattle.std.proofs.Common.{◌-◌, None, Some, arith, refl}
use Rattle.rio_base.proofs.BlockSets.{caches_by_refl}
use Rattle.inode_table.proofs.Exits.{below_as, caches_more, not_ok}
use Rattle.inode_table.proofs.Used.{found, passed, used_less, used_none}
use Rattle.inode_table.proofs.finding.least_free.Goals as goal

pub loop-first-init : goal.loop-first-init
loop-first-init g c = record {
  used = used_none _ 1;
  from = omega arith;
  start = refl;
  read = read_none (g.met.V.Blocks.passes_refl _) (shaped_refl c.args.shape.now _ c.requires.can.meets) c.requires.can.keeps;
  caches = caches_by_refl _ _;
}

pub first_of_block-requires-clause-within : goal.first_of_block-requires-clause-within
first_of_block-requires-clause-within g c = c.loop-first-test.true

pub returns-in_err-k-clause-value : goal.returns-in_err-k-clause-value
returns-in_err-k-clause-value g c = not_ok _ c.from_residual.result c.from_residual.ensures.0

pub returns-in_err-k-clause-caches : goal.returns-in_err-k-clause-caches
returns-in_err-k-clause-caches g c = caches_more c.args.shape.now _ _ _ c.loop-first.first c.requires.can.meets.sizes c.loop-first.invariant.from c.loop-first-test.true c.loop-first.invariant.caches c.first_of_block.ensures.caches

pub returns-in-Some-clause-value : goal.returns-in-Some-clause-value
returns-in-Some-clause-value g c = found c.args.shape.now _ c.loop-first.first c.in-Some.k c.requires.can.meets.sizes c.loop-first.invariant.from c.loop-first.invariant.start c.loop-first-test.true c.loop-first.invariant.used (below_as _ _ c.loop-first.first 32 _ (Some c.in-Some.k) c.loop-first.invariant.read.looks.looks.words c.in-Some.is c.in_ok-k.ensures.value)

pub returns-in-Some-clause-caches : goal.returns-in-Some-clause-caches
returns-in-Some-clause-caches g c = caches_more c.args.shape.now _ _ _ c.loop-first.first c.requires.can.meets.sizes c.loop-first.invariant.from c.loop-first-test.true c.loop-first.invariant.caches c.first_of_block.ensures.caches

pub loop-first-preserved : goal.loop-first-preserved
loop-first-preserved g c =
    let i = c.loop-first.invariant in
    let call = c.in_ok-k.ensures in
    record {
      used = passed _ c.loop-first.first i.from i.used (below_as _ _ c.loop-first.first 32 _ None i.read.looks.looks.words c.in_default.is call.value);
      from = omega (arith, i.from);
      start = omega (arith, i.start);
      read = read_then g.met.V.Blocks.passes_trans (shaped_trans c.args.shape.now) c.loop-first.invariant.read (read_ok c.first_of_block.result _ c.in_ok-k.was c.first_of_block.ensures.read);
      caches = caches_more c.args.shape.now _ _ _ c.loop-first.first c.requires.can.meets.sizes i.from c.loop-first-test.true i.caches call.caches;
    }

pub returns-clause-value : goal.returns-clause-value
returns-clause-value g c = used_less _ 1 (c.loop-first.first - 1) c.args.shape.now.inodes (omega (arith, c.loop-first-test.false)) c.loop-first.invariant.used

pub returns-in_err-k-clause-read : goal.returns-in_err-k-clause-read
returns-in_err-k-clause-read g c = read_then g.met.V.Blocks.passes_trans (shaped_trans c.args.shape.now) c.loop-first.invariant.read (read_on c.first_of_block.result c.from_residual.result c.in_err-k.was c.from_residual.ensures.1 c.first_of_block.ensures.read)

pub returns-in-Some-clause-read : goal.returns-in-Some-clause-read
returns-in-Some-clause-read g c = read_value _ (read_then g.met.V.Blocks.passes_trans (shaped_trans c.args.shape.now) c.loop-first.invariant.read (read_ok c.first_of_block.result _ c.in_ok-k.was c.first_of_block.ensures.read))

pub returns-clause-read : goal.returns-clause-read
returns-clause-read g c = read_value _ c.loop-first.invariant.read

pub first_of_block-requires-clause-can : goal.first_of_block-requires-clause-can
first_of_block-requires-clause-can g c = can_on c.loop-first.invariant.read (λ s. s.has_shape)
