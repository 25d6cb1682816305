use Rattle.rio_base.proofs.Frames.{read_none, can_on, read_then, read_ok, read_value, read_on, shaped_refl, shaped_trans}
use Rattle.std.proofs.Common.{◌+◌, ◌*◌, None, Some, arith}
use Rattle.rio_base.proofs.BlockSets.{caches_by_refl}
use Rattle.inode_table.specs.Inodes.{AreUsed}
use Rattle.inode_table.proofs.Exits.{below_as, caches_more, not_ok}
use Rattle.inode_table.proofs.PassedBlocks.{all_past, found_past, none_before, used_more, used_past}
use Rattle.inode_table.proofs.full_blocks.least_free_past_full.Goals as goal

pub loop-k-init : goal.loop-k-init
loop-k-init g c = record {
  used = used_past c.args.shape.now _ _ 0 _ c.requires.known (none_before _ _) c.next_open-k.ensures.full;
  most = c.next_open-k.ensures.to;
  known = c.requires.known;
  read = read_none (g.met.V.Blocks.passes_refl _) (shaped_refl c.args.shape.now _ c.requires.can.meets) c.requires.can.keeps;
  caches = caches_by_refl _ _;
}

pub first_of_block-requires-clause-first : goal.first_of_block-requires-clause-first
first_of_block-requires-clause-first g c = omega arith

pub first_of_block-requires-clause-within : goal.first_of_block-requires-clause-within
first_of_block-requires-clause-within g c = omega (arith, c.loop-k-test.true)

pub returns-in_err-n-clause-value : goal.returns-in_err-n-clause-value
returns-in_err-n-clause-value g c = not_ok _ c.from_residual.result c.from_residual.ensures.0

pub returns-in_err-n-clause-caches : goal.returns-in_err-n-clause-caches
returns-in_err-n-clause-caches g c = caches_more c.args.shape.now _ _ _ (32 * c.loop-k.k + 1) c.requires.can.meets.sizes (omega arith) (omega (arith, c.loop-k-test.true)) c.loop-k.invariant.caches c.first_of_block.ensures.caches

pub returns-in-Some-clause-value : goal.returns-in-Some-clause-value
returns-in-Some-clause-value g c = found_past c.args.shape.now _ c.loop-k.k c.in-Some.n c.requires.can.meets.sizes c.loop-k-test.true c.loop-k.invariant.used (below_as _ _ (32 * c.loop-k.k + 1) 32 _ (Some c.in-Some.n) c.loop-k.invariant.read.looks.looks.words c.in-Some.is c.in_ok-n.ensures.value)

pub returns-in-Some-clause-caches : goal.returns-in-Some-clause-caches
returns-in-Some-clause-caches g c = caches_more c.args.shape.now _ _ _ (32 * c.loop-k.k + 1) c.requires.can.meets.sizes (omega arith) (omega (arith, c.loop-k-test.true)) c.loop-k.invariant.caches c.first_of_block.ensures.caches

pub loop-k-preserved : goal.loop-k-preserved
loop-k-preserved g c =
    let i = c.loop-k.invariant in
    let call = c.in_ok-n.ensures in
    let f = (g.V.Blocks.seen c.args.v.now).words in
    let block : AreUsed f (32 * c.loop-k.k + 1) 32 = below_as f _ (32 * c.loop-k.k + 1) 32 _ None i.read.looks.looks.words c.in_default.is call.value in
    let known = c.mark.ensures c.args.shape.now f i.known block in
    record {
      used = used_past c.args.shape.now _ f (c.loop-k.k + 1) _ known (used_more c.args.shape.now f c.loop-k.k i.used block) c.next_open-k-in-loop-k.ensures.full;
      most = c.next_open-k-in-loop-k.ensures.to;
      known = known;
      read = read_then g.met.V.Blocks.passes_trans (shaped_trans c.args.shape.now) c.loop-k.invariant.read (read_ok c.first_of_block.result _ c.in_ok-n.was c.first_of_block.ensures.read);
      caches = caches_more c.args.shape.now _ _ _ (32 * c.loop-k.k + 1) c.requires.can.meets.sizes (omega arith) (omega (arith, c.loop-k-test.true)) i.caches call.caches;
    }

pub returns-clause-value : goal.returns-clause-value
returns-clause-value g c = all_past c.args.shape.now _ c.loop-k.k c.requires.can.meets.sizes (omega (arith, c.loop-k-test.false)) c.loop-k.invariant.used

pub returns-in_err-n-clause-read : goal.returns-in_err-n-clause-read
returns-in_err-n-clause-read g c = read_then g.met.V.Blocks.passes_trans (shaped_trans c.args.shape.now) c.loop-k.invariant.read (read_on c.first_of_block.result c.from_residual.result c.in_err-n.was c.from_residual.ensures.1 c.first_of_block.ensures.read)

pub returns-in-Some-clause-read : goal.returns-in-Some-clause-read
returns-in-Some-clause-read g c = read_value _ (read_then g.met.V.Blocks.passes_trans (shaped_trans c.args.shape.now) c.loop-k.invariant.read (read_ok c.first_of_block.result _ c.in_ok-n.was c.first_of_block.ensures.read))

pub returns-clause-read : goal.returns-clause-read
returns-clause-read g c = read_value _ c.loop-k.invariant.read

pub first_of_block-requires-clause-can : goal.first_of_block-requires-clause-can
first_of_block-requires-clause-can g c = can_on c.loop-k.invariant.read (λ s. s.has_shape)
