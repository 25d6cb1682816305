use Rattle.rio_base.proofs.Frames.{read_none, read_then, read_ok, read_value, read_on, read_word, shaped_refl, shaped_trans, shaped_block}
use Rattle.std.proofs.Common.{None, arith}
use Rattle.rio_base.proofs.BlockRules.{caches_refl, caches_trans}
use Rattle.inode_table.proofs.Exits.{caches_at, inode_named, inode_within, not_ok}
use Rattle.inode_table.proofs.Used.{free_word, used_less, used_none, used_word}
use Rattle.inode_table.proofs.finding.first_of_words.Goals as goal

pub loop-n-init : goal.loop-n-init
loop-n-init g c = record {
  used = used_none _ c.args.first.0;
  read = read_none (g.met.V.Blocks.passes_refl _) (shaped_refl c.args.shape.now _ c.requires.can.meets) c.requires.can.keeps;
  caches = caches_refl _ _ None;
}

pub word-requires-clause-place : goal.word-requires-clause-place
word-requires-clause-place g c = inode_within c.args.shape.now _ _ c.args.first.0 _ c.loop-n.invariant.read.looks.has_shape (omega (arith, c.requires.first)) c.requires.within c.inode_block-block.ensures (omega (arith, c.loop-n-test.true))

pub word-requires-clause-name : goal.word-requires-clause-name
word-requires-clause-name g c = inode_named c.args.shape.now _ _ c.args.first.0 c.loop-n.invariant.read.looks.has_shape (omega (arith, c.requires.first)) c.requires.within c.inode_block-block.ensures

pub returns-in_err-word-clause-value : goal.returns-in_err-word-clause-value
returns-in_err-word-clause-value g c = not_ok _ c.from_residual.result c.from_residual.ensures.0

pub returns-in_err-word-clause-caches : goal.returns-in_err-word-clause-caches
returns-in_err-word-clause-caches g c = caches_trans _ _ _ _ None c.loop-n.invariant.caches (caches_at _ _ _ c.args.first.0 c.inode_block-block.ensures c.word.ensures.caches)

pub returns-then-branch-eq0-clause-value : goal.returns-then-branch-eq0-clause-value
returns-then-branch-eq0-clause-value g c = free_word _ _ _ c.args.first.0 c.loop-n.n _ c.requires.first c.loop-n-test.true c.inode_block-block.ensures c.loop-n.invariant.read.looks.looks.words c.in_ok-word.ensures.value c.if-branch-eq0.true c.loop-n.invariant.used

pub returns-then-branch-eq0-clause-caches : goal.returns-then-branch-eq0-clause-caches
returns-then-branch-eq0-clause-caches g c = caches_trans _ _ _ _ None c.loop-n.invariant.caches (caches_at _ _ _ c.args.first.0 c.inode_block-block.ensures c.word.ensures.caches)

pub loop-n-preserved : goal.loop-n-preserved
loop-n-preserved g c =
    let i = c.loop-n.invariant in
    let call = c.in_ok-word.ensures in
    record {
      used = used_word _ _ _ c.args.first.0 c.loop-n.n _ c.requires.first c.loop-n-test.true c.inode_block-block.ensures i.read.looks.looks.words call.value c.if-branch-eq0.false i.used;
      read = read_then g.met.V.Blocks.passes_trans (shaped_trans c.args.shape.now) c.loop-n.invariant.read (read_ok c.word.result _ c.in_ok-word.was (read_word c.word.result (shaped_block c.args.shape.now _ _ _ c.loop-n.invariant.read.looks.has_shape c.word.ensures.looks c.word.ensures.caches) c.word.ensures.passes c.word.ensures.ends c.word.ensures.sound));
      caches = caches_trans _ _ _ _ None i.caches (caches_at _ _ _ c.args.first.0 c.inode_block-block.ensures call.caches);
    }

pub returns-clause-value : goal.returns-clause-value
returns-clause-value g c = used_less _ c.args.first.0 c.loop-n.n 32 (omega (arith, c.loop-n-test.false)) c.loop-n.invariant.used

pub returns-in_err-word-clause-read : goal.returns-in_err-word-clause-read
returns-in_err-word-clause-read g c = read_then g.met.V.Blocks.passes_trans (shaped_trans c.args.shape.now) c.loop-n.invariant.read (read_on c.word.result c.from_residual.result c.in_err-word.was c.from_residual.ensures.1 (read_word c.word.result (shaped_block c.args.shape.now _ _ _ c.loop-n.invariant.read.looks.has_shape c.word.ensures.looks c.word.ensures.caches) c.word.ensures.passes c.word.ensures.ends c.word.ensures.sound))

pub returns-then-branch-eq0-clause-read : goal.returns-then-branch-eq0-clause-read
returns-then-branch-eq0-clause-read g c = read_value _ (read_then g.met.V.Blocks.passes_trans (shaped_trans c.args.shape.now) c.loop-n.invariant.read (read_ok c.word.result _ c.in_ok-word.was (read_word c.word.result (shaped_block c.args.shape.now _ _ _ c.loop-n.invariant.read.looks.has_shape c.word.ensures.looks c.word.ensures.caches) c.word.ensures.passes c.word.ensures.ends c.word.ensures.sound)))

pub returns-clause-read : goal.returns-clause-read
returns-clause-read g c = read_value _ c.loop-n.invariant.read
