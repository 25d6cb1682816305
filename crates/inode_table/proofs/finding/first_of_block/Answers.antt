use Rattle.rio_base.proofs.Frames.{read_then, read_ok, read_value, read_on, read_word, shaped_trans, shaped_block}
use Rattle.std.proofs.Common.{None, arith, subst}
use Rattle.std.specs.Prelude.{IfOk}
use Rattle.rio_base.specs.Blocks.{BlockWords}
use Rattle.rio_base.proofs.BlockRules.{caches_trans, still_unnamed}
use Rattle.inode_table.specs.Inodes.{FindsBelow}
use Rattle.inode_table.proofs.Exits.{caches_at, inode_named, inode_there, inode_within, not_ok}
use Rattle.inode_table.proofs.Used.{run_seen}
use Rattle.inode_table.proofs.finding.first_of_block.Goals as goal

pub word-requires-clause-place : goal.word-requires-clause-place
word-requires-clause-place g c = inode_within c.args.shape.now _ _ c.args.first.0 0 c.requires.can.meets (omega (arith, c.requires.first)) c.requires.within c.inode_block-block.ensures (omega arith)

pub word-requires-clause-name : goal.word-requires-clause-name
word-requires-clause-name g c = inode_named c.args.shape.now _ _ c.args.first.0 c.requires.can.meets (omega (arith, c.requires.first)) c.requires.within c.inode_block-block.ensures

pub page-requires-clause-block : goal.page-requires-clause-block
page-requires-clause-block g c = inode_there c.args.shape.now (g.V.Blocks.seen c.args.v.now) _ _ c.args.first.0 c.requires.can.meets (omega (arith, c.requires.first)) c.requires.within c.inode_block-block.ensures c.word.ensures.looks.count

pub returns-in_err-word-clause-value : goal.returns-in_err-word-clause-value
returns-in_err-word-clause-value g c = not_ok _ c.from_residual.result c.from_residual.ensures.0

pub returns-in_err-word-clause-caches : goal.returns-in_err-word-clause-caches
returns-in_err-word-clause-caches g c = caches_at _ _ _ c.args.first.0 c.inode_block-block.ensures c.word.ensures.caches

pub returns-in-Some-clause-caches : goal.returns-in-Some-clause-caches
returns-in-Some-clause-caches g c = caches_at _ _ _ c.args.first.0 c.inode_block-block.ensures c.word.ensures.caches

pub returns-clause-value : goal.returns-clause-value
returns-clause-value g c = subst (λ (f : BlockWords). IfOk c.first_of_words.result (FindsBelow f c.args.first.0 32)) c.word.ensures.looks.words c.first_of_words.ensures.value

pub returns-clause-caches : goal.returns-clause-caches
returns-clause-caches g c = caches_trans _ _ _ _ None (caches_at _ _ _ c.args.first.0 c.inode_block-block.ensures c.word.ensures.caches) c.first_of_words.ensures.caches

pub returns-in-Some-clause-value : goal.returns-in-Some-clause-value
returns-in-Some-clause-value g c = c.first_of_page.ensures (g.V.Blocks.seen c.args.v.now).words c.args.first.0 (omega (arith, c.requires.first)) c.requires.first (run_seen _ _ _ c.args.first.0 _ c.inode_block-block.ensures c.word.ensures.looks.words c.in-Some.ensures.words)

pub returns-in_err-word-clause-read : goal.returns-in_err-word-clause-read
returns-in_err-word-clause-read g c = read_on c.word.result c.from_residual.result c.in_err-word.was c.from_residual.ensures.1 (read_word c.word.result (shaped_block c.args.shape.now _ _ _ c.requires.can.meets c.word.ensures.looks c.word.ensures.caches) c.word.ensures.passes c.word.ensures.ends c.word.ensures.sound)

pub returns-in-Some-clause-read : goal.returns-in-Some-clause-read
returns-in-Some-clause-read g c = read_value _ (read_ok c.word.result _ c.in_ok-word.was (read_word c.word.result (shaped_block c.args.shape.now _ _ _ c.requires.can.meets c.word.ensures.looks c.word.ensures.caches) c.word.ensures.passes c.word.ensures.ends c.word.ensures.sound))

pub returns-clause-read : goal.returns-clause-read
returns-clause-read g c = read_then g.met.V.Blocks.passes_trans (shaped_trans c.args.shape.now) (read_ok c.word.result _ c.in_ok-word.was (read_word c.word.result (shaped_block c.args.shape.now _ _ _ c.requires.can.meets c.word.ensures.looks c.word.ensures.caches) c.word.ensures.passes c.word.ensures.ends c.word.ensures.sound)) c.first_of_words.ensures.read

pub first_of_words-requires-clause-can : goal.first_of_words-requires-clause-can
first_of_words-requires-clause-can g c = record { keeps = c.word.ensures.sound; meets = still_unnamed c.args.shape.now _ _ _ c.requires.can.meets c.word.ensures.looks.count c.word.ensures.caches }
