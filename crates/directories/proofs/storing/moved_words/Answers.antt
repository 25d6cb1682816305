use Rattle.rio_base.proofs.Frames.{read_then, read_ok, read_on}
use Rattle.std.proofs.lemmas.Result.{IfOk-weaker}
use Rattle.node_pages.proofs.EndsOn.{if_err}
use Rattle.directories.proofs.Common.{ap, slice_index, ◌∙◌, sym, subst, IfOk, BlockWords, IsInode, placed_at, look_trans}
use Rattle.directories.specs.Contents.{GoesInto}
use Rattle.directories.proofs.storing.moved_words.Goals as goal

pub words_for_slot-requires-clause-inode : goal.words_for_slot-requires-clause-inode
words_for_slot-requires-clause-inode g c = subst (λ (f : BlockWords). IsInode f c.args.dir.0 c.args.inode.now) (sym c.in_ok-words.ensures.read.looks.looks.words) c.requires.inode

pub returns-clause-into : goal.returns-clause-into
returns-clause-into g c = subst (λ (f : BlockWords). IfOk c.words_for_slot.result (GoesInto (placed_at f c.args.dir.0) c.args.to)) c.in_ok-words.ensures.read.looks.looks.words c.words_for_slot.ensures.into

pub returns-in_err-words-clause-into : goal.returns-in_err-words-clause-into
returns-in_err-words-clause-into g c = if_err c.from_residual.result _ c.from_residual.ensures.0

pub returns-in_err-words-clause-words : goal.returns-in_err-words-clause-words
returns-in_err-words-clause-words g c = if_err c.from_residual.result _ c.from_residual.ensures.0

pub returns-in_err-words-clause-within : goal.returns-in_err-words-clause-within
returns-in_err-words-clause-within g c = if_err c.from_residual.result _ c.from_residual.ensures.0

pub returns-clause-words : goal.returns-clause-words
returns-clause-words g c = IfOk-weaker c.words_for_slot.result _ _ (λ e same t few. ap (λ ws. slice_index ws t) same ∙ c.in_ok-words.ensures.words t few) c.words_for_slot.ensures.words

pub returns-in_err-words-clause-read : goal.returns-in_err-words-clause-read
returns-in_err-words-clause-read g c = read_on c.read_entry.result c.from_residual.result c.in_err-words.was c.from_residual.ensures.1 c.read_entry.ensures.read

pub returns-clause-read : goal.returns-clause-read
returns-clause-read g c = read_then g.met.V.Blocks.passes_trans (look_trans c.args.shape.now) (read_ok c.read_entry.result _ c.in_ok-words.was c.read_entry.ensures.read) c.words_for_slot.ensures.read

pub read_entry-requires-clause-can : goal.read_entry-requires-clause-can
read_entry-requires-clause-can g c = c.requires.can

pub words_for_slot-requires-clause-can : goal.words_for_slot-requires-clause-can
words_for_slot-requires-clause-can g c = record { keeps = c.read_entry.ensures.read.keeps; meets = c.read_entry.ensures.can }
