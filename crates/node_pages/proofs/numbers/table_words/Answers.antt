use Rattle.rio_base.proofs.Frames.{read_none, read_ok, read_word, filled_value, filled_memory, filled_read}
use Rattle.node_pages.proofs.Looked.{filled_len, filled_run}
use Rattle.rio_base.specs.Blocks.{IsRun}
use Rattle.std.proofs.Common.{rules}
use Rattle.node_pages.proofs.Common.{CanName, None, arith, length, subst, sym, ◌∙◌}
use Rattle.node_pages.proofs.EndsOn.{if_err}
use Rattle.node_pages.proofs.LookingUpRules.{can_table, look_refl, looked_table}
use Rattle.node_pages.proofs.numbers.table_words.Goals as goal

pub returns-in_err-read_run-clause-len : goal.returns-in_err-read_run-clause-len
returns-in_err-read_run-clause-len g c = if_err c.from_residual-in_err-read_run.result _ c.from_residual-in_err-read_run.ensures.0

pub returns-in_err-read_run-clause-words : goal.returns-in_err-read_run-clause-words
returns-in_err-read_run-clause-words g c = if_err c.from_residual-in_err-read_run.result _ c.from_residual-in_err-read_run.ensures.0

pub returns-in_err-words-clause-len : goal.returns-in_err-words-clause-len
returns-in_err-words-clause-len g c = if_err c.from_residual.result _ c.from_residual.ensures.0

pub returns-in_err-words-clause-words : goal.returns-in_err-words-clause-words
returns-in_err-words-clause-words g c = if_err c.from_residual.result _ c.from_residual.ensures.0

pub read_run-requires-clause-place : goal.read_run-requires-clause-place
read_run-requires-clause-place g c = record { block = search rules; within = omega (arith, c.requires.within, c.deref_mut.ensures.len, c.in_ok-words.ensures.len) }

pub read_run-requires-clause-name : goal.read_run-requires-clause-name
read_run-requires-clause-name g c = subst (λ b. CanName (g.V.Blocks.seen c.args.v.now) b None) (sym c.requires.table) (can_table c.args.shape.now _ c.args.i.0 0 c.requires.can.meets c.requires.owns)

pub returns-clause-len : goal.returns-clause-len
returns-clause-len g c = filled_len c.read_run.new.into c.in_ok-words.words.items _ _ (c.read_run.ensures.len ∙ c.deref_mut.ensures.len) c.in_ok-words.ensures.len

pub returns-clause-words : goal.returns-clause-words
returns-clause-words g c =
    let run = subst (λ b. IsRun (g.V.Blocks.seen c.args.v.now).words b c.args.from (length c.deref_mut.result.now) c.read_run.new.into) c.requires.table c.in_ok-read_run.ensures.words in
    filled_run _ _ c.args.from _ _ c.args.count c.read_run.new.into c.in_ok-words.words.items run (c.deref_mut.ensures.len ∙ c.in_ok-words.ensures.len) (c.read_run.ensures.len ∙ c.deref_mut.ensures.len)

pub returns-in_err-words-clause-read : goal.returns-in_err-words-clause-read
returns-in_err-words-clause-read g c = filled_memory c.from_residual.result c.from_residual.ensures.1 (read_none (g.met.V.Blocks.passes_refl _) (look_refl c.args.shape.now _ c.requires.can.meets) c.requires.can.keeps)

pub returns-clause-read : goal.returns-clause-read
returns-clause-read g c = filled_value _ (read_ok c.read_run.result _ c.in_ok-read_run.was (read_word c.read_run.result (looked_table c.args.shape.now _ _ c.args.i.0 0 c.args.table.0 c.requires.can.meets c.requires.owns c.requires.table c.read_run.ensures.looks c.read_run.ensures.caches) c.read_run.ensures.passes c.read_run.ensures.ends c.read_run.ensures.sound))

pub returns-in_err-read_run-clause-read : goal.returns-in_err-read_run-clause-read
returns-in_err-read_run-clause-read g c = filled_read c.read_run.result c.from_residual-in_err-read_run.result c.in_err-read_run.was c.from_residual-in_err-read_run.ensures.1 (read_word c.read_run.result (looked_table c.args.shape.now _ _ c.args.i.0 0 c.args.table.0 c.requires.can.meets c.requires.owns c.requires.table c.read_run.ensures.looks c.read_run.ensures.caches) c.read_run.ensures.passes c.read_run.ensures.ends c.read_run.ensures.sound)
