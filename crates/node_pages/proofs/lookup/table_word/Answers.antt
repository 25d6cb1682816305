use Rattle.rio_base.proofs.Frames.{read_word}
use Rattle.node_pages.proofs.Common.{CanName, None, ap, subst, sym, ◌∙◌}
use Rattle.node_pages.proofs.PlannedSize.{if_ok_map}
use Rattle.node_pages.proofs.LookingUpRules.{looked_table, can_table}
use Rattle.node_pages.proofs.lookup.table_word.Goals as goal

pub returns-clause-value : goal.returns-clause-value
returns-clause-value g c = if_ok_map _ _ c.word.result (λ x h. h ∙ ap (λ b. (g.V.Blocks.seen c.args.v.now).words b c.args.w) c.requires.table) c.word.ensures.value

pub word-requires-clause-name : goal.word-requires-clause-name
word-requires-clause-name g c = subst (λ b. CanName (g.V.Blocks.seen c.args.v.now) b None) (sym c.requires.table) (can_table c.args.shape.now _ c.args.i.0 0 c.requires.can.meets c.requires.owns)

pub returns-clause-read : goal.returns-clause-read
returns-clause-read g c = read_word c.word.result (looked_table c.args.shape.now _ _ c.args.i.0 0 c.args.table.0 c.requires.can.meets c.requires.owns c.requires.table c.word.ensures.looks c.word.ensures.caches) c.word.ensures.passes c.word.ensures.ends c.word.ensures.sound
