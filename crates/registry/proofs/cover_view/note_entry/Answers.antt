use Rattle.std.proofs.Common.{◌+◌, ◌∙◌, ap, arith, inl, inr, sym}
use Rattle.std.proofs.lemmas.List.{length-set}
use Rattle.rio_model.specs.Registry.{is_valid, tag_block}
use Rattle.registry.proofs.Views.{noted_here, noted_nowhere}
use Rattle.registry.proofs.cover_view.note_entry.Goals as goal

pub bounds-entries-block : goal.bounds-entries-block
bounds-entries-block g c = c.if-block-entries.false

pub returns-clause-len : goal.returns-clause-len
returns-clause-len g c = length-set c.args.entries.now c.block-block.result.0 (c.args.k + 1)

pub returns-then-not-is_valid-clause-noted : goal.returns-then-not-is_valid-clause-noted
returns-then-not-is_valid-clause-noted g c = λ b less. noted_nowhere (g.M.Machine.contents c.args.m.now).words b c.args.k _ (inl (sym (c.if-not-is_valid.ensures ∙ ap is_valid c.load_tag-tag.ensures)))

pub returns-then-block-entries-clause-noted : goal.returns-then-block-entries-clause-noted
returns-then-block-entries-clause-noted g c = λ b less. noted_nowhere (g.M.Machine.contents c.args.m.now).words b c.args.k _ (inr (λ same. absurd (omega (arith, c.if-block-entries.true, (c.block-block.ensures ∙ ap tag_block c.load_tag-tag.ensures), same, less))))

pub returns-clause-noted : goal.returns-clause-noted
returns-clause-noted g c = λ b less. noted_here (g.M.Machine.contents c.args.m.now).words c.args.entries.now c.args.k c.block-block.result.0 b (c.block-block.ensures ∙ ap tag_block c.load_tag-tag.ensures) (sym (c.if-not-is_valid.ensures ∙ ap is_valid c.load_tag-tag.ensures)) c.if-block-entries.false
