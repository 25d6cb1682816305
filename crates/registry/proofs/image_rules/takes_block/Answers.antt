use Rattle.std.proofs.Common.{◌∙◌, ap, arith, inl, inr, sym}
use Rattle.rio_base.specs.Rules.{true_false}
use Rattle.rio_model.specs.Registry.{is_valid, tag_block}
use Rattle.registry.proofs.ImageRules.{marked_taken, marks_skip, marks_take, takes_as, takes_none, unmarked_free}
use Rattle.registry.proofs.image_rules.takes_block.Goals as goal

pub is_free_before-requires-clause-entries : goal.is_free_before-requires-clause-entries
is_free_before-requires-clause-entries g c = omega (arith, c.requires.entry)

pub is_marked-requires : goal.is_marked-requires
is_marked-requires g c = record { within = omega (arith, c.requires.marks.room, c.if-block-ge-MOST_BLOCKS.false) }

pub mark-requires : goal.mark-requires
mark-requires g c = record { within = omega (arith, c.requires.marks.room, c.if-block-ge-MOST_BLOCKS.false) }

pub returns-then-not-is_valid-clause-takes : goal.returns-then-not-is_valid-clause-takes
returns-then-not-is_valid-clause-takes g c = takes_none (g.M.Machine.contents c.args.m.now).words c.args.k _ (sym (c.if-not-is_valid.ensures ∙ ap is_valid c.load_tag-tag.ensures))

pub returns-then-not-is_valid-clause-marks : goal.returns-then-not-is_valid-clause-marks
returns-then-not-is_valid-clause-marks g c = λ e. marks_skip (g.M.Machine.contents c.args.m.now).words c.args.k _ c.args.marks.now c.requires.entry c.requires.marks (λ b less. inl (sym (c.if-not-is_valid.ensures ∙ ap is_valid c.load_tag-tag.ensures)))

pub returns-then-block-ge-MOST_BLOCKS-clause-takes : goal.returns-then-block-ge-MOST_BLOCKS-clause-takes
returns-then-block-ge-MOST_BLOCKS-clause-takes g c = takes_as (g.M.Machine.contents c.args.m.now).words c.args.k _ c.is_free_before.result c.requires.entry (sym (c.if-not-is_valid.ensures ∙ ap is_valid c.load_tag-tag.ensures)) (c.block-block.ensures ∙ ap tag_block c.load_tag-tag.ensures) c.is_free_before.ensures

pub returns-then-block-ge-MOST_BLOCKS-clause-marks : goal.returns-then-block-ge-MOST_BLOCKS-clause-marks
returns-then-block-ge-MOST_BLOCKS-clause-marks g c = λ e. marks_skip (g.M.Machine.contents c.args.m.now).words c.args.k _ c.args.marks.now c.requires.entry c.requires.marks (λ b less. inr (λ same. absurd (omega (arith, c.if-block-ge-MOST_BLOCKS.true, (c.block-block.ensures ∙ ap tag_block c.load_tag-tag.ensures), same, less))))

pub returns-then-is_marked-clause-takes : goal.returns-then-is_marked-clause-takes
returns-then-is_marked-clause-takes g c = takes_as (g.M.Machine.contents c.args.m.now).words c.args.k _ _ c.requires.entry (sym (c.if-not-is_valid.ensures ∙ ap is_valid c.load_tag-tag.ensures)) (c.block-block.ensures ∙ ap tag_block c.load_tag-tag.ensures) (marked_taken (g.M.Machine.contents c.args.m.now).words c.args.k _ _ c.args.marks.now c.requires.marks c.if-block-ge-MOST_BLOCKS.false c.if-is_marked.ensures)

pub returns-then-is_marked-clause-marks : goal.returns-then-is_marked-clause-marks
returns-then-is_marked-clause-marks g c = λ e. absurd (true_false (sym e))

pub returns-clause-takes : goal.returns-clause-takes
returns-clause-takes g c = takes_as (g.M.Machine.contents c.args.m.now).words c.args.k _ _ c.requires.entry (sym (c.if-not-is_valid.ensures ∙ ap is_valid c.load_tag-tag.ensures)) (c.block-block.ensures ∙ ap tag_block c.load_tag-tag.ensures) (unmarked_free (g.M.Machine.contents c.args.m.now).words c.args.k _ _ c.args.marks.now c.requires.marks c.if-block-ge-MOST_BLOCKS.false c.if-is_marked.ensures)

pub returns-clause-marks : goal.returns-clause-marks
returns-clause-marks g c = λ e. marks_take (g.M.Machine.contents c.args.m.now).words c.args.k _ _ c.args.marks.now c.mark.new.marks c.requires.entry c.requires.marks c.mark.ensures.len (sym (c.if-not-is_valid.ensures ∙ ap is_valid c.load_tag-tag.ensures)) (c.block-block.ensures ∙ ap tag_block c.load_tag-tag.ensures) c.mark.ensures.marked
