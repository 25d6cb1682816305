use Rattle.std.proofs.Common.{arith, inr, sym, ◌∙◌}
use Rattle.rio_base.proofs.Bitmap.{first_bitmap}
use Rattle.rio_base.proofs.BlockRules.{shape_dropped, still_unnamed}
use Rattle.volume_tests.proofs.Touched.{has_touched, stays_touched}
use Rattle.volume_tests.proofs.bitmap_tests.change.Goals as goal

pub returns-in_err-touch-clause-count : goal.returns-in_err-touch-clause-count
returns-in_err-touch-clause-count g c = c.touch.ensures.looks.count ∙ c.begin.ensures.looks.count

pub returns-in_err-mark-clause-count : goal.returns-in_err-mark-clause-count
returns-in_err-mark-clause-count g c = c.mark.ensures.shape.count ∙ sym c.requires.shape.count

pub returns-in_err-mark-2-clause-count : goal.returns-in_err-mark-2-clause-count
returns-in_err-mark-2-clause-count g c = c.mark-2.ensures.shape.count ∙ sym c.requires.shape.count

pub returns-in_err-unmark-clause-count : goal.returns-in_err-unmark-clause-count
returns-in_err-unmark-clause-count g c = c.unmark.ensures.shape.count ∙ sym c.requires.shape.count

pub returns-in_err-commit-clause-count : goal.returns-in_err-commit-clause-count
returns-in_err-commit-clause-count g c = c.commit.ensures.looks.count ∙ (c.unmark.ensures.shape.count ∙ sym c.requires.shape.count)

pub returns-clause-count : goal.returns-clause-count
returns-clause-count g c = c.commit.ensures.looks.count ∙ (c.unmark.ensures.shape.count ∙ sym c.requires.shape.count)

pub mark-requires-clause-shape : goal.mark-requires-clause-shape
mark-requires-clause-shape g c = still_unnamed _ _ _ _ (shape_dropped _ _ _ c.requires.shape c.begin.ensures.looks.count c.begin.ensures.drops) c.touch.ensures.looks.count c.touch.ensures.caches

pub touch-requires-clause-room : goal.touch-requires-clause-room
touch-requires-clause-room g c = inr (let none = c.in_ok-begin.ensures.ok.touches in omega (arith, none))

pub mark-requires-clause-touched : goal.mark-requires-clause-touched
mark-requires-clause-touched g c = has_touched (g.V.Volume.kept c.begin.new.self) (g.V.Volume.kept c.touch.new.self) _ _ c.in_ok-touch.ensures.ok.touched (c.bitmap_block.ensures ∙ (first_bitmap _ _ (let low = c.requires.third in omega (arith, low)) ∙ sym (first_bitmap _ _ (let low = c.requires.first in omega (arith, low)))))

pub mark-requires-2-clause-touched : goal.mark-requires-2-clause-touched
mark-requires-2-clause-touched g c = stays_touched (g.V.Volume.kept c.touch.new.self) (g.V.Volume.kept c.mark.new.v) _ c.in_ok-mark.ensures.marks.update (has_touched (g.V.Volume.kept c.begin.new.self) (g.V.Volume.kept c.touch.new.self) _ _ c.in_ok-touch.ensures.ok.touched (c.bitmap_block.ensures ∙ (first_bitmap _ _ (let low = c.requires.third in omega (arith, low)) ∙ sym (first_bitmap _ _ (let low = c.requires.second in omega (arith, low))))))

pub unmark-requires-clause-touched : goal.unmark-requires-clause-touched
unmark-requires-clause-touched g c = stays_touched (g.V.Volume.kept c.mark.new.v) (g.V.Volume.kept c.mark-2.new.v) _ c.in_ok-mark-2.ensures.marks.update (stays_touched (g.V.Volume.kept c.touch.new.self) (g.V.Volume.kept c.mark.new.v) _ c.in_ok-mark.ensures.marks.update (has_touched (g.V.Volume.kept c.begin.new.self) (g.V.Volume.kept c.touch.new.self) _ _ c.in_ok-touch.ensures.ok.touched c.bitmap_block.ensures))
