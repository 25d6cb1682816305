use Rattle.rio_base.specs.Rules.{firm_refl, goes_refl}
use Rattle.rio_base.proofs.Rules.{looks_refl}
use Rattle.rio_base.proofs.BlockRules.{caches_refl}
use Rattle.node_pages.proofs.EndsOn.{on_ok, vol_still}
use Rattle.file_pages.proofs.Common.{arith, inr}
use Rattle.node_pages.proofs.Updated.{touched_now}
use Rattle.file_pages.proofs.Touched.{touches_most}
use Rattle.file_pages.proofs.updating.touch_bitmap.Goals as goal

pub returns-then-keeps_blocks-clause-ok : goal.returns-then-keeps_blocks-clause-ok
returns-then-keeps_blocks-clause-ok g c = λ marks. absurd (marks (c.keeps_blocks.ensures.keeps c.if-keeps_blocks.true))

pub returns-clause-ok : goal.returns-clause-ok
returns-clause-ok g c = on_ok c.touch.result _ _ (λ done marks. touched_now _ _ _ done) c.touch.ensures.ok

pub returns-clause-touches : goal.returns-clause-touches
returns-clause-touches g c = on_ok c.touch.result _ _ (λ done. omega (arith, touches_most _ _ _ done, c.requires.room)) c.touch.ensures.ok

pub returns-then-keeps_blocks-clause-touches : goal.returns-then-keeps_blocks-clause-touches
returns-then-keeps_blocks-clause-touches g c = omega (arith, c.requires.room)

pub returns-then-keeps_blocks-clause-looks : goal.returns-then-keeps_blocks-clause-looks
returns-then-keeps_blocks-clause-looks g c = looks_refl _

pub returns-then-keeps_blocks-clause-firm : goal.returns-then-keeps_blocks-clause-firm
returns-then-keeps_blocks-clause-firm g c = firm_refl _

pub returns-then-keeps_blocks-clause-caches : goal.returns-then-keeps_blocks-clause-caches
returns-then-keeps_blocks-clause-caches g c = caches_refl _ _ _

pub returns-then-keeps_blocks-clause-goes : goal.returns-then-keeps_blocks-clause-goes
returns-then-keeps_blocks-clause-goes g c = goes_refl _ _

pub returns-then-keeps_blocks-clause-ends : goal.returns-then-keeps_blocks-clause-ends
returns-then-keeps_blocks-clause-ends g c = vol_still _ _

pub touch-requires-clause-room : goal.touch-requires-clause-room
touch-requires-clause-room g c = inr (omega (arith, c.requires.room))
