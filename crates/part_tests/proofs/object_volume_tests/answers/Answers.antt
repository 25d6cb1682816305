use Rattle.std.proofs.Common.{ap, arith, inr, subst, sym, ◌∙◌}
use Rattle.test_objects.specs.ListVolumes.{ListSound}
use Rattle.test_objects.specs.declared.list_volume.ListVolume.{ListVolume}
use Rattle.part_tests.proofs.object_volume_tests.answers.Goals as goal

pub rollback-requires-clause-sound : goal.rollback-requires-clause-sound
rollback-requires-clause-sound c = subst ListSound (sym c.word.ensures.same) c.edit.ensures.call.step.sound

pub flush-requires-clause-sound : goal.flush-requires-clause-sound
flush-requires-clause-sound c = subst ListSound (sym c.word-2.ensures.same) c.rollback.ensures.call.step.sound

pub page-requires-clause-sound : goal.page-requires-clause-sound
page-requires-clause-sound c = subst ListSound (sym c.word-3.ensures.same) c.fresh.ensures.call.step.sound

pub forget-requires-clause-sound : goal.forget-requires-clause-sound
forget-requires-clause-sound c = subst ListSound (sym c.word-3.ensures.same) c.fresh.ensures.call.step.sound

pub begin-requires-clause-idle : goal.begin-requires-clause-idle
begin-requires-clause-idle c = ap (λ (v : ListVolume). v.updating) c.store.ensures.call.rest ∙ c.requires.idle

pub flush-requires-clause-idle : goal.flush-requires-clause-idle
flush-requires-clause-idle c = ap (λ (v : ListVolume). v.updating) c.word-2.ensures.same ∙ c.in_ok-rollback.ensures.call.idle

pub fresh-requires-clause-idle : goal.fresh-requires-clause-idle
fresh-requires-clause-idle c = ap (λ (v : ListVolume). v.updating) c.flush.ensures.rest ∙ (ap (λ (v : ListVolume). v.updating) c.word-2.ensures.same ∙ c.in_ok-rollback.ensures.call.idle)

pub forget-requires-clause-idle : goal.forget-requires-clause-idle
forget-requires-clause-idle c = ap (λ (v : ListVolume). v.updating) c.word-3.ensures.same ∙ (ap (λ (v : ListVolume). v.updating) c.fresh.ensures.call.rest ∙ (ap (λ (v : ListVolume). v.updating) c.flush.ensures.rest ∙ (ap (λ (v : ListVolume). v.updating) c.word-2.ensures.same ∙ c.in_ok-rollback.ensures.call.idle)))

pub touch-requires-clause-room : goal.touch-requires-clause-room
touch-requires-clause-room c = inr (let none = c.in_ok-begin.ensures.call.touches in omega (arith, none))

pub rollback-requires-clause-in_update : goal.rollback-requires-clause-in_update
rollback-requires-clause-in_update c = ap (λ (v : ListVolume). v.updating) c.word.ensures.same ∙ (ap (λ (v : ListVolume). v.updating) c.edit.ensures.call.rest ∙ (ap (λ (v : ListVolume). v.updating) c.touch.ensures.call.rest ∙ c.in_ok-begin.ensures.call.updating))
