use Rattle.cached_pages.proofs.Common.{◌∙◌, ap, arith, subst, sym, is_valid, tag_at}
use Rattle.std.proofs.Common.{◌≡◌, ◌<◌, true}
use Rattle.cached_pages.proofs.Roomy.{few_evicted}
use Rattle.cached_pages.proofs.fetching.make_room.Goals as goal
use Rattle.cached_pages.proofs.FailedUses.{next_freed, next_same}
use Rattle.cached_pages.proofs.Uses.{order_freed}
use Rattle.cached_pages.proofs.Common.{refl}
use Rattle.cached_pages.proofs.DirtyMarks.{marks_refl}
use Rattle.cached_pages.proofs.FailedUses.{next_refl}
use Rattle.cached_pages.proofs.Common.{None}
use Rattle.cached_pages.proofs.Common.{Stopped}
use Rattle.rio_base.specs.declared.failures.VolFail.TheVariants.{Fault}
use Rattle.rio_base.proofs.MachineRules.{ends_none, ends_told, lasts_refl, never}
use Rattle.rio_model.proofs.CoverStands.{narrows_refl}
use Rattle.rio_model.proofs.CoverSteps.{keeps_refl}
use Rattle.cached_pages.proofs.Goes.{ends_value, told_err}
use Rattle.cached_pages.proofs.Kept.{tables_refl}
use Rattle.cached_pages.proofs.Stills.{few_still, still_refl}
use Rattle.cached_pages.proofs.Touched.{touches_refl}
use Rattle.cached_pages.proofs.Uses.{leaves_frame, leaves_refl, order_refl}

pub returns-in_err-evict_frame-clause-writes : goal.returns-in_err-evict_frame-clause-writes
returns-in_err-evict_frame-clause-writes g c =
    let words = (g.M.Machine.contents c.args.m.now).words in
    let valid : is_valid (tag_at words c.victim-k.result) ≡ true = ap is_valid (sym c.tag_of.ensures) ∙ sym c.is_valid.ensures ∙ grind (arith, c.if-not-is_valid.false) in
    few_evicted c.args.b.0 _ c.victim-k.result _ _ _ c.requires.sound c.requires.uncached c.requires.block c.victim-k.ensures (record { within = subst (λ f. c.victim-k.result < f) c.requires.sound.frames c.victim-k.ensures.within; valid = valid }) c.evict_frame.ensures.one_write c.evict_frame.ensures.clean_entry

pub returns-clause-writes : goal.returns-clause-writes
returns-clause-writes g c =
    let words = (g.M.Machine.contents c.args.m.now).words in
    let valid : is_valid (tag_at words c.victim-k.result) ≡ true = ap is_valid (sym c.tag_of.ensures) ∙ sym c.is_valid.ensures ∙ grind (arith, c.if-not-is_valid.false) in
    few_evicted c.args.b.0 _ c.victim-k.result _ _ _ c.requires.sound c.requires.uncached c.requires.block c.victim-k.ensures (record { within = subst (λ f. c.victim-k.result < f) c.requires.sound.frames c.victim-k.ensures.within; valid = valid }) c.evict_frame.ensures.one_write c.evict_frame.ensures.clean_entry

pub returns-in_err-evict_frame-clause-freed : goal.returns-in_err-evict_frame-clause-freed
returns-in_err-evict_frame-clause-freed g c = next_same c.args.t.now c.evict_frame.new.t (c.in_err-evict_frame.ensures.order refl)

pub returns-clause-freed : goal.returns-clause-freed
returns-clause-freed g c = next_freed c.victim-k.result c.args.t.now c.evict_frame.new.t c.victim-k.ensures.first c.in_ok-evict_frame.ensures.freed

pub returns-clause-order : goal.returns-clause-order
returns-clause-order g c = order_freed c.victim-k.result c.args.t.now c.evict_frame.new.t c.in_ok-evict_frame.ensures.freed

pub returns-then-not-is_valid-clause-marks : goal.returns-then-not-is_valid-clause-marks
returns-then-not-is_valid-clause-marks g c = marks_refl None _

pub returns-then-not-is_valid-clause-freed : goal.returns-then-not-is_valid-clause-freed
returns-then-not-is_valid-clause-freed g c = next_refl _

pub tag_of-requires-clause-entry : goal.tag_of-requires-clause-entry
tag_of-requires-clause-entry g c = subst (λ f. c.victim-k.result < f) c.requires.sound.frames c.victim-k.ensures.within

pub evict_frame-requires-clause-valid : goal.evict_frame-requires-clause-valid
evict_frame-requires-clause-valid g c = record { within = subst (λ f. c.victim-k.result < f) c.requires.sound.frames c.victim-k.ensures.within; valid = ap is_valid (sym c.tag_of.ensures) ∙ sym c.is_valid.ensures ∙ grind (arith, c.if-not-is_valid.false) }

pub returns-then-not-is_valid-clause-room : goal.returns-then-not-is_valid-clause-room
returns-then-not-is_valid-clause-room g c = (subst (λ f. c.victim-k.result < f) c.requires.sound.frames c.victim-k.ensures.within, ap is_valid (sym c.tag_of.ensures) ∙ sym c.is_valid.ensures ∙ grind (arith, c.if-not-is_valid.true))

pub returns-clause-room : goal.returns-clause-room
returns-clause-room g c = (subst (λ f. c.victim-k.result < f) (sym (c.evict_frame.ensures.keeps.header 2 (omega arith))) (subst (λ f. c.victim-k.result < f) c.requires.sound.frames c.victim-k.ensures.within), ap is_valid c.in_ok-evict_frame.ensures.gone)

pub returns-in_err-evict_frame-clause-leaves : goal.returns-in_err-evict_frame-clause-leaves
returns-in_err-evict_frame-clause-leaves g c = leaves_frame c.victim-k.result c.args.t.now (g.M.Machine.contents c.args.m.now).words (g.M.Machine.contents c.evict_frame.new.m).words c.victim-k.ensures.first c.evict_frame.ensures.leaves

pub returns-clause-leaves : goal.returns-clause-leaves
returns-clause-leaves g c = leaves_frame c.victim-k.result c.args.t.now (g.M.Machine.contents c.args.m.now).words (g.M.Machine.contents c.evict_frame.new.m).words c.victim-k.ensures.first c.evict_frame.ensures.leaves

pub returns-clause-fault : goal.returns-clause-fault
returns-clause-fault g c = λ q. absurd (never _ _ q)

pub returns-clause-ends : goal.returns-clause-ends
returns-clause-ends g c = ends_value tt c.victim-k.result Stopped (g.M.Machine.run c.args.m.now) (g.M.Machine.run c.evict_frame.new.m) c.in_ok-evict_frame.ensures.ends

pub returns-in_err-evict_frame-clause-ends : goal.returns-in_err-evict_frame-clause-ends
returns-in_err-evict_frame-clause-ends g c = ends_told (g.M.Machine.run c.args.m.now) (g.M.Machine.run c.evict_frame.new.m) _ Stopped c.from_residual.result (grind (arith, c.from_residual.ensures)) c.in_err-evict_frame.ensures.ends

pub returns-in_err-evict_frame-clause-fault : goal.returns-in_err-evict_frame-clause-fault
returns-in_err-evict_frame-clause-fault g c q = c.in_err-evict_frame.ensures.fault (told_err _ Fault c.from_residual.result (grind (arith, c.from_residual.ensures)) q)

pub returns-then-not-is_valid-clause-ends : goal.returns-then-not-is_valid-clause-ends
returns-then-not-is_valid-clause-ends g c = ends_none (g.M.Machine.run c.args.m.now) _ (never c.victim-k.result Stopped)

pub returns-then-not-is_valid-clause-fault : goal.returns-then-not-is_valid-clause-fault
returns-then-not-is_valid-clause-fault g c = λ q. absurd (never _ _ q)

pub returns-then-not-is_valid-clause-keeps : goal.returns-then-not-is_valid-clause-keeps
returns-then-not-is_valid-clause-keeps g c = keeps_refl (g.M.Machine.contents c.args.m.now)

pub returns-then-not-is_valid-clause-lasts : goal.returns-then-not-is_valid-clause-lasts
returns-then-not-is_valid-clause-lasts g c = lasts_refl (g.M.Machine.contents c.args.m.now)

pub returns-then-not-is_valid-clause-leaves : goal.returns-then-not-is_valid-clause-leaves
returns-then-not-is_valid-clause-leaves g c = leaves_refl c.args.t.now (g.M.Machine.contents c.args.m.now).words

pub returns-then-not-is_valid-clause-narrows : goal.returns-then-not-is_valid-clause-narrows
returns-then-not-is_valid-clause-narrows g c = narrows_refl (g.M.Machine.contents c.args.m.now).words

pub returns-then-not-is_valid-clause-order : goal.returns-then-not-is_valid-clause-order
returns-then-not-is_valid-clause-order g c = order_refl c.victim-k.result c.args.t.now

pub returns-then-not-is_valid-clause-tables : goal.returns-then-not-is_valid-clause-tables
returns-then-not-is_valid-clause-tables g c = tables_refl c.args.t.now

pub returns-then-not-is_valid-clause-touches : goal.returns-then-not-is_valid-clause-touches
returns-then-not-is_valid-clause-touches g c = touches_refl (g.M.Machine.contents c.args.m.now).words

pub returns-then-not-is_valid-clause-writes : goal.returns-then-not-is_valid-clause-writes
returns-then-not-is_valid-clause-writes g c = few_still c.args.b.0 c.args.t.now (g.M.Machine.contents c.args.m.now) (g.M.Machine.contents c.args.m.now) (still_refl (g.M.Machine.contents c.args.m.now))
