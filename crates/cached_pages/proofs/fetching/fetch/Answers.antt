use Rattle.cached_pages.proofs.Common.{rules, ap, sym, ◌∙◌, true_false}
use Rattle.std.proofs.Common.{is_some, refl}
use Rattle.cached_pages.proofs.Rooms.{none_bound, some_bound}
use Rattle.cached_pages.proofs.fetching.fetch.Goals as goal
use Rattle.cached_pages.proofs.Uses.{used_hit}
use Rattle.rio_model.proofs.CoverStands.{narrows_refl}
use Rattle.rio_model.proofs.CoverSteps.{keeps_refl}
use Rattle.rio_base.proofs.MachineRules.{lasts_refl, never}
use Rattle.cached_pages.proofs.Rooms.{adds_narrows}
use Rattle.cached_pages.proofs.Stills.{still_refl, few_still}
use Rattle.cached_pages.proofs.Touched.{touches_refl}
use Rattle.cached_pages.proofs.Uses.{leaves_refl}
use Rattle.cached_pages.proofs.DirtyMarks.{marks_refl}
use Rattle.cached_pages.proofs.Common.{None}

pub returns-in-Some-clause-found : goal.returns-in-Some-clause-found
returns-in-Some-clause-found g c = some_bound c.args.b.0 c.in-Some.k _ _ _ c.requires.sound c.in-Some.ensures.some.0 c.in-Some.ensures.some.1

pub returns-in-Some-clause-used : goal.returns-in-Some-clause-used
returns-in-Some-clause-used g c = used_hit c.args.b.0 c.in-Some.k _ _ c.args.t.now _ c.requires.sound c.in-Some.ensures.some (search rules)

pub returns-in-Some-clause-keeps : goal.returns-in-Some-clause-keeps
returns-in-Some-clause-keeps g c = keeps_refl _

pub returns-in-Some-clause-adds : goal.returns-in-Some-clause-adds
returns-in-Some-clause-adds g c = adds_narrows _ _ _ _ (narrows_refl _)

pub returns-in-Some-clause-touches : goal.returns-in-Some-clause-touches
returns-in-Some-clause-touches g c = touches_refl _

pub returns-in-Some-clause-leaves : goal.returns-in-Some-clause-leaves
returns-in-Some-clause-leaves g c = leaves_refl _ _

pub returns-in-Some-clause-writes : goal.returns-in-Some-clause-writes
returns-in-Some-clause-writes g c = few_still _ _ _ _ (still_refl _)

pub returns-in-Some-clause-unfetched : goal.returns-in-Some-clause-unfetched
returns-in-Some-clause-unfetched g c q = absurd (never _ _ q)

pub returns-in-Some-clause-sure : goal.returns-in-Some-clause-sure
returns-in-Some-clause-sure g c q = absurd (never _ _ q)

pub returns-in-Some-clause-fault : goal.returns-in-Some-clause-fault
returns-in-Some-clause-fault g c q = absurd (never _ _ q)

pub returns-in-Some-clause-lasts : goal.returns-in-Some-clause-lasts
returns-in-Some-clause-lasts g c = lasts_refl _

pub returns-in-Some-clause-marks : goal.returns-in-Some-clause-marks
returns-in-Some-clause-marks g c = marks_refl None _

pub returns-in-Some-clause-failed : goal.returns-in-Some-clause-failed
returns-in-Some-clause-failed g c q = absurd (true_false (sym q))

pub fetch_absent-requires-clause-uncached : goal.fetch_absent-requires-clause-uncached
fetch_absent-requires-clause-uncached g c = none_bound _ _ _ _ c.requires.sound (c.in_default.ensures.none refl)

pub returns-clause-hit : goal.returns-clause-hit
returns-clause-hit g c cached = absurd (true_false (sym cached ∙ ap is_some (none_bound _ _ _ _ c.requires.sound (c.in_default.ensures.none refl))))

pub returns-clause-sure : goal.returns-clause-sure
returns-clause-sure g c fault = none_bound _ _ _ _ c.requires.sound (c.in_default.ensures.none refl)
