use Rattle.rio_base.proofs.MachineRules.{ends_err, never}
use Rattle.cached_pages.proofs.Common.{IsErrOf, arith, ◌∙◌, ap, Stopped, used_last, order_of, FramePool, true_false}
use Rattle.std.proofs.Common.{refl}
use Rattle.cached_pages.proofs.fetching.bring.Goals as goal
use Rattle.cached_pages.proofs.Goes.{ends_ok}
use Rattle.cached_pages.proofs.Common.{sym, subst, is_valid, ◌<◌}
use Rattle.cached_pages.proofs.Rooms.{adds_narrows, adds_after, none_still, keeps_then, lasts_then}
use Rattle.cached_pages.proofs.Stills.{still_trans}
use Rattle.cached_pages.proofs.Touched.{touches_trans}
use Rattle.cached_pages.proofs.Kept.{tables_trans}
use Rattle.cached_pages.proofs.Uses.{stay_trans}
use Rattle.cached_pages.proofs.DirtyMarks.{marks_trans}
use Rattle.cached_pages.proofs.Common.{None}

pub returns-in_err-bind_frame-clause-ends : goal.returns-in_err-bind_frame-clause-ends
returns-in_err-bind_frame-clause-ends g c =
    let stop : IsErrOf c.from_residual-in_err-bind_frame.result Stopped = grind (arith, c.from_residual-in_err-bind_frame.ensures) in
    ends_err _ _ _ _ _ refl stop c.in_ok-fill_frame.ensures.ends.steps c.in_err-bind_frame.ensures.ends

pub returns-clause-ends : goal.returns-clause-ends
returns-clause-ends g c = ends_ok _ _ _ _ _ _ (never _ Stopped) (λ q. true_false (sym q)) (never _ Stopped) c.in_ok-fill_frame.ensures.ends c.in_ok-bind_frame.ensures.ends

pub returns-clause-order : goal.returns-clause-order
returns-clause-order g c = c.in_ok-bind_frame.ensures.order ∙ ap (λ (p : FramePool). used_last c.args.k (order_of p)) c.fill_frame.ensures.pool

pub returns-in_err-fill_frame-clause-adds : goal.returns-in_err-fill_frame-clause-adds
returns-in_err-fill_frame-clause-adds g c = adds_narrows _ _ _ _ c.fill_frame.ensures.narrows

pub bind_frame-requires-clause-entry : goal.bind_frame-requires-clause-entry
bind_frame-requires-clause-entry g c = subst (λ f. c.args.k < f) (sym (c.fill_frame.ensures.keeps.header 2 (omega arith))) c.requires.entry

pub bind_frame-requires-clause-invalid : goal.bind_frame-requires-clause-invalid
bind_frame-requires-clause-invalid g c = ap is_valid c.fill_frame.ensures.tag ∙ c.requires.invalid

pub bind_frame-requires-clause-block : goal.bind_frame-requires-clause-block
bind_frame-requires-clause-block g c = subst (λ n. c.args.b.0 < n) (sym c.fill_frame.ensures.lasts.blocks) c.requires.block

pub bind_frame-requires-clause-uncached : goal.bind_frame-requires-clause-uncached
bind_frame-requires-clause-uncached g c = none_still _ _ _ c.fill_frame.ensures.narrows c.requires.uncached

pub returns-in_err-bind_frame-clause-keeps : goal.returns-in_err-bind_frame-clause-keeps
returns-in_err-bind_frame-clause-keeps g c = keeps_then _ _ _ c.fill_frame.ensures.keeps c.bind_frame.ensures.keeps

pub returns-in_err-bind_frame-clause-adds : goal.returns-in_err-bind_frame-clause-adds
returns-in_err-bind_frame-clause-adds g c = adds_after _ _ _ _ _ c.fill_frame.ensures.narrows c.bind_frame.ensures.adds

pub returns-in_err-bind_frame-clause-still : goal.returns-in_err-bind_frame-clause-still
returns-in_err-bind_frame-clause-still g c = still_trans _ _ _ c.fill_frame.ensures.still c.bind_frame.ensures.still

pub returns-in_err-bind_frame-clause-touches : goal.returns-in_err-bind_frame-clause-touches
returns-in_err-bind_frame-clause-touches g c = touches_trans _ _ _ c.fill_frame.ensures.touches c.bind_frame.ensures.touches

pub returns-in_err-bind_frame-clause-tables : goal.returns-in_err-bind_frame-clause-tables
returns-in_err-bind_frame-clause-tables g c = tables_trans _ _ _ c.fill_frame.ensures.tables c.bind_frame.ensures.tables

pub returns-in_err-bind_frame-clause-stay : goal.returns-in_err-bind_frame-clause-stay
returns-in_err-bind_frame-clause-stay g c = stay_trans _ _ _ c.fill_frame.ensures.stay c.bind_frame.ensures.stay

pub returns-in_err-bind_frame-clause-lasts : goal.returns-in_err-bind_frame-clause-lasts
returns-in_err-bind_frame-clause-lasts g c = lasts_then _ _ _ c.fill_frame.ensures.lasts c.bind_frame.ensures.lasts

pub returns-clause-keeps : goal.returns-clause-keeps
returns-clause-keeps g c = keeps_then _ _ _ c.fill_frame.ensures.keeps c.bind_frame.ensures.keeps

pub returns-clause-adds : goal.returns-clause-adds
returns-clause-adds g c = adds_after _ _ _ _ _ c.fill_frame.ensures.narrows c.bind_frame.ensures.adds

pub returns-clause-still : goal.returns-clause-still
returns-clause-still g c = still_trans _ _ _ c.fill_frame.ensures.still c.bind_frame.ensures.still

pub returns-clause-touches : goal.returns-clause-touches
returns-clause-touches g c = touches_trans _ _ _ c.fill_frame.ensures.touches c.bind_frame.ensures.touches

pub returns-clause-tables : goal.returns-clause-tables
returns-clause-tables g c = tables_trans _ _ _ c.fill_frame.ensures.tables c.bind_frame.ensures.tables

pub returns-clause-stay : goal.returns-clause-stay
returns-clause-stay g c = stay_trans _ _ _ c.fill_frame.ensures.stay c.bind_frame.ensures.stay

pub returns-clause-lasts : goal.returns-clause-lasts
returns-clause-lasts g c = lasts_then _ _ _ c.fill_frame.ensures.lasts c.bind_frame.ensures.lasts

pub returns-clause-unfetched : goal.returns-clause-unfetched
returns-clause-unfetched g c q = absurd (never _ _ q)

pub returns-clause-fault : goal.returns-clause-fault
returns-clause-fault g c q = absurd (never _ _ q)

pub returns-in_err-bind_frame-clause-marks : goal.returns-in_err-bind_frame-clause-marks
returns-in_err-bind_frame-clause-marks g c = marks_trans None _ _ _ c.fill_frame.ensures.marks c.bind_frame.ensures.marks

pub returns-clause-marks : goal.returns-clause-marks
returns-clause-marks g c = marks_trans None _ _ _ c.fill_frame.ensures.marks c.bind_frame.ensures.marks

pub returns-in_err-fill_frame-clause-unmade : goal.returns-in_err-fill_frame-clause-unmade
returns-in_err-fill_frame-clause-unmade g c q = none_still _ _ _ c.fill_frame.ensures.narrows c.requires.uncached

pub returns-in_err-bind_frame-clause-unmade : goal.returns-in_err-bind_frame-clause-unmade
returns-in_err-bind_frame-clause-unmade g c q = c.in_err-bind_frame.ensures.unmade refl

pub returns-clause-unmade : goal.returns-clause-unmade
returns-clause-unmade g c q = absurd (true_false (sym q))

pub returns-in_err-fill_frame-clause-still_order : goal.returns-in_err-fill_frame-clause-still_order
returns-in_err-fill_frame-clause-still_order g c q = ap (λ (p : FramePool). order_of p) c.fill_frame.ensures.pool

pub returns-in_err-bind_frame-clause-still_order : goal.returns-in_err-bind_frame-clause-still_order
returns-in_err-bind_frame-clause-still_order g c q = c.in_err-bind_frame.ensures.still_order refl ∙ ap (λ (p : FramePool). order_of p) c.fill_frame.ensures.pool

pub returns-clause-still_order : goal.returns-clause-still_order
returns-clause-still_order g c q = absurd (true_false (sym q))
