use Rattle.cached_pages.proofs.Common.{arith, sym, Stopped, true_false}
use Rattle.std.proofs.Common.{refl}
use Rattle.rio_model.proofs.CoverStands.{narrows_trans}
use Rattle.rio_base.specs.declared.failures.VolFail.TheVariants.{Fault}
use Rattle.cached_pages.proofs.Rooms.{none_still}
use Rattle.cached_pages.proofs.Stills.{few_then}
use Rattle.cached_pages.proofs.fetching.fetch_absent.Goals as goal
use Rattle.cached_pages.proofs.Goes.{ends_ok, rose_after, told_err}
use Rattle.cached_pages.proofs.Uses.{leaves_then, used_bound}
use Rattle.cached_pages.proofs.Common.{subst, ◌<◌}
use Rattle.cached_pages.proofs.Rooms.{adds_narrows, adds_after, keeps_then, lasts_then}
use Rattle.cached_pages.proofs.Touched.{touches_trans}
use Rattle.cached_pages.proofs.Kept.{tables_trans}
use Rattle.cached_pages.proofs.DirtyMarks.{marks_trans}
use Rattle.cached_pages.proofs.FailedUses.{failed_missed, next_then}
use Rattle.cached_pages.proofs.Common.{None}
use Rattle.rio_base.proofs.MachineRules.{ends_then, ends_told, never}

pub returns-clause-marks : goal.returns-clause-marks
returns-clause-marks g c = marks_trans None _ _ _ c.make_room.ensures.marks c.bring.ensures.marks

pub bring-requires-clause-uncached : goal.bring-requires-clause-uncached
bring-requires-clause-uncached g c = none_still _ _ _ c.make_room.ensures.narrows c.requires.uncached

pub returns-in_err-bring-clause-writes : goal.returns-in_err-bring-clause-writes
returns-in_err-bring-clause-writes g c = few_then _ _ _ _ _ c.make_room.ensures.writes c.bring.ensures.still

pub returns-clause-writes : goal.returns-clause-writes
returns-clause-writes g c = few_then _ _ _ _ _ c.make_room.ensures.writes c.bring.ensures.still

pub returns-in_err-bring-clause-ends : goal.returns-in_err-bring-clause-ends
returns-in_err-bring-clause-ends g c =
    ends_then (g.M.Machine.run c.args.m.now) (g.M.Machine.run c.make_room.new.m) (g.M.Machine.run c.bring.new.m) _ _ (never _ Stopped) c.in_ok-k.ensures.ends (ends_told (g.M.Machine.run c.make_room.new.m) (g.M.Machine.run c.bring.new.m) _ Stopped c.from_residual-in_err-bring.result (grind (arith, c.from_residual-in_err-bring.ensures)) c.in_err-bring.ensures.ends)

pub returns-clause-ends : goal.returns-clause-ends
returns-clause-ends g c = ends_ok _ _ _ _ _ _ (never _ Stopped) (never _ Stopped) (never _ Stopped) c.in_ok-k.ensures.ends c.in_ok-bring.ensures.ends

pub returns-in_err-bring-clause-unfetched : goal.returns-in_err-bring-clause-unfetched
returns-in_err-bring-clause-unfetched g c fault =
    narrows_trans _ _ _ c.make_room.ensures.narrows (c.in_err-bring.ensures.unfetched (told_err _ Fault c.from_residual-in_err-bring.result (grind (arith, c.from_residual-in_err-bring.ensures)) fault))

pub returns-clause-used : goal.returns-clause-used
returns-clause-used g c = used_bound c.args.b.0 c.in_ok-k.k _ c.args.t.now c.make_room.new.t c.bring.new.t c.in_ok-k.ensures.order c.in_ok-bring.ensures.order c.in_ok-bring.ensures.found

pub returns-in_err-bring-clause-leaves : goal.returns-in_err-bring-clause-leaves
returns-in_err-bring-clause-leaves g c = leaves_then _ _ _ _ c.make_room.ensures.leaves c.bring.ensures.stay

pub returns-clause-leaves : goal.returns-clause-leaves
returns-clause-leaves g c = leaves_then _ _ _ _ c.make_room.ensures.leaves c.bring.ensures.stay

pub returns-clause-unfetched : goal.returns-clause-unfetched
returns-clause-unfetched g c q = absurd (never _ _ q)

pub returns-clause-fault : goal.returns-clause-fault
returns-clause-fault g c q = absurd (never _ _ q)

pub returns-in_err-k-clause-adds : goal.returns-in_err-k-clause-adds
returns-in_err-k-clause-adds g c = adds_narrows _ _ _ _ c.make_room.ensures.narrows

pub bring-requires-clause-block : goal.bring-requires-clause-block
bring-requires-clause-block g c = subst (λ n. c.args.b.0 < n) (sym c.make_room.ensures.lasts.blocks) c.requires.block

pub returns-in_err-bring-clause-keeps : goal.returns-in_err-bring-clause-keeps
returns-in_err-bring-clause-keeps g c = keeps_then _ _ _ c.make_room.ensures.keeps c.bring.ensures.keeps

pub returns-in_err-bring-clause-adds : goal.returns-in_err-bring-clause-adds
returns-in_err-bring-clause-adds g c = adds_after _ _ _ _ _ c.make_room.ensures.narrows c.bring.ensures.adds

pub returns-in_err-bring-clause-touches : goal.returns-in_err-bring-clause-touches
returns-in_err-bring-clause-touches g c = touches_trans _ _ _ c.make_room.ensures.touches c.bring.ensures.touches

pub returns-in_err-bring-clause-tables : goal.returns-in_err-bring-clause-tables
returns-in_err-bring-clause-tables g c = tables_trans _ _ _ c.make_room.ensures.tables c.bring.ensures.tables

pub returns-in_err-bring-clause-lasts : goal.returns-in_err-bring-clause-lasts
returns-in_err-bring-clause-lasts g c = lasts_then _ _ _ c.make_room.ensures.lasts c.bring.ensures.lasts

pub returns-clause-keeps : goal.returns-clause-keeps
returns-clause-keeps g c = keeps_then _ _ _ c.make_room.ensures.keeps c.bring.ensures.keeps

pub returns-clause-adds : goal.returns-clause-adds
returns-clause-adds g c = adds_after _ _ _ _ _ c.make_room.ensures.narrows c.bring.ensures.adds

pub returns-clause-touches : goal.returns-clause-touches
returns-clause-touches g c = touches_trans _ _ _ c.make_room.ensures.touches c.bring.ensures.touches

pub returns-clause-tables : goal.returns-clause-tables
returns-clause-tables g c = tables_trans _ _ _ c.make_room.ensures.tables c.bring.ensures.tables

pub returns-clause-lasts : goal.returns-clause-lasts
returns-clause-lasts g c = lasts_then _ _ _ c.make_room.ensures.lasts c.bring.ensures.lasts

pub returns-in_err-bring-clause-marks : goal.returns-in_err-bring-clause-marks
returns-in_err-bring-clause-marks g c = marks_trans None _ _ _ c.make_room.ensures.marks c.bring.ensures.marks

pub returns-in_err-k-clause-failed : goal.returns-in_err-k-clause-failed
returns-in_err-k-clause-failed g c q = failed_missed c.args.b.0 _ c.args.t.now c.make_room.new.t (none_still _ _ _ c.make_room.ensures.narrows c.requires.uncached) c.make_room.ensures.freed

pub returns-in_err-bring-clause-failed : goal.returns-in_err-bring-clause-failed
returns-in_err-bring-clause-failed g c q = failed_missed c.args.b.0 _ c.args.t.now c.bring.new.t (c.in_err-bring.ensures.unmade refl) (next_then c.args.t.now c.make_room.new.t c.bring.new.t c.make_room.ensures.freed (c.in_err-bring.ensures.still_order refl))

pub returns-clause-failed : goal.returns-clause-failed
returns-clause-failed g c q = absurd (true_false (sym q))

pub returns-in_err-bring-clause-fault : goal.returns-in_err-bring-clause-fault
returns-in_err-bring-clause-fault g c q =
    rose_after _ _ _ c.make_room.ensures.lasts.faults.later (c.in_err-bring.ensures.fault (told_err _ Fault c.from_residual-in_err-bring.result (grind (arith, c.from_residual-in_err-bring.ensures)) q))
