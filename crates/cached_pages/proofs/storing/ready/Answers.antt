use Rattle.rio_base.proofs.MachineRules.{ends_err, never, ends_told}
use Rattle.cached_pages.proofs.Common.{IsErrOf, arith, Stopped, found_is, true_false}
use Rattle.std.proofs.Common.{refl}
use Rattle.cached_pages.proofs.StoreCalls.{found_ready, named_ready, stored_adds, stored_ready, drops_narrows}
use Rattle.cached_pages.proofs.storing.ready.Goals as goal
use Rattle.cached_pages.proofs.Goes.{ends_ok, told_err}
use Rattle.cached_pages.proofs.Stills.{few_then}
use Rattle.cached_pages.proofs.Uses.{leaves_then, order_same, stay_found, used_then}
use Rattle.cached_pages.proofs.Common.{ap, subst, sym, lasts_trans}
use Rattle.rio_model.proofs.CoverSteps.{keeps_trans}
use Rattle.cached_pages.specs.Caches.{SameTables}
use Rattle.cached_pages.proofs.DirtyMarks.{marks_any, marks_of, marks_trans}
use Rattle.cached_pages.proofs.FailedUses.{failed_used}
use Rattle.cached_pages.proofs.Uses.{stay_hit, stay_trans}
use Rattle.cached_pages.proofs.Common.{Some}
use Rattle.rio_base.specs.declared.failures.VolFail.TheVariants.{Fault}

pub returns-clause-stay : goal.returns-clause-stay
returns-clause-stay g c cached = stay_trans _ _ _ (stay_hit (g.M.Machine.contents c.args.m.now) (g.M.Machine.contents c.fetch.new.m) (ap g.M.Machine.contents (c.fetch.ensures.hit cached))) (stay_found _ _ c.make_ready.ensures.widens.found)

pub make_ready-requires-clause-valid : goal.make_ready-requires-clause-valid
make_ready-requires-clause-valid g c = (found_is _ _ _ c.in_ok-k.ensures.found).0

pub returns-in_err-k-clause-caches : goal.returns-in_err-k-clause-caches
returns-in_err-k-clause-caches g c = stored_adds c.args.b.0 c.args.name (g.M.Machine.contents c.args.m.now) (g.M.Machine.contents c.fetch.new.m) c.fetch.ensures.adds

pub returns-in_err-make_ready-clause-caches : goal.returns-in_err-make_ready-clause-caches
returns-in_err-make_ready-clause-caches g c = stored_ready c.args.b.0 c.in_ok-k.k c.args.name (g.M.Machine.contents c.args.m.now) (g.M.Machine.contents c.fetch.new.m) (g.M.Machine.contents c.make_ready.new.m) c.fetch.ensures.adds c.in_ok-k.ensures.found c.make_ready.ensures.widens

pub returns-in_err-make_ready-clause-writes : goal.returns-in_err-make_ready-clause-writes
returns-in_err-make_ready-clause-writes g c = few_then c.args.b.0 _ _ _ _ c.fetch.ensures.writes c.make_ready.ensures.still

pub returns-clause-caches : goal.returns-clause-caches
returns-clause-caches g c = stored_ready c.args.b.0 c.in_ok-k.k c.args.name (g.M.Machine.contents c.args.m.now) (g.M.Machine.contents c.fetch.new.m) (g.M.Machine.contents c.make_ready.new.m) c.fetch.ensures.adds c.in_ok-k.ensures.found c.make_ready.ensures.widens

pub returns-clause-named : goal.returns-clause-named
returns-clause-named g c = named_ready c.args.b.0 c.in_ok-k.k c.args.name (g.M.Machine.contents c.args.m.now) (g.M.Machine.contents c.fetch.new.m) (g.M.Machine.contents c.make_ready.new.m) c.fetch.ensures.adds (λ cached. ap g.M.Machine.contents (c.fetch.ensures.hit cached)) c.in_ok-k.ensures.found c.make_ready.ensures.widens c.in_ok-make_ready.ensures.named

pub returns-clause-found : goal.returns-clause-found
returns-clause-found g c = found_ready c.args.b.0 c.in_ok-k.k c.args.name _ _ c.in_ok-k.ensures.found c.make_ready.ensures.widens

pub returns-clause-writes : goal.returns-clause-writes
returns-clause-writes g c = few_then c.args.b.0 _ _ _ _ c.fetch.ensures.writes c.make_ready.ensures.still

pub returns-clause-ends : goal.returns-clause-ends
returns-clause-ends g c = ends_ok _ _ _ _ _ _ (never _ Stopped) (λ q. true_false (sym q)) (never _ Stopped) c.in_ok-k.ensures.ends c.in_ok-make_ready.ensures.ends

pub returns-in_err-make_ready-clause-ends : goal.returns-in_err-make_ready-clause-ends
returns-in_err-make_ready-clause-ends g c =
    let stop : IsErrOf c.from_residual-in_err-make_ready.result Stopped = grind (arith, c.from_residual-in_err-make_ready.ensures) in
    ends_err _ _ _ _ _ refl stop c.in_ok-k.ensures.ends.steps c.in_err-make_ready.ensures.ends

pub returns-clause-used : goal.returns-clause-used
returns-clause-used g c = used_then c.args.b.0 (g.M.Machine.contents c.fetch.new.m).words (g.M.Machine.contents c.make_ready.new.m).words c.args.t.now c.fetch.new.t c.make_ready.new.t c.in_ok-k.ensures.used (stay_found _ _ c.make_ready.ensures.widens.found) (order_same _ _ c.make_ready.ensures.tables)

pub returns-in_err-make_ready-clause-leaves : goal.returns-in_err-make_ready-clause-leaves
returns-in_err-make_ready-clause-leaves g c = leaves_then _ _ _ _ c.fetch.ensures.leaves (stay_found _ _ c.make_ready.ensures.widens.found)

pub returns-clause-leaves : goal.returns-clause-leaves
returns-clause-leaves g c = leaves_then _ _ _ _ c.fetch.ensures.leaves (stay_found _ _ c.make_ready.ensures.widens.found)

pub returns-in_err-make_ready-clause-keeps : goal.returns-in_err-make_ready-clause-keeps
returns-in_err-make_ready-clause-keeps g c = keeps_trans _ _ _ c.fetch.ensures.keeps c.make_ready.ensures.keeps

pub returns-in_err-make_ready-clause-tables : goal.returns-in_err-make_ready-clause-tables
returns-in_err-make_ready-clause-tables g c = subst (λ t. SameTables c.args.t.now t) (sym c.make_ready.ensures.tables) c.fetch.ensures.tables

pub returns-in_err-make_ready-clause-lasts : goal.returns-in_err-make_ready-clause-lasts
returns-in_err-make_ready-clause-lasts g c = lasts_trans _ _ _ c.fetch.ensures.lasts c.make_ready.ensures.lasts

pub returns-clause-keeps : goal.returns-clause-keeps
returns-clause-keeps g c = keeps_trans _ _ _ c.fetch.ensures.keeps c.make_ready.ensures.keeps

pub returns-clause-tables : goal.returns-clause-tables
returns-clause-tables g c = subst (λ t. SameTables c.args.t.now t) (sym c.make_ready.ensures.tables) c.fetch.ensures.tables

pub returns-clause-lasts : goal.returns-clause-lasts
returns-clause-lasts g c = lasts_trans _ _ _ c.fetch.ensures.lasts c.make_ready.ensures.lasts

pub returns-clause-drops : goal.returns-clause-drops
returns-clause-drops g c q = absurd (never _ _ q)

pub returns-clause-fault : goal.returns-clause-fault
returns-clause-fault g c q = absurd (never _ _ q)

pub returns-in_err-k-clause-marks : goal.returns-in_err-k-clause-marks
returns-in_err-k-clause-marks g c = marks_any (Some c.args.b.0) _ _ c.fetch.ensures.marks

pub returns-in_err-make_ready-clause-marks : goal.returns-in_err-make_ready-clause-marks
returns-in_err-make_ready-clause-marks g c = marks_trans (Some c.args.b.0) _ _ _ (marks_any (Some c.args.b.0) _ _ c.fetch.ensures.marks) (marks_of c.args.b.0 c.in_ok-k.k _ _ _ c.in_ok-k.ensures.found c.make_ready.ensures.marks)

pub returns-clause-marks : goal.returns-clause-marks
returns-clause-marks g c = marks_trans (Some c.args.b.0) _ _ _ (marks_any (Some c.args.b.0) _ _ c.fetch.ensures.marks) (marks_of c.args.b.0 c.in_ok-k.k _ _ _ c.in_ok-k.ensures.found c.make_ready.ensures.marks)

pub returns-in_err-k-clause-stay : goal.returns-in_err-k-clause-stay
returns-in_err-k-clause-stay g c cached = stay_hit (g.M.Machine.contents c.args.m.now) (g.M.Machine.contents c.fetch.new.m) (ap g.M.Machine.contents (c.fetch.ensures.hit cached))

pub returns-in_err-make_ready-clause-stay : goal.returns-in_err-make_ready-clause-stay
returns-in_err-make_ready-clause-stay g c cached = stay_trans _ _ _ (stay_hit (g.M.Machine.contents c.args.m.now) (g.M.Machine.contents c.fetch.new.m) (ap g.M.Machine.contents (c.fetch.ensures.hit cached))) (stay_found _ _ c.make_ready.ensures.widens.found)

pub returns-in_err-k-clause-failed : goal.returns-in_err-k-clause-failed
returns-in_err-k-clause-failed g c q = c.in_err-k.ensures.failed refl

pub returns-in_err-make_ready-clause-failed : goal.returns-in_err-make_ready-clause-failed
returns-in_err-make_ready-clause-failed g c q = failed_used c.args.b.0 _ c.args.t.now c.make_ready.new.t (used_then c.args.b.0 (g.M.Machine.contents c.fetch.new.m).words (g.M.Machine.contents c.make_ready.new.m).words c.args.t.now c.fetch.new.t c.make_ready.new.t c.in_ok-k.ensures.used (stay_found _ _ c.make_ready.ensures.widens.found) (order_same _ _ c.make_ready.ensures.tables))

pub returns-clause-failed : goal.returns-clause-failed
returns-clause-failed g c q = absurd (true_false (sym q))

pub returns-in_err-k-clause-ends : goal.returns-in_err-k-clause-ends
returns-in_err-k-clause-ends g c = ends_told (g.M.Machine.run c.args.m.now) (g.M.Machine.run c.fetch.new.m) _ Stopped c.from_residual.result (grind (arith, c.from_residual.ensures)) c.in_err-k.ensures.ends

pub returns-in_err-k-clause-drops : goal.returns-in_err-k-clause-drops
returns-in_err-k-clause-drops g c q = drops_narrows (g.M.Machine.contents c.args.m.now) (g.M.Machine.contents c.fetch.new.m) (c.in_err-k.ensures.unfetched (told_err _ Fault c.from_residual.result (grind (arith, c.from_residual.ensures)) q))

pub returns-in_err-k-clause-fault : goal.returns-in_err-k-clause-fault
returns-in_err-k-clause-fault g c q = c.in_err-k.ensures.fault (told_err _ Fault c.from_residual.result (grind (arith, c.from_residual.ensures)) q)
