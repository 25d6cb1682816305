use Rattle.std.proofs.Common.{refl}
use Rattle.page_cache.proofs.Flushes.{flushed_sound, shut_by}
use Rattle.std.proofs.lemmas.Result.{err_from_is_err_and}
use Rattle.std.specs.Prelude.{Err}
use Rattle.write_back.proofs.Exits.{not_ok}
use Rattle.page_cache.proofs.volume.PageCacheVolume.flush.Goals as goal
use Rattle.cached_pages.proofs.Uses.{stay_held}
use Rattle.cached_pages.proofs.Common.{◌==◌, ◌∙◌, ap, arith, IsErrOf}
use Rattle.rio_base.specs.declared.failures.VolFail.TheVariants.{Fault}
use Rattle.rio_base.proofs.MachineRules.{never}
use Rattle.cached_pages.proofs.Goes.{ends_of, runs_of}
use Rattle.cached_pages.proofs.Kept.{tables_refl}
use Rattle.cached_pages.proofs.Rooms.{firm_keeps, looks_keeps}
use Rattle.cached_pages.proofs.StoreCalls.{drops_narrows}
use Rattle.page_cache.proofs.Failures.{ends_handed}

pub flush-requires-clause-shut : goal.flush-requires-clause-shut
flush-requires-clause-shut g c = shut_by _ c.requires.idle

pub returns-in_err-j-clause-sound : goal.returns-in_err-j-clause-sound
returns-in_err-j-clause-sound g c = flushed_sound _ _ (g.M.Machine.contents c.args.self.now.machine) (g.M.Machine.contents c.flush.new.m) _ _ _ c.requires.sound refl c.lose_all.ensures (shut_by _ c.requires.idle) c.flush.ensures.keeps c.flush.ensures.lasts c.flush.ensures.ends.steps.scratch_count c.flush.ensures.closed c.flush.ensures.held

pub returns-clause-sound : goal.returns-clause-sound
returns-clause-sound g c = flushed_sound _ _ (g.M.Machine.contents c.args.self.now.machine) (g.M.Machine.contents c.flush.new.m) _ _ _ c.requires.sound refl c.lose_all.ensures (shut_by _ c.requires.idle) c.flush.ensures.keeps c.flush.ensures.lasts c.flush.ensures.ends.steps.scratch_count c.flush.ensures.closed c.flush.ensures.held

pub returns-in_err-j-clause-stay : goal.returns-in_err-j-clause-stay
returns-in_err-j-clause-stay g c = stay_held _ _ (c.flush.ensures.keeps.header 2 (omega arith)) c.flush.ensures.held

pub returns-clause-stay : goal.returns-clause-stay
returns-clause-stay g c = stay_held _ _ (c.flush.ensures.keeps.header 2 (omega arith)) c.flush.ensures.held

pub returns-in_err-j-clause-unmarked : goal.returns-in_err-j-clause-unmarked
returns-in_err-j-clause-unmarked g c fault =
    let was : IsErrOf c.flush.result Fault = grind (arith, c.from_residual.ensures, fault) in
    c.flush.ensures.unmarked was

pub returns-clause-unmarked : goal.returns-clause-unmarked
returns-clause-unmarked g c fault = absurd (never _ _ fault)

pub returns-clause-looks : goal.returns-clause-looks
returns-clause-looks g c = looks_keeps (g.M.Machine.contents c.args.self.now.machine) (g.M.Machine.contents c.flush.new.m) c.flush.ensures.keeps c.flush.ensures.lasts

pub returns-clause-firm : goal.returns-clause-firm
returns-clause-firm g c = firm_keeps (g.M.Machine.contents c.args.self.now.machine) (g.M.Machine.contents c.flush.new.m) c.args.self.now.tables c.args.self.now.tables c.flush.ensures.keeps (tables_refl c.args.self.now.tables)

pub returns-clause-drops : goal.returns-clause-drops
returns-clause-drops g c = drops_narrows (g.M.Machine.contents c.args.self.now.machine) (g.M.Machine.contents c.flush.new.m) c.flush.ensures.narrows

pub returns-clause-idle : goal.returns-clause-idle
returns-clause-idle g c = ap (λ n. n == 1) (c.flush.ensures.keeps.header 4 (omega arith)) ∙ c.requires.idle

pub returns-clause-runs : goal.returns-clause-runs
returns-clause-runs g c = runs_of (g.M.Machine.contents c.args.self.now.machine) (g.M.Machine.contents c.flush.new.m) (g.M.Machine.run c.args.self.now.machine) (g.M.Machine.run c.flush.new.m) c.flush.ensures.lasts c.flush.ensures.ends.steps (c.flush.ensures.keeps.header 2 (omega arith))

pub returns-in_err-j-clause-looks : goal.returns-in_err-j-clause-looks
returns-in_err-j-clause-looks g c = looks_keeps (g.M.Machine.contents c.args.self.now.machine) (g.M.Machine.contents c.flush.new.m) c.flush.ensures.keeps c.flush.ensures.lasts

pub returns-in_err-j-clause-firm : goal.returns-in_err-j-clause-firm
returns-in_err-j-clause-firm g c = firm_keeps (g.M.Machine.contents c.args.self.now.machine) (g.M.Machine.contents c.flush.new.m) c.args.self.now.tables c.args.self.now.tables c.flush.ensures.keeps (tables_refl c.args.self.now.tables)

pub returns-in_err-j-clause-drops : goal.returns-in_err-j-clause-drops
returns-in_err-j-clause-drops g c = drops_narrows (g.M.Machine.contents c.args.self.now.machine) (g.M.Machine.contents c.flush.new.m) c.flush.ensures.narrows

pub returns-in_err-j-clause-idle : goal.returns-in_err-j-clause-idle
returns-in_err-j-clause-idle g c = ap (λ n. n == 1) (c.flush.ensures.keeps.header 4 (omega arith)) ∙ c.requires.idle

pub returns-in_err-j-clause-runs : goal.returns-in_err-j-clause-runs
returns-in_err-j-clause-runs g c = runs_of (g.M.Machine.contents c.args.self.now.machine) (g.M.Machine.contents c.flush.new.m) (g.M.Machine.run c.args.self.now.machine) (g.M.Machine.run c.flush.new.m) c.flush.ensures.lasts c.flush.ensures.ends.steps (c.flush.ensures.keeps.header 2 (omega arith))

pub returns-clause-ends : goal.returns-clause-ends
returns-clause-ends g c = ends_of (g.M.Machine.contents c.args.self.now.machine) (g.M.Machine.contents c.flush.new.m) (g.M.Machine.run c.args.self.now.machine) (g.M.Machine.run c.flush.new.m) _ c.flush.ensures.lasts (λ q. absurd (never _ _ q)) c.in_ok-j.ensures.ends

pub returns-in_err-j-clause-ends : goal.returns-in_err-j-clause-ends
returns-in_err-j-clause-ends g c =
    let p = err_from_is_err_and c.from_residual.result c.from_residual.ensures.1 in
    ends_handed (g.M.Machine.contents c.args.self.now.machine) (g.M.Machine.contents c.flush.new.m) (g.M.Machine.run c.args.self.now.machine) (g.M.Machine.run c.flush.new.m) _ _ (p.1 ∙ ap Err p.2) c.flush.ensures.lasts c.in_err-j.ensures.fault c.in_err-j.ensures.ends

pub returns-in_err-j-clause-most : goal.returns-in_err-j-clause-most
returns-in_err-j-clause-most g c = not_ok _ c.from_residual.result c.from_residual.ensures.0

pub returns-in_err-j-clause-flushed : goal.returns-in_err-j-clause-flushed
returns-in_err-j-clause-flushed g c = not_ok _ c.from_residual.result c.from_residual.ensures.0
