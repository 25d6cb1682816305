use Rattle.std.specs.Prelude.{length}
use Rattle.std.proofs.Common.{◌≡◌, ◌∙◌, ap, inl, inr, subst, sym}
use Rattle.rio_base.specs.Machine.{Contents}
use Rattle.rio_model.specs.Cover.{stands}
use Rattle.rio_model.specs.Placed.{volume_layout}
use Rattle.rio_model.specs.Standing.{Restored}
use Rattle.cached_pages.specs.Caches.{is_roomy}
use Rattle.page_restore.specs.Stale.{MarksStale}
use Rattle.region_recovery.specs.RegionLists.{ino_numbers, region_inos}
use Rattle.warm_reboot.proofs.Examines.{tells_none}
use Rattle.warm_reboot.proofs.Outcomes.{booted_viewed, either_as, err_always, err_as, examined_viewed, image_viewed, now_found, ok_always, ok_as, runs_viewed, unbooted_look, unbooted_viewed}
use Rattle.rio_base.specs.Rules.{runs_trans}
use Rattle.warm_reboot.proofs.booting.boot.Goals as goal

pub returns-in-Err-clause-unbooted : goal.returns-in-Err-clause-unbooted
returns-in-Err-clause-unbooted g c = unbooted_look _ _ _ _ _ c.in-Err.ensures.unexamined c.in-Err.ensures.untouched

pub boot_looked-requires-clause-examined : goal.boot_looked-requires-clause-examined
boot_looked-requires-clause-examined g c = examined_viewed _ _ _ _ c.in-Ok.examined.census c.in-Ok.ensures.untouched c.in-Ok.ensures.examined

pub returns-in-Ok-clause-booted : goal.returns-in-Ok-clause-booted
returns-in-Ok-clause-booted g c = ok_as c.boot_looked.result _ _ (λ b h s. booted_viewed _ _ _ _ s b.1 _ _ c.in-Ok.ensures.untouched (h s)) c.boot_looked.ensures.booted

pub returns-in-Ok-clause-synced : goal.returns-in-Ok-clause-synced
returns-in-Ok-clause-synced g c = ok_as c.boot_looked.result _ _ (λ b h roomy x. h (ap is_roomy c.in-Ok.ensures.untouched.rest ∙ roomy) x) c.boot_looked.ensures.synced

pub returns-in-Ok-clause-unbooted : goal.returns-in-Ok-clause-unbooted
returns-in-Ok-clause-unbooted g c = err_as c.boot_looked.result _ _ (λ e h. unbooted_viewed _ _ _ _ _ _ e.fail c.in-Ok.ensures.untouched h) c.boot_looked.ensures.unbooted

pub returns-in-Ok-clause-runs : goal.returns-in-Ok-clause-runs
returns-in-Ok-clause-runs g c = either_as c.boot_looked.result _ _ _ _ (λ b h. runs_trans _ _ _ _ _ _ (runs_viewed _ _ _ _ c.in-Ok.ensures.untouched) h) (λ e h. runs_trans _ _ _ _ _ _ (runs_viewed _ _ _ _ c.in-Ok.ensures.untouched) h) c.boot_looked.ensures.runs

pub returns-in-Err-clause-standing : goal.returns-in-Err-clause-standing
returns-in-Err-clause-standing g c = λ s h. tells_none (g.M.Machine.contents c.args.machine) (g.M.Machine.contents c.in-Err.error.machine) (g.M.Machine.run c.in-Err.error.machine) (length (g.M.Machine.run c.args.machine).scratch) s c.in-Err.error.fail (g.met.M.Machine.whole_blocks c.args.machine) h c.in-Err.ensures.unexamined

pub returns-in-Ok-clause-state : goal.returns-in-Ok-clause-state
returns-in-Ok-clause-state g c = ok_always c.boot_looked.result _ (λ b. (c.in-Ok.ensures.examined.state, now_found _ _ c.in-Ok.ensures.examined))

-- ---- the look came first

pub returns-in-Err-clause-looked : goal.returns-in-Err-clause-looked
returns-in-Err-clause-looked g c = inr c.in-Err.ensures.untouched

pub returns-in-Ok-clause-looked : goal.returns-in-Ok-clause-looked
returns-in-Ok-clause-looked g c = err_always c.boot_looked.result _ (λ e. inl (c.in-Ok.ensures.examined.state, now_found _ _ c.in-Ok.ensures.examined))

-- ---- no page is open

pub returns-in-Err-clause-closed : goal.returns-in-Err-clause-closed
returns-in-Err-clause-closed g c = ap (λ (x : Contents). x.open_page) c.in-Err.ensures.untouched.rest ∙ c.requires.closed

-- ---- what is asked

pub boot_looked-requires-clause-image : goal.boot_looked-requires-clause-image
boot_looked-requires-clause-image g c = image_viewed (g.M.Machine.contents c.args.machine) (g.M.Machine.contents c.in-Ok.machine) (g.M.Machine.run c.args.machine) (g.M.Machine.run c.in-Ok.machine) c.in-Ok.examined.census c.in-Ok.ensures.untouched c.requires.header c.requires.layout c.in-Ok.ensures.examined

pub boot_looked-requires-clause-closed : goal.boot_looked-requires-clause-closed
boot_looked-requires-clause-closed g c = ap (λ (x : Contents). x.open_page) c.in-Ok.ensures.untouched.rest ∙ c.requires.closed

pub boot_looked-requires-clause-marks : goal.boot_looked-requires-clause-marks
boot_looked-requires-clause-marks g c = subst (λ (x : Contents). MarksStale (volume_layout c.in-Ok.examined.census.shape (stands x)) x.words c.in-Ok.examined.marks.items) (sym c.in-Ok.ensures.untouched.rest) c.in-Ok.ensures.marks

pub boot_looked-requires-clause-regions : goal.boot_looked-requires-clause-regions
boot_looked-requires-clause-regions g c = subst (λ (x : Contents). ino_numbers c.in-Ok.examined.regions.items ≡ region_inos c.in-Ok.examined.census.shape (stands x)) (sym c.in-Ok.ensures.untouched.rest) c.in-Ok.ensures.regions

-- ---- what is left

pub returns-in-Ok-clause-standing : goal.returns-in-Ok-clause-standing
returns-in-Ok-clause-standing g c = λ s h. c.boot_looked.ensures.no_rule

pub returns-in-Ok-clause-restored : goal.returns-in-Ok-clause-restored
returns-in-Ok-clause-restored g c = ok_as c.boot_looked.result _ _ (λ b h roomy. subst (λ (x : Contents). Restored (volume_layout b.1.shape (stands x)) x.words x.disk (g.M.Machine.contents b.0.machine).disk) c.in-Ok.ensures.untouched.rest (h (ap is_roomy c.in-Ok.ensures.untouched.rest ∙ roomy))) c.boot_looked.ensures.restored

pub returns-in-Err-clause-runs : goal.returns-in-Err-clause-runs
returns-in-Err-clause-runs g c = runs_viewed (g.M.Machine.contents c.args.machine) (g.M.Machine.contents c.in-Err.error.machine) (g.M.Machine.run c.args.machine) (g.M.Machine.run c.in-Err.error.machine) c.in-Err.ensures.untouched
