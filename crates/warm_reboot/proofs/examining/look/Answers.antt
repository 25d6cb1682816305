use Rattle.std.proofs.Common.{◌≡◌, subst, sym}
use Rattle.rio_model.specs.Cover.{stands}
use Rattle.rio_model.specs.Placed.{volume_layout}
use Rattle.registry.specs.ViewLaws.{viewed_refl}
use Rattle.registry.specs.Views.{Viewed}
use Rattle.page_restore.specs.Stale.{MarksStale}
use Rattle.region_recovery.specs.RegionLists.{ino_numbers, region_inos}
use Rattle.warm_reboot.specs.Examining.{IsExamined, Unexamined}
use Rattle.warm_reboot.proofs.Survivals.{by_two}
use Rattle.warm_reboot.proofs.examining.look.Goals as goal

pub look_at_pair-found-requires : goal.look_at_pair-found-requires
look_at_pair-found-requires g c = record { sound = c.in-Ok.ensures.sound }

-- ---- what is found

pub returns-in-Ok-found-clause-examined : goal.returns-in-Ok-found-clause-examined
returns-in-Ok-found-clause-examined g c = subst (λ m. IsExamined (g.M.Machine.contents m) c.in-Ok-found.examined.census) c.in-Ok.ensures.machine c.in-Ok-found.ensures.examined

pub returns-in-Ok-found-clause-marks : goal.returns-in-Ok-found-clause-marks
returns-in-Ok-found-clause-marks g c = subst (λ m. MarksStale (volume_layout c.in-Ok-found.examined.census.shape (stands (g.M.Machine.contents m))) (g.M.Machine.contents m).words c.in-Ok-found.examined.marks.items) c.in-Ok.ensures.machine c.in-Ok-found.ensures.marks

pub returns-in-Ok-found-clause-regions : goal.returns-in-Ok-found-clause-regions
returns-in-Ok-found-clause-regions g c = subst (λ m. ino_numbers c.in-Ok-found.examined.regions.items ≡ region_inos c.in-Ok-found.examined.census.shape (stands (g.M.Machine.contents m))) c.in-Ok.ensures.machine c.in-Ok-found.ensures.regions

-- ---- the machine, and how it fails

pub returns-in-Ok-found-clause-untouched : goal.returns-in-Ok-found-clause-untouched
returns-in-Ok-found-clause-untouched g c = by_two c.args.machine c.in-Ok.view.machine c.into_machine-machine.result c.look_at_pair-found.new.view.machine c.in-Ok.ensures.machine (sym c.into_machine-machine.ensures) (λ m n. Viewed (g.M.Machine.contents m) (g.M.Machine.contents n) (g.M.Machine.run m) (g.M.Machine.run n)) c.look_at_pair-found.ensures.viewed

pub returns-in-Err-found-clause-untouched : goal.returns-in-Err-found-clause-untouched
returns-in-Err-found-clause-untouched g c = by_two c.args.machine c.in-Ok.view.machine c.into_machine-machine.result c.look_at_pair-found.new.view.machine c.in-Ok.ensures.machine (sym c.into_machine-machine.ensures) (λ m n. Viewed (g.M.Machine.contents m) (g.M.Machine.contents n) (g.M.Machine.run m) (g.M.Machine.run n)) c.look_at_pair-found.ensures.viewed

pub returns-in-Err-found-clause-unexamined : goal.returns-in-Err-found-clause-unexamined
returns-in-Err-found-clause-unexamined g c = by_two c.args.machine c.in-Ok.view.machine c.into_machine-machine.result c.look_at_pair-found.new.view.machine c.in-Ok.ensures.machine (sym c.into_machine-machine.ensures) (λ m n. Unexamined (g.M.Machine.contents m) (g.M.Machine.contents n) (g.M.Machine.run n) c.in-Err-found.fail) c.in-Err-found.ensures.unexamined

pub returns-in-Err-clause-untouched : goal.returns-in-Err-clause-untouched
returns-in-Err-clause-untouched g c = viewed_refl _ _

pub returns-in-Err-new-clause-untouched : goal.returns-in-Err-new-clause-untouched
returns-in-Err-new-clause-untouched g c = subst (λ m. Viewed (g.M.Machine.contents c.args.machine) (g.M.Machine.contents m) (g.M.Machine.run c.args.machine) (g.M.Machine.run m)) (sym c.in-Err-new.ensures.back) (viewed_refl _ _)
