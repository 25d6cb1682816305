use Rattle.std.proofs.Common.{◌*◌, List, All, subst, sym}
use Rattle.boots.specs.declared.plan.BootPlan.{BootPlan}
use Rattle.rio_base.specs.Image.{image_pages}
use Rattle.boots.specs.Legal.{IsBootPlan}
use Rattle.drill_sessions.proofs.plans.run_boots.Goals as goal

pub live-requires-clause-boots : goal.live-requires-clause-boots
live-requires-clause-boots c = subst (λ (boots : List BootPlan). All (IsBootPlan (512 * image_pages 256 4)) boots) (sym c.into.ensures) c.requires
