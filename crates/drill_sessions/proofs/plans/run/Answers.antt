use Rattle.std.proofs.Common.{◌*◌, List, All, subst, sym}
use Rattle.std.proofs.lemmas.List.Elements.{All-push}
use Rattle.boots.specs.declared.plan.BootPlan.{BootPlan}
use Rattle.rio_base.specs.Image.{image_pages}
use Rattle.boots.specs.Legal.{IsBootPlan}
use Rattle.drill_sessions.proofs.plans.run.Goals as goal

pub loop-mishap-preserved : goal.loop-mishap-preserved
loop-mishap-preserved c =
    subst (λ (boots : List BootPlan). All (IsBootPlan (512 * image_pages 256 4)) boots) (sym c.in_ok-push.ensures.items)
    (All-push (IsBootPlan (512 * image_pages 256 4)) c.loop-mishap.boots.items c.in_ok-boot.boot c.loop-mishap.invariant c.in_ok-boot.ensures)
