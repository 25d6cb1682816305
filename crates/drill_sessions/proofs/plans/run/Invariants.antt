use Rattle.std.proofs.Common.{◌*◌, All}
use Rattle.rio_base.specs.Image.{image_pages}
use Rattle.boots.specs.Legal.{IsBootPlan}
use Rattle.drill_sessions.proofs.plans.run.Given as goal

abbrev pub invariant-loop-mishap : goal.invariant-loop-mishap
invariant-loop-mishap l = All (IsBootPlan (512 * image_pages 256 4)) l.boots.items
