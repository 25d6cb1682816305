use Rattle.cached_pages.proofs.Common.{◌∙◌, ap, rules}
use Rattle.cached_pages.proofs.EarlyHints.{hints_kept}
use Rattle.cached_pages.specs.EarlySlots.{owner_of}
use Rattle.cached_pages.proofs.slots.EarlyWrites.settle_slot.Goals as goal

pub invariant_of-self : goal.invariant_of-self
invariant_of-self c = record { hinted = hints_kept c.args.s _ c.args.self.now.slots c.args.self.now.hints.items (search rules) (λ b e. ap owner_of c.in-Written.is ∙ e) c.args.self.now.hinted }
