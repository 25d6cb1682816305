use Rattle.cached_pages.proofs.Common.{none_some, refl, rules}
use Rattle.cached_pages.proofs.EarlyHints.{hints_kept}
use Rattle.cached_pages.specs.declared.slots.Early.TheVariants.{Free}
use Rattle.cached_pages.proofs.slots.EarlyWrites.lose_slot.Goals as goal

pub invariant_of-self : goal.invariant_of-self
invariant_of-self c = record { hinted = hints_kept c.args.s Free c.args.self.now.slots c.args.self.now.hints.items (search rules) (λ b e. absurd (none_some b _ refl e)) c.args.self.now.hinted }
