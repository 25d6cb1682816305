use Rattle.cached_pages.proofs.Common.{rules}
use Rattle.cached_pages.proofs.EarlyHints.{hints_put}
use Rattle.cached_pages.proofs.slots.EarlyWrites.wrote.Goals as goal

pub invariant_of-self : goal.invariant_of-self
invariant_of-self c = record { hinted = hints_put _ c.args.b.0 c.args.self.now.slots c.args.self.now.hints.items (search rules) (search rules) c.requires.off c.args.self.now.hinted }
