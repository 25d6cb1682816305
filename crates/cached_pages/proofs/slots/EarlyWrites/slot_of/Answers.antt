use Rattle.cached_pages.proofs.Common.{rules}
use Rattle.cached_pages.proofs.EarlyHints.{hinted_past, unhinted}
use Rattle.cached_pages.proofs.slots.EarlyWrites.slot_of.Goals as goal

pub returns-then-len-at-clause-none : goal.returns-then-len-at-clause-none
returns-then-len-at-clause-none c = λ none. unhinted c.args.self.now c.args.b.0 (search rules)

pub returns-then-s-ge-SLOTS-clause-none : goal.returns-then-s-ge-SLOTS-clause-none
returns-then-s-ge-SLOTS-clause-none c = λ none. hinted_past c.args.self.now c.args.b.0 c.index.result.now (search rules) c.index.ensures (search rules)
