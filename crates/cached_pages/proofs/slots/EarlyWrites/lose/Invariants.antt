use Rattle.cached_pages.specs.EarlyBlocks.{LosesSome}
use Rattle.cached_pages.proofs.slots.EarlyWrites.lose.Given as goal

abbrev pub invariant-loop-s : goal.invariant-loop-s
invariant-loop-s l = LosesSome l.initial.self l.self
