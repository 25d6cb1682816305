use Rattle.cached_pages.specs.EarlyBlocks.{SettlesAll}
use Rattle.cached_pages.proofs.slots.EarlyWrites.settle.Given as goal

abbrev pub invariant-loop-s : goal.invariant-loop-s
invariant-loop-s l = SettlesAll l.initial.self l.self
