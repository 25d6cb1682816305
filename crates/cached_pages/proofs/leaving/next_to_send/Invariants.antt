use Rattle.cached_pages.proofs.Common.{◌<◌, frames_of}
use Rattle.cached_pages.proofs.leaving.next_to_send.Given as goal

abbrev pub invariant-loop-passed : goal.invariant-loop-passed
invariant-loop-passed g l = record { entry : l.last < frames_of (g.M.Machine.contents l.m).words }
