-- How a call ends: with a reply, or with a part of its request done.
use Rattle.std.specs.Prelude.{Option, Some, None}
use Rattle.rio_core.proofs.Common.{VolumeShape, BlockWords, State, ReadsAs, Reply, Request, crashed, Marks}
use Rattle.rio_requests.specs.Parts.{IsPart}
use Rattle.rio_requests.specs.Run.{Step}
use Rattle.rio_core.specs.CallEnds.{ReadsHeld}

-- a reply tells of a step, and the state that it leads to is read and held; without one a part of the request stands
abbrev pub CallEnds : VolumeShape → BlockWords → Marks → State → Request → Option Reply → Type 0
CallEnds shape g marks s request (Some reply) = (t : State) × Step s (Some request) reply t × ReadsHeld shape g marks t
CallEnds shape g marks s request None = (t : State) × IsPart s request t × ReadsAs shape g (crashed t)
