use Rattle.undo_list.proofs.MarkRuns.{none_marked}
use Rattle.undo_list.proofs.covering.covers_from.Goals as goal

pub covers_marking-requires-clause-clear : goal.covers_marking-requires-clause-clear
covers_marking-requires-clause-clear g c = none_marked 8
