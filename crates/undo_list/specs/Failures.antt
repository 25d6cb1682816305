-- A failure of the region's words, handed on.
use Rattle.rio_base.specs.declared.failures.VolFail.{VolFail}
use Rattle.rio_base.specs.declared.failures.VolFail.TheVariants.{Fault as WordFault, Stopped as WordStopped}
use Rattle.undo_list.specs.declared.failures.UndoFail.{UndoFail}
use Rattle.undo_list.specs.declared.failures.UndoFail.TheVariants.{Fault, Stopped}

abbrev pub handed : VolFail → UndoFail
handed WordFault = Fault
handed WordStopped = Stopped
