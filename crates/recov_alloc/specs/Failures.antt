-- Failures of the region's words and of its undo list, handed on.
use Rattle.rio_base.specs.declared.failures.VolFail.{VolFail}
use Rattle.rio_base.specs.declared.failures.VolFail.TheVariants.{Fault as WordFault, Stopped as WordStopped}
use Rattle.undo_list.specs.declared.failures.UndoFail.{UndoFail}
use Rattle.undo_list.specs.declared.failures.UndoFail.TheVariants.{Full as ListFull, Fault as ListFault, Stopped as ListStopped}
use Rattle.recov_alloc.specs.declared.failures.HeapFail.{HeapFail}
use Rattle.recov_alloc.specs.declared.failures.HeapFail.TheVariants.{UndoFull, Fault, Stopped}

abbrev pub handed : VolFail → HeapFail
handed WordFault = Fault
handed WordStopped = Stopped

abbrev pub undo_handed : UndoFail → HeapFail
undo_handed ListFull = UndoFull
undo_handed ListFault = Fault
undo_handed ListStopped = Stopped
