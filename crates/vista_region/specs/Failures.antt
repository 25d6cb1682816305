-- Failures of the calls below, handed on.
use Rattle.rio_base.specs.declared.failures.VolFail.{VolFail}
use Rattle.rio_base.specs.declared.failures.VolFail.TheVariants.{Fault as WordFault, Stopped as WordStopped}
use Rattle.undo_list.specs.declared.failures.UndoFail.{UndoFail}
use Rattle.undo_list.specs.declared.failures.UndoFail.TheVariants.{Full as NoRoom, Fault as UndoFault, Stopped as UndoStopped}
use Rattle.recov_alloc.specs.declared.failures.HeapFail.{HeapFail}
use Rattle.recov_alloc.specs.declared.failures.HeapFail.TheVariants.{Full as NoGap, NotBlock as NoStart, UndoFull as NoUndo, Fault as HeapFault, Stopped as HeapStopped}
use Rattle.vista_region.specs.declared.failures.TxnFail.{TxnFail}
use Rattle.vista_region.specs.declared.failures.TxnFail.TheVariants.{NotBlock, HeapFull, UndoFull, Fault, Stopped}
use Rattle.vista_region.specs.declared.failures.GetFail.{GetFail}
use Rattle.vista_region.specs.declared.failures.GetFail.TheVariants.{Fault as GetFault, Stopped as GetStopped}

abbrev pub handed : VolFail → TxnFail
handed WordFault = Fault 0
handed WordStopped = Stopped

abbrev pub undo_handed : UndoFail → TxnFail
undo_handed NoRoom = UndoFull
undo_handed UndoFault = Fault 0
undo_handed UndoStopped = Stopped

abbrev pub heap_handed : HeapFail → TxnFail
heap_handed NoGap = HeapFull
heap_handed NoStart = NotBlock
heap_handed NoUndo = UndoFull
heap_handed HeapFault = Fault 0
heap_handed HeapStopped = Stopped

abbrev pub get_handed : VolFail → GetFail
get_handed WordFault = GetFault
get_handed WordStopped = GetStopped
