-- Failures of the volume below, handed on.
use Rattle.std.specs.Prelude.{Result, IsErrOf}
use Rattle.block_alloc.specs.declared.taking.TakeFail.{TakeFail}
use Rattle.block_alloc.specs.declared.taking.TakeFail.TheVariants.{NoSpace as TakeNoSpace, Fault as TakeFault, Stopped as TakeStopped, Memory as TakeMemory}
use Rattle.rio_base.specs.declared.failures.VolFail.{VolFail}
use Rattle.rio_base.specs.declared.failures.VolFail.TheVariants.{Fault as DiskFault, Stopped as MachineStopped}
use Rattle.rio_base.specs.declared.failures.ReadFail.{ReadFail}
use Rattle.rio_base.specs.declared.failures.ReadFail.TheVariants.{Fault as ReadFault, Stopped as ReadStopped, Memory as ReadMemory}
use Rattle.node_pages.specs.declared.failures.WriteFail.{WriteFail}
use Rattle.node_pages.specs.declared.failures.WriteFail.TheVariants.{NoSpace as WriteNoSpace, TooLarge as WriteTooLarge, Fault as WriteFault, Stopped as WriteStopped, Memory as WriteMemory}
use Rattle.node_pages.specs.declared.failures.SizeFail.{SizeFail}
use Rattle.node_pages.specs.declared.failures.SizeFail.TheVariants.{NoSpace as SizeNoSpace, TooLarge as SizeTooLarge, Fault as SizeFault, Stopped as SizeStopped, Memory as SizeMemory}

abbrev pub size_handed : VolFail → SizeFail
size_handed DiskFault = SizeFault
size_handed MachineStopped = SizeStopped

abbrev pub size_of_read : ReadFail → SizeFail
size_of_read ReadFault = SizeFault
size_of_read ReadStopped = SizeStopped
size_of_read ReadMemory = SizeMemory

abbrev pub size_of_take : TakeFail → SizeFail
size_of_take TakeNoSpace = SizeNoSpace
size_of_take TakeFault = SizeFault
size_of_take TakeStopped = SizeStopped
size_of_take TakeMemory = SizeMemory

abbrev pub write_handed : VolFail → WriteFail
write_handed DiskFault = WriteFault 0
write_handed MachineStopped = WriteStopped

abbrev pub write_of_read : ReadFail → WriteFail
write_of_read ReadFault = WriteFault 0
write_of_read ReadStopped = WriteStopped
write_of_read ReadMemory = WriteMemory

abbrev pub write_of_size : SizeFail → WriteFail
write_of_size SizeNoSpace = WriteNoSpace
write_of_size SizeTooLarge = WriteTooLarge
write_of_size SizeFault = WriteFault 0
write_of_size SizeStopped = WriteStopped
write_of_size SizeMemory = WriteMemory

-- a call that was not refused for its size
abbrev pub Unrefused : {T : Type 0} → Result T SizeFail → Type 0
Unrefused r = (IsErrOf r SizeNoSpace → ⊥) × (IsErrOf r SizeTooLarge → ⊥)
