-- Failures of the calls below, handed on.
use Rattle.std.specs.Prelude.{◌≡◌, Result, Ok, Err, ℕ, IsErrOf}
use Rattle.rio_base.specs.declared.failures.VolFail.{VolFail}
use Rattle.rio_base.specs.declared.failures.VolFail.TheVariants.{Fault as DiskFault, Stopped as MachineStopped}
use Rattle.rio_base.specs.declared.failures.ReadFail.{ReadFail}
use Rattle.rio_base.specs.declared.failures.ReadFail.TheVariants.{Fault as ReadFault, Stopped as ReadStopped, Memory as ReadMemory}
use Rattle.rio_model.specs.Refusals.{refusal_number}
use Rattle.rio_model.specs.declared.refusal.Refusal.TheVariants.{TooLarge, NoSpace}
use Rattle.node_pages.specs.declared.failures.WriteFail.{WriteFail}
use Rattle.node_pages.specs.declared.failures.WriteFail.TheVariants.{NoSpace as WriteNoSpace, TooLarge as WriteTooLarge, Fault as WriteFault, Stopped as WriteStopped, Memory as WriteMemory}
use Rattle.node_pages.specs.declared.failures.SizeFail.{SizeFail}
use Rattle.node_pages.specs.declared.failures.SizeFail.TheVariants.{NoSpace as SizeNoSpace, TooLarge as SizeTooLarge, Fault as SizeFault, Stopped as SizeStopped, Memory as SizeMemory}
use Rattle.request_ends.specs.declared.failures.FileFail.{FileFail}
use Rattle.request_ends.specs.declared.failures.FileFail.TheVariants.{Refused, Fault, Stopped, Memory}

abbrev pub fail_of_vol : VolFail → FileFail
fail_of_vol DiskFault = Fault 0
fail_of_vol MachineStopped = Stopped

abbrev pub fail_of_read : ReadFail → FileFail
fail_of_read ReadFault = Fault 0
fail_of_read ReadStopped = Stopped
fail_of_read ReadMemory = Memory

abbrev pub fail_of_size : SizeFail → FileFail
fail_of_size SizeNoSpace = Refused (refusal_number NoSpace)
fail_of_size SizeTooLarge = Refused (refusal_number TooLarge)
fail_of_size SizeFault = Fault 0
fail_of_size SizeStopped = Stopped
fail_of_size SizeMemory = Memory

abbrev pub fail_of_write : WriteFail → FileFail
fail_of_write WriteNoSpace = Refused (refusal_number NoSpace)
fail_of_write WriteTooLarge = Refused (refusal_number TooLarge)
fail_of_write (WriteFault done) = Fault done
fail_of_write WriteStopped = Stopped
fail_of_write WriteMemory = Memory

-- a device fault is told, whatever is done
abbrev pub Faulted : {T : Type 0} → Result T FileFail → Type 0
Faulted r = (k : ℕ) × IsErrOf r (Fault k)

-- a call that takes no memory: a refusal has this number and this reason, and no byte is done at a fault
abbrev pub Refuses : {T : Type 0} → Result T FileFail → ℕ → Type 0 → Type 0
Refuses (Ok value) number why = Unit {0}
Refuses (Err (Refused c)) number why = (c ≡ number) × why
Refuses (Err (Fault k)) number why = k ≡ 0
Refuses (Err Stopped) number why = Unit {0}
Refuses (Err Memory) number why = ⊥

-- there is no refusal
abbrev pub Unrefused : {T : Type 0} → Result T FileFail → Type 0
Unrefused r = Refuses r 0 ⊥
