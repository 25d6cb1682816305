-- Failures of the volume below, handed on.
use Rattle.rio_base.specs.declared.failures.VolFail.{VolFail}
use Rattle.rio_base.specs.declared.failures.VolFail.TheVariants.{Fault as DiskFault, Stopped as MachineStopped}
use Rattle.file_pages.specs.declared.failures.BytesFail.{BytesFail}
use Rattle.file_pages.specs.declared.failures.BytesFail.TheVariants.{Fault as BytesFault, Stopped as BytesStopped}
use Rattle.node_pages.specs.declared.failures.WriteFail.{WriteFail}
use Rattle.node_pages.specs.declared.failures.WriteFail.TheVariants.{Fault as WriteFault, Stopped as WriteStopped}

abbrev pub bytes_handed : VolFail → BytesFail
bytes_handed DiskFault = BytesFault 0
bytes_handed MachineStopped = BytesStopped

abbrev pub write_of_bytes : BytesFail → WriteFail
write_of_bytes (BytesFault done) = WriteFault done
write_of_bytes BytesStopped = WriteStopped
