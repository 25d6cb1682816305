use Rattle.std.proofs.Common.{arith}
use Rattle.rio_base.proofs.Bytes.{bytes_read}
use Rattle.block_disk.proofs.disk_file.put_words.Goals as goal

pub returns-clause-bytes : goal.returns-clause-bytes
returns-clause-bytes c = bytes_read c.args.bytes.now c.read_u64_into.new.dst (omega arith) (λ i. omega (arith, c.type_inv.bytes i)) c.read_u64_into.ensures
