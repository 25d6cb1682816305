use Rattle.std.proofs.Common.{ℕ, ◌+◌, List, arith, subst}
use Rattle.std.proofs.lemmas.List.{take_all}
use Rattle.std.specs.String.{string_bytes}
use Rattle.rio_base.specs.Hosts.{HasBytes}
use Rattle.block_disk.proofs.HostFiles.{short_read}
use Rattle.block_disk.proofs.disk_file.fill_piece.Goals as goal

pub returns-else-count-into-clause-bytes : goal.returns-else-count-into-clause-bytes
returns-else-count-into-clause-bytes g c = subst (λ (xs : List ℕ). HasBytes (g.H.Host.files c.args.host.now) (string_bytes c.args.name.now) c.args.off xs) (take_all c.in-Ok.count c.read_from.new.into (omega (arith, c.if-count-into.false, c.read_from.ensures.room))) c.in-Ok.ensures.bytes

pub returns-then-count-into-clause-fails : goal.returns-then-count-into-clause-fails
returns-then-count-into-clause-fails g c = short_read (g.H.Host.files c.args.host.now) (string_bytes c.args.name.now) _ (c.args.off + c.in-Ok.count) c.requires.file (omega (arith, c.if-count-into.true, c.read_from.ensures.room)) (c.in-Ok.ensures.end (omega (arith, c.if-count-into.true, c.read_from.ensures.room)))
