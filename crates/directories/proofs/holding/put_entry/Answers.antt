use Rattle.directories.proofs.Common.{◌∙◌, arith}
use Rattle.directories.proofs.HeldRows.{put_as}
use Rattle.directories.proofs.Listed.{name_made}
use Rattle.directories.proofs.holding.put_entry.Goals as goal

pub returns : goal.returns
returns c =
    let name = name_made c.args.entry.now c.write_bytes.new.line 0 7 c.name_length-len.result c.write_bytes.ensures (omega arith) (omega arith) c.name_length-len.ensures (omega (arith, c.requires, c.name_length-len.ensures)) in
    put_as c.args.names.now c.put.new.self _ _ _ _ c.put.result c.put.ensures.ok (c.split_at.ensures.front ∙ name) c.entry_ino.ensures
