use Rattle.node_pages.proofs.PlannedSize.{if_ok_map}
use Rattle.file_pages.proofs.Common.{◌∙◌, drop, take, sym, ap, arith, byte_in, word_in, placed_at}
use Rattle.node_pages.proofs.LookingUpRules.{named_on}
use Rattle.file_pages.proofs.PageRead.{read_value}
use Rattle.file_pages.proofs.Left.{bytes_sized, file_node}
use Rattle.file_pages.proofs.Resized.{file_ino, file_placed}
use Rattle.file_pages.proofs.reading.read_at_inode.Goals as goal

pub read_bytes-requires-clause-ino : goal.read_bytes-requires-clause-ino
read_bytes-requires-clause-ino g c = file_ino c.args.shape.now (g.V.Blocks.seen c.args.v.now).words c.args.i.0 c.requires.file

pub read_bytes-requires-clause-file : goal.read_bytes-requires-clause-file
read_bytes-requires-clause-file g c = file_placed c.args.shape.now (g.V.Blocks.seen c.args.v.now).words c.args.i.0 (file_ino c.args.shape.now (g.V.Blocks.seen c.args.v.now).words c.args.i.0 c.requires.file) c.requires.file

pub returns-clause-named : goal.returns-clause-named
returns-clause-named g c = named_on c.args.shape.now (g.V.Blocks.seen c.args.v.now) _ c.requires.mapped c.requires.named c.read_bytes.ensures.looks

pub returns-clause-value : goal.returns-clause-value
returns-clause-value g c =
    let shape = c.args.shape.now in
    let x = g.V.Blocks.seen c.args.v.now in
    let i = c.args.i.0 in
    let n = placed_at x.words i in
    let ino = file_ino shape x.words i c.requires.file in
    let kind = file_placed shape x.words i ino c.requires.file in
    let most = (c.requires.mapped.laid.sizes.each i ino (omega (arith, kind))).most in
    if_ok_map _ _ c.read_bytes.result (λ bs h. h
    ∙ read_value (byte_in (word_in x.words n)) n.size c.args.off c.args.len c.min-end.result (omega (arith, c.min-end.ensures, c.saturating_add.ensures, c.requires.inode.size, most))
    ∙ ap (λ bs. take c.args.len (drop c.args.off bs)) (sym (file_node shape x.words i ino ∙ bytes_sized x.words n (omega (arith, kind))))) c.read_bytes.ensures.value

pub read_bytes-requires-clause-within : goal.read_bytes-requires-clause-within
read_bytes-requires-clause-within g c = omega (arith, c.min-end.ensures)

pub read_bytes-requires-clause-most : goal.read_bytes-requires-clause-most
read_bytes-requires-clause-most g c =
    let shape = c.args.shape.now in
    let x = g.V.Blocks.seen c.args.v.now in
    let i = c.args.i.0 in
    let ino = file_ino shape x.words i c.requires.file in
    let kind = file_placed shape x.words i ino c.requires.file in
    let most = (c.requires.mapped.laid.sizes.each i ino (omega (arith, kind))).most in
    omega (arith, c.requires.inode.size, most)
