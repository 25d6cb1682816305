use Rattle.std.proofs.Common.{rules}
use Rattle.node_pages.proofs.LookingUpRules.{can_look_up}
use Rattle.node_pages.proofs.Ends.{read_runs}
use Rattle.file_pages.proofs.Common.{◌≡◌, ◌-◌, ◌/◌, ◌≤◌, ◌∙◌, ◌∷◌, [], BlockWords, length, sym, ap, arith, inl, err_from_is_err_and, ◌then◌, ends_by_after, numbers, placed_at, volume_layout, numbered_of, largest_size, LeavesInUse}
use Rattle.node_pages.proofs.OrderRules.{leaves_looked, ready_left}
use Rattle.node_pages.proofs.Given.{direct_page, given_most}
use Rattle.node_pages.proofs.Listed.{as_many}
use Rattle.file_pages.proofs.Resized.{held_file}
use Rattle.file_pages.proofs.Within.{looked_blocks, pages_over}
use Rattle.file_pages.proofs.Written.{none_read, ends_write_read, read_unrefused, write_after}
use Rattle.file_pages.proofs.overwriting.write_within.Goals as goal

pub returns-in_err-blocks-clause-leaves : goal.returns-in_err-blocks-clause-leaves
returns-in_err-blocks-clause-leaves g c =
    let shape = c.args.shape.now in
    let x = g.V.Blocks.seen c.args.v.now in
    let k = g.V.Volume.kept c.args.v.now in
    let y = g.V.Blocks.seen c.page_blocks.new.v in
    let j = g.V.Volume.kept c.page_blocks.new.v in
    let i = c.args.i.0 in
    let call = c.page_blocks.ensures in
    let looked : LeavesInUse (volume_layout shape x.words) x k y j = leaves_looked shape _ _ _ _ x y k j c.requires.ready call.read.looks (g.met.V.Volume.passes_keeps _ _ call.read.passed) in
    let p = err_from_is_err_and c.from_residual.result c.from_residual.ensures.1 in
    none_read shape x k y j i c.args.off c.args.bytes.now c.from_residual.result _ p.0 p.1 p.2 c.requires.ready (g.met.V.Volume.settled _ c.requires.sound) (held_file shape x.words i c.requires.ino (sym c.requires.inode.kind ∙ c.requires.file)) looked

pub returns-in_err-blocks-clause-goes : goal.returns-in_err-blocks-clause-goes
returns-in_err-blocks-clause-goes g c = (g.met.V.Volume.passes_keeps _ _ c.page_blocks.ensures.read.passed).goes

pub page_blocks-requires-clause-inode : goal.page_blocks-requires-clause-inode
page_blocks-requires-clause-inode g c = inl (c.requires.inode, omega (arith, c.requires.file))

pub returns-in_err-blocks-clause-ends : goal.returns-in_err-blocks-clause-ends
returns-in_err-blocks-clause-ends g c = let p = err_from_is_err_and c.from_residual.result c.from_residual.ensures.1 in ends_write_read _ _ c.page_blocks.result c.from_residual.result _ p.0 c.in_err-blocks.was p.1 p.2 c.page_blocks.ensures.read.ends

pub returns-in_err-blocks-clause-small : goal.returns-in_err-blocks-clause-small
returns-in_err-blocks-clause-small g c = let p = err_from_is_err_and c.from_residual.result c.from_residual.ensures.1 in (read_unrefused c.from_residual.result _ _ p.1 p.2).1

pub returns-in_err-blocks-clause-spacious : goal.returns-in_err-blocks-clause-spacious
returns-in_err-blocks-clause-spacious g c = let p = err_from_is_err_and c.from_residual.result c.from_residual.ensures.1 in (read_unrefused c.from_residual.result _ _ p.1 p.2).0

pub write_pages-requires-clause-file : goal.write_pages-requires-clause-file
write_pages-requires-clause-file g c = sym c.requires.inode.kind ∙ c.requires.file

pub write_pages-requires-clause-blocks : goal.write_pages-requires-clause-blocks
write_pages-requires-clause-blocks g c =
    let x = g.V.Blocks.seen c.args.v.now in
    let one = c.in-Some.ensures in
    ap (λ b. b ∷ []) (direct_page x.words c.args.i.0 c.args.inode.now (inl (c.requires.inode, omega (arith, c.requires.file))) (c.args.off / 4096) c.in-Some.b.0 one.0 (omega (arith, c.requires.some, c.requires.within)) one.2)

pub write_pages-requires-clause-to : goal.write_pages-requires-clause-to
write_pages-requires-clause-to g c = let one = c.in-Some.ensures in let end = one.1 in omega (arith, end, c.div_ceil-end.ensures)

pub write_pages-requires-clause-few : goal.write_pages-requires-clause-few
write_pages-requires-clause-few g c = let one = c.in-Some.ensures in let low = one.0 in omega (arith, low)

pub write_pages-requires-clause-pages : goal.write_pages-requires-clause-pages
write_pages-requires-clause-pages g c = omega (arith, c.requires.some, c.requires.within)

pub write_pages-requires-2-clause-ready : goal.write_pages-requires-2-clause-ready
write_pages-requires-2-clause-ready g c =
    let shape = c.args.shape.now in
    let x = g.V.Blocks.seen c.args.v.now in
    let k = g.V.Volume.kept c.args.v.now in
    let y = g.V.Blocks.seen c.page_blocks.new.v in
    let j = g.V.Volume.kept c.page_blocks.new.v in
    let call = c.page_blocks.ensures in
    let looked : LeavesInUse (volume_layout shape x.words) x k y j = leaves_looked shape _ _ _ _ x y k j c.requires.ready call.read.looks (g.met.V.Volume.passes_keeps _ _ call.read.passed) in
    ready_left shape x k y j c.requires.ready looked

pub write_pages-requires-2-clause-file : goal.write_pages-requires-2-clause-file
write_pages-requires-2-clause-file g c = ap (λ (f : BlockWords). (placed_at f c.args.i.0).kind) c.page_blocks.ensures.read.looks.looks.words ∙ sym c.requires.inode.kind ∙ c.requires.file

pub write_pages-requires-2-clause-size : goal.write_pages-requires-2-clause-size
write_pages-requires-2-clause-size g c = c.requires.inode.size ∙ sym (ap (λ (f : BlockWords). (placed_at f c.args.i.0).size) c.page_blocks.ensures.read.looks.looks.words)

pub write_pages-requires-2-clause-to : goal.write_pages-requires-2-clause-to
write_pages-requires-2-clause-to g c =
    let shape = c.args.shape.now in
    let x = g.V.Blocks.seen c.args.v.now in
    let i = c.args.i.0 in
    let blocks = numbers c.deref.result.now in
    let file : (placed_at x.words i).kind ≡ 2 = sym c.requires.inode.kind ∙ c.requires.file in
    let over = pages_over (volume_layout shape x.words) i c.args.off (length c.args.bytes.now) c.args.inode.now.size c.div_ceil-end.result blocks c.requires.ino file c.requires.inode.size c.requires.some c.requires.within c.div_ceil-end.ensures (ap numbers c.deref.ensures.value ∙ c.in_ok-blocks.ensures.value) in
    let many = as_many c.deref.result.now in
    let reach = over.1 in
    omega (arith, many, reach)

pub write_pages-requires-2-clause-few : goal.write_pages-requires-2-clause-few
write_pages-requires-2-clause-few g c =
    let shape = c.args.shape.now in
    let x = g.V.Blocks.seen c.args.v.now in
    let i = c.args.i.0 in
    let blocks = numbers c.deref.result.now in
    let file : (placed_at x.words i).kind ≡ 2 = sym c.requires.inode.kind ∙ c.requires.file in
    let over = pages_over (volume_layout shape x.words) i c.args.off (length c.args.bytes.now) c.args.inode.now.size c.div_ceil-end.result blocks c.requires.ino file c.requires.inode.size c.requires.some c.requires.within c.div_ceil-end.ensures (ap numbers c.deref.ensures.value ∙ c.in_ok-blocks.ensures.value) in
    let many = as_many c.deref.result.now in
    let most : c.args.inode.now.size ≤ largest_size = given_most shape x.words i c.args.inode.now (numbered_of shape x.words c.requires.ready.order.mapped) c.requires.ino (inl (c.requires.inode, omega (arith, c.requires.file))) in
    let reach = over.2 in
    omega (arith, most, many, reach)

pub write_pages-requires-2-clause-pages : goal.write_pages-requires-2-clause-pages
write_pages-requires-2-clause-pages g c =
    let shape = c.args.shape.now in
    let x = g.V.Blocks.seen c.args.v.now in
    let i = c.args.i.0 in
    let blocks = numbers c.deref.result.now in
    let file : (placed_at x.words i).kind ≡ 2 = sym c.requires.inode.kind ∙ c.requires.file in
    let over = pages_over (volume_layout shape x.words) i c.args.off (length c.args.bytes.now) c.args.inode.now.size c.div_ceil-end.result blocks c.requires.ino file c.requires.inode.size c.requires.some c.requires.within c.div_ceil-end.ensures (ap numbers c.deref.ensures.value ∙ c.in_ok-blocks.ensures.value) in
    let many = as_many c.deref.result.now in
    let reach = over.2 in
    omega (arith, many, reach)

pub write_pages-requires-2-clause-blocks : goal.write_pages-requires-2-clause-blocks
write_pages-requires-2-clause-blocks g c =
    let x = g.V.Blocks.seen c.args.v.now in
    let y = g.V.Blocks.seen c.page_blocks.new.v in
    let i = c.args.i.0 in
    looked_blocks x.words y.words i (c.args.off / 4096) (c.div_ceil-end.result - c.args.off / 4096) c.deref.result.now c.page_blocks.ensures.read.looks.looks.words (ap numbers c.deref.ensures.value ∙ c.in_ok-blocks.ensures.value)

pub returns-clause-leaves : goal.returns-clause-leaves
returns-clause-leaves g c =
    let shape = c.args.shape.now in
    let x = g.V.Blocks.seen c.args.v.now in
    let k = g.V.Volume.kept c.args.v.now in
    let y = g.V.Blocks.seen c.page_blocks.new.v in
    let j = g.V.Volume.kept c.page_blocks.new.v in
    let call = c.page_blocks.ensures in
    let looked : LeavesInUse (volume_layout shape x.words) x k y j = leaves_looked shape _ _ _ _ x y k j c.requires.ready call.read.looks (g.met.V.Volume.passes_keeps _ _ call.read.passed) in
    write_after shape x k y j (g.V.Blocks.seen c.write_pages-2.new.v) (g.V.Volume.kept c.write_pages-2.new.v) c.args.i.0 c.args.off c.args.bytes.now c.write_pages-2.result c.requires.ready call.read.looks.looks.words looked c.write_pages-2.ensures.leaves

pub returns-clause-goes : goal.returns-clause-goes
returns-clause-goes g c = (g.met.V.Volume.passes_keeps _ _ c.page_blocks.ensures.read.passed).goes then c.write_pages-2.ensures.goes

pub returns-clause-ends : goal.returns-clause-ends
returns-clause-ends g c = ends_by_after _ _ _ _ _ c.page_blocks.ensures.read.ends.later (read_runs _ _ _ c.in_ok-blocks.ensures.read.ends) c.write_pages-2.ensures.ends

pub page_blocks-requires-clause-can : goal.page_blocks-requires-clause-can
page_blocks-requires-clause-can g c = record { keeps = (search rules); meets = can_look_up c.args.shape.now _ c.requires.ready.order.has_shape c.requires.ready.order.mapped c.requires.ready.order.named }
