use Rattle.std.proofs.Common.{rules}
use Rattle.node_pages.proofs.EndsOn.{if_err}
use Rattle.node_pages.proofs.Ends.{ends_read, ends_read_ok, read_runs, read_still, read_still_memory}
use Rattle.file_pages.proofs.Common.{◌≡◌, ◌/◌, ◌∙◌, length, sym, ap, subst, arith, inl, placed_at, volume_layout, AllNamed, numbers, err_from_is_err_and, ends_by_after, le_trans, IsMapped}
use Rattle.node_pages.specs.LookingUp.{page_blocks}
use Rattle.node_pages.proofs.LookingUpRules.{look_trans, named_on, can_look_up, look_refl}
use Rattle.node_pages.proofs.Given.{direct_page}
use Rattle.file_pages.proofs.PageRead.{many_blocks}
use Rattle.file_pages.proofs.reading.read_bytes.Goals as goal

pub push_pages-requires-clause-named : goal.push_pages-requires-clause-named
push_pages-requires-clause-named g c =
    let shape = c.args.shape.now in
    let looks = c.page_blocks.ensures.read.looks in
    let y = g.V.Blocks.seen c.page_blocks.new.v in
    subst (λ f. AllNamed (volume_layout shape f) y) (sym looks.looks.words) (named_on shape _ y c.requires.mapped c.requires.named looks)

pub push_pages-requires-clause-blocks : goal.push_pages-requires-clause-blocks
push_pages-requires-clause-blocks g c =
    let x = g.V.Blocks.seen c.args.v.now in
    let i = c.args.i.0 in
    let first = c.args.off / 4096 in
    let is = c.in_ok-blocks.ensures.value in
    let many = many_blocks c.in_ok-blocks.blocks.items (placed_at x.words i) first _ is in
    ap numbers c.deref.ensures.value ∙ is ∙ (λ q. page_blocks (placed_at (sym c.page_blocks.ensures.read.looks.looks.words q) i) first ((sym many ∙ sym (ap length c.deref.ensures.value)) q))

pub push_pages-requires-clause-all : goal.push_pages-requires-clause-all
push_pages-requires-clause-all g c =
    let x = g.V.Blocks.seen c.args.v.now in
    let many = many_blocks c.in_ok-blocks.blocks.items (placed_at x.words c.args.i.0) (c.args.off / 4096) _ c.in_ok-blocks.ensures.value in
    let same = ap length c.deref.ensures.value in
    omega (arith, many, same, c.div_ceil-last.ensures, c.if-off-end.false)

pub returns-in_err-push_pages-clause-looks : goal.returns-in_err-push_pages-clause-looks
returns-in_err-push_pages-clause-looks g c = look_trans _ _ _ _ c.page_blocks.ensures.read.looks c.push_pages.ensures.looks

pub returns-clause-looks : goal.returns-clause-looks
returns-clause-looks g c = look_trans _ _ _ _ c.page_blocks.ensures.read.looks c.push_pages.ensures.looks

pub returns-in_err-blocks-clause-ends : goal.returns-in_err-blocks-clause-ends
returns-in_err-blocks-clause-ends g c = let p = err_from_is_err_and c.from_residual-in_err-blocks.result c.from_residual-in_err-blocks.ensures.1 in ends_read _ _ _ c.from_residual-in_err-blocks.result _ p.0 c.in_err-blocks.was p.1 p.2 c.page_blocks.ensures.read.ends

pub returns-in_err-push_pages-clause-passes : goal.returns-in_err-push_pages-clause-passes
returns-in_err-push_pages-clause-passes g c = g.met.V.Blocks.passes_trans _ _ _ c.page_blocks.ensures.read.passed c.push_pages.ensures.passes

pub returns-clause-passes : goal.returns-clause-passes
returns-clause-passes g c = g.met.V.Blocks.passes_trans _ _ _ c.page_blocks.ensures.read.passed c.push_pages.ensures.passes

pub returns-in_err-push_pages-clause-ends : goal.returns-in_err-push_pages-clause-ends
returns-in_err-push_pages-clause-ends g c = let p = err_from_is_err_and c.from_residual-in_err-push_pages.result c.from_residual-in_err-push_pages.ensures.1 in ends_by_after _ _ _ _ _ c.page_blocks.ensures.read.ends.later (read_runs _ _ _ c.in_ok-blocks.ensures.read.ends) (ends_read _ _ _ c.from_residual-in_err-push_pages.result _ p.0 c.in_err-push_pages.was p.1 p.2 c.push_pages.ensures.ends)

pub returns-clause-ends : goal.returns-clause-ends
returns-clause-ends g c = ends_read_ok _ _ _ (le_trans c.page_blocks.ensures.read.ends.later c.push_pages.ensures.ends.later) (read_runs _ _ _ c.in_ok-push_pages.ensures.ends ∙ read_runs _ _ _ c.in_ok-blocks.ensures.read.ends)

pub read_in_page-requires-clause-block : goal.read_in_page-requires-clause-block
read_in_page-requires-clause-block g c =
    let x = g.V.Blocks.seen c.args.v.now in
    let file : c.args.inode.now.kind ≡ 2 = c.requires.inode.kind ∙ c.requires.file in
    let one = c.in-Some.ensures in
    direct_page x.words c.args.i.0 c.args.inode.now (inl (c.requires.inode, omega (arith, file))) (c.args.off / 4096) c.in-Some.b.0 one.0 (omega (arith, c.requires.within, c.if-off-end.false)) one.2

pub returns-in_err-out-clause-ends : goal.returns-in_err-out-clause-ends
returns-in_err-out-clause-ends g c = let p = err_from_is_err_and c.from_residual.result c.from_residual.ensures.1 in read_still_memory _ c.from_residual.result p.0 p.1 p.2

pub returns-in_err-out-clause-looks : goal.returns-in_err-out-clause-looks
returns-in_err-out-clause-looks g c = look_refl c.args.shape.now _ (can_look_up c.args.shape.now _ c.requires.shape c.requires.mapped c.requires.named)

pub returns-in_err-out-clause-passes : goal.returns-in_err-out-clause-passes
returns-in_err-out-clause-passes g c = g.met.V.Blocks.passes_refl _

pub returns-in_err-out-clause-value : goal.returns-in_err-out-clause-value
returns-in_err-out-clause-value g c = if_err c.from_residual.result _ c.from_residual.ensures.0

pub returns-then-off-end-clause-ends : goal.returns-then-off-end-clause-ends
returns-then-off-end-clause-ends g c = read_still _ _

pub returns-then-off-end-clause-looks : goal.returns-then-off-end-clause-looks
returns-then-off-end-clause-looks g c = look_refl c.args.shape.now _ (can_look_up c.args.shape.now _ c.requires.shape c.requires.mapped c.requires.named)

pub returns-then-off-end-clause-passes : goal.returns-then-off-end-clause-passes
returns-then-off-end-clause-passes g c = g.met.V.Blocks.passes_refl _

pub returns-in_err-blocks-clause-value : goal.returns-in_err-blocks-clause-value
returns-in_err-blocks-clause-value g c = if_err c.from_residual-in_err-blocks.result _ c.from_residual-in_err-blocks.ensures.0

pub returns-in_err-push_pages-clause-value : goal.returns-in_err-push_pages-clause-value
returns-in_err-push_pages-clause-value g c = if_err c.from_residual-in_err-push_pages.result _ c.from_residual-in_err-push_pages.ensures.0

pub page_blocks-requires-clause-inode : goal.page_blocks-requires-clause-inode
page_blocks-requires-clause-inode g c = inl (c.requires.inode, omega (arith, c.requires.inode.kind, c.requires.file))

pub page_blocks-requires-clause-order : goal.page_blocks-requires-clause-order
page_blocks-requires-clause-order g c = omega (arith, c.div_ceil-last.ensures, c.if-off-end.false)

pub push_pages-requires-clause-mapped : goal.push_pages-requires-clause-mapped
push_pages-requires-clause-mapped g c = subst (IsMapped c.args.shape.now) (sym c.page_blocks.ensures.read.looks.looks.words) c.requires.mapped

pub push_pages-requires-clause-file : goal.push_pages-requires-clause-file
push_pages-requires-clause-file g c = subst (λ f. (placed_at f c.args.i.0).kind ≡ 2) (sym c.page_blocks.ensures.read.looks.looks.words) c.requires.file

pub push_pages-requires-clause-size : goal.push_pages-requires-clause-size
push_pages-requires-clause-size g c = subst (λ f. (placed_at f c.args.i.0).size ≡ c.args.inode.now.size) (sym c.page_blocks.ensures.read.looks.looks.words) (sym c.requires.inode.size)

pub push_pages-requires-clause-order : goal.push_pages-requires-clause-order
push_pages-requires-clause-order g c = omega (arith, c.if-off-end.false)

pub read_in_page-requires-clause-size : goal.read_in_page-requires-clause-size
read_in_page-requires-clause-size g c = sym c.requires.inode.size

pub read_in_page-requires-clause-order : goal.read_in_page-requires-clause-order
read_in_page-requires-clause-order g c = omega (arith, c.if-off-end.false)

pub page_blocks-requires-clause-can : goal.page_blocks-requires-clause-can
page_blocks-requires-clause-can g c = record { keeps = (search rules); meets = can_look_up c.args.shape.now _ c.requires.shape c.requires.mapped c.requires.named }
