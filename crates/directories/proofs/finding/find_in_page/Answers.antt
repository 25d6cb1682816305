use Rattle.rio_base.proofs.Frames.{read_then, read_more, read_ok, read_on}
use Rattle.directories.proofs.Common.{◌*◌, ◌<◌, ◌∙◌, ◌-◌, ◌/◌, ℕ, min, sym, ap, subst, IfOk, BlockWords, held, placed_at, look_trans, arith}
use Rattle.directories.specs.Reading.{FindsIn}
use Rattle.directories.proofs.CanRead.{block_on, can_page, can_stays, dir_held, dir_size, has_page, looked_page, page_below, page_on}
use Rattle.directories.proofs.Found.{finds_held, finds_in_page}
use Rattle.directories.proofs.finding.find_in_page.Goals as goal

pub page_block-requires-clause-page : goal.page_block-requires-clause-page
page_block-requires-clause-page g c = has_page c.args.shape.now (g.V.Blocks.seen c.args.v.now) c.args.dir.0 c.args.p _ c.requires.can.meets c.requires.inode.size c.requires.page

pub find_in_block-requires-clause-block : goal.find_in_block-requires-clause-block
find_in_block-requires-clause-block g c =
    let x = g.V.Blocks.seen c.args.v.now in
    let y = g.V.Blocks.seen c.page_block.new.v in
    let call = c.in_ok-b.ensures in
    let has = has_page c.args.shape.now x c.args.dir.0 c.args.p _ c.requires.can.meets c.requires.inode.size c.requires.page in
    page_below c.args.shape.now y c.args.dir.0 c.args.p c.in_ok-b.b.0 call.can (page_on x y c.args.dir.0 c.args.p call.read.looks.looks.words has) (block_on x y c.args.dir.0 c.args.p c.in_ok-b.b.0 call.read.looks.looks.words call.value)

pub find_in_block-requires-clause-can_name : goal.find_in_block-requires-clause-can_name
find_in_block-requires-clause-can_name g c =
    let x = g.V.Blocks.seen c.args.v.now in
    let y = g.V.Blocks.seen c.page_block.new.v in
    let call = c.in_ok-b.ensures in
    let has = has_page c.args.shape.now x c.args.dir.0 c.args.p _ c.requires.can.meets c.requires.inode.size c.requires.page in
    can_page c.args.shape.now y c.args.dir.0 c.args.p c.in_ok-b.b.0 call.can (page_on x y c.args.dir.0 c.args.p call.read.looks.looks.words has) (block_on x y c.args.dir.0 c.args.p c.in_ok-b.b.0 call.read.looks.looks.words call.value)

pub returns-clause-value : goal.returns-clause-value
returns-clause-value g c =
    let shape = c.args.shape.now in
    let x = g.V.Blocks.seen c.args.v.now in
    let n = placed_at x.words c.args.dir.0 in
    let call = c.in_ok-b.ensures in
    let size = c.requires.inode.size in
    finds_held (held x.words n) _ c.args.p c.args.name.now c.find_in_block.result (sym (dir_held shape x c.args.dir.0 c.requires.can.meets))
    (finds_in_page x.words n c.args.p c.in_ok-b.b.0 c.entries_in_page-count.result c.args.name.now c.find_in_block.result
    (has_page shape x c.args.dir.0 c.args.p _ c.requires.can.meets size c.requires.page).used
    (dir_size shape x c.args.dir.0 c.requires.can.meets)
    (subst (λ (s : ℕ). 4096 * c.args.p < s) size c.requires.page)
    (c.entries_in_page-count.ensures ∙ ap (λ (s : ℕ). min (s / 64 - 64 * c.args.p) 64) size)
    c.requires.key.few call.value
    (subst (λ (f : BlockWords). IfOk c.find_in_block.result (FindsIn (f c.in_ok-b.b.0) c.entries_in_page-count.result c.args.name.now)) call.read.looks.looks.words c.find_in_block.ensures.value))

pub find_in_block-requires-clause-few : goal.find_in_block-requires-clause-few
find_in_block-requires-clause-few g c =
    let count = c.entries_in_page-count.ensures in
    omega (arith, count)

pub returns-in_err-b-clause-read : goal.returns-in_err-b-clause-read
returns-in_err-b-clause-read g c = read_on c.page_block.result c.from_residual.result c.in_err-b.was c.from_residual.ensures.1 c.page_block.ensures.read

pub returns-clause-read : goal.returns-clause-read
returns-clause-read g c = read_then g.met.V.Blocks.passes_trans (look_trans c.args.shape.now) (read_ok c.page_block.result _ c.in_ok-b.was c.page_block.ensures.read) (read_more (let shape = c.args.shape.now in
    let x = g.V.Blocks.seen c.args.v.now in
    let y = g.V.Blocks.seen c.page_block.new.v in
    let call = c.in_ok-b.ensures in
    let has = has_page shape x c.args.dir.0 c.args.p _ c.requires.can.meets c.requires.inode.size c.requires.page in
    (looked_page shape y _ c.args.dir.0 c.args.p c.in_ok-b.b.0 call.can (page_on x y c.args.dir.0 c.args.p call.read.looks.looks.words has) (block_on x y c.args.dir.0 c.args.p c.in_ok-b.b.0 call.read.looks.looks.words call.value) c.find_in_block.ensures.read.looks c.find_in_block.ensures.caches)) c.find_in_block.ensures.read)

pub returns-clause-can : goal.returns-clause-can
returns-clause-can g c = can_stays c.args.shape.now _ _ c.args.dir.0 c.requires.can.meets (returns-clause-read g c).looks

pub page_block-requires-clause-can : goal.page_block-requires-clause-can
page_block-requires-clause-can g c = c.requires.can
