use Rattle.rio_base.proofs.Frames.{read_then, read_more, read_ok, filled_read}
use Rattle.directories.proofs.Common.{◌*◌, ◌<◌, ◌∙◌, ◌-◌, ◌/◌, ◌%◌, ◌^◌, ◌≤◌, ℕ, map, min, sym, ap, subst, range_with_len, BlockWords, Held, entry_name, held_of, placed_at, look_trans, arith}
use Rattle.directories.specs.Entries.{name_in}
use Rattle.directories.proofs.CanRead.{block_on, can_page, can_stays, dir_held, dir_size, has_page, looked_page, page_below, page_on}
use Rattle.directories.proofs.Listed.{names_on, names_short, page_names, short_in_page}
use Rattle.directories.proofs.listing.push_page_names.Goals as goal

pub page_block-requires-clause-page : goal.page_block-requires-clause-page
page_block-requires-clause-page g c = has_page c.args.shape.now (g.V.Blocks.seen c.args.v.now) c.args.dir.0 c.args.p _ c.requires.can.meets c.requires.inode.size c.requires.page

pub push_block_names-requires-clause-block : goal.push_block_names-requires-clause-block
push_block_names-requires-clause-block g c =
    let x = g.V.Blocks.seen c.args.v.now in
    let y = g.V.Blocks.seen c.page_block.new.v in
    let call = c.in_ok-b.ensures in
    let has = has_page c.args.shape.now x c.args.dir.0 c.args.p _ c.requires.can.meets c.requires.inode.size c.requires.page in
    page_below c.args.shape.now y c.args.dir.0 c.args.p c.in_ok-b.b.0 call.can (page_on x y c.args.dir.0 c.args.p call.read.looks.looks.words has) (block_on x y c.args.dir.0 c.args.p c.in_ok-b.b.0 call.read.looks.looks.words call.value)

pub push_block_names-requires-clause-can_name : goal.push_block_names-requires-clause-can_name
push_block_names-requires-clause-can_name g c =
    let x = g.V.Blocks.seen c.args.v.now in
    let y = g.V.Blocks.seen c.page_block.new.v in
    let call = c.in_ok-b.ensures in
    let has = has_page c.args.shape.now x c.args.dir.0 c.args.p _ c.requires.can.meets c.requires.inode.size c.requires.page in
    can_page c.args.shape.now y c.args.dir.0 c.args.p c.in_ok-b.b.0 call.can (page_on x y c.args.dir.0 c.args.p call.read.looks.looks.words has) (block_on x y c.args.dir.0 c.args.p c.in_ok-b.b.0 call.read.looks.looks.words call.value)

pub push_block_names-requires-clause-short : goal.push_block_names-requires-clause-short
push_block_names-requires-clause-short g c =
    let shape = c.args.shape.now in
    let x = g.V.Blocks.seen c.args.v.now in
    let n = placed_at x.words c.args.dir.0 in
    let call = c.in_ok-b.ensures in
    let size = c.requires.inode.size in
    subst (λ (f : BlockWords). (k : ℕ) → k < c.entries_in_page-count.result → f c.in_ok-b.b.0 (8 * k) / 2 ^ 32 % 2 ^ 8 ≤ 56) (sym call.read.looks.looks.words)
    (short_in_page x.words n c.args.p c.in_ok-b.b.0 c.entries_in_page-count.result
    (has_page shape x c.args.dir.0 c.args.p _ c.requires.can.meets size c.requires.page).used
    (dir_size shape x c.args.dir.0 c.requires.can.meets)
    (subst (λ (s : ℕ). 4096 * c.args.p < s) size c.requires.page)
    (c.entries_in_page-count.ensures ∙ ap (λ (s : ℕ). min (s / 64 - 64 * c.args.p) 64) size)
    call.value (names_short shape x c.args.dir.0 c.requires.can.meets))

pub returns-clause-value : goal.returns-clause-value
returns-clause-value g c =
    let shape = c.args.shape.now in
    let x = g.V.Blocks.seen c.args.v.now in
    let n = placed_at x.words c.args.dir.0 in
    let call = c.in_ok-b.ensures in
    let size = c.requires.inode.size in
    let count = c.entries_in_page-count.ensures in
    names_on c.args.names.now c.push_block_names.new.names _ _ c.push_block_names.result
    (ap (λ (f : BlockWords). map (name_in (f c.in_ok-b.b.0)) (range_with_len 0 c.entries_in_page-count.result)) call.read.looks.looks.words
    ∙ page_names x.words n c.args.p c.in_ok-b.b.0 c.entries_in_page-count.result
    (has_page shape x c.args.dir.0 c.args.p _ c.requires.can.meets size c.requires.page).used
    (dir_size shape x c.args.dir.0 c.requires.can.meets)
    (subst (λ (s : ℕ). 4096 * c.args.p < s) size c.requires.page)
    (count ∙ ap (λ (s : ℕ). min (s / 64 - 64 * c.args.p) 64) size)
    call.value (names_short shape x c.args.dir.0 c.requires.can.meets)
    ∙ ap (λ (h : Held). map (entry_name h) (range_with_len (64 * c.args.p) c.entries_in_page-count.result)) (sym (dir_held shape x c.args.dir.0 c.requires.can.meets))
    ∙ ap (λ m. map (entry_name (held_of shape x.words c.args.dir.0)) (range_with_len (64 * c.args.p) m)) count)
    c.push_block_names.ensures.value

pub push_block_names-requires-clause-few : goal.push_block_names-requires-clause-few
push_block_names-requires-clause-few g c =
    let count = c.entries_in_page-count.ensures in
    omega (arith, count)

pub returns-in_err-b-clause-read : goal.returns-in_err-b-clause-read
returns-in_err-b-clause-read g c = filled_read c.page_block.result c.from_residual.result c.in_err-b.was c.from_residual.ensures.1 c.page_block.ensures.read

pub returns-clause-read : goal.returns-clause-read
returns-clause-read g c = read_then g.met.V.Blocks.passes_trans (look_trans c.args.shape.now) (read_ok c.page_block.result _ c.in_ok-b.was c.page_block.ensures.read) (read_more (let shape = c.args.shape.now in
    let x = g.V.Blocks.seen c.args.v.now in
    let y = g.V.Blocks.seen c.page_block.new.v in
    let call = c.in_ok-b.ensures in
    let has = has_page shape x c.args.dir.0 c.args.p _ c.requires.can.meets c.requires.inode.size c.requires.page in
    (looked_page shape y _ c.args.dir.0 c.args.p c.in_ok-b.b.0 call.can (page_on x y c.args.dir.0 c.args.p call.read.looks.looks.words has) (block_on x y c.args.dir.0 c.args.p c.in_ok-b.b.0 call.read.looks.looks.words call.value) c.push_block_names.ensures.read.looks c.push_block_names.ensures.caches)) c.push_block_names.ensures.read)

pub returns-clause-can : goal.returns-clause-can
returns-clause-can g c = can_stays c.args.shape.now _ _ c.args.dir.0 c.requires.can.meets (returns-clause-read g c).looks

pub page_block-requires-clause-can : goal.page_block-requires-clause-can
page_block-requires-clause-can g c = c.requires.can
