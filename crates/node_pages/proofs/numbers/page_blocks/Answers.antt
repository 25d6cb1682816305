use Rattle.rio_base.proofs.Frames.{read_none, filled_ok, filled_value, filled_memory, filled_on}
use Rattle.node_pages.proofs.LookingUpRules.{look_refl}
use Rattle.node_pages.proofs.EndsOn.{if_err}
use Rattle.node_pages.proofs.Common.{◌-◌, ◌<◌, ◌≤◌, ◌++◌, ◌∙◌, ap, arith, AtPage, AtTable, placed_at, first_table, pages, numbers}
use Rattle.node_pages.specs.Changes.{given_node}
use Rattle.node_pages.specs.LookingUp.{page_blocks}
use Rattle.node_pages.proofs.Given.{given_most, given_of}
use Rattle.node_pages.proofs.Listed.{blocks_joined}
use Rattle.node_pages.proofs.numbers.page_blocks.Goals as goal

pub returns-then-middle-end-clause-value : goal.returns-then-middle-end-clause-value
returns-then-middle-end-clause-value g c =
    let f = (g.V.Blocks.seen c.args.v.now).words in
    let i = c.args.i.0 in
    let all = given_of f i c.args.inode.now c.requires.inode in
    c.in_ok-push_direct.ensures (placed_at f i) (λ p low high. all.direct p (omega (arith, low, high, c.min-middle.ensures, c.max.ensures)) (record { used = all.used; within = (let most = c.requires.within in omega (arith, high, most, c.min-middle.ensures, c.max.ensures)) }))
    ∙ ap (λ xs. numbers xs ++ page_blocks (placed_at f i) c.args.first (c.min-middle.result - c.args.first)) c.new-blocks.ensures.items
    ∙ ap (λ e. page_blocks (placed_at f i) c.args.first (e - c.args.first)) c.if-middle-end.true

pub push_later-requires-clause-table : goal.push_later-requires-clause-table
push_later-requires-clause-table g c =
    let f = (g.V.Blocks.seen c.args.v.now).words in
    let i = c.args.i.0 in
    let all = given_of f i c.args.inode.now c.requires.inode in
    let past : 24 ≤ c.min-middle.result = omega (arith, c.if-middle-end.false, c.min-middle.ensures, c.max.ensures) in
    let most = c.requires.within in
    all.indirect 0 (first_table (given_node f i c.args.inode.now) c.min-middle.result (record { used = all.used; within = (omega (arith, most, c.if-middle-end.false, c.min-middle.ensures, c.max.ensures)) }) past)

pub push_later-requires-clause-owns : goal.push_later-requires-clause-owns
push_later-requires-clause-owns g c =
    let f = (g.V.Blocks.seen c.args.v.now).words in
    let i = c.args.i.0 in
    let all = given_of f i c.args.inode.now c.requires.inode in
    let past : 24 ≤ c.min-middle.result = omega (arith, c.if-middle-end.false, c.min-middle.ensures, c.max.ensures) in
    let most = c.requires.within in
    record { ino = c.requires.ino; slot = all.back (AtTable 0) (first_table (given_node f i c.args.inode.now) c.min-middle.result (record { used = all.used; within = (omega (arith, most, c.if-middle-end.false, c.min-middle.ensures, c.max.ensures)) }) past) }

pub push_later-requires-clause-within : goal.push_later-requires-clause-within
push_later-requires-clause-within g c =
    let f = (g.V.Blocks.seen c.args.v.now).words in
    let i = c.args.i.0 in
    let all = given_of f i c.args.inode.now c.requires.inode in
    let most = c.requires.within in
    let last : c.args.end - 1 < pages (placed_at f i).size = (all.back (AtPage (c.args.end - 1)) (record { used = all.used; within = (omega (arith, most, c.if-middle-end.false, c.min-middle.ensures, c.max.ensures)) })).within in
    omega (arith, last)

pub push_later-requires-clause-most : goal.push_later-requires-clause-most
push_later-requires-clause-most g c =
    let size = given_most c.args.shape.now (g.V.Blocks.seen c.args.v.now).words c.args.i.0 c.args.inode.now c.requires.can.meets.numbered c.requires.ino c.requires.inode in
    let most = c.requires.within in
    omega (arith, size, most)

pub returns-clause-value : goal.returns-clause-value
returns-clause-value g c =
    let f = (g.V.Blocks.seen c.args.v.now).words in
    let i = c.args.i.0 in
    let all = given_of f i c.args.inode.now c.requires.inode in
    c.in_ok-blocks.ensures.value
    ∙ ap (λ xs. xs ++ page_blocks (placed_at f i) c.min-middle.result (c.args.end - c.min-middle.result))
    (c.in_ok-push_direct.ensures (placed_at f i) (λ p low high. all.direct p (omega (arith, low, high, c.min-middle.ensures, c.max.ensures)) (record { used = all.used; within = (let most = c.requires.within in omega (arith, high, most, c.min-middle.ensures, c.max.ensures)) }))
    ∙ ap (λ xs. numbers xs ++ page_blocks (placed_at f i) c.args.first (c.min-middle.result - c.args.first)) c.new-blocks.ensures.items)
    ∙ blocks_joined (placed_at f i) c.args.first c.min-middle.result c.args.end (omega (arith, c.min-middle.ensures, c.max.ensures, c.requires.order)) (omega (arith, c.min-middle.ensures))

pub push_later-requires-clause-order : goal.push_later-requires-clause-order
push_later-requires-clause-order g c = omega (arith, c.if-middle-end.false, c.min-middle.ensures)

pub push_later-requires-clause-past : goal.push_later-requires-clause-past
push_later-requires-clause-past g c = omega (arith, c.if-middle-end.false, c.min-middle.ensures, c.max.ensures)

pub push_direct-requires-clause-few : goal.push_direct-requires-clause-few
push_direct-requires-clause-few g c = omega (arith, c.min-middle.ensures, c.max.ensures)

pub push_direct-requires-clause-order : goal.push_direct-requires-clause-order
push_direct-requires-clause-order g c = omega (arith, c.min-middle.ensures, c.max.ensures, c.requires.order)

pub returns-in_err-blocks-clause-value : goal.returns-in_err-blocks-clause-value
returns-in_err-blocks-clause-value g c = if_err c.from_residual-in_err-blocks.result _ c.from_residual-in_err-blocks.ensures.0

pub returns-in_err-push_direct-clause-value : goal.returns-in_err-push_direct-clause-value
returns-in_err-push_direct-clause-value g c = if_err c.from_residual.result _ c.from_residual.ensures.0

pub returns-in_err-blocks-clause-read : goal.returns-in_err-blocks-clause-read
returns-in_err-blocks-clause-read g c = filled_on c.push_later.result c.from_residual-in_err-blocks.result c.in_err-blocks.was c.from_residual-in_err-blocks.ensures.1 c.push_later.ensures.read

pub returns-clause-read : goal.returns-clause-read
returns-clause-read g c = filled_value _ (filled_ok c.push_later.result _ c.in_ok-blocks.was c.push_later.ensures.read)

pub returns-in_err-push_direct-clause-read : goal.returns-in_err-push_direct-clause-read
returns-in_err-push_direct-clause-read g c = filled_memory c.from_residual.result c.from_residual.ensures.1 (read_none (g.met.V.Blocks.passes_refl _) (look_refl c.args.shape.now _ c.requires.can.meets) c.requires.can.keeps)

pub returns-then-middle-end-clause-read : goal.returns-then-middle-end-clause-read
returns-then-middle-end-clause-read g c = filled_value _ (read_none (g.met.V.Blocks.passes_refl _) (look_refl c.args.shape.now _ c.requires.can.meets) c.requires.can.keeps)

pub push_later-requires-clause-can : goal.push_later-requires-clause-can
push_later-requires-clause-can g c = c.requires.can
