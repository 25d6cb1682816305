use Rattle.rio_base.proofs.Frames.{can_on, read_then, read_ok, filled_ok, filled_value, filled_memory, filled_on, filled_read}
use Rattle.node_pages.specs.Changes.{PlansFor}
use Rattle.node_pages.proofs.EndsOn.{if_err}
use Rattle.node_pages.proofs.Common.{◌≡◌, ◌-◌, ◌∙◌, ap, arith, numbers, BlockWords, placed_at, lies_self, table_of, pages, tables, subst, sym, inl}
use Rattle.std.specs.Prelude.{nat_eq}
use Rattle.node_pages.specs.LookingUp.{page_blocks}
use Rattle.node_pages.proofs.LookingUpRules.{look_trans}
use Rattle.node_pages.proofs.Listed.{table_is, table_test, whole_numbers}
use Rattle.node_pages.proofs.numbers.blocks_of.Goals as goal

pub returns-clause-value : goal.returns-clause-value
returns-clause-value g c =
    let f = (g.V.Blocks.seen c.args.v.now).words in
    let i = c.args.i.0 in
    let n = placed_at f i in
    let inode = c.in_ok-inode.inode in
    let own = c.in_ok-inode.ensures.value in
    let looked = c.in_ok-inode.ensures.read.looks.looks.words in
    let counts = nat_eq c.table_count.result 1 in
    let size = own.size in
    ap numbers c.from.ensures ∙ whole_numbers n inode.indirect counts c.in_ok-blocks.blocks.items c.push_table.new.blocks.items
    (c.in_ok-blocks.ensures.value ∙ ap (λ (h : BlockWords). page_blocks (placed_at h i) 0 (c.page_count-count.result - 0)) looked ∙ ap (page_blocks n 0) (let is : c.page_count-count.result - 0 ≡ pages n.size = (let a = c.page_count-count.ensures.pages in let b = ap pages size in omega (arith, a, b)) in is))
    c.in_ok-push_table.ensures
    (table_test c.table_count.result inode.size n.size c.table_count.ensures.tables size)
    (λ on. own.indirect ∙ table_of f i n 0 (lies_self f i) (record { used = c.requires.used; within = (let one = table_is c.table_count.result on in let t = c.table_count.ensures.tables in let b = ap tables size in omega (arith, one, t, b)) }))

pub page_blocks-requires-clause-inode : goal.page_blocks-requires-clause-inode
page_blocks-requires-clause-inode g c = let own = c.in_ok-inode.ensures.value in let used = c.requires.used in subst (λ (f : BlockWords). PlansFor f c.args.i.0 c.in_ok-inode.inode) (sym c.look_inode.ensures.read.looks.looks.words) (inl (own, omega (arith, own.kind, used)))

pub page_blocks-requires-clause-order : goal.page_blocks-requires-clause-order
page_blocks-requires-clause-order g c = omega arith

pub page_blocks-requires-clause-within : goal.page_blocks-requires-clause-within
page_blocks-requires-clause-within g c = omega (arith, c.page_count-count.ensures.pages)

pub returns-in_err-blocks-clause-value : goal.returns-in_err-blocks-clause-value
returns-in_err-blocks-clause-value g c = if_err c.from_residual-in_err-blocks.result _ c.from_residual-in_err-blocks.ensures.0

pub returns-in_err-inode-clause-value : goal.returns-in_err-inode-clause-value
returns-in_err-inode-clause-value g c = if_err c.from_residual.result _ c.from_residual.ensures.0

pub returns-in_err-push_table-clause-value : goal.returns-in_err-push_table-clause-value
returns-in_err-push_table-clause-value g c = if_err c.from_residual-in_err-push_table.result _ c.from_residual-in_err-push_table.ensures.0

pub returns-in_err-blocks-clause-read : goal.returns-in_err-blocks-clause-read
returns-in_err-blocks-clause-read g c = read_then g.met.V.Blocks.passes_trans (look_trans c.args.shape.now) (read_ok c.look_inode.result _ c.in_ok-inode.was c.look_inode.ensures.read) (filled_on c.page_blocks.result c.from_residual-in_err-blocks.result c.in_err-blocks.was c.from_residual-in_err-blocks.ensures.1 c.page_blocks.ensures.read)

pub returns-in_err-push_table-clause-read : goal.returns-in_err-push_table-clause-read
returns-in_err-push_table-clause-read g c = filled_memory c.from_residual-in_err-push_table.result c.from_residual-in_err-push_table.ensures.1 (read_then g.met.V.Blocks.passes_trans (look_trans c.args.shape.now) (read_ok c.look_inode.result _ c.in_ok-inode.was c.look_inode.ensures.read) (filled_ok c.page_blocks.result _ c.in_ok-blocks.was c.page_blocks.ensures.read))

pub returns-clause-read : goal.returns-clause-read
returns-clause-read g c = filled_value _ (read_then g.met.V.Blocks.passes_trans (look_trans c.args.shape.now) (read_ok c.look_inode.result _ c.in_ok-inode.was c.look_inode.ensures.read) (filled_ok c.page_blocks.result _ c.in_ok-blocks.was c.page_blocks.ensures.read))

pub returns-in_err-inode-clause-read : goal.returns-in_err-inode-clause-read
returns-in_err-inode-clause-read g c = filled_read c.look_inode.result c.from_residual.result c.in_err-inode.was c.from_residual.ensures.1 c.look_inode.ensures.read

pub look_inode-requires-clause-can : goal.look_inode-requires-clause-can
look_inode-requires-clause-can g c = c.requires.can

pub page_blocks-requires-clause-can : goal.page_blocks-requires-clause-can
page_blocks-requires-clause-can g c = can_on c.look_inode.ensures.read (λ s. s.still)
