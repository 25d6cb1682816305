use Rattle.rio_base.proofs.Frames.{can_on, read_then, read_ok, read_value, read_on}
use Rattle.node_pages.proofs.EndsOn.{if_err}
use Rattle.node_pages.proofs.Common.{◌-◌, ◌/◌, ◌∙◌, ap, sym, refl, arith, BlockWords, AtTable, placed_at, subst, volume_layout, Owns, first_table}
use Rattle.node_pages.proofs.Looked.{direct_value, table_value, later_value}
use Rattle.node_pages.proofs.LookingUpRules.{look_trans}
use Rattle.node_pages.proofs.lookup.block_of.Goals as goal

pub returns-then-index-lt-DIRECT_PAGES-clause-value : goal.returns-then-index-lt-DIRECT_PAGES-clause-value
returns-then-index-lt-DIRECT_PAGES-clause-value g c = direct_value _ c.args.i.0 c.args.index _ _ (omega arith) c.requires.page c.in_ok-word.ensures.value c.number_in.ensures

pub table_word-requires-clause-table : goal.table_word-requires-clause-table
table_word-requires-clause-table g c =
    table_value _ c.args.i.0 c.args.index _ _ (omega arith) c.requires.page c.in_ok-table.ensures.value c.number_in-2.ensures
    ∙ ap (λ (f : BlockWords). (placed_at f c.args.i.0).block (AtTable 0)) (sym c.in_ok-table.ensures.read.looks.looks.words)

pub returns-clause-value : goal.returns-clause-value
returns-clause-value g c =
    later_value _ c.args.i.0 c.args.index _ _ _ (omega arith) c.requires.page refl
    (c.in_ok-word-2.ensures.value ∙ ap (λ (f : BlockWords). f ((placed_at f c.args.i.0).block (AtTable 0)) ((c.args.index - 24) / 2)) c.in_ok-table.ensures.read.looks.looks.words)
    c.number_in-3.ensures

pub returns-in_err-table-clause-value : goal.returns-in_err-table-clause-value
returns-in_err-table-clause-value g c = if_err c.from_residual-in_err-table.result _ c.from_residual-in_err-table.ensures.0

pub returns-in_err-word-2-clause-value : goal.returns-in_err-word-2-clause-value
returns-in_err-word-2-clause-value g c = if_err c.from_residual-in_err-word-2.result _ c.from_residual-in_err-word-2.ensures.0

pub returns-in_err-word-clause-value : goal.returns-in_err-word-clause-value
returns-in_err-word-clause-value g c = if_err c.from_residual.result _ c.from_residual.ensures.0

pub inode_word-requires-clause-word : goal.inode_word-requires-clause-word
inode_word-requires-clause-word g c = omega arith

pub inode_word-requires-2-clause-word : goal.inode_word-requires-2-clause-word
inode_word-requires-2-clause-word g c = omega arith

pub table_word-requires-clause-owns : goal.table_word-requires-clause-owns
table_word-requires-clause-owns g c = subst (λ (f : BlockWords). Owns (volume_layout c.args.shape.now f) c.args.i.0 (AtTable 0)) (sym c.inode_word-2.ensures.read.looks.looks.words) (record { ino = c.requires.ino; slot = first_table _ c.args.index c.requires.page (omega arith) })

pub returns-in_err-word-2-clause-read : goal.returns-in_err-word-2-clause-read
returns-in_err-word-2-clause-read g c = read_then g.met.V.Blocks.passes_trans (look_trans c.args.shape.now) (read_ok c.inode_word-2.result _ c.in_ok-table.was c.inode_word-2.ensures.read) (read_on c.table_word.result c.from_residual-in_err-word-2.result c.in_err-word-2.was c.from_residual-in_err-word-2.ensures.1 c.table_word.ensures.read)

pub returns-clause-read : goal.returns-clause-read
returns-clause-read g c = read_value _ (read_then g.met.V.Blocks.passes_trans (look_trans c.args.shape.now) (read_ok c.inode_word-2.result _ c.in_ok-table.was c.inode_word-2.ensures.read) (read_ok c.table_word.result _ c.in_ok-word-2.was c.table_word.ensures.read))

pub returns-in_err-table-clause-read : goal.returns-in_err-table-clause-read
returns-in_err-table-clause-read g c = read_on c.inode_word-2.result c.from_residual-in_err-table.result c.in_err-table.was c.from_residual-in_err-table.ensures.1 c.inode_word-2.ensures.read

pub returns-in_err-word-clause-read : goal.returns-in_err-word-clause-read
returns-in_err-word-clause-read g c = read_on c.inode_word.result c.from_residual.result c.in_err-word.was c.from_residual.ensures.1 c.inode_word.ensures.read

pub returns-then-index-lt-DIRECT_PAGES-clause-read : goal.returns-then-index-lt-DIRECT_PAGES-clause-read
returns-then-index-lt-DIRECT_PAGES-clause-read g c = read_value _ (read_ok c.inode_word.result _ c.in_ok-word.was c.inode_word.ensures.read)

pub inode_word-requires-clause-can : goal.inode_word-requires-clause-can
inode_word-requires-clause-can g c = c.requires.can

pub inode_word-requires-2-clause-can : goal.inode_word-requires-2-clause-can
inode_word-requires-2-clause-can g c = c.requires.can

pub table_word-requires-clause-can : goal.table_word-requires-clause-can
table_word-requires-clause-can g c = can_on c.inode_word-2.ensures.read (λ s. s.still)
