use Rattle.rio_base.proofs.Frames.{read_none, read_ok, read_value, read_on}
use Rattle.node_pages.proofs.LookingUpRules.{look_refl}
use Rattle.node_pages.proofs.EndsOn.{if_err}
use Rattle.node_pages.proofs.Common.{ℕ, ◌-◌, ◌/◌, ◌∙◌, ap, arith, AtPage, AtTable, first_table, pages}
use Rattle.rio_base.specs.Layout.{half}
use Rattle.node_pages.specs.Changes.{given_node}
use Rattle.node_pages.proofs.Given.{given_of}
use Rattle.node_pages.proofs.Looked.{later_value}
use Rattle.node_pages.proofs.planning.last_number.Goals as goal

pub table_word-requires-clause-table : goal.table_word-requires-clause-table
table_word-requires-clause-table g c =
    let f = (g.V.Blocks.seen c.args.v.now).words in
    let i = c.args.i.0 in
    let given = c.args.inode.now in
    let all = given_of f i given c.requires.inode in
    let many = c.if-have-le-DIRECT_PAGES.false in
    let is = c.page_count-have.ensures.pages in
    all.indirect 0 (first_table (given_node f i given) (c.page_count-have.result - 1) (record { used = all.used; within = (omega (arith, many, is)) }) (omega (arith, many)))

pub table_word-requires-clause-owns : goal.table_word-requires-clause-owns
table_word-requires-clause-owns g c =
    let f = (g.V.Blocks.seen c.args.v.now).words in
    let i = c.args.i.0 in
    let given = c.args.inode.now in
    let all = given_of f i given c.requires.inode in
    let many = c.if-have-le-DIRECT_PAGES.false in
    let is = c.page_count-have.ensures.pages in
    record { ino = c.requires.ino; slot = all.back (AtTable 0) (first_table (given_node f i given) (c.page_count-have.result - 1) (record { used = all.used; within = (omega (arith, many, is)) }) (omega (arith, many))) }

pub returns-clause-value : goal.returns-clause-value
returns-clause-value g c = λ many odd.
    let f = (g.V.Blocks.seen c.args.v.now).words in
    let i = c.args.i.0 in
    let given = c.args.inode.now in
    let all = given_of f i given c.requires.inode in
    let is = c.page_count-have.ensures.pages in
    let last = pages given.size - 1 in
    later_value f i last c.in_ok-word.word _ ((c.page_count-have.result - 1 - 24) / 2) (omega (arith, many)) (all.back (AtPage last) (record { used = all.used; within = (omega (arith, many)) })) (omega (arith, is)) c.in_ok-word.ensures.value (c.number_in.ensures ∙ ap (λ (h : ℕ). half c.in_ok-word.word (h - 1)) is)

pub returns-in_err-word-clause-value : goal.returns-in_err-word-clause-value
returns-in_err-word-clause-value g c = if_err c.from_residual.result _ c.from_residual.ensures.0

pub returns-clause-read : goal.returns-clause-read
returns-clause-read g c = read_value _ (read_ok c.table_word.result _ c.in_ok-word.was c.table_word.ensures.read)

pub returns-in_err-word-clause-read : goal.returns-in_err-word-clause-read
returns-in_err-word-clause-read g c = read_on c.table_word.result c.from_residual.result c.in_err-word.was c.from_residual.ensures.1 c.table_word.ensures.read

pub returns-then-have-le-DIRECT_PAGES-clause-read : goal.returns-then-have-le-DIRECT_PAGES-clause-read
returns-then-have-le-DIRECT_PAGES-clause-read g c = read_value _ (read_none (g.met.V.Blocks.passes_refl _) (look_refl c.args.shape.now _ c.requires.can.meets) c.requires.can.keeps)

pub table_word-requires-clause-can : goal.table_word-requires-clause-can
table_word-requires-clause-can g c = c.requires.can
