use Rattle.rio_base.proofs.Frames.{read_as}
use Rattle.node_pages.proofs.EndsOn.{if_err}
use Rattle.node_pages.proofs.Common.{◌≡◌, ◌-◌, Bool, refl, ap, sym, subst, ◌∙◌, arith, nat_lt, Contains, err_from_is_err_and, numbers, pages, tables}
use Rattle.node_pages.specs.Changes.{given_node}
use Rattle.node_pages.specs.LookingUp.{page_blocks}
use Rattle.node_pages.specs.declared.changes.SizeChange.{SizeChange}
use Rattle.node_pages.proofs.Ends.{ends_size, ends_size_memory, ends_size_ok, unrefused_memory, unrefused_ok, unrefused_read}
use Rattle.node_pages.proofs.Freed.{lost_back, lost_blocks, lost_in, lost_numbers, table_goes}
use Rattle.node_pages.proofs.Given.{given_of}
use Rattle.node_pages.proofs.Shrunk.{MadeShrunk, made_shrinks}
use Rattle.node_pages.proofs.shrinking.plan_shrink.Goals as goal

pub returns-clause-ok : goal.returns-clause-ok
returns-clause-ok g c =
    let shape = c.args.shape.now in
    let f = (g.V.Blocks.seen c.args.v.now).words in
    let i = c.args.i.0 in
    let len = c.args.len in
    let given = c.args.inode.now in
    let n = given_node f i given in
    let all = given_of f i given c.requires.inode in
    let goes : Bool = nat_lt c.table_count.result c.table_count-2.result in
    let goes_is : goes ≡ nat_lt (tables len) (tables n.size) = (λ p. nat_lt (c.table_count.ensures.tables p) (c.table_count-2.ensures.tables p)) in
    let first_is : c.page_count-first.result ≡ pages len = c.page_count-first.ensures.pages in
    let count_is : c.page_count-end.result - c.page_count-first.result ≡ pages n.size - pages len = (let a = c.page_count-first.ensures.pages in let b = c.page_count-end.ensures.pages in omega (arith, a, b)) in
    let lost : numbers c.from-3.result ≡ lost_blocks n len goes = ap numbers c.from-3.ensures ∙ lost_numbers n len given.indirect goes c.in_ok-freed.freed.items c.push_table.new.blocks.items (c.in_ok-freed.ensures.value ∙ (λ p. page_blocks n (first_is p) (count_is p))) c.in_ok-push_table.ensures (λ on. all.indirect 0 (table_goes n len goes all.used goes_is on)) in
    let made : SizeChange = record { inode = record { kind = given.kind; size = len; direct = given.direct; indirect = given.indirect; double = given.double }; edits = c.from.result; taken = c.from-2.result; freed = c.from-3.result } in
    let parts : MadeShrunk shape f i given len made = record {
      laid = c.requires.laid;
      ino = c.requires.ino;
      plans = c.requires.inode;
      less = c.requires.less;
      fits = c.requires.fits;
      kind = refl;
      size = refl;
      direct = refl;
      indirect = refl;
      edits = c.from.ensures ∙ c.new.ensures.items;
      taken = ap numbers (c.from-2.ensures ∙ c.new-2.ensures.items);
      loses = λ s has out. subst (λ xs. Contains xs (n.block s)) (sym lost) (lost_in n len goes goes_is s has out);
      freed = λ b on. lost_back n len b goes all.used c.requires.less goes_is (subst (λ xs. Contains xs b) lost on);
    } in
    record {
      turns = made_shrinks shape f i given len made parts;
      taken = parts.taken;
      edits = parts.edits;
      freed = λ b on. let at = parts.freed b on in (at.0, at.1, at.2, λ has. at.3 (record { used = has.used; within = has.within }));
    }

pub returns-in_err-freed-clause-other : goal.returns-in_err-freed-clause-other
returns-in_err-freed-clause-other g c =
    let p = err_from_is_err_and c.from_residual.result c.from_residual.ensures.1 in
    unrefused_read c.from_residual.result _ p.0 p.1 p.2

pub returns-in_err-push_table-clause-other : goal.returns-in_err-push_table-clause-other
returns-in_err-push_table-clause-other g c =
    let p = err_from_is_err_and c.from_residual-in_err-push_table.result c.from_residual-in_err-push_table.ensures.1 in
    unrefused_memory c.from_residual-in_err-push_table.result p.0 p.1 p.2

pub returns-clause-other : goal.returns-clause-other
returns-clause-other g c = unrefused_ok _

pub returns-in_err-freed-clause-ok : goal.returns-in_err-freed-clause-ok
returns-in_err-freed-clause-ok g c = if_err c.from_residual.result _ c.from_residual.ensures.0

pub returns-in_err-push_table-clause-ok : goal.returns-in_err-push_table-clause-ok
returns-in_err-push_table-clause-ok g c = if_err c.from_residual-in_err-push_table.result _ c.from_residual-in_err-push_table.ensures.0

pub returns-in_err-freed-clause-read : goal.returns-in_err-freed-clause-read
returns-in_err-freed-clause-read g c = read_as c.page_blocks.ensures.read (let p = err_from_is_err_and c.from_residual.result c.from_residual.ensures.1 in
    ends_size _ _ _ c.from_residual.result _ p.0 c.in_err-freed.was p.1 p.2 c.page_blocks.ensures.read.ends)

pub returns-in_err-push_table-clause-read : goal.returns-in_err-push_table-clause-read
returns-in_err-push_table-clause-read g c = read_as c.page_blocks.ensures.read (let p = err_from_is_err_and c.from_residual-in_err-push_table.result c.from_residual-in_err-push_table.ensures.1 in
    ends_size_memory _ _ _ c.from_residual-in_err-push_table.result _ p.0 c.in_ok-freed.was p.1 p.2 c.page_blocks.ensures.read.ends)

pub returns-clause-read : goal.returns-clause-read
returns-clause-read g c = read_as c.page_blocks.ensures.read (ends_size_ok _ _ _ _ _ c.in_ok-freed.was c.page_blocks.ensures.read.ends)

pub page_blocks-requires-clause-can : goal.page_blocks-requires-clause-can
page_blocks-requires-clause-can g c = c.requires.can
