use Rattle.volume_check.proofs.Common.{ℕ, [], ◌++◌, ◌∷◌, ◌-◌, ◌<◌, ◌≡◌, ◌∙◌, List, ap, arith, subst, sym, AtTable, Block, pages, err_from_is_err_and}
use Rattle.volume_check.specs.Inodes.{layout_of, said}
use Rattle.volume_check.specs.NodeBlocks.{numbers, page_numbers}
use Rattle.volume_check.proofs.Counts.{kind_said, size_said}
use Rattle.volume_check.proofs.NodeNumbers.{few_numbers, free_numbers, many_numbers}
use Rattle.volume_check.proofs.Looking.{looked_err, looked_none, looked_quiet, quiet_memory, refused_err, refused_memory}
use Rattle.volume_check.proofs.numbers.read_numbers.Goals as goal

pub returns-then-kind-eq0-clause-pages : goal.returns-then-kind-eq0-clause-pages
returns-then-kind-eq0-clause-pages g c = λ used. absurd (
    let kind = kind_said (g.V.Blocks.seen c.args.v.now) c.args.inodes.now c.args.i.0 c.requires.inodes c.requires.ino in
    omega (arith, used, kind, c.kind.ensures))

pub returns-then-kind-eq0-clause-numbers : goal.returns-then-kind-eq0-clause-numbers
returns-then-kind-eq0-clause-numbers g c =
    let s = g.V.Blocks.seen c.args.v.now in
    let n = c.args.inodes.now in
    let i = c.args.i.0 in
    let free : said n i 0 ≡ 0 = omega (arith, c.kind.ensures) in
    ap (λ (bs : List Block). numbers bs) c.clear.ensures.items ∙ sym (free_numbers ((layout_of s n).node i) (sym (kind_said s n i c.requires.inodes c.requires.ino) ∙ free))

pub push_direct-requires-clause-end : goal.push_direct-requires-clause-end
push_direct-requires-clause-end g c = omega (arith, c.min.ensures)

pub returns-then-count-le-DIRECT_PAGES-clause-pages : goal.returns-then-count-le-DIRECT_PAGES-clause-pages
returns-then-count-le-DIRECT_PAGES-clause-pages g c = λ used. c.page_count-count.ensures.pages ∙ ap pages (c.size.ensures ∙ size_said (g.V.Blocks.seen c.args.v.now) c.args.inodes.now c.args.i.0 c.requires.inodes c.requires.ino)

pub returns-then-count-le-DIRECT_PAGES-clause-numbers : goal.returns-then-count-le-DIRECT_PAGES-clause-numbers
returns-then-count-le-DIRECT_PAGES-clause-numbers g c =
    let s = g.V.Blocks.seen c.args.v.now in
    let n = c.args.inodes.now in
    let i = c.args.i.0 in
    let node = (layout_of s n).node i in
    let used : 0 < said n i 0 = omega (arith, c.kind.ensures) in
    let count = c.page_count-count.result in
    let few = c.if-count-le-DIRECT_PAGES.true in
    let all : c.min.result ≡ count = omega (arith, c.min.ensures, few) in
    few_numbers node count c.push_direct.new.blocks.items (subst (λ x. 0 < x) (kind_said s n i c.requires.inodes c.requires.ino) used)
    (c.page_count-count.ensures.pages ∙ ap pages (c.size.ensures ∙ size_said s n i c.requires.inodes c.requires.ino)) few
    (c.in_ok-push_direct.ensures s c.requires.inodes ∙ ap (λ (ys : List Block). numbers ys ++ page_numbers node 0 c.min.result) c.clear.ensures.items ∙ ap (page_numbers node 0) all)

pub push_table-requires-clause-used : goal.push_table-requires-clause-used
push_table-requires-clause-used g c = omega (arith, c.kind.ensures)

pub push_table-requires-clause-count : goal.push_table-requires-clause-count
push_table-requires-clause-count g c = c.page_count-count.ensures.pages ∙ ap pages c.size.ensures

pub push_table-requires-clause-past : goal.push_table-requires-clause-past
push_table-requires-clause-past g c = omega arith

pub returns-clause-pages : goal.returns-clause-pages
returns-clause-pages g c = λ used. c.page_count-count.ensures.pages ∙ ap pages (c.size.ensures ∙ size_said (g.V.Blocks.seen c.args.v.now) c.args.inodes.now c.args.i.0 c.requires.inodes c.requires.ino)

pub returns-clause-numbers : goal.returns-clause-numbers
returns-clause-numbers g c =
    let s = g.V.Blocks.seen c.args.v.now in
    let n = c.args.inodes.now in
    let i = c.args.i.0 in
    let node = (layout_of s n).node i in
    let used : 0 < said n i 0 = omega (arith, c.kind.ensures) in
    let count = c.page_count-count.result in
    let whole : c.min.result ≡ 24 = omega (arith, c.min.ensures) in
    many_numbers node count c.push_table.new.blocks.items (subst (λ x. 0 < x) (kind_said s n i c.requires.inodes c.requires.ino) used)
    (c.page_count-count.ensures.pages ∙ ap pages (c.size.ensures ∙ size_said s n i c.requires.inodes c.requires.ino)) (omega arith)
    (c.in_ok-push_table.ensures.numbers ∙ ap (λ (xs : List ℕ). (xs ++ page_numbers node 24 (count - 24)) ++ (node.block (AtTable 0) ∷ [])) (c.in_ok-push_direct.ensures s c.requires.inodes ∙ ap (λ (ys : List Block). numbers ys ++ page_numbers node 0 c.min.result) c.clear.ensures.items ∙ ap (page_numbers node 0) whole))

pub returns-then-kind-eq0-clause-looked : goal.returns-then-kind-eq0-clause-looked
returns-then-kind-eq0-clause-looked g c = looked_none g.V.Blocks.seen g.V.Blocks.health g.V.Blocks.sound g.V.Blocks.passes c.args.v.now _ (g.met.V.Blocks.passes_refl c.args.v.now) c.requires.can.keeps tt

pub returns-then-count-le-DIRECT_PAGES-clause-looked : goal.returns-then-count-le-DIRECT_PAGES-clause-looked
returns-then-count-le-DIRECT_PAGES-clause-looked g c = looked_none g.V.Blocks.seen g.V.Blocks.health g.V.Blocks.sound g.V.Blocks.passes c.args.v.now _ (g.met.V.Blocks.passes_refl c.args.v.now) c.requires.can.keeps tt

pub returns-in_err-push_direct-clause-unrefused : goal.returns-in_err-push_direct-clause-unrefused
returns-in_err-push_direct-clause-unrefused g c =
    let p = err_from_is_err_and c.from_residual.result c.from_residual.ensures.1 in
    refused_memory (λ _ _. ⊥) c.from_residual.result p.0 p.1 p.2

pub returns-in_err-push_direct-clause-looked : goal.returns-in_err-push_direct-clause-looked
returns-in_err-push_direct-clause-looked g c =
    let p = err_from_is_err_and c.from_residual.result c.from_residual.ensures.1 in
    looked_none g.V.Blocks.seen g.V.Blocks.health g.V.Blocks.sound g.V.Blocks.passes c.args.v.now c.from_residual.result (g.met.V.Blocks.passes_refl c.args.v.now) c.requires.can.keeps (quiet_memory c.from_residual.result p.0 p.1 p.2)

pub returns-in_err-push_table-clause-unrefused : goal.returns-in_err-push_table-clause-unrefused
returns-in_err-push_table-clause-unrefused g c =
    let p = err_from_is_err_and c.from_residual-in_err-push_table.result c.from_residual-in_err-push_table.ensures.1 in
    refused_err (λ _ _. ⊥) (λ _ _. ⊥) c.push_table.result c.from_residual-in_err-push_table.result _ p.0 c.in_err-push_table.was p.1 p.2 (λ rule b h. h) c.push_table.ensures.unrefused

pub returns-in_err-push_table-clause-looked : goal.returns-in_err-push_table-clause-looked
returns-in_err-push_table-clause-looked g c =
    let p = err_from_is_err_and c.from_residual-in_err-push_table.result c.from_residual-in_err-push_table.ensures.1 in
    looked_err g.V.Blocks.seen g.V.Blocks.health g.V.Blocks.sound g.V.Blocks.passes _ _ c.push_table.result c.from_residual-in_err-push_table.result _ p.0 c.in_err-push_table.was p.1 p.2 c.push_table.ensures.looked

pub returns-clause-looked : goal.returns-clause-looked
returns-clause-looked g c = looked_quiet g.V.Blocks.seen g.V.Blocks.health g.V.Blocks.sound g.V.Blocks.passes _ _ _ _ tt tt c.in_ok-push_table.ensures.looked
