use Rattle.rio_base.proofs.Frames.{read_none, read_then, read_ok, read_value, read_on}
use Rattle.directories.proofs.Common.{◌≡◌, ◌<◌, ◌∙◌, ap, arith, sym, subst, BlockWords, Held, IsInode, held_of, look_trans, placed_at}
use Rattle.node_pages.proofs.LookingUpRules.{look_refl}
use Rattle.directories.specs.Reading.{FindsInPage}
use Rattle.directories.proofs.CanRead.{can_look, dir_held, sized}
use Rattle.directories.proofs.Found.{none_next}
use Rattle.node_pages.proofs.EndsOn.{if_err}
use Rattle.directories.proofs.finding.find_in_pages.Goals as goal

pub loop-p-preserved : goal.loop-p-preserved
loop-p-preserved g c =
    let inv = c.loop-p.invariant in
    let x = g.V.Blocks.seen c.args.v.now in
    let call = c.in_ok-i.ensures in
    record {
      none = none_next (held_of c.args.shape.now x.words c.args.dir.0) c.loop-p.p c.args.name.now inv.none (subst (λ found. FindsInPage (held_of c.args.shape.now x.words c.args.dir.0) c.loop-p.p c.args.name.now found) c.in_default.is (subst (λ (f : BlockWords). FindsInPage (held_of c.args.shape.now f c.args.dir.0) c.loop-p.p c.args.name.now c.in_ok-i.field-0) inv.read.looks.looks.words call.value));
      read = read_then g.met.V.Blocks.passes_trans (look_trans c.args.shape.now) c.loop-p.invariant.read (read_ok c.find_in_page.result _ c.in_ok-i.was c.find_in_page.ensures.read);
      can = call.can;
      inode = subst (λ (f : BlockWords). IsInode f c.args.dir.0 c.args.inode.now) (sym call.read.looks.looks.words) inv.inode;
    }

pub loop-p-init : goal.loop-p-init
loop-p-init g c =
    let shape = c.args.shape.now in
    let x = g.V.Blocks.seen c.args.v.now in
    record {
      none = λ j within before same. omega (arith, before);
      read = read_none (g.met.V.Blocks.passes_refl _) (look_refl shape x (can_look shape x c.args.dir.0 c.requires.can.meets)) c.requires.can.keeps;
      can = c.requires.can.meets;
      inode = c.requires.inode;
    }

-- a slot of a directory is small, since its size is
pub overflow_add-result : goal.overflow_add-result
overflow_add-result g c =
    let shape = c.args.shape.now in
    let x = g.V.Blocks.seen c.args.v.now in
    let inv = c.loop-p.invariant in
    let n = placed_at x.words c.args.dir.0 in
    let dir = c.requires.can.meets.dir in
    let used : 0 < n.kind = omega (arith, dir) in
    let fits = c.requires.can.meets.mapped.laid.sizes.each c.args.dir.0 c.requires.can.meets.ino used in
    let at = subst (λ found. FindsInPage (held_of shape x.words c.args.dir.0) c.loop-p.p c.args.name.now found) c.in-Some.is (subst (λ (f : BlockWords). FindsInPage (held_of shape f c.args.dir.0) c.loop-p.p c.args.name.now c.in_ok-i.field-0) inv.read.looks.looks.words c.in_ok-i.ensures.value) in
    let size : (held_of shape x.words c.args.dir.0).size ≡ n.size = ap (λ (h : Held). h.size) (dir_held shape x c.args.dir.0 c.requires.can.meets) ∙ sized x.words n used in
    omega (arith, at.within, size, fits.most)

pub find_in_page-requires-clause-page : goal.find_in_page-requires-clause-page
find_in_page-requires-clause-page g c = omega (arith, c.loop-p-test.true, c.div_ceil-pages.ensures)

pub returns-in-Some-clause-value : goal.returns-in-Some-clause-value
returns-in-Some-clause-value g c =
    let shape = c.args.shape.now in
    let x = g.V.Blocks.seen c.args.v.now in
    subst (λ found. FindsInPage (held_of shape x.words c.args.dir.0) c.loop-p.p c.args.name.now found) c.in-Some.is (subst (λ (f : BlockWords). FindsInPage (held_of shape f c.args.dir.0) c.loop-p.p c.args.name.now c.in_ok-i.field-0) c.loop-p.invariant.read.looks.looks.words c.in_ok-i.ensures.value)

pub returns-clause-value : goal.returns-clause-value
returns-clause-value g c = λ i row.
    let shape = c.args.shape.now in
    let x = g.V.Blocks.seen c.args.v.now in
    let n = placed_at x.words c.args.dir.0 in
    let dir = c.requires.can.meets.dir in
    let used : 0 < n.kind = omega (arith, dir) in
    let size : (held_of shape x.words c.args.dir.0).size ≡ n.size = ap (λ (h : Held). h.size) (dir_held shape x c.args.dir.0 c.requires.can.meets) ∙ sized x.words n used in
    let is = c.requires.inode.size in
    let within = row.1.within in
    c.loop-p.invariant.none row.0 within (omega (arith, within, size, is, c.loop-p-test.false, c.div_ceil-pages.ensures)) row.1.named

pub returns-in_err-i-clause-value : goal.returns-in_err-i-clause-value
returns-in_err-i-clause-value g c = if_err c.from_residual.result _ c.from_residual.ensures.0

pub returns-in_err-i-clause-read : goal.returns-in_err-i-clause-read
returns-in_err-i-clause-read g c = read_then g.met.V.Blocks.passes_trans (look_trans c.args.shape.now) c.loop-p.invariant.read (read_on c.find_in_page.result c.from_residual.result c.in_err-i.was c.from_residual.ensures.1 c.find_in_page.ensures.read)

pub returns-in-Some-clause-read : goal.returns-in-Some-clause-read
returns-in-Some-clause-read g c = read_value _ (read_then g.met.V.Blocks.passes_trans (look_trans c.args.shape.now) c.loop-p.invariant.read (read_ok c.find_in_page.result _ c.in_ok-i.was c.find_in_page.ensures.read))

pub returns-clause-read : goal.returns-clause-read
returns-clause-read g c = read_value _ c.loop-p.invariant.read

pub find_in_page-requires-clause-can : goal.find_in_page-requires-clause-can
find_in_page-requires-clause-can g c = record { keeps = c.loop-p.invariant.read.keeps; meets = c.loop-p.invariant.can }
