use Rattle.rio_base.proofs.Frames.{vol_ends}
use Rattle.std.proofs.Common.{rules}
use Rattle.rio_base.proofs.BlockRules.{ends_later}
use Rattle.node_pages.proofs.LookingUpRules.{can_look_up}
use Rattle.node_pages.proofs.EndsOn.{ends_vol, if_err}
use Rattle.file_pages.proofs.Common.{◌≡◌, ◌/◌, ◌%◌, true, subst, arith, ◌then◌, placed_at, volume_layout, NamedNode, BlockWords, ap, err_from_is_err_and, held, held_bytes}
use Rattle.file_pages.specs.Storing.{KeepsFront, NamedAs, TailCleared, ZerosFrom}
use Rattle.node_pages.proofs.OrderRules.{leaves_looked, ready_left}
use Rattle.file_pages.proofs.Stored.{bytes_front, last_page, on_both, stores_after, stores_looked}
use Rattle.file_pages.proofs.clearing.clear_tail.Goals as goal

pub returns-in_err-b-clause-stores : goal.returns-in_err-b-clause-stores
returns-in_err-b-clause-stores g c = stores_looked c.args.shape.now _ _ _ _ _ _ _ _ c.args.i.0 c.requires.ino c.requires.ready c.block_of.ensures.read.looks (g.met.V.Volume.passes_keeps _ _ c.block_of.ensures.read.passed)

pub clear_page-requires-clause-ready : goal.clear_page-requires-clause-ready
clear_page-requires-clause-ready g c = ready_left c.args.shape.now _ _ _ _ c.requires.ready (leaves_looked c.args.shape.now _ _ _ _ _ _ _ _ c.requires.ready c.block_of.ensures.read.looks (g.met.V.Volume.passes_keeps _ _ c.block_of.ensures.read.passed))

pub returns-clause-cleared : goal.returns-clause-cleared
returns-clause-cleared g c =
    let f = (g.V.Blocks.seen c.args.v.now).words in
    let z = g.V.Blocks.seen c.clear_page.new.v in
    let i = c.args.i.0 in
    let size = c.args.size in
    let b = c.in_ok-b.b.0 in
    on_both (ZerosFrom z.words b (size % 4096)) (z.cached b ≡ true → NamedAs i c.args.len (size / 4096) (z.names b)) (TailCleared f z i size c.args.len) c.clear_page.result c.clear_page.ensures.cleared c.clear_page.ensures.named
    (λ zeros named. last_page f z i size c.args.len b c.requires.file c.requires.size (omega (arith, c.if-at-eq0.false)) c.in_ok-b.ensures.value zeros named (subst (λ w. NamedNode i (placed_at w i) z) c.block_of.ensures.read.looks.looks.words c.clear_page.ensures.stores.named))

pub returns-clause-bytes : goal.returns-clause-bytes
returns-clause-bytes g c =
    let f = (g.V.Blocks.seen c.args.v.now).words in
    let z = g.V.Blocks.seen c.clear_page.new.v in
    let b = c.in_ok-b.b.0 in
    bytes_front (volume_layout c.args.shape.now f) f z.words c.args.i.0 c.args.size b c.requires.ready.order.mapped.laid c.requires.ino c.requires.file c.requires.size c.in_ok-b.ensures.value (omega (arith, c.if-at-eq0.false))
    (subst (λ w. KeepsFront w z.words b (c.args.size % 4096)) c.block_of.ensures.read.looks.looks.words c.clear_page.ensures.front)

pub returns-clause-stores : goal.returns-clause-stores
returns-clause-stores g c = stores_after c.args.shape.now _ _ _ _ _ _ _ _ _ _ c.args.i.0 c.requires.ino c.requires.ready c.block_of.ensures.read.looks (g.met.V.Volume.passes_keeps _ _ c.block_of.ensures.read.passed) c.clear_page.ensures.stores

pub returns-clause-goes : goal.returns-clause-goes
returns-clause-goes g c = (g.met.V.Volume.passes_keeps _ _ c.block_of.ensures.read.passed).goes then c.clear_page.ensures.goes

pub returns-in_err-b-clause-goes : goal.returns-in_err-b-clause-goes
returns-in_err-b-clause-goes g c = (g.met.V.Volume.passes_keeps _ _ c.block_of.ensures.read.passed).goes

pub returns-clause-ends : goal.returns-clause-ends
returns-clause-ends g c = ends_later _ _ _ _ (vol_ends _ _ _ c.block_of.ensures.read.ends).later (vol_ends _ _ _ c.in_ok-b.ensures.read.ends).cause c.clear_page.ensures.ends

pub returns-in_err-b-clause-ends : goal.returns-in_err-b-clause-ends
returns-in_err-b-clause-ends g c = let p = err_from_is_err_and c.from_residual.result c.from_residual.ensures.1 in ends_vol _ _ c.block_of.result c.from_residual.result _ p.0 c.in_err-b.was p.1 p.2 (vol_ends _ _ _ c.block_of.ensures.read.ends)

pub returns-in_err-b-clause-cleared : goal.returns-in_err-b-clause-cleared
returns-in_err-b-clause-cleared g c = if_err c.from_residual.result _ c.from_residual.ensures.0

pub returns-in_err-b-clause-bytes : goal.returns-in_err-b-clause-bytes
returns-in_err-b-clause-bytes g c = ap (λ (f : BlockWords). held_bytes (held f (placed_at (g.V.Blocks.seen c.args.v.now).words c.args.i.0))) c.block_of.ensures.read.looks.looks.words

pub clear_page-requires-clause-place : goal.clear_page-requires-clause-place
clear_page-requires-clause-place g c = omega arith

pub block_of-requires-clause-can : goal.block_of-requires-clause-can
block_of-requires-clause-can g c = record { keeps = (search rules); meets = can_look_up c.args.shape.now _ c.requires.ready.order.has_shape c.requires.ready.order.mapped c.requires.ready.order.named }
