use Rattle.rio_base.proofs.Frames.{vol_ends}
use Rattle.region_view.proofs.Common.{◌<◌, arith, err_from_is_err_and, ready_left, refl, subst, sym, IsInode}
use Rattle.node_pages.proofs.EndsOn.{ends_vol, ends_vol_ok, if_err}
use Rattle.region_view.proofs.RunEnds.{on_err}
use Rattle.region_view.proofs.RegionStood.{few_bytes, on_region}
use Rattle.region_view.proofs.UsedInodes.{leaves_inode}
use Rattle.region_view.proofs.region_view.RegionView.point.Goals as goal

pub read_inode-requires-clause-can : goal.read_inode-requires-clause-can
read_inode-requires-clause-can g c = record { keeps = c.requires.sound; meets = c.requires.ready.order.has_shape }

pub read_inode-requires-clause-kind : goal.read_inode-requires-clause-kind
read_inode-requires-clause-kind g c = (c.requires.ready.order.mapped.laid.kinds.each _ c.requires.ino).0

pub returns-in_err-inode-clause-leaves : goal.returns-in_err-inode-clause-leaves
returns-in_err-inode-clause-leaves g c = leaves_inode c.args.self.now.shape _ _ _ _ _ _ _ _ c.args.i.0 c.requires.ready (subst (λ n. 0 < n) (sym c.requires.region) (omega arith)) c.read_inode.ensures.read.looks.looks c.read_inode.ensures.caches (g.met.V.Volume.passes_keeps _ _ c.read_inode.ensures.read.passed)

pub returns-in_err-inode-clause-ready : goal.returns-in_err-inode-clause-ready
returns-in_err-inode-clause-ready g c = ready_left c.args.self.now.shape (g.V.Blocks.seen c.args.self.now.v) (g.V.Volume.kept c.args.self.now.v) (g.V.Blocks.seen c.read_inode.new.v) (g.V.Volume.kept c.read_inode.new.v) c.requires.ready (returns-in_err-inode-clause-leaves g c)

pub returns-clause-leaves : goal.returns-clause-leaves
returns-clause-leaves g c = leaves_inode c.args.self.now.shape _ _ _ _ _ _ _ _ c.args.i.0 c.requires.ready (subst (λ n. 0 < n) (sym c.requires.region) (omega arith)) c.read_inode.ensures.read.looks.looks c.read_inode.ensures.caches (g.met.V.Volume.passes_keeps _ _ c.read_inode.ensures.read.passed)

pub returns-clause-ready : goal.returns-clause-ready
returns-clause-ready g c = ready_left c.args.self.now.shape (g.V.Blocks.seen c.args.self.now.v) (g.V.Volume.kept c.args.self.now.v) (g.V.Blocks.seen c.read_inode.new.v) (g.V.Volume.kept c.read_inode.new.v) c.requires.ready (returns-clause-leaves g c)

pub region_words-self-requires : goal.region_words-self-requires
region_words-self-requires g c = record { few = few_bytes c.args.self.now.shape (g.V.Blocks.seen c.args.self.now.v).words c.args.i.0 c.in_ok-inode.inode c.requires.ready.order.mapped c.requires.region c.in_ok-inode.ensures.value }

pub returns-clause-ok : goal.returns-clause-ok
returns-clause-ok g c = (on_region c.args.self.now.shape (g.V.Blocks.seen c.args.self.now.v) (g.V.Blocks.seen c.read_inode.new.v) (g.V.Volume.kept c.read_inode.new.v) c.args.i.0 _ c.in_ok-inode.inode (returns-clause-ready g c) c.read_inode.ensures.read.looks.looks.words c.requires.region c.in_ok-inode.ensures.value c.region_words-self.ensures, refl)

pub returns-clause-inode : goal.returns-clause-inode
returns-clause-inode g c = subst (λ f. IsInode f c.args.i.0 c.in_ok-inode.inode) (sym c.read_inode.ensures.read.looks.looks.words) c.in_ok-inode.ensures.value

pub returns-in_err-inode-clause-ok : goal.returns-in_err-inode-clause-ok
returns-in_err-inode-clause-ok g c = if_err c.from_residual.result _ c.from_residual.ensures.0

pub returns-in_err-inode-clause-inode : goal.returns-in_err-inode-clause-inode
returns-in_err-inode-clause-inode g c = if_err c.from_residual.result _ c.from_residual.ensures.0

pub returns-in_err-inode-clause-err : goal.returns-in_err-inode-clause-err
returns-in_err-inode-clause-err g c = on_err c.from_residual.result _ (refl, refl)

pub returns-in_err-inode-clause-kept : goal.returns-in_err-inode-clause-kept
returns-in_err-inode-clause-kept g c = on_err c.from_residual.result _ refl

pub returns-in_err-inode-clause-goes : goal.returns-in_err-inode-clause-goes
returns-in_err-inode-clause-goes g c = (g.met.V.Volume.passes_keeps _ _ c.read_inode.ensures.read.passed).goes

pub returns-in_err-inode-clause-ends : goal.returns-in_err-inode-clause-ends
returns-in_err-inode-clause-ends g c =
    let p = err_from_is_err_and c.from_residual.result c.from_residual.ensures.1 in
    ends_vol _ _ c.read_inode.result c.from_residual.result _ p.0 c.in_err-inode.was p.1 p.2 (vol_ends _ _ _ c.read_inode.ensures.read.ends)

pub returns-clause-goes : goal.returns-clause-goes
returns-clause-goes g c = (g.met.V.Volume.passes_keeps _ _ c.read_inode.ensures.read.passed).goes

pub returns-clause-ends : goal.returns-clause-ends
returns-clause-ends g c = ends_vol_ok _ _ _ (vol_ends _ _ _ c.in_ok-inode.ensures.read.ends).later (vol_ends _ _ _ c.in_ok-inode.ensures.read.ends).cause
