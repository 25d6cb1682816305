use Rattle.request_ends.proofs.Reading.{can_read, file_served}
use Rattle.request_ends.proofs.Common.{subst, sym, err_from_is_err_and, IsInode}
use Rattle.request_ends.proofs.CallEnds.{ends_ok, ends_on, well}
use Rattle.node_making.proofs.RegionFound.{found_on}
use Rattle.region_view.proofs.RegionStood.{few_bytes, on_region}
use Rattle.node_making.proofs.standing.stand_at.Goals as goal

pub returns-in_err-i-clause-found : goal.returns-in_err-i-clause-found
returns-in_err-i-clause-found g c =
    let p = err_from_is_err_and c.from_residual.result c.from_residual.ensures.1 in
    λ s reads. found_on s c.args.path.now c.region_at.result c.from_residual.result _ p.0 c.in_err-i.was p.1 p.2 (c.region_at.ensures.found s reads)

pub returns-in_err-i-clause-ends : goal.returns-in_err-i-clause-ends
returns-in_err-i-clause-ends g c =
    let p = err_from_is_err_and c.from_residual.result c.from_residual.ensures.1 in
    ends_on _ _ c.region_at.result c.from_residual.result _ p.0 c.in_err-i.was p.1 p.2 c.region_at.ensures.read.ends

pub region_words-view-requires : goal.region_words-view-requires
region_words-view-requires g c = record { few = few_bytes c.args.view.now.shape (g.V.Blocks.seen c.args.view.now.v).words c.in_ok-i.i.0 c.in_ok-i.inode c.requires.can.ready.order.mapped c.in_ok-i.ensures.region c.in_ok-i.ensures.inode }

pub returns-clause-found : goal.returns-clause-found
returns-clause-found g c = λ s reads. c.in_ok-i.ensures.found s reads

pub returns-clause-on : goal.returns-clause-on
returns-clause-on g c = on_region c.args.view.now.shape (g.V.Blocks.seen c.args.view.now.v) (g.V.Blocks.seen c.region_at.new.v) (g.V.Volume.kept c.region_at.new.v) c.in_ok-i.i.0 _ c.in_ok-i.inode (file_served g.met.V.Volume.passes_keeps c.requires.can c.region_at.ensures.read).can.ready c.region_at.ensures.read.looks.looks.words c.in_ok-i.ensures.region c.in_ok-i.ensures.inode c.region_words-view.ensures

pub returns-clause-inode : goal.returns-clause-inode
returns-clause-inode g c = subst (λ f. IsInode f c.in_ok-i.i.0 c.in_ok-i.inode) (sym c.region_at.ensures.read.looks.looks.words) c.in_ok-i.ensures.inode

pub returns-clause-ends : goal.returns-clause-ends
returns-clause-ends g c = ends_ok _ _ _ (well _ _ c.region_at.result _ c.in_ok-i.was c.region_at.ensures.read.ends)

pub region_at-requires-clause-can : goal.region_at-requires-clause-can
region_at-requires-clause-can g c = can_read c.requires.sound c.requires.can

pub returns-in_err-i-clause-goes : goal.returns-in_err-i-clause-goes
returns-in_err-i-clause-goes g c = (g.met.V.Volume.passes_keeps _ _ c.region_at.ensures.read.passed).goes

pub returns-in_err-i-clause-words : goal.returns-in_err-i-clause-words
returns-in_err-i-clause-words g c = c.region_at.ensures.read.looks.looks.words

pub returns-in_err-i-clause-ready : goal.returns-in_err-i-clause-ready
returns-in_err-i-clause-ready g c = (file_served g.met.V.Volume.passes_keeps c.requires.can c.region_at.ensures.read).can.ready

pub returns-clause-goes : goal.returns-clause-goes
returns-clause-goes g c = (g.met.V.Volume.passes_keeps _ _ c.region_at.ensures.read.passed).goes

pub returns-clause-words : goal.returns-clause-words
returns-clause-words g c = c.region_at.ensures.read.looks.looks.words

pub returns-clause-ready : goal.returns-clause-ready
returns-clause-ready g c = (file_served g.met.V.Volume.passes_keeps c.requires.can c.region_at.ensures.read).can.ready
