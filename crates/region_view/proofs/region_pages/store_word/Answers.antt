use Rattle.rio_base.proofs.Frames.{vol_ends}
use Rattle.std.proofs.Common.{rules}
use Rattle.region_view.proofs.Common.{arith, inl, refl, ◌∙◌, ◌then◌, err_from_is_err_and}
use Rattle.node_pages.proofs.EndsOn.{ends_vol, if_err}
use Rattle.rio_base.proofs.BlockRules.{ends_later}
use Rattle.rio_model.proofs.RegionMoves.{rest_same}
use Rattle.region_view.proofs.RegionPlaces.{can_name, ready_read, reads_ready, one_either, one_put, one_same_but, page_below, page_done, rest_by, still_word}
use Rattle.region_view.proofs.RunEnds.{ok_as}
use Rattle.region_view.proofs.region_pages.store_word.Goals as goal

pub store-requires-clause-place : goal.store-requires-clause-place
store-requires-clause-place g c = record {
  block = page_below c.args.shape.now _ c.args.i.0 c.args.at c.in_ok-b.b.0 c.page_block.ensures.read.looks.can c.in_ok-b.ensures.page;
  word = omega arith;
}

pub store-requires-clause-name : goal.store-requires-clause-name
store-requires-clause-name g c = can_name c.args.shape.now _ c.args.i.0 c.args.at c.in_ok-b.b.0 _ c.page_block.ensures.read.looks.can c.in_ok-b.ensures.page c.page_name.ensures

pub store-requires-clause-idle : goal.store-requires-clause-idle
store-requires-clause-idle g c = (ready_read c.args.shape.now _ _ _ _ _ _ _ _ c.requires.ready c.page_block.ensures.read.looks.can c.page_block.ensures.read.looks.words (g.met.V.Volume.passes_keeps _ _ c.page_block.ensures.read.passed)).idle

pub returns-in_err-b-clause-ok : goal.returns-in_err-b-clause-ok
returns-in_err-b-clause-ok g c = if_err c.from_residual.result _ c.from_residual.ensures.0

pub returns-in_err-b-clause-fault : goal.returns-in_err-b-clause-fault
returns-in_err-b-clause-fault g c = λ is. still_word c.args.shape.now _ _ c.args.i.0 c.page_block.ensures.read.looks.words

pub returns-in_err-b-clause-either : goal.returns-in_err-b-clause-either
returns-in_err-b-clause-either g c = inl (still_word c.args.shape.now _ _ c.args.i.0 c.page_block.ensures.read.looks.words)

pub returns-in_err-b-clause-rest : goal.returns-in_err-b-clause-rest
returns-in_err-b-clause-rest g c = rest_same c.args.shape.now c.args.i.0 _ _ c.page_block.ensures.read.looks.words

pub returns-in_err-b-clause-goes : goal.returns-in_err-b-clause-goes
returns-in_err-b-clause-goes g c = (g.met.V.Volume.passes_keeps _ _ c.page_block.ensures.read.passed).goes

pub returns-in_err-b-clause-ends : goal.returns-in_err-b-clause-ends
returns-in_err-b-clause-ends g c =
    let p = err_from_is_err_and c.from_residual.result c.from_residual.ensures.1 in
    ends_vol _ _ c.page_block.result c.from_residual.result _ p.0 c.in_err-b.was p.1 p.2 (vol_ends _ _ _ c.page_block.ensures.read.ends)

pub returns-clause-ok : goal.returns-clause-ok
returns-clause-ok g c = ok_as c.store.result _ _ (one_put c.args.shape.now _ _ _ c.args.i.0 c.args.at c.in_ok-b.b.0 _ c.args.word c.page_block.ensures.read.looks.can c.in_ok-b.ensures.page refl c.page_block.ensures.read.looks.words) c.store.ensures.ok

pub returns-clause-either : goal.returns-clause-either
returns-clause-either g c = one_either c.args.shape.now _ _ _ c.args.i.0 c.args.at c.in_ok-b.b.0 _ c.args.word c.page_block.ensures.read.looks.can c.in_ok-b.ensures.page refl c.page_block.ensures.read.looks.words c.store.ensures.either

pub returns-clause-rest : goal.returns-clause-rest
returns-clause-rest g c = rest_by c.args.shape.now _ _ _ c.args.i.0 c.args.at c.in_ok-b.b.0 c.page_block.ensures.read.looks.can c.in_ok-b.ensures.page c.page_block.ensures.read.looks.words (one_same_but _ _ c.in_ok-b.b.0 _ c.args.word c.store.ensures.either)

pub returns-clause-ready : goal.returns-clause-ready
returns-clause-ready g c = (page_done c.args.shape.now (g.V.Blocks.seen c.page_block.new.v) (g.V.Volume.kept c.page_block.new.v) _ _ c.args.i.0 c.args.at c.in_ok-b.b.0 _ (ready_read c.args.shape.now _ _ _ _ _ _ _ _ c.requires.ready c.page_block.ensures.read.looks.can c.page_block.ensures.read.looks.words (g.met.V.Volume.passes_keeps _ _ c.page_block.ensures.read.passed)) c.in_ok-b.ensures.page c.page_name.ensures c.store.ensures.count (one_same_but _ _ c.in_ok-b.b.0 _ c.args.word c.store.ensures.either) c.store.ensures.firm c.store.ensures.caches c.store.ensures.idle).ready

pub returns-clause-goes : goal.returns-clause-goes
returns-clause-goes g c = (g.met.V.Volume.passes_keeps _ _ c.page_block.ensures.read.passed).goes then c.store.ensures.goes

pub returns-clause-fault : goal.returns-clause-fault
returns-clause-fault g c = λ is. still_word c.args.shape.now _ _ c.args.i.0 ((c.store.ensures.fault is).0 ∙ c.page_block.ensures.read.looks.words)

pub returns-clause-ends : goal.returns-clause-ends
returns-clause-ends g c = ends_later _ _ _ c.store.result (vol_ends _ _ _ c.in_ok-b.ensures.read.ends).later (vol_ends _ _ _ c.in_ok-b.ensures.read.ends).cause c.store.ensures.ends

pub returns-in_err-b-clause-ready : goal.returns-in_err-b-clause-ready
returns-in_err-b-clause-ready g c = ready_read c.args.shape.now _ _ _ _ _ _ _ _ c.requires.ready c.page_block.ensures.read.looks.can c.page_block.ensures.read.looks.words (g.met.V.Volume.passes_keeps _ _ c.page_block.ensures.read.passed)

pub page_block-requires-clause-can : goal.page_block-requires-clause-can
page_block-requires-clause-can g c = record { keeps = (search rules); meets = reads_ready c.args.shape.now _ _ c.requires.ready }
