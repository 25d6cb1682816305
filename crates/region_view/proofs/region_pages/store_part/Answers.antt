use Rattle.rio_base.proofs.Frames.{vol_ends}
use Rattle.std.proofs.Common.{rules}
use Rattle.region_view.proofs.Common.{length, le_refl, refl, arith, ◌then◌}
use Rattle.node_pages.proofs.EndsOn.{ends_told}
use Rattle.rio_base.proofs.BlockRules.{ends_later}
use Rattle.rio_model.proofs.RegionMoves.{rest_same}
use Rattle.region_view.proofs.WordsRead.{first_within, run_span}
use Rattle.region_view.proofs.RegionPlaces.{can_name, ready_read, reads_ready, held_none, many_front, many_put, many_same_but, none_held, page_done, rest_by}
use Rattle.region_view.proofs.RunEnds.{fault_as, ok_as}
use Rattle.region_view.proofs.region_pages.store_part.Goals as goal

pub page_block-requires-clause-place : goal.page_block-requires-clause-place
page_block-requires-clause-place g c = first_within c.args.at _ _ c.requires.some c.requires.place

pub store_run-requires-clause-place : goal.store_run-requires-clause-place
store_run-requires-clause-place g c = run_span c.args.shape.now _ c.args.i.0 c.args.at c.in-Ok.b.0 _ c.page_block.ensures.read.looks.can c.in-Ok.ensures.page c.requires.within

pub store_run-requires-clause-name : goal.store_run-requires-clause-name
store_run-requires-clause-name g c = can_name c.args.shape.now _ c.args.i.0 c.args.at c.in-Ok.b.0 _ c.page_block.ensures.read.looks.can c.in-Ok.ensures.page c.page_name.ensures

pub store_run-requires-clause-idle : goal.store_run-requires-clause-idle
store_run-requires-clause-idle g c = (ready_read c.args.shape.now _ _ _ _ _ _ _ _ c.requires.ready c.page_block.ensures.read.looks.can c.page_block.ensures.read.looks.words (g.met.V.Volume.passes_keeps _ _ c.page_block.ensures.read.passed)).idle

pub returns-in-Ok-clause-ok : goal.returns-in-Ok-clause-ok
returns-in-Ok-clause-ok g c = ok_as c.store_run.result _ _ (many_put c.args.shape.now _ _ _ c.args.i.0 c.args.at c.in-Ok.b.0 _ (length c.args.from.now) (length c.args.from.now) c.args.from.now c.page_block.ensures.read.looks.can c.in-Ok.ensures.page refl (le_refl (length c.args.from.now)) c.requires.within c.requires.place c.page_block.ensures.read.looks.words) c.store_run.ensures.ok

pub returns-in-Ok-clause-fault : goal.returns-in-Ok-clause-fault
returns-in-Ok-clause-fault g c = fault_as c.store_run.result _ _ (λ n h. (h.0, many_put c.args.shape.now _ _ _ c.args.i.0 c.args.at c.in-Ok.b.0 _ n (length c.args.from.now) c.args.from.now c.page_block.ensures.read.looks.can c.in-Ok.ensures.page refl (let few = h.0 in omega (arith, few)) c.requires.within c.requires.place c.page_block.ensures.read.looks.words h.1)) c.store_run.ensures.fault

pub returns-in-Ok-clause-front : goal.returns-in-Ok-clause-front
returns-in-Ok-clause-front g c = many_front c.args.shape.now _ _ _ c.args.i.0 c.args.at c.in-Ok.b.0 _ (length c.args.from.now) c.args.from.now c.page_block.ensures.read.looks.can c.in-Ok.ensures.page refl c.requires.within c.requires.place c.page_block.ensures.read.looks.words c.store_run.ensures.front

pub returns-in-Ok-clause-rest : goal.returns-in-Ok-clause-rest
returns-in-Ok-clause-rest g c = rest_by c.args.shape.now _ _ _ c.args.i.0 c.args.at c.in-Ok.b.0 c.page_block.ensures.read.looks.can c.in-Ok.ensures.page c.page_block.ensures.read.looks.words (many_same_but _ _ c.in-Ok.b.0 _ (length c.args.from.now) c.args.from.now c.store_run.ensures.front)

pub returns-in-Ok-clause-ready : goal.returns-in-Ok-clause-ready
returns-in-Ok-clause-ready g c = (page_done c.args.shape.now (g.V.Blocks.seen c.page_block.new.v) (g.V.Volume.kept c.page_block.new.v) _ _ c.args.i.0 c.args.at c.in-Ok.b.0 _ (ready_read c.args.shape.now _ _ _ _ _ _ _ _ c.requires.ready c.page_block.ensures.read.looks.can c.page_block.ensures.read.looks.words (g.met.V.Volume.passes_keeps _ _ c.page_block.ensures.read.passed)) c.in-Ok.ensures.page c.page_name.ensures c.store_run.ensures.count (many_same_but _ _ c.in-Ok.b.0 _ (length c.args.from.now) c.args.from.now c.store_run.ensures.front) c.store_run.ensures.firm c.store_run.ensures.caches c.store_run.ensures.idle).ready

pub returns-in-Ok-clause-goes : goal.returns-in-Ok-clause-goes
returns-in-Ok-clause-goes g c = (g.met.V.Volume.passes_keeps _ _ c.page_block.ensures.read.passed).goes then c.store_run.ensures.goes

pub returns-in-Err-Fault-clause-front : goal.returns-in-Err-Fault-clause-front
returns-in-Err-Fault-clause-front g c = held_none c.args.shape.now _ _ c.args.i.0 c.args.at c.args.from.now c.page_block.ensures.read.looks.words

pub returns-in-Err-Stopped-clause-front : goal.returns-in-Err-Stopped-clause-front
returns-in-Err-Stopped-clause-front g c = held_none c.args.shape.now _ _ c.args.i.0 c.args.at c.args.from.now c.page_block.ensures.read.looks.words

pub returns-in-Ok-clause-ends : goal.returns-in-Ok-clause-ends
returns-in-Ok-clause-ends g c = ends_later _ _ _ _ (vol_ends _ _ _ c.in-Ok.ensures.read.ends).later (vol_ends _ _ _ c.in-Ok.ensures.read.ends).cause c.store_run.ensures.ends

pub returns-in-Err-Fault-clause-fault : goal.returns-in-Err-Fault-clause-fault
returns-in-Err-Fault-clause-fault g c = (c.requires.some, none_held c.args.shape.now _ _ c.args.i.0 c.args.at c.args.from.now c.page_block.ensures.read.looks.words)

pub returns-in-Err-Fault-clause-rest : goal.returns-in-Err-Fault-clause-rest
returns-in-Err-Fault-clause-rest g c = rest_same c.args.shape.now c.args.i.0 _ _ c.page_block.ensures.read.looks.words

pub returns-in-Err-Fault-clause-goes : goal.returns-in-Err-Fault-clause-goes
returns-in-Err-Fault-clause-goes g c = (g.met.V.Volume.passes_keeps _ _ c.page_block.ensures.read.passed).goes

pub returns-in-Err-Fault-clause-ends : goal.returns-in-Err-Fault-clause-ends
returns-in-Err-Fault-clause-ends g c = ends_told _ _ _ _ c.in-Err-Fault.field-0-is (vol_ends _ _ _ c.in-Err-Fault.ensures.read.ends)

pub returns-in-Err-Stopped-clause-rest : goal.returns-in-Err-Stopped-clause-rest
returns-in-Err-Stopped-clause-rest g c = rest_same c.args.shape.now c.args.i.0 _ _ c.page_block.ensures.read.looks.words

pub returns-in-Err-Stopped-clause-goes : goal.returns-in-Err-Stopped-clause-goes
returns-in-Err-Stopped-clause-goes g c = (g.met.V.Volume.passes_keeps _ _ c.page_block.ensures.read.passed).goes

pub returns-in-Err-Stopped-clause-ends : goal.returns-in-Err-Stopped-clause-ends
returns-in-Err-Stopped-clause-ends g c = ends_told _ _ _ _ c.in-Err-Stopped.field-0-is (vol_ends _ _ _ c.in-Err-Stopped.ensures.read.ends)

pub returns-in-Err-Fault-clause-ready : goal.returns-in-Err-Fault-clause-ready
returns-in-Err-Fault-clause-ready g c = ready_read c.args.shape.now _ _ _ _ _ _ _ _ c.requires.ready c.page_block.ensures.read.looks.can c.page_block.ensures.read.looks.words (g.met.V.Volume.passes_keeps _ _ c.page_block.ensures.read.passed)

pub returns-in-Err-Stopped-clause-ready : goal.returns-in-Err-Stopped-clause-ready
returns-in-Err-Stopped-clause-ready g c = ready_read c.args.shape.now _ _ _ _ _ _ _ _ c.requires.ready c.page_block.ensures.read.looks.can c.page_block.ensures.read.looks.words (g.met.V.Volume.passes_keeps _ _ c.page_block.ensures.read.passed)

pub page_block-requires-clause-can : goal.page_block-requires-clause-can
page_block-requires-clause-can g c = record { keeps = (search rules); meets = reads_ready c.args.shape.now _ _ c.requires.ready }
