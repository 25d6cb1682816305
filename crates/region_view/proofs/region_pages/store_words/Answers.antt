use Rattle.region_view.proofs.Common.{◌≡◌, ℕ, ◌+◌, ◌<◌, ◌∙◌, length, le_refl, le_trans, arith, refl, subst, sym, put_words, ◌then◌, held_of}
use Rattle.region_view.proofs.Views.{inode_still}
use Rattle.rio_model.specs.RegionMoves.{rest_refl, rest_trans}
use Rattle.rio_base.specs.Rules.{goes_refl}
use Rattle.node_pages.proofs.EndsOn.{ends_vol_ok}
use Rattle.region_view.proofs.RegionParts.{front_rest, put_all, put_none, put_rest, rest_length, rest_place, rest_some, rest_told}
use Rattle.region_view.proofs.RunEnds.{ends_fault, ends_stop, fault_told}
use Rattle.region_view.proofs.region_pages.store_words.Goals as goal

pub store_page-requires-clause-inode : goal.store_page-requires-clause-inode
store_page-requires-clause-inode g c = inode_still c.args.shape.now c.args.i.0 _ _ c.args.inode.now c.requires.inode c.loop-done.invariant.rest

pub loop-done-preserved : goal.loop-done-preserved
loop-done-preserved g c =
    let f = (g.V.Blocks.seen c.args.v.now).words in
    let m = (g.V.Blocks.seen c.loop-done.v).words in
    let h = (g.V.Blocks.seen c.store_page.new.v).words in
    let i = c.args.i.0 in
    let inv = c.loop-done.invariant in
    let call = c.in-Ok.ensures in
    let size = rest_length c.args.from.now c.loop-done.done in
    let few = call.ok.1 in
    let within = inv.within in
    record {
      within = omega (arith, few, size, within);
      words = put_rest (held_of c.args.shape.now f i).word (held_of c.args.shape.now m i).word (held_of c.args.shape.now h i).word c.args.at c.loop-done.done c.in-Ok.count c.args.from.now few inv.words call.ok.2;
      rest = rest_trans c.args.shape.now i f m h inv.rest call.rest;
      ready = call.ready;
      goes = inv.goes then call.goes;
      later = le_trans inv.later call.ends.later;
      running = call.ends.cause ∙ inv.running;
      sound = call.sound;
    }

pub returns-in-Err-Fault-clause-fault : goal.returns-in-Err-Fault-clause-fault
returns-in-Err-Fault-clause-fault g c =
    let f = (g.V.Blocks.seen c.args.v.now).words in
    let h = (g.V.Blocks.seen c.store_page.new.v).words in
    let i = c.args.i.0 in
    let inv = c.loop-done.invariant in
    let fault = fault_told ℕ _ c.in-Err-Fault.n _ c.in-Err-Fault.field-0-is c.in-Err-Fault.ensures.fault in
    let told = rest_told (held_of c.args.shape.now f i).word _ (held_of c.args.shape.now h i).word c.args.at c.loop-done.done c.in-Err-Fault.n c.args.from.now inv.within inv.words fault.0 fault.1 in
    subst (λ n. (c.loop-done.done + n < length c.args.from.now) × ((held_of c.args.shape.now h i).word ≡ put_words (held_of c.args.shape.now f i).word c.args.at (c.loop-done.done + n) c.args.from.now)) (sym c.in-Err-Fault.n-is) told

pub returns-in-Err-Fault-clause-front : goal.returns-in-Err-Fault-clause-front
returns-in-Err-Fault-clause-front g c = front_rest _ _ _ c.args.at c.loop-done.done c.args.from.now c.loop-done.invariant.within c.loop-done.invariant.words c.store_page.ensures.front

pub returns-in-Err-Fault-clause-rest : goal.returns-in-Err-Fault-clause-rest
returns-in-Err-Fault-clause-rest g c = rest_trans c.args.shape.now c.args.i.0 _ _ _ c.loop-done.invariant.rest c.store_page.ensures.rest

pub returns-in-Err-Fault-clause-goes : goal.returns-in-Err-Fault-clause-goes
returns-in-Err-Fault-clause-goes g c = c.loop-done.invariant.goes then c.store_page.ensures.goes

pub returns-in-Err-Fault-clause-ends : goal.returns-in-Err-Fault-clause-ends
returns-in-Err-Fault-clause-ends g c = ends_fault _ _ _ _ _ c.in-Err-Fault.field-0-is c.loop-done.invariant.later c.loop-done.invariant.running c.in-Err-Fault.ensures.ends

pub returns-in-Err-Stopped-clause-front : goal.returns-in-Err-Stopped-clause-front
returns-in-Err-Stopped-clause-front g c = front_rest _ _ _ c.args.at c.loop-done.done c.args.from.now c.loop-done.invariant.within c.loop-done.invariant.words c.store_page.ensures.front

pub returns-in-Err-Stopped-clause-rest : goal.returns-in-Err-Stopped-clause-rest
returns-in-Err-Stopped-clause-rest g c = rest_trans c.args.shape.now c.args.i.0 _ _ _ c.loop-done.invariant.rest c.store_page.ensures.rest

pub returns-in-Err-Stopped-clause-goes : goal.returns-in-Err-Stopped-clause-goes
returns-in-Err-Stopped-clause-goes g c = c.loop-done.invariant.goes then c.store_page.ensures.goes

pub returns-in-Err-Stopped-clause-ends : goal.returns-in-Err-Stopped-clause-ends
returns-in-Err-Stopped-clause-ends g c = ends_stop _ _ _ _ c.in-Err-Stopped.field-0-is c.loop-done.invariant.later c.loop-done.invariant.running c.in-Err-Stopped.ensures.ends

pub returns-clause-ok : goal.returns-clause-ok
returns-clause-ok g c =
    let inv = c.loop-done.invariant in
    let within = inv.within in
    let all : c.loop-done.done ≡ length c.args.from.now = (let ended = c.loop-done-test.false in omega (arith, ended, within)) in
    put_all (held_of c.args.shape.now (g.V.Blocks.seen c.args.v.now).words c.args.i.0).word (held_of c.args.shape.now (g.V.Blocks.seen c.loop-done.v).words c.args.i.0).word c.args.at c.loop-done.done c.args.from.now all inv.words

pub loop-done-init : goal.loop-done-init
loop-done-init g c = record {
  within = omega arith;
  words = put_none _ c.args.at c.args.from.now;
  rest = rest_refl c.args.shape.now c.args.i.0 _;
  ready = c.requires.ready;
  goes = goes_refl _ _;
  later = le_refl _;
  running = refl;
  sound = c.requires.sound;
}

pub store_page-requires-clause-region : goal.store_page-requires-clause-region
store_page-requires-clause-region g c = c.loop-done.invariant.rest.kind ∙ c.requires.region

pub store_page-requires-clause-some : goal.store_page-requires-clause-some
store_page-requires-clause-some g c = rest_some c.args.from.now c.loop-done.done c.loop-done-test.true

pub store_page-requires-clause-place : goal.store_page-requires-clause-place
store_page-requires-clause-place g c = rest_place c.args.from.now c.args.at c.loop-done.done _ _ c.loop-done.invariant.within c.loop-done.invariant.rest.size c.requires.place

pub returns-clause-front : goal.returns-clause-front
returns-clause-front g c = (c.loop-done.done, c.loop-done.invariant.within, c.loop-done.invariant.words)

pub returns-clause-ends : goal.returns-clause-ends
returns-clause-ends g c = ends_vol_ok _ _ _ c.loop-done.invariant.later c.loop-done.invariant.running
