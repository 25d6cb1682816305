use Rattle.std.proofs.Common.{arith, refl, [], ◌∷◌}
use Rattle.std.proofs.lemmas.Slice.{pushed}
use Rattle.boots.proofs.Answered.{leads_all, leads_list, leads_more, leads_none, leads_stop}
use Rattle.boots.proofs.serving.answer_all.Goals as goal

pub loop-request-init : goal.loop-request-init
loop-request-init g c = record { leads = λ s h. leads_none _ s c.args.requests.now _ _ _ c.new-answered.ensures.items h; sound = c.requires.sound }

pub answer_one-requires-clause-holds : goal.answer_one-requires-clause-holds
answer_one-requires-clause-holds g c =
    let s = c.requires.holds in
    let now = c.loop-request.invariant.leads s.0 s.1 in
    (now.0, now.1)

pub returns-in-Err-clause-serves : goal.returns-in-Err-clause-serves
returns-in-Err-clause-serves g c = λ s h.
    leads_stop _ _ s _ _ _ c.request-item.result c.in_ok-asked.asked _ _ _ _ _ _ c.request-item.is c.in_ok-asked.ensures c.loop-request-test.true (c.loop-request.invariant.leads s h) c.in-Err.ensures.answered c.in-Err.ensures.stopped_on

pub loop-request-preserved : goal.loop-request-preserved
loop-request-preserved g c = record {
  leads = λ s h. leads_list _ s _ _ _ _ _ _ _ _ (pushed {was = c.loop-request.answered.items} ((c.in_ok-asked.asked, c.in-Ok.reply) ∷ []) refl c.in_ok-push-in-Ok.was c.push.ensures.items)
      (leads_more _ _ s _ _ _ c.request-item.result c.in_ok-asked.asked c.in-Ok.reply _ _ _ _ _ _ c.request-item.is c.in_ok-asked.ensures c.loop-request-test.true (c.loop-request.invariant.leads s h) c.in-Ok.ensures.answered c.in-Ok.ensures.went);
  sound = c.answer_one.ensures.sound;
}

pub returns-clause-serves : goal.returns-clause-serves
returns-clause-serves g c = λ s h. leads_all _ s _ _ _ _ _ _ _ (let all = c.loop-request-test.false in let within = c.loop-request.auto.request-index-end in omega (arith, all, within)) (c.loop-request.invariant.leads s h)
