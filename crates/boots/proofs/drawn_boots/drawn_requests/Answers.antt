use Rattle.std.proofs.Common.{◌∙◌, List, ap, sym}
use Rattle.rio_requests.specs.declared.request.Request.{Request}
use Rattle.boots.specs.Plans.{some_requests}
use Rattle.boots.proofs.Drawing.{all_drawn, one_more}
use Rattle.boots.proofs.drawn_boots.drawn_requests.Goals as goal

pub loop-preserved : goal.loop-preserved
loop-preserved c =
    one_more c.loop.requests.items c.push.new.self.items c.args.count c.loop.counter c.loop.draws c.next_request.new.self c.in_ok-request.request (some_requests c.args.count c.args.draws.now)
    c.loop.invariant c.loop-test.true c.in_ok-request.ensures.drawn c.in_ok-push.ensures.items

pub returns : goal.returns
returns c =
    all_drawn c.loop.requests.items c.args.count c.loop.counter c.loop.draws (some_requests c.args.count c.args.draws.now) c.loop.invariant c.loop-test.false
    ∙ ap (λ (items : List Request). (c.loop.draws, items)) (sym c.from.ensures)
