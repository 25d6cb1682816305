use Rattle.std.proofs.Common.{subst}
use Rattle.rio_requests.specs.Requests.{IsRequest}
use Rattle.rio_requests.specs.declared.request.Request.{Request}
use Rattle.work_gen.specs.Draws.{Drawn}
use Rattle.work_gen.proofs.Forms.{request_is}
use Rattle.work_gen.proofs.generator.Gen.next_request.Goals as goal

pub returns-clause-form : goal.returns-clause-form
returns-clause-form c = subst (λ (d : Drawn Request). IsRequest d.1) c.in_ok-request.ensures (request_is _)
