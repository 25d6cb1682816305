-- A server that answered holds some state.
use Rattle.std.specs.Prelude.{Result, Ok, Err, IfOk}
use Rattle.rio_base.specs.declared.failures.Stopped.{Stopped as MachineStopped}
use Rattle.rio_requests.specs.declared.reply.Reply.{Reply}
use Rattle.rio_requests.specs.declared.request.Request.{Request}
use Rattle.rio_model.specs.declared.state.State.{State}
use Rattle.rio_core.specs.Serving.{Answering}

pub still_holds : (holds stands : State → Type 0) (s : State) (r : Request) (q : Result Reply MachineStopped) → Answering holds stands s r q → IfOk q (λ reply. (t : State) × holds t)
still_holds holds stands s r (Ok reply) (t, step, h) = (t, h)
still_holds holds stands s r (Err e) a = tt
