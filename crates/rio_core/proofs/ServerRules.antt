-- What a request left of the machine below, as a server of lines tells it.
use Rattle.std.proofs.Common.{◌≡◌, true, [], ◌∷◌}
use Rattle.std.specs.Prelude.{Result, Ok, Err, Some, IfOk, OnErr}
use Rattle.rio_base.specs.declared.failures.Stopped.{Stopped as MachineStopped}
use Rattle.rio_base.specs.Blocks.{Health}
use Rattle.rio_base.specs.Volume.{Below, LimitLasts}
use Rattle.rio_requests.specs.declared.reply.Reply.{Reply}
use Rattle.rio_requests.specs.declared.request.Request.{Request}
use Rattle.rio_requests.specs.Went.{StoppedOn, Went}

pub limit_lasts : (q : Result Reply MachineStopped) (r : Request) (h : Health) (b : Below) (i : Health) (c : Below) → IfOk q (λ reply. Went (Some r ∷ []) (reply ∷ []) h b i c) → OnErr q (StoppedOn r h b i c) → LimitLasts b.limit c.limit
limit_lasts (Ok reply) r h b i c went stopped = went.lasts.limit
limit_lasts (Err e) r h b i c went stopped = stopped.lasts.limit

pub halted : (q : Result Reply MachineStopped) (r : Request) (h : Health) (b : Below) (i : Health) (c : Below) → OnErr q (StoppedOn r h b i c) → OnErr q (i.stopped ≡ true)
halted (Ok reply) r h b i c stopped = tt
halted (Err e) r h b i c stopped = stopped.stopped
