-- What may follow the requests of a test.
use Rattle.std.specs.Prelude.{Result, OnOk, OnErr}
use Rattle.rio_base.specs.declared.failures.Stopped.{Stopped as MachineStopped}
use Rattle.rio_base.specs.declared.places.VolumeShape.{VolumeShape}
use Rattle.rio_base.specs.Blocks.{Seen}
use Rattle.rio_base.specs.Volume.{Kept}
use Rattle.rio_model.specs.declared.state.State.{State}
use Rattle.rio_model.specs.VolumeReads.{ReadsAs}
use Rattle.rio_model.specs.VolumeReady.{StandsReady}
use Rattle.request_ends.specs.Ends.{CanServe}
use Rattle.file_tree.specs.Memos.{InStep}
use Rattle.file_tree.specs.declared.memo.Memo.{Memo}

-- a stopped volume that may be started again
pub record CanStart (shape : VolumeShape) (x : Seen) (k : Kept) : Type 0 where
  pub ready : StandsReady shape x k
  pub state : State
  pub reads : ReadsAs shape k.standing state

-- after an answer another request may be made; after a stop the volume may be started again
pub record Follows {T : Type 0} (shape : VolumeShape) (x : Seen) (k : Kept) (r : Result T MachineStopped) : Type 0 where
  pub ok : OnOk r (CanServe shape x k)
  pub err : OnErr r (CanStart shape x k)

-- and after an answer a memo is in step
pub record FollowsHeld {T : Type 0} (shape : VolumeShape) (x : Seen) (k : Kept) (memo : Memo) (r : Result T MachineStopped) : Type 0 where
  pub follows : Follows shape x k r
  pub in_step : OnOk r (InStep shape x.words memo)
