-- The names of the crates below that the proofs of this crate cite again and again, passed on from one place. Declares nothing.
pub use Rattle.std.proofs.Common.{Bool, Err, List, None, Ok, Option, Result, Some, [], ap, arith, false, inl, inr, map, refl, subst, sym, true, ℕ, ◌*◌, ◌/◌, ◌∙◌, ◌∷◌, ◌≡◌, ◌≢◌, ◌⊎◌}
pub use Rattle.std.proofs.lemmas.Bool.{cases_eq}
pub use Rattle.std.specs.FinMap.{get}
pub use Rattle.std.specs.Prelude.{IfOk, IsErr, IsErrOf}
pub use Rattle.request_ends.specs.Ends.{Stands}
pub use Rattle.node_making.specs.NewNodes.{FindsRegion}
pub use Rattle.region_view.specs.Views.{OnRegion}
pub use Rattle.rio_model.specs.RegionMoves.{RestHeld}
pub use Rattle.request_ends.specs.declared.failures.FileFail.{FileFail}
pub use Rattle.request_ends.specs.declared.failures.FileFail.TheVariants.{Fault, Memory, Refused}
pub use Rattle.rio_base.specs.Blocks.{BlockWords, Seen}
pub use Rattle.rio_base.specs.Regions.{RegionContent}
pub use Rattle.rio_base.specs.Volume.{Kept, Settled}
pub use Rattle.rio_base.specs.declared.places.Ino.{Ino}
pub use Rattle.rio_base.specs.declared.places.VolumeShape.{VolumeShape}
pub use Rattle.rio_model.proofs.VolumeReadRules.{reads_region}
pub use Rattle.rio_model.specs.Heap.{IsSoundRegion}
pub use Rattle.rio_model.specs.Held.{Held, held_of}
pub use Rattle.rio_model.specs.Paths.{names_of}
pub use Rattle.rio_model.specs.Placed.{volume_layout}
pub use Rattle.rio_model.specs.States.{with_node}
pub use Rattle.rio_model.specs.Undo.{Dropped, Undoes}
pub use Rattle.rio_model.specs.VolumeReads.{ReadsAs, region_in}
pub use Rattle.rio_model.specs.VolumeReady.{LeavesInUse, Ready}
pub use Rattle.rio_model.specs.VolumeRules.{IsMapped}
pub use Rattle.rio_model.specs.declared.node.Node.{Node}
pub use Rattle.rio_model.specs.declared.node.Node.TheVariants.{Region}
pub use Rattle.rio_model.specs.declared.node.RegionNode.{RegionNode}
pub use Rattle.rio_model.specs.declared.state.State.{State}
pub use Rattle.rio_model.specs.declared.txn.Txn.{Txn}
pub use Rattle.rio_requests.proofs.CrashRules.{get_undone, undone_node}
pub use Rattle.rio_requests.specs.Answers.{answer_of}
pub use Rattle.rio_requests.specs.Crash.{OneEach, crashed}
pub use Rattle.rio_requests.specs.Parts.{FaultStep}
pub use Rattle.rio_requests.specs.RegionAnswers.{abort_on, alloc_on, begin_on, commit_on, free_on, get_on, put_on, range_on}
pub use Rattle.rio_requests.specs.Transactions.{changed, txn_at, with_region}
pub use Rattle.rio_requests.specs.declared.answered.Answered.{Answered}
pub use Rattle.rio_requests.specs.declared.reply.Reply.{Reply}
pub use Rattle.rio_requests.specs.declared.reply.Reply.TheVariants.{Bytes}
pub use Rattle.rio_requests.specs.declared.request.Request.{Request}
pub use Rattle.rio_requests.specs.declared.request.Request.TheVariants.{Abort, Alloc, Begin, Commit, Free, Get, Put, Range}
pub use Rattle.vista_region.specs.Ends.{Fits, IsFault, TxnEnds, says_done, says_number}
pub use Rattle.vista_region.specs.Marks.{Marks, mark_of, set_mark, txn_in}
pub use Rattle.vista_region.specs.Regions.{region_now}
pub use Rattle.vista_region.specs.declared.failures.TxnFail.{TxnFail}
pub use Rattle.vista_region.specs.declared.failures.TxnFail.TheVariants.{Stopped}
