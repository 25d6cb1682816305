-- How a request on a region ends, by what the call on its words answered.
use Rattle.std.specs.Prelude.{◌≡◌, ◌*◌, ℕ, List, Option, Some, None, Result, Ok, Err}
use Rattle.std.specs.FinMap.{get}
use Rattle.rio_base.specs.declared.failures.Stopped.{Stopped as MachineStopped}
use Rattle.rio_base.specs.declared.places.VolumeShape.{VolumeShape}
use Rattle.rio_base.specs.Blocks.{BlockWords}
use Rattle.rio_base.specs.NodeKinds.{region_kind}
use Rattle.rio_model.specs.declared.node.Node.TheVariants.{Region}
use Rattle.rio_model.specs.declared.node.RegionNode.{RegionNode}
use Rattle.rio_model.specs.declared.state.State.{State}
use Rattle.rio_model.specs.Held.{held_of}
use Rattle.rio_model.specs.Paths.{names_of, walk}
use Rattle.rio_model.specs.VolumeReads.{ReadsAs}
use Rattle.rio_model.specs.VolumeRules.{IsMapped}
use Rattle.rio_requests.specs.declared.reply.Reply.{Reply}
use Rattle.rio_requests.specs.declared.reply.Reply.TheVariants.{Fault as Faulted}
use Rattle.rio_requests.specs.declared.request.Request.{Request}
use Rattle.rio_requests.specs.declared.request.Request.TheVariants.{Begin, Range, Put, Get, Alloc, Free, Commit, Abort}
use Rattle.rio_requests.specs.Crash.{crashed}
use Rattle.rio_requests.specs.Answer.{refusal_reply}
use Rattle.vista_region.specs.Marks.{Marks}
use Rattle.vista_region.specs.declared.failures.TxnFail.{TxnFail}
use Rattle.vista_region.specs.declared.failures.TxnFail.TheVariants.{NoTransaction as TxnNoTransaction, Doomed as TxnDoomed, NotAligned as TxnNotAligned, OutOfRange as TxnOutOfRange, NotCovered as TxnNotCovered, NotBlock as TxnNotBlock, HeapFull as TxnHeapFull, UndoFull as TxnUndoFull, Fault, Stopped}
use Rattle.vista_region.specs.declared.failures.GetFail.{GetFail}
use Rattle.vista_region.specs.declared.failures.GetFail.TheVariants.{Doomed as GetDoomed, OutOfRange as GetOutOfRange, Fault as GetFault, Stopped as GetStopped, Memory as GetMemory}
use Rattle.vista_region.specs.declared.failures.BeginFail.{BeginFail}
use Rattle.vista_region.specs.declared.failures.BeginFail.TheVariants.{Busy as BeginBusy, Memory as BeginMemory}
use Rattle.rio_core.specs.Regions.{RegionsHeld}
use Rattle.rio_model.specs.RegionMoves.{RestHeld}
use Rattle.rio_model.specs.declared.refusal.Refusal.TheVariants.{Busy, NoTransaction, NotCovered, UndoFull, HeapFull, NotBlock, OutOfRange, NotAligned, Doomed, NoMemory}

-- the words that inode i holds
abbrev pub words_at : VolumeShape → BlockWords → ℕ → ℕ → ℕ
words_at shape f i = (held_of shape f i).word

-- ---- before and after a call

-- the blocks read as what a stop leaves of s, and its regions and transactions are as the regions' words say
pub record ReadsHeld (shape : VolumeShape) (f : BlockWords) (marks : Marks) (s : State) : Type 0 where
  pub reads : ReadsAs shape f (crashed s)
  pub regions : RegionsHeld (held_of shape f) marks s

-- in state s, the path leads to region i, which is r and has n words; a call on it made blocks f to g
pub record CalledOn (shape : VolumeShape) (f g : BlockWords) (marks : Marks) (s : State) (path : List ℕ) (i n : ℕ) (r : RegionNode) : Type 0 where
  pub before : ReadsHeld shape f marks s
  pub leads : walk s 1 (names_of path) ≡ Ok i
  pub node : get s.nodes i ≡ Some (Region r)
  pub kind : (held_of shape f i).kind ≡ region_kind
  pub size : (held_of shape f i).size ≡ 8 * n
  pub mapped : IsMapped shape g
  pub rest : RestHeld shape i f g

-- ---- what is told of a call

abbrev pub reply_to : TxnFail → Option Reply
reply_to TxnNoTransaction = Some (refusal_reply NoTransaction)
reply_to TxnNotCovered = Some (refusal_reply NotCovered)
reply_to TxnUndoFull = Some (refusal_reply UndoFull)
reply_to TxnHeapFull = Some (refusal_reply HeapFull)
reply_to TxnNotBlock = Some (refusal_reply NotBlock)
reply_to TxnOutOfRange = Some (refusal_reply OutOfRange)
reply_to TxnNotAligned = Some (refusal_reply NotAligned)
reply_to TxnDoomed = Some (refusal_reply Doomed)
reply_to (Fault k) = Some (Faulted k)
reply_to Stopped = None

abbrev pub told : {T : Type 0} → (T → Reply) → Result T TxnFail → Option Reply
told says (Ok v) = Some (says v)
told says (Err e) = reply_to e

abbrev pub get_told : (List ℕ → Reply) → Result (List ℕ) GetFail → Option Reply
get_told says (Ok bytes) = Some (says bytes)
get_told says (Err GetOutOfRange) = Some (refusal_reply OutOfRange)
get_told says (Err GetDoomed) = Some (refusal_reply Doomed)
get_told says (Err GetMemory) = Some (refusal_reply NoMemory)
get_told says (Err GetFault) = Some (Faulted 0)
get_told says (Err GetStopped) = None

abbrev pub begin_told : Reply → Result (Unit {0}) BeginFail → Option Reply
begin_told done (Ok v) = Some done
begin_told done (Err BeginBusy) = Some (refusal_reply Busy)
begin_told done (Err BeginMemory) = Some (refusal_reply NoMemory)

-- a stop alone tells nothing
abbrev pub TellsAs : Option Reply → Result Reply MachineStopped → Type 0
TellsAs (Some reply) result = result ≡ Ok reply
TellsAs None (Ok reply) = ⊥
TellsAs None (Err stopped) = Unit {0}

-- ---- the look-up of the region

-- a request on the region at this path
abbrev pub IsAt : List ℕ → Request → Type 0
IsAt path (Begin p) = p ≡ path
IsAt path (Range p off len) = p ≡ path
IsAt path (Put p off bytes) = p ≡ path
IsAt path (Get p off len) = p ≡ path
IsAt path (Alloc p units) = p ≡ path
IsAt path (Free p at) = p ≡ path
IsAt path (Commit p) = p ≡ path
IsAt path (Abort p) = p ≡ path
IsAt path _ = ⊥
