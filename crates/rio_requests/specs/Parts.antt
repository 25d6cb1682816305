-- What a request may leave that a device fault or a stop cut off.
use Rattle.std.specs.Prelude.{◌≡◌, ◌⊎◌, ◌≤◌, ◌%◌, ℕ, true, List, length, take, Some, Ok}
use Rattle.std.specs.FinMap.{get}
use Rattle.rio_model.specs.declared.node.Node.TheVariants.{Region}
use Rattle.rio_model.specs.declared.node.RegionNode.{RegionNode}
use Rattle.rio_model.specs.declared.state.State.{State}
use Rattle.rio_model.specs.declared.txn.Txn.{Txn}
use Rattle.rio_model.specs.FileParts.{LeadsTo}
use Rattle.rio_model.specs.Paths.{names_of, walk}
use Rattle.rio_requests.specs.declared.answered.Answered.{Answered}
use Rattle.rio_requests.specs.declared.reply.Reply.TheVariants.{Number}
use Rattle.rio_requests.specs.declared.request.Request.{Request}
use Rattle.rio_requests.specs.declared.request.Request.TheVariants.{Write, Put, Alloc, Free, Abort, Sync, Txns, Wild, Arm}
use Rattle.rio_requests.specs.Answers.{answer_of, write}
use Rattle.rio_requests.specs.RegionAnswers.{RegionAnswer, put_on, with_words}
use Rattle.rio_requests.specs.Transactions.{txn_at, with_region}

-- nothing of it
abbrev pub NoneDone : State → ℕ → State → Type 0
NoneDone s k t = (k ≡ 0) × (t ≡ s)

-- the first k bytes of a write that is not refused, or nothing
abbrev pub WriteDone : State → List ℕ → ℕ → List ℕ → Answered → ℕ → State → Type 0
WriteDone s path off bytes a k t = NoneDone s k t ⊎ ((a.reply ≡ Some (Number (length bytes))) × ((i : ℕ) × (walk s 1 (names_of path) ≡ Ok i) × LeadsTo s i off bytes k t))

-- ---- on a region

-- the first k bytes of a put that is not refused
pub record PutsPart (s : State) (path : List ℕ) (off : ℕ) (bytes : List ℕ) (k : ℕ) (t : State) : Type 0 where
  pub ino : ℕ
  pub region : RegionNode
  pub done : RegionAnswer
  pub at : walk s 1 (names_of path) ≡ Ok ino
  pub node : get s.nodes ino ≡ Some (Region region)
  pub served : put_on region (txn_at s.txns ino) off bytes ≡ Ok done
  pub whole : k % 8 ≡ 0
  pub most : k ≤ length bytes
  pub is : t ≡ with_region s ino (with_words region off (take k bytes)) (txn_at s.txns ino)

-- a transaction may only be aborted from now on: what it was before is kept, and of what it is now only its size is known
pub record Dooms (s : State) (path : List ℕ) (k : ℕ) (t : State) : Type 0 where
  pub ino : ℕ
  pub region : RegionNode
  pub txn : Txn
  pub now : RegionNode
  pub left : Txn
  pub none : k ≡ 0
  pub at : walk s 1 (names_of path) ≡ Ok ino
  pub node : get s.nodes ino ≡ Some (Region region)
  pub was_open : txn_at s.txns ino ≡ Some txn
  pub words : length now.words ≡ length region.words
  pub undo : now.undo ≡ region.undo
  pub same : left.ino ≡ txn.ino
  pub before : left.before ≡ txn.before
  pub before_blocks : left.before_blocks ≡ txn.before_blocks
  pub doomed : left.doomed ≡ true
  pub is : t ≡ with_region s ino now (Some left)

-- ---- faults and stops

-- which states a device fault may leave after so many bytes. Requests that ask no device have none
abbrev pub FaultStep : State → Request → ℕ → State → Type 0
FaultStep s (Write path off bytes) k t = WriteDone s path off bytes (write s path off bytes) k t
FaultStep s (Put path off bytes) k t = NoneDone s k t ⊎ PutsPart s path off bytes k t
FaultStep s (Alloc path units) k t = NoneDone s k t ⊎ Dooms s path k t
FaultStep s (Free path at) k t = NoneDone s k t ⊎ Dooms s path k t
FaultStep s (Abort path) k t = NoneDone s k t ⊎ Dooms s path k t
FaultStep s Sync k t = ⊥
FaultStep s Txns k t = ⊥
FaultStep s (Wild at value) k t = ⊥
FaultStep s (Arm step at value) k t = ⊥
FaultStep s _ k t = NoneDone s k t

-- which leading part of it may stand, after so many bytes: of a write alone
abbrev pub LeadStep : State → Request → ℕ → State → Type 0
LeadStep s (Write path off bytes) k t = WriteDone s path off bytes (write s path off bytes) k t
LeadStep s _ k t = NoneDone s k t

-- what may stand of a request that answers `a`: nothing of it, all of it, or a part that leads up to it
abbrev pub PartOf : State → Answered → (ℕ → State → Type 0) → State → Type 0
PartOf s a leads t = (t ≡ s) ⊎ (t ≡ a.next) ⊎ ((k : ℕ) × leads k t)

abbrev pub IsPart : State → Request → State → Type 0
IsPart s r t = PartOf s (answer_of s r) (LeadStep s r) t
