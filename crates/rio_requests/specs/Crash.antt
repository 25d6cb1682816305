-- What a stop leaves of a state: every transaction that was open is undone.
use Rattle.std.specs.Prelude.{◌≡◌, ℕ, List, [], ◌∷◌, length, Option, Some, None}
use Rattle.std.specs.FinMap.{get, insert}
use Rattle.rio_model.specs.Nodes.{Nodes}
use Rattle.rio_model.specs.declared.node.Node.{Node}
use Rattle.rio_model.specs.declared.node.Node.TheVariants.{Dir, File, Region}
use Rattle.rio_model.specs.declared.node.RegionNode.{RegionNode}
use Rattle.rio_model.specs.declared.state.State.{State}
use Rattle.rio_model.specs.declared.txn.Txn.{Txn}
use Rattle.rio_requests.specs.RegionAnswers.{undone}
use Rattle.rio_requests.specs.Transactions.{txn_at}

-- a transaction's region, as this node, gets the words and blocks of before
abbrev pub undo_at : Nodes → Txn → Option Node → Nodes
undo_at nodes t (Some (Region r)) = insert nodes t.ino.0 (Region (undone r t))
undo_at nodes t (Some Dir) = nodes
undo_at nodes t (Some (File bytes)) = nodes
undo_at nodes t None = nodes

abbrev pub undo_all : List Txn → Nodes → Nodes
undo_all [] nodes = nodes
undo_all (t ∷ txns) nodes = undo_all txns (undo_at nodes t (get nodes t.ino.0))

abbrev pub crashed : State → State
crashed s = record s { nodes = undo_all s.txns s.nodes; txns = [] }

-- ---- what is so of open transactions

-- none of these is on this region
abbrev pub NotOpen : List Txn → ℕ → Type 0
NotOpen txns i = txn_at txns i ≡ None

-- no region has two
abbrev pub OneEach : List Txn → Type 0
OneEach [] = Unit {0}
OneEach (t ∷ txns) = NotOpen txns t.ino.0 × OneEach txns

-- each is of a region, which has as many words as before
pub record OpenRegions (s : State) : Type 0 where
  pub once : OneEach s.txns
  pub each : (i : ℕ) (t : Txn) → txn_at s.txns i ≡ Some t → (r : RegionNode) × (get s.nodes i ≡ Some (Region r)) × (length t.before ≡ length r.words)
