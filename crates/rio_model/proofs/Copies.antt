-- A copy of each part makes a copy of the whole.
use Rattle.std.specs.Prelude.{◌≡◌, ℕ, List, [], ◌∷◌, refl}
use Rattle.std.specs.List.{AllZip}
use Rattle.rio_model.specs.Names.{Names}
use Rattle.rio_model.specs.Nodes.{Nodes}
use Rattle.rio_model.specs.declared.node.RegionNode.{RegionNode}
use Rattle.rio_model.specs.declared.rows.NameRow.{NameRow}
use Rattle.rio_model.specs.declared.state.State.{State}
use Rattle.rio_model.specs.declared.txn.Txn.{Txn}

-- pairs of numbers that are copied each
pub pairs_same : (xs ys : List (ℕ × ℕ)) → AllZip (λ x y. (y.0 ≡ x.0) × (y.1 ≡ x.1)) xs ys → ys ≡ xs
pairs_same [] [] e = refl
pairs_same [] (y ∷ ys) e = absurd e
pairs_same (x ∷ xs) [] e = absurd e
pairs_same (x ∷ xs) (y ∷ ys) e = λ i. (e.0.0 i, e.0.1 i) ∷ pairs_same xs ys e.1 i

pub name_row_same : (r : NameRow) (name : List ℕ) → name ≡ r.name → record r { name = name } ≡ r
name_row_same r name p = λ i. record r { name = p i }

pub region_same : (r : RegionNode) (words : List ℕ) (blocks : List (ℕ × ℕ)) → words ≡ r.words → blocks ≡ r.blocks → record r { words = words; blocks = blocks } ≡ r
region_same r words blocks p q = λ i. record r { words = p i; blocks = q i }

pub txn_same : (t : Txn) (before : List ℕ) (blocks ranges : List (ℕ × ℕ)) → before ≡ t.before → blocks ≡ t.before_blocks → ranges ≡ t.ranges → record t { before = before; before_blocks = blocks; ranges = ranges } ≡ t
txn_same t before blocks ranges p q r = λ i. record t { before = p i; before_blocks = q i; ranges = r i }

pub state_same : (s : State) (names : Names) (nodes : Nodes) (txns : List Txn) → names ≡ s.names → nodes ≡ s.nodes → txns ≡ s.txns → record s { names = names; nodes = nodes; txns = txns } ≡ s
state_same s names nodes txns p q r = λ i. record s { names = p i; nodes = q i; txns = r i }
