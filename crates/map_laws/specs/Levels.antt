-- The rules of levels one by one, of the children that are there.
use Rattle.std.specs.Prelude.{◌≡◌, ℕ, suc, ◌<◌, ◌⊎◌, Bool, true, false}
use Rattle.map_laws.specs.Trees.{Tree, Leaf, Node, level, right}

-- whether there is a node
abbrev pub is_node : Tree → Bool
is_node Leaf = false
is_node (Node n a l p r) = true

-- of a node on level n with these sides: without children it has level 1; a left child's level is one less than its parent's; a right child's is the
-- same or one less; a right grandchild's is less than its grandparent's; a node of level above 1 has two children
pub record KeepsRules (n : ℕ) (l r : Tree) : Type 0 where
  pub childless : is_node l ≡ false → is_node r ≡ false → n ≡ 1
  pub left_child : is_node l ≡ true → suc (level l) ≡ n
  pub right_child : is_node r ≡ true → (level r ≡ n) ⊎ (suc (level r) ≡ n)
  pub right_grandchild : is_node (right r) ≡ true → level (right r) < n
  pub two_children : 1 < n → (is_node l ≡ true) × (is_node r ≡ true)

-- each node keeps the rules
abbrev pub RulesOk : Tree → Type 0
RulesOk Leaf = Unit {0}
RulesOk (Node n a l p r) = KeepsRules n l r × RulesOk l × RulesOk r
