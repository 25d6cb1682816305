-- A tree of pairs. A node has a level, a place, which it keeps as long as it is there, and a pair between its left and its right side.
use Rattle.std.specs.Prelude.{◌≡◌, ℕ, suc, ◌+◌, ◌<◌, ◌≤◌, max, cond, List, [], ◌∷◌, ◌++◌, Some, None, Option, nat_lt, nat_eq}

pub data Tree : Type 0 where
  Leaf : Tree
  Node : (level place : ℕ) → (left : Tree) → (pair : ℕ × ℕ) → (right : Tree) → Tree

-- the pairs from left to right
abbrev pub pairs : Tree → List (ℕ × ℕ)
pairs Leaf = []
pairs (Node n a l p r) = pairs l ++ p ∷ pairs r

-- how many nodes there are
abbrev pub size : Tree → ℕ
size Leaf = 0
size (Node n a l p r) = suc (size l + size r)

-- how many nodes the longest way down has
abbrev pub height : Tree → ℕ
height Leaf = 0
height (Node n a l p r) = suc (max (height l) (height r))

-- the level of the root, 0 where there is none: the depth of the tree
abbrev pub level : Tree → ℕ
level Leaf = 0
level (Node n a l p r) = n

-- the right side of the root
abbrev pub right : Tree → Tree
right Leaf = Leaf
right (Node n a l p r) = r

-- the levels are right: a left child is one below its parent, a right child on the same level or one below, a right grandchild below its
-- grandparent. A child that is not there counts as on level 0, which no node has
abbrev pub LevelsOk : Tree → Type 0
LevelsOk Leaf = Unit {0}
LevelsOk (Node n a l p r) = (n ≡ suc (level l)) × (level r ≤ n) × (n ≤ suc (level r)) × (level (right r) < n) × LevelsOk l × LevelsOk r

-- the highest level of a node
abbrev pub highest : Tree → ℕ
highest Leaf = 0
highest (Node n a l p r) = max n (max (highest l) (highest r))

-- the value at key k, by the way down
abbrev pub looked_up : ℕ → Tree → Option ℕ
looked_up k Leaf = None
looked_up k (Node n a l p r) = cond (nat_lt k p.0) (looked_up k l) (cond (nat_lt p.0 k) (looked_up k r) (Some p.1))

-- the place of the node of key k, by the way down, 0 where there is none
abbrev pub place_at : ℕ → Tree → ℕ
place_at k Leaf = 0
place_at k (Node n a l p r) = cond (nat_lt k p.0) (place_at k l) (cond (nat_lt p.0 k) (place_at k r) a)

-- how many nodes have the place b
abbrev pub times : ℕ → Tree → ℕ
times b Leaf = 0
times b (Node n a l p r) = cond (nat_eq a b) 1 0 + (times b l + times b r)
