-- Small trees, for rows by hand. The node of key k is at place 64 * k, and its value is 10 * k.
use Rattle.std.specs.Prelude.{ℕ, ◌*◌, List, [], ◌∷◌}
use Rattle.map_laws.specs.Trees.{Tree, Leaf, Node}
use Rattle.map_laws.specs.Changes.{inserted, removed}

-- a node on level n with key k
abbrev pub node : ℕ → Tree → ℕ → Tree → Tree
node n l k r = Node n (64 * k) l (k, 10 * k) r

-- a node on level 1 without children
abbrev pub alone : ℕ → Tree
alone k = node 1 Leaf k Leaf

-- keys put into a tree, the first one first
abbrev pub with_keys : List ℕ → Tree → Tree
with_keys [] t = t
with_keys (k ∷ ks) t = with_keys ks (inserted (64 * k) k (10 * k) t)

-- keys taken out of a tree, the first one first
abbrev pub without_keys : List ℕ → Tree → Tree
without_keys [] t = t
without_keys (k ∷ ks) t = without_keys ks (removed k t)

-- seven keys on three levels
abbrev pub seven : Tree
seven = node 3 (node 2 (alone 1) 2 (alone 3)) 4 (node 2 (alone 5) 6 (alone 7))
