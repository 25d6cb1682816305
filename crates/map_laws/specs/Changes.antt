-- Andersson's insertion and removal. A turn gives nodes other sides and keeps their places and pairs.
use Rattle.std.specs.Prelude.{ℕ, suc, min, cond, nat_lt, nat_eq}
use Rattle.map_laws.specs.Trees.{Tree, Leaf, Node, level, right}

-- ---- turns

-- the left child comes up: its right side goes to the old root
abbrev pub turned_right : ℕ → ℕ → Tree → ℕ × ℕ → Tree → Tree
turned_right n a Leaf p r = Node n a Leaf p r
turned_right n a (Node m b x q y) p r = Node m b x q (Node n a y p r)

-- the right child comes up by one level: its left side goes to the old root
abbrev pub turned_left : ℕ → ℕ → Tree → ℕ × ℕ → Tree → Tree
turned_left n a l p Leaf = Node n a l p Leaf
turned_left n a l p (Node m b x q y) = Node (suc m) b (Node n a l p x) q y

-- a left child on its parent's level is turned up
abbrev pub skew : Tree → Tree
skew Leaf = Leaf
skew (Node n a l p r) = cond (nat_eq (level l) n) (turned_right n a l p r) (Node n a l p r)

-- of a node and two right ones on one level the middle one is turned up
abbrev pub split : Tree → Tree
split Leaf = Leaf
split (Node n a l p r) = cond (nat_eq (level (right r)) n) (turned_left n a l p r) (Node n a l p r)

-- ---- insertion

-- the pair (k, v) in place, by a new node at place c if there is none of that key
abbrev pub inserted : ℕ → ℕ → ℕ → Tree → Tree
inserted c k v Leaf = Node 1 c Leaf (k, v) Leaf
inserted c k v (Node n a l p r) =
    cond (nat_lt k p.0) (split (skew (Node n a (inserted c k v l) p r)))
    (cond (nat_lt p.0 k) (split (skew (Node n a l p (inserted c k v r)))) (Node n a l (k, v) r))

-- ---- removal

-- the root on level m, if it is above
abbrev pub lowered_to : ℕ → Tree → Tree
lowered_to m Leaf = Leaf
lowered_to m (Node n a l p r) = Node (min m n) a l p r

-- the root one level above its lower side, if it is above that, and then a right child no higher than it
abbrev pub lowered : Tree → Tree
lowered Leaf = Leaf
lowered (Node n a l p r) =
    let m : ℕ = suc (min (level l) (level r)) in
    cond (nat_lt m n) (Node m a l p (lowered_to m r)) (Node n a l p r)

-- f of the right side
abbrev pub at_right : (Tree → Tree) → Tree → Tree
at_right f Leaf = Leaf
at_right f (Node n a l p r) = Node n a l p (f r)

-- three skews down the right
abbrev pub skewed : Tree → Tree
skewed t = at_right (at_right skew) (at_right skew (skew t))

-- and two splits
abbrev pub turned : Tree → Tree
turned t = at_right split (split (skewed t))

-- what makes the levels right after one side has lost a level
abbrev pub settled : Tree → Tree
settled t = turned (lowered t)

-- the pair of the leftmost node, p where there is no node
abbrev pub first : ℕ × ℕ → Tree → ℕ × ℕ
first p Leaf = p
first p (Node n a l q r) = first q l

-- the place of the leftmost node, a where there is no node
abbrev pub first_place : ℕ → Tree → ℕ
first_place a Leaf = a
first_place a (Node n b l q r) = first_place b l

-- without the leftmost node
abbrev pub without_first : Tree → Tree
without_first Leaf = Leaf
without_first (Node n a Leaf p r) = r
without_first (Node n a (Node m b x q y) p r) = settled (Node n a (without_first (Node m b x q y)) p r)

-- without the root, given its level and sides: where it has two sides the next node is linked in its place
abbrev pub without_root : ℕ → Tree → Tree → Tree
without_root n Leaf r = r
without_root n (Node m b x q y) r = settled (Node n (first_place b r) (Node m b x q y) (first q r) (without_first r))

-- without the node of key k
abbrev pub removed : ℕ → Tree → Tree
removed k Leaf = Leaf
removed k (Node n a l p r) =
    cond (nat_lt k p.0) (settled (Node n a (removed k l) p r))
    (cond (nat_lt p.0 k) (settled (Node n a l p (removed k r))) (without_root n l r))
