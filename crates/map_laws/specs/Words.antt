-- A tree in words, which are given by number. A node is a block of eight words and is named by the byte offset of its block: key, value, left,
-- right, level, and three words that are not looked at. The name of no node is 0.
use Rattle.std.specs.Prelude.{◌≡◌, ℕ, zero, suc, ◌+◌, ◌*◌, ◌/◌, ◌%◌, ◌<◌, cond, nat_eq}
use Rattle.map_laws.specs.Trees.{Tree, Leaf, Node}

-- the name of the root
abbrev pub place : Tree → ℕ
place Leaf = 0
place (Node n a l p r) = a

-- the words of the node that is named a
pub record IsNode (words : ℕ → ℕ) (n a left : ℕ) (p : ℕ × ℕ) (right : ℕ) : Type 0 where
  pub unit : a % 64 ≡ 0
  pub there : 0 < a
  pub has_key : words (a / 8) ≡ p.0
  pub has_value : words (a / 8 + 1) ≡ p.1
  pub has_left : words (a / 8 + 2) ≡ left
  pub has_right : words (a / 8 + 3) ≡ right
  pub has_level : words (a / 8 + 4) ≡ n

-- each node stands in its words
abbrev pub Stands : (ℕ → ℕ) → Tree → Type 0
Stands words Leaf = Unit {0}
Stands words (Node n a l p r) = IsNode words n a (place l) p (place r) × Stands words l × Stands words r

-- what the words say from the node a down, at most m nodes of a way
unfoldable pub tree_at : ℕ → (ℕ → ℕ) → ℕ → Tree
tree_at zero words a = Leaf
tree_at (suc m) words a =
    cond (nat_eq a 0) Leaf
    (Node (words (a / 8 + 4)) a (tree_at m words (words (a / 8 + 2))) (words (a / 8), words (a / 8 + 1)) (tree_at m words (words (a / 8 + 3))))

-- the tree that word 1 names the root of, where no way down has more than 128 nodes
abbrev pub tree_of : (ℕ → ℕ) → Tree
tree_of words = tree_at 128 words (words 1)

-- no word changes but those of blocks that are owned: own says so for a byte offset, by a number above 0
abbrev pub Keeps : (ℕ → ℕ) → (ℕ → ℕ) → (ℕ → ℕ) → Type 0
Keeps own f g = (i : ℕ) → own (i / 8 * 64) ≡ 0 → g i ≡ f i
