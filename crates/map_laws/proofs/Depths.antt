-- What right levels say of the size and the height of a tree.
use Rattle.std.proofs.Common.{◌≡◌, ℕ, suc, ◌+◌, ◌*◌, ◌^◌, ◌<◌, ◌≤◌, ◌∷◌, length, refl, ap, inl, inr, arith, length-append, pow_mono}
use Rattle.std.proofs.lemmas.Bool.{cases_order}
use Rattle.map_laws.specs.Trees.{Tree, Leaf, Node, pairs, size, height, level, right, LevelsOk}

-- a tree of depth d has at least 2 ^ d - 1 nodes
pub full : (t : Tree) → LevelsOk t → 2 ^ level t ≤ suc (size t)
full Leaf h = omega arith
full (Node n a l p r) h = full_node n (level l) (level r) (size l) (size r) h.0 h.2 (full l h.4) (full r h.5)
  where
    full_node : (n i j u v : ℕ) → n ≡ suc i → n ≤ suc j → 2 ^ i ≤ suc u → 2 ^ j ≤ suc v → 2 ^ n ≤ suc (suc (u + v))
    full_node n i j u v e f g h =
        let w : 2 ^ i ≤ 2 ^ j = pow_mono (omega arith) in
        omega (arith, ap (λ z. 2 ^ z) e)

pub right-le : (t : Tree) → LevelsOk t → level (right t) ≤ level t
right-le Leaf h = omega arith
right-le (Node n a l p r) h = h.1

-- a way down has at most twice as many nodes as the depth says
pub low : (t : Tree) → LevelsOk t → height t ≤ level t + level (right t)
low Leaf h = omega arith
low (Node n a l p r) h = omega (arith, low l h.4, low r h.5, right-le l h.4)

pub height-le : (t : Tree) → LevelsOk t → height t ≤ 2 * level t
height-le t h = omega (arith, low t h, right-le t h)

pub length-pairs : (t : Tree) → length (pairs t) ≡ size t
length-pairs Leaf = refl
length-pairs (Node n a l p r) = omega (arith, length-append (pairs l) (p ∷ pairs r), length-pairs l, length-pairs r)

-- fewer pairs than there are keys leave a way down at most 128 nodes
pub height_most : (t : Tree) → LevelsOk t → size t < 2 ^ 64 → height t ≤ 128
height_most t h s =
    elim (cases_order (level t) 64) [
      | inl same ↦ omega (arith, height-le t h)
      | inr (inl less) ↦ omega (arith, height-le t h)
      | inr (inr more) ↦ let w : 2 ^ 65 ≤ 2 ^ level t = pow_mono more in absurd (omega (arith, full t h))
    ]
