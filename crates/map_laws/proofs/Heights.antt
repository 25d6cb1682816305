-- How high the levels get while they are made right.
use Rattle.std.proofs.Common.{ℕ, suc, ◌≤◌, min, arith}
use Rattle.map_laws.specs.Trees.{Tree, Leaf, Node, level, highest, LevelsOk}
use Rattle.map_laws.specs.Changes.{skew, split, at_right, lowered_to, lowered, skewed}
use Rattle.map_laws.proofs.Turned.{if_same, if_less}

pub highest-levels : (t : Tree) → LevelsOk t → highest t ≤ level t
highest-levels Leaf h = omega arith
highest-levels (Node n a l p r) h = omega (arith, highest-levels l h.4, highest-levels r h.5)

pub highest-skew : (t : Tree) → highest (skew t) ≤ highest t
highest-skew Leaf = omega arith
highest-skew (Node n a Leaf p r) = if_same (λ z. highest z ≤ highest (Node n a Leaf p r)) 0 n (Node n a Leaf p r) (Node n a Leaf p r) (λ _. omega arith) (λ _. omega arith)
highest-skew (Node n a (Node m b x q y) p r) = if_same (λ z. highest z ≤ highest (Node n a (Node m b x q y) p r)) m n (Node m b x q (Node n a y p r)) (Node n a (Node m b x q y) p r) (λ _. omega arith) (λ _. omega arith)

pub highest-split : (t : Tree) → highest (split t) ≤ suc (highest t)
highest-split Leaf = omega arith
highest-split (Node n a l p Leaf) = if_same (λ z. highest z ≤ suc (highest (Node n a l p Leaf))) 0 n (Node n a l p Leaf) (Node n a l p Leaf) (λ _. omega arith) (λ _. omega arith)
highest-split (Node n a l p (Node m b x q y)) = if_same (λ z. highest z ≤ suc (highest (Node n a l p (Node m b x q y)))) (level y) n (Node (suc m) b (Node n a l p x) q y) (Node n a l p (Node m b x q y)) (λ _. omega arith) (λ _. omega arith)

highest-at_right : (how : Tree → Tree) → ((u : Tree) → highest (how u) ≤ highest u) → (t : Tree) → highest (at_right how t) ≤ highest t
highest-at_right how e Leaf = omega arith
highest-at_right how e (Node n a l p r) = omega (arith, e r)

highest-lowered_to : (m : ℕ) (t : Tree) → highest (lowered_to m t) ≤ highest t
highest-lowered_to m Leaf = omega arith
highest-lowered_to m (Node n a l p r) = omega arith

highest-lowered : (t : Tree) → highest (lowered t) ≤ highest t
highest-lowered Leaf = omega arith
highest-lowered (Node n a l p r) =
    let m : ℕ = suc (min (level l) (level r)) in
    if_less (λ z. highest z ≤ highest (Node n a l p r)) m n (Node m a l p (lowered_to m r)) (Node n a l p r) (λ h. omega (arith, h, highest-lowered_to m r)) (λ _. omega arith)

highest-skewed : (t : Tree) → highest (skewed t) ≤ highest t
highest-skewed t =
    let t₁ : Tree = skew t in
    let t₂ : Tree = at_right skew t₁ in
    omega (arith, highest-skew t, highest-at_right skew highest-skew t₁, highest-at_right (at_right skew) (highest-at_right skew highest-skew) t₂)

pub highest-skewed_lowered : (t : Tree) → highest (skewed (lowered t)) ≤ highest t
highest-skewed_lowered t = omega (arith, highest-skewed (lowered t), highest-lowered t)
