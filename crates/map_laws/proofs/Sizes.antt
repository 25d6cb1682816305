-- How many nodes there are after a change.
use Rattle.std.proofs.Common.{◌≡◌, ℕ, suc, length, Some, None, sym, ap, ◌∙◌, inl, inr, arith}
use Rattle.std.proofs.lemmas.Bool.{lt-ltb, le-ltb, cases_order}
use Rattle.map_laws.specs.Trees.{Tree, Leaf, Node, pairs, size, LevelsOk, looked_up}
use Rattle.map_laws.specs.Changes.{skew, split, settled, inserted, without_first, without_root, removed, first, first_place}
use Rattle.map_laws.proofs.Depths.{length-pairs}
use Rattle.map_laws.proofs.Turned.{pairs-skew, pairs-split, pairs-settled}

size_by : (t u : Tree) → pairs u ≡ pairs t → size u ≡ size t
size_by t u e = sym (length-pairs u) ∙ ap length e ∙ length-pairs t

size-turned : (t : Tree) → size (split (skew t)) ≡ size t
size-turned t = size_by t (split (skew t)) (pairs-split (skew t) ∙ pairs-skew t)

size-settled : (t : Tree) → size (settled t) ≡ size t
size-settled t = size_by t (settled t) (pairs-settled t)

pub size-inserted : (c k v : ℕ) (t : Tree) → looked_up k t ≡ None → size (inserted c k v t) ≡ suc (size t)
size-inserted c k v Leaf e = omega arith
size-inserted c k v (Node n a l p r) e =
    elim (cases_order k p.0) [
      | inl same ↦ let f : Some p.1 ≡ None = rw (le-ltb k p.0 (omega arith), le-ltb p.0 k (omega arith)) at e in absurd (cc)
      | inr (inl less) ↦ rw (lt-ltb k p.0 less) (omega (arith, size-turned (Node n a (inserted c k v l) p r), size-inserted c k v l (rw (lt-ltb k p.0 less) at e)))
      | inr (inr more) ↦ rw (le-ltb k p.0 (omega arith), lt-ltb p.0 k more)
          (omega (arith, size-turned (Node n a l p (inserted c k v r)), size-inserted c k v r (rw (le-ltb k p.0 (omega arith), lt-ltb p.0 k more) at e)))
    ]

pub size-inserted_there : (c k v w : ℕ) (t : Tree) → looked_up k t ≡ Some w → size (inserted c k v t) ≡ size t
size-inserted_there c k v w Leaf e = absurd (cc)
size-inserted_there c k v w (Node n a l p r) e =
    elim (cases_order k p.0) [
      | inl same ↦ rw (le-ltb k p.0 (omega arith), le-ltb p.0 k (omega arith))
      | inr (inl less) ↦ rw (lt-ltb k p.0 less) (omega (arith, size-turned (Node n a (inserted c k v l) p r), size-inserted_there c k v w l (rw (lt-ltb k p.0 less) at e)))
      | inr (inr more) ↦ rw (le-ltb k p.0 (omega arith), lt-ltb p.0 k more)
          (omega (arith, size-turned (Node n a l p (inserted c k v r)), size-inserted_there c k v w r (rw (le-ltb k p.0 (omega arith), lt-ltb p.0 k more) at e)))
    ]

size-without_first : (n a : ℕ) (l : Tree) (p : ℕ × ℕ) (r : Tree) → suc (size (without_first (Node n a l p r))) ≡ size (Node n a l p r)
size-without_first n a Leaf p r = omega arith
size-without_first n a (Node m b x q y) p r = omega (arith, size-settled (Node n a (without_first (Node m b x q y)) p r), size-without_first m b x q y)

size-without_root : (n a : ℕ) (l : Tree) (p : ℕ × ℕ) (r : Tree) → LevelsOk (Node n a l p r) → suc (size (without_root n l r)) ≡ size (Node n a l p r)
size-without_root n a Leaf p r h = omega arith
size-without_root n a (Node m b x q y) p Leaf h = absurd (omega arith)
size-without_root n a (Node m b x q y) p (Node k c z s w) h =
    omega (arith, size-settled (Node n (first_place b (Node k c z s w)) (Node m b x q y) (first q (Node k c z s w)) (without_first (Node k c z s w))), size-without_first k c z s w)

pub size-removed : (k v : ℕ) (t : Tree) → LevelsOk t → looked_up k t ≡ Some v → suc (size (removed k t)) ≡ size t
size-removed k v Leaf h e = absurd (cc)
size-removed k v (Node n a l p r) h e =
    elim (cases_order k p.0) [
      | inl same ↦ rw (le-ltb k p.0 (omega arith), le-ltb p.0 k (omega arith)) (size-without_root n a l p r h)
      | inr (inl less) ↦ rw (lt-ltb k p.0 less) (omega (arith, size-settled (Node n a (removed k l) p r), size-removed k v l h.4 (rw (lt-ltb k p.0 less) at e)))
      | inr (inr more) ↦ rw (le-ltb k p.0 (omega arith), lt-ltb p.0 k more)
          (omega (arith, size-settled (Node n a l p (removed k r)), size-removed k v r h.5 (rw (le-ltb k p.0 (omega arith), lt-ltb p.0 k more) at e)))
    ]
