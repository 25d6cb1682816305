-- Insertion puts a pair into the list, and keeps the levels right.
use Rattle.std.proofs.Common.{◌≡◌, ◌⊎◌, ℕ, suc, ◌∷◌, ◌++◌, refl, sym, ap, ◌∙◌, subst, inl, inr, ⊎_elim, arith}
use Rattle.std.proofs.lemmas.Bool.{lt-ltb, le-ltb, eq-eqb, ne_eqb, cases_order}
use Rattle.map_laws.specs.Lists.{KeysRise, put}
use Rattle.map_laws.specs.Trees.{Tree, Leaf, Node, pairs, level, right, LevelsOk}
use Rattle.map_laws.specs.Changes.{skew, split, inserted}
use Rattle.map_laws.proofs.ListLaws.{rise_front, rise_back, rise_put, put_left, put_right, put_at}
use Rattle.map_laws.proofs.Turned.{if_same, pairs-skew, pairs-split, skew_ok, split_ok}

pairs-turned : (t : Tree) → pairs (split (skew t)) ≡ pairs t
pairs-turned t = pairs-split (skew t) ∙ pairs-skew t

pub pairs-inserted : (c k v : ℕ) (t : Tree) → KeysRise (pairs t) → pairs (inserted c k v t) ≡ put k v (pairs t)
pairs-inserted c k v Leaf s = refl
pairs-inserted c k v (Node n a l p r) s =
    elim (cases_order k p.0) [
      | inl e ↦ rw (le-ltb k p.0 (omega arith), le-ltb p.0 k (omega arith)) (sym (put_at k v p (pairs l) (pairs r) e s))
      | inr (inl less) ↦ rw (lt-ltb k p.0 less)
          (pairs-turned (Node n a (inserted c k v l) p r) ∙ ap (λ z. z ++ p ∷ pairs r) (pairs-inserted c k v l (rise_front (pairs l) (p ∷ pairs r) s)) ∙ sym (put_left k v p (pairs l) (pairs r) less))
      | inr (inr more) ↦ rw (le-ltb k p.0 (omega arith), lt-ltb p.0 k more)
          (pairs-turned (Node n a l p (inserted c k v r)) ∙ ap (λ z. pairs l ++ p ∷ z) (pairs-inserted c k v r (rise_back (pairs l) p (pairs r) s)) ∙ sym (put_right k v p (pairs l) (pairs r) more s))
    ]

pub rise-inserted : (c k v : ℕ) (t : Tree) → KeysRise (pairs t) → KeysRise (pairs (inserted c k v t))
rise-inserted c k v t s = subst KeysRise (sym (pairs-inserted c k v t s)) (rise_put k v (pairs t) s)

-- the levels are right after an insertion, and the root is on its old level; or it is one above, with no right child beside it before and after
record Grown (t u : Tree) : Type 0 where
  ok : LevelsOk u
  top : (level u ≡ level t) ⊎ ((level u ≡ suc (level t)) × (level (right u) ≡ level t) × (level (right t) ≡ level t))

-- a tree on which nothing has to be turned
as_is : (t u : Tree) → LevelsOk u → Grown t u → Grown t (split (skew u))
as_is t u h g = rw (skew_ok u h, split_ok u h) g

-- after the left child has come up beside its parent
up_left : (n a m b : ℕ) (x y r : Tree) (p q : ℕ × ℕ) (l : Tree) → LevelsOk (Node n a l p r) → LevelsOk (Node m b x q y) → m ≡ n → level y ≡ level l → Grown (Node n a l p r) (split (skew (Node n a (Node m b x q y) p r)))
up_left n a m b x y r p q l h g e f =
    rw (eq-eqb m n e) (if_same (Grown (Node n a l p r)) (level r) m _ _
    (λ i. record { ok = grind arith; top = grind arith })
    (λ i. record { ok = grind arith; top = grind arith }))

grown_left : (n a : ℕ) (l : Tree) (p : ℕ × ℕ) (r u : Tree) → LevelsOk (Node n a l p r) → Grown l u → Grown (Node n a l p r) (split (skew (Node n a u p r)))
grown_left n a l p r Leaf h g = elim g.top [ inl e ↦ as_is (Node n a l p r) (Node n a Leaf p r) (grind arith) (record { ok = grind arith; top = grind arith }) | inr e ↦ absurd (omega arith) ]
grown_left n a l p r (Node m b x q y) h g =
    elim g.top [
      | inl e ↦ as_is (Node n a l p r) (Node n a (Node m b x q y) p r) (grind (arith, g.ok)) (record { ok = grind (arith, g.ok); top = grind (arith, g.ok) })
      | inr e ↦ up_left n a m b x y r p q l h g.ok (omega arith) e.1
    ]

-- after the right child has come up beside its parent, with its own right child beside it
up_right : (n a m b : ℕ) (l x y : Tree) (p q : ℕ × ℕ) (r : Tree) → LevelsOk (Node n a l p r) → LevelsOk (Node m b x q y)
    → (m ≡ level r) ⊎ ((m ≡ suc (level r)) × (level y ≡ level r) × (level (right r) ≡ level r)) → Grown (Node n a l p r) (split (Node n a l p (Node m b x q y)))
up_right n a m b l x y p q r h g e =
    if_same (Grown (Node n a l p r)) (level y) n _ _
    (λ i. record { ok = grind arith; top = grind arith })
    (λ i. record { ok = grind arith; top = grind arith })

grown_right : (n a : ℕ) (l : Tree) (p : ℕ × ℕ) (r u : Tree) → LevelsOk (Node n a l p r) → Grown r u → Grown (Node n a l p r) (split (skew (Node n a l p u)))
grown_right n a l p r Leaf h g = elim g.top [ inl e ↦ as_is (Node n a l p r) (Node n a l p Leaf) (grind arith) (record { ok = grind arith; top = grind arith }) | inr e ↦ absurd (omega arith) ]
grown_right n a l p r (Node m b x q y) h g = rw (ne_eqb (level l) n (omega arith)) (up_right n a m b l x y p q r h g.ok g.top)

-- a tree with right levels keeps them, and is not lower and at most one level higher
grown-inserted : (c k v : ℕ) (t : Tree) → LevelsOk t → Grown t (inserted c k v t)
grown-inserted c k v Leaf h = record { ok = omega arith; top = inr (omega arith) }
grown-inserted c k v (Node n a l p r) h =
    elim (cases_order k p.0) [
      | inl e ↦ rw (le-ltb k p.0 (omega arith), le-ltb p.0 k (omega arith)) (record { ok = h; top = inl refl })
      | inr (inl less) ↦ rw (lt-ltb k p.0 less) (grown_left n a l p r (inserted c k v l) h (grown-inserted c k v l h.4))
      | inr (inr more) ↦ rw (le-ltb k p.0 (omega arith), lt-ltb p.0 k more) (grown_right n a l p r (inserted c k v r) h (grown-inserted c k v r h.5))
    ]

pub levels-inserted : (c k v : ℕ) (t : Tree) → LevelsOk t → LevelsOk (inserted c k v t)
levels-inserted c k v t h = (grown-inserted c k v t h).ok

pub root-inserted : (c k v : ℕ) (t : Tree) → LevelsOk t → (level (inserted c k v t) ≡ level t) ⊎ (level (inserted c k v t) ≡ suc (level t))
root-inserted c k v t h = ⊎_elim (λ e. inl e) (λ e. inr e.0) (grown-inserted c k v t h).top
