-- Removal takes a pair from the list, and keeps the levels right.
use Rattle.std.proofs.Common.{◌≡◌, ◌⊎◌, ℕ, suc, ◌∷◌, ◌++◌, Some, None, refl, sym, ap, subst, ◌∙◌, inl, inr, ⊎_elim, arith}
use Rattle.std.proofs.lemmas.Bool.{lt-ltb, le-ltb, cases_order}
use Rattle.map_laws.specs.Lists.{KeysRise, taken}
use Rattle.map_laws.specs.Trees.{Tree, Leaf, Node, pairs, level, right, LevelsOk, looked_up}
use Rattle.map_laws.specs.Changes.{first, first_place, without_first, without_root, removed}
use Rattle.map_laws.proofs.ListLaws.{rise_front, rise_back, rise_taken, taken_left, taken_right, taken_at}
use Rattle.map_laws.proofs.Depths.{right-le}
use Rattle.map_laws.proofs.Turned.{pairs-settled, settled_ok}
use Rattle.map_laws.proofs.Settled.{Shrunk, settled_left, settled_right}

pairs-without_first : (d : ℕ × ℕ) (n a : ℕ) (l : Tree) (p : ℕ × ℕ) (r : Tree) → first d (Node n a l p r) ∷ pairs (without_first (Node n a l p r)) ≡ pairs l ++ p ∷ pairs r
pairs-without_first d n a Leaf p r = refl
pairs-without_first d n a (Node m b x q y) p r =
    ap (λ z. first p (Node m b x q y) ∷ z) (pairs-settled (Node n a (without_first (Node m b x q y)) p r)) ∙ ap (λ z. z ++ p ∷ pairs r) (pairs-without_first p m b x q y)

-- what is left where one side is a leaf, or the next pair has come up
pairs-without_root : (n a : ℕ) (l r : Tree) (p : ℕ × ℕ) → LevelsOk (Node n a l p r) → pairs (without_root n l r) ≡ pairs l ++ pairs r
pairs-without_root n a Leaf r p h = refl
pairs-without_root n a (Node m b x q y) Leaf p h = absurd (omega arith)
pairs-without_root n a (Node m b x q y) (Node k c z s w) p h =
    pairs-settled (Node n (first_place b (Node k c z s w)) (Node m b x q y) (first q (Node k c z s w)) (without_first (Node k c z s w))) ∙ ap (λ v. pairs (Node m b x q y) ++ v) (pairs-without_first q k c z s w)

pub pairs-removed : (k : ℕ) (t : Tree) → LevelsOk t → KeysRise (pairs t) → pairs (removed k t) ≡ taken k (pairs t)
pairs-removed k Leaf h s = refl
pairs-removed k (Node n a l p r) h s =
    elim (cases_order k p.0) [
      | inl e ↦ rw (le-ltb k p.0 (omega arith), le-ltb p.0 k (omega arith)) (pairs-without_root n a l r p h ∙ sym (taken_at k p (pairs l) (pairs r) e s))
      | inr (inl less) ↦ rw (lt-ltb k p.0 less)
          (pairs-settled (Node n a (removed k l) p r) ∙ ap (λ z. z ++ p ∷ pairs r) (pairs-removed k l h.4 (rise_front (pairs l) (p ∷ pairs r) s)) ∙ sym (taken_left k p (pairs l) (pairs r) less s))
      | inr (inr more) ↦ rw (le-ltb k p.0 (omega arith), lt-ltb p.0 k more)
          (pairs-settled (Node n a l p (removed k r)) ∙ ap (λ z. pairs l ++ p ∷ z) (pairs-removed k r h.5 (rise_back (pairs l) p (pairs r) s)) ∙ sym (taken_right k p (pairs l) (pairs r) more s))
    ]

pub rise-removed : (k : ℕ) (t : Tree) → LevelsOk t → KeysRise (pairs t) → KeysRise (pairs (removed k t))
rise-removed k t h s = subst KeysRise (sym (pairs-removed k t h s)) (rise_taken k (pairs t) s)

-- where the key is not there, nothing changes
pub removed_none : (k : ℕ) (t : Tree) → LevelsOk t → looked_up k t ≡ None → removed k t ≡ t
removed_none k Leaf h e = refl
removed_none k (Node n a l p r) h e =
    elim (cases_order k p.0) [
      | inl same ↦ let f : Some p.1 ≡ None = rw (le-ltb k p.0 (omega arith), le-ltb p.0 k (omega arith)) at e in absurd (cc)
      | inr (inl less) ↦ rw (lt-ltb k p.0 less, removed_none k l h.4 (rw (lt-ltb k p.0 less) at e)) (settled_ok (Node n a l p r) h)
      | inr (inr more) ↦ rw (le-ltb k p.0 (omega arith), lt-ltb p.0 k more, removed_none k r h.5 (rw (le-ltb k p.0 (omega arith), lt-ltb p.0 k more) at e)) (settled_ok (Node n a l p r) h)
    ]

-- a root without a left side is gone
root_gone : (n a : ℕ) (p : ℕ × ℕ) (r : Tree) → LevelsOk (Node n a Leaf p r) → Shrunk n (level r) r
root_gone n a p r h = record { ok = h.5; top = elim (cases_order (level r) n) [ inl same ↦ inr (omega (arith, right-le r h.5)) | inr other ↦ inl (omega arith) ] }

shrunk-without_first : (n a : ℕ) (l : Tree) (p : ℕ × ℕ) (r : Tree) → LevelsOk (Node n a l p r) → Shrunk n (level r) (without_first (Node n a l p r))
shrunk-without_first n a Leaf p r h = root_gone n a p r h
shrunk-without_first n a (Node m b x q y) p r h = settled_left n a (Node m b x q y) (without_first (Node m b x q y)) p r h (shrunk-without_first m b x q y h.4)

shrunk-without_root : (n a : ℕ) (l : Tree) (p : ℕ × ℕ) (r : Tree) → LevelsOk (Node n a l p r) → Shrunk n (level r) (without_root n l r)
shrunk-without_root n a Leaf p r h = root_gone n a p r h
shrunk-without_root n a (Node m b x q y) p Leaf h = absurd (omega arith)
shrunk-without_root n a (Node m b x q y) p (Node k c z s w) h =
    settled_right n (first_place b (Node k c z s w)) (Node m b x q y) (first q (Node k c z s w)) (Node k c z s w) (without_first (Node k c z s w)) h (shrunk-without_first k c z s w h.5)

shrunk-removed : (k : ℕ) (t : Tree) → LevelsOk t → Shrunk (level t) (level (right t)) (removed k t)
shrunk-removed k Leaf h = record { ok = h; top = inr (omega arith) }
shrunk-removed k (Node n a l p r) h =
    elim (cases_order k p.0) [
      | inl e ↦ rw (le-ltb k p.0 (omega arith), le-ltb p.0 k (omega arith)) (shrunk-without_root n a l p r h)
      | inr (inl less) ↦ rw (lt-ltb k p.0 less) (settled_left n a l (removed k l) p r h (shrunk-removed k l h.4))
      | inr (inr more) ↦ rw (le-ltb k p.0 (omega arith), lt-ltb p.0 k more) (settled_right n a l p r (removed k r) h (shrunk-removed k r h.5))
    ]

pub levels-removed : (k : ℕ) (t : Tree) → LevelsOk t → LevelsOk (removed k t)
levels-removed k t h = (shrunk-removed k t h).ok

pub root-removed : (k : ℕ) (t : Tree) → LevelsOk t → (level (removed k t) ≡ level t) ⊎ (suc (level (removed k t)) ≡ level t)
root-removed k t h = ⊎_elim (λ e. inr e) (λ e. inl e.0) (shrunk-removed k t h).top
