-- What is found in a list after a change: a list is a map.
use Rattle.std.proofs.Common.{◌≡◌, ◌≢◌, ℕ, ◌<◌, cond, eqb, List, [], ◌∷◌, Some, None, refl, ap, ◌∙◌, inl, inr, arith}
use Rattle.std.proofs.lemmas.Bool.{lt-ltb, le-ltb, eq-eqb, ne_eqb, cases_order}
use Rattle.map_laws.specs.Lists.{KeysRise, found, put, taken}
use Rattle.map_laws.proofs.ListLaws.{each-map, found_below}

found_first : (k v : ℕ) (l : List (ℕ × ℕ)) → found k ((k, v) ∷ l) ≡ Some v
found_first k v l = rw (eq-eqb k k refl)

found_later : (k : ℕ) (p : ℕ × ℕ) (l : List (ℕ × ℕ)) → k ≢ p.0 → found k (p ∷ l) ≡ found k l
found_later k p l ne = rw (ne_eqb k p.0 ne)

pub found-put : (k v : ℕ) (l : List (ℕ × ℕ)) → found k (put k v l) ≡ Some v
found-put k v [] = found_first k v []
found-put k v (p ∷ l) =
    elim (cases_order k p.0) [
      | inl same ↦ rw (le-ltb k p.0 (omega arith), le-ltb p.0 k (omega arith)) (found_first k v l)
      | inr (inl less) ↦ rw (lt-ltb k p.0 less) (found_first k v (p ∷ l))
      | inr (inr more) ↦ rw (le-ltb k p.0 (omega arith), lt-ltb p.0 k more, ne_eqb k p.0 (omega arith)) (found-put k v l)
    ]

pub found-put_other : (j k v : ℕ) (l : List (ℕ × ℕ)) → j ≢ k → found j (put k v l) ≡ found j l
found-put_other j k v [] ne = found_later j (k, v) [] ne
found-put_other j k v (p ∷ l) ne =
    elim (cases_order k p.0) [
      | inl same ↦ rw (le-ltb k p.0 (omega arith), le-ltb p.0 k (omega arith), ne_eqb j k ne, ne_eqb j p.0 (omega arith)) refl
      | inr (inl less) ↦ rw (lt-ltb k p.0 less) (found_later j (k, v) (p ∷ l) ne)
      | inr (inr more) ↦ rw (le-ltb k p.0 (omega arith), lt-ltb p.0 k more) (ap (λ z. cond (eqb j p.0) (Some p.1) z) (found-put_other j k v l ne))
    ]

pub found-taken : (k : ℕ) (l : List (ℕ × ℕ)) → KeysRise l → found k (taken k l) ≡ None
found-taken k [] h = refl
found-taken k (p ∷ l) h =
    elim (cases_order k p.0) [
      | inl same ↦ rw (eq-eqb k p.0 same) (found_below k l (each-map (λ z. p.0 < z.0) (λ z. k < z.0) (λ z f. omega arith) l h.0))
      | inr other ↦ rw (ne_eqb k p.0 (omega arith)) (found_later k p (taken k l) (omega arith) ∙ found-taken k l h.1)
    ]

pub found-taken_other : (j k : ℕ) (l : List (ℕ × ℕ)) → j ≢ k → found j (taken k l) ≡ found j l
found-taken_other j k [] ne = refl
found-taken_other j k (p ∷ l) ne =
    elim (cases_order k p.0) [
      | inl same ↦ rw (eq-eqb k p.0 same, ne_eqb j p.0 (omega arith)) refl
      | inr other ↦ rw (ne_eqb k p.0 (omega arith)) (ap (λ z. cond (eqb j p.0) (Some p.1) z) (found-taken_other j k l ne))
    ]
