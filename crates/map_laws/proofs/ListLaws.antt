-- What the operations on a list with rising keys do on either side of a pair p.
use Rattle.std.proofs.Common.{◌≡◌, ℕ, ◌<◌, Bool, true, false, cond, eqb, ltb, List, [], ◌∷◌, ◌++◌, Some, None, refl, ap, ◌∙◌, inl, inr, arith}
use Rattle.std.proofs.lemmas.Bool.{lt-ltb, le-ltb, eq-eqb, ne_eqb, cases_order}
use Rattle.std.specs.List.{AllByRecursion}
use Rattle.map_laws.specs.Lists.{KeysRise, found, put, taken}

pub each-map : (P Q : ℕ × ℕ → Type 0) → ((q : ℕ × ℕ) → P q → Q q) → (t : List (ℕ × ℕ)) → AllByRecursion P t → AllByRecursion Q t
each-map P Q f [] h = tt
each-map P Q f (q ∷ t) h = (f q h.0, each-map P Q f t h.1)

each_front : (P : ℕ × ℕ → Type 0) (l m : List (ℕ × ℕ)) → AllByRecursion P (l ++ m) → AllByRecursion P l
each_front P [] m h = tt
each_front P (q ∷ l) m h = (h.0, each_front P l m h.1)

each_back : (P : ℕ × ℕ → Type 0) (l m : List (ℕ × ℕ)) → AllByRecursion P (l ++ m) → AllByRecursion P m
each_back P [] m h = h
each_back P (q ∷ l) m h = each_back P l m h.1

each_put : (P : ℕ × ℕ → Type 0) (k v : ℕ) (t : List (ℕ × ℕ)) → P (k, v) → AllByRecursion P t → AllByRecursion P (put k v t)
each_put P k v [] p h = (p, tt)
each_put P k v (q ∷ t) p h =
    elim (cases_order k q.0) [
      | inl e ↦ rw (le-ltb k q.0 (omega arith), le-ltb q.0 k (omega arith)) (p, h.1)
      | inr (inl less) ↦ rw (lt-ltb k q.0 less) (p, h)
      | inr (inr more) ↦ rw (le-ltb k q.0 (omega arith), lt-ltb q.0 k more) (h.0, each_put P k v t p h.1)
    ]

each_taken : (P : ℕ × ℕ → Type 0) (k : ℕ) (t : List (ℕ × ℕ)) → AllByRecursion P t → AllByRecursion P (taken k t)
each_taken P k [] h = tt
each_taken P k (q ∷ t) h = elim (eqb k q.0) as (λ b. AllByRecursion P (cond b t (q ∷ taken k t))) [ true ↦ h.1 | false ↦ (h.0, each_taken P k t h.1) ]

pub rise_front : (l m : List (ℕ × ℕ)) → KeysRise (l ++ m) → KeysRise l
rise_front [] m h = tt
rise_front (q ∷ l) m h = (each_front _ l m h.0, rise_front l m h.1)

pub rise_back : (l : List (ℕ × ℕ)) (p : ℕ × ℕ) (r : List (ℕ × ℕ)) → KeysRise (l ++ p ∷ r) → KeysRise r
rise_back [] p r h = h.1
rise_back (q ∷ l) p r h = rise_back l p r h.1

pub rise_put : (k v : ℕ) (t : List (ℕ × ℕ)) → KeysRise t → KeysRise (put k v t)
rise_put k v [] h = (tt, tt)
rise_put k v (q ∷ t) h =
    elim (cases_order k q.0) [
      | inl e ↦ rw (le-ltb k q.0 (omega arith), le-ltb q.0 k (omega arith)) (each-map (λ z. q.0 < z.0) (λ z. k < z.0) (λ z f. omega arith) t h.0, h.1)
      | inr (inl less) ↦ rw (lt-ltb k q.0 less) ((less, each-map (λ z. q.0 < z.0) (λ z. k < z.0) (λ z f. omega arith) t h.0), h)
      | inr (inr more) ↦ rw (le-ltb k q.0 (omega arith), lt-ltb q.0 k more) (each_put (λ z. q.0 < z.0) k v t more h.0, rise_put k v t h.1)
    ]

pub rise_taken : (k : ℕ) (t : List (ℕ × ℕ)) → KeysRise t → KeysRise (taken k t)
rise_taken k [] h = tt
rise_taken k (q ∷ t) h =
    elim (eqb k q.0) as (λ b. KeysRise (cond b t (q ∷ taken k t))) [ true ↦ h.1 | false ↦ (each_taken (λ z. q.0 < z.0) k t h.0, rise_taken k t h.1) ]

-- where the keys rise through p, each key on the left is below it
left_below : (q : ℕ × ℕ) (l : List (ℕ × ℕ)) (p : ℕ × ℕ) (r : List (ℕ × ℕ)) → KeysRise (q ∷ (l ++ p ∷ r)) → q.0 < p.0
left_below q l p r h = (each_back (λ z. q.0 < z.0) l (p ∷ r) h.0).0

put_cases : (a b : Bool) (e q : ℕ × ℕ) (t u m v : List (ℕ × ℕ)) → v ≡ u ++ m → cond a (e ∷ q ∷ (t ++ m)) (cond b (q ∷ v) (e ∷ (t ++ m))) ≡ cond a (e ∷ q ∷ t) (cond b (q ∷ u) (e ∷ t)) ++ m
put_cases true b e q t u m v i = refl
put_cases false true e q t u m v i = ap (λ z. q ∷ z) i
put_cases false false e q t u m v i = refl

pub put_left : (k v : ℕ) (p : ℕ × ℕ) (l r : List (ℕ × ℕ)) → k < p.0 → put k v (l ++ p ∷ r) ≡ put k v l ++ p ∷ r
put_left k v p [] r h = rw (lt-ltb k p.0 h)
put_left k v p (q ∷ l) r h = put_cases (ltb k q.0) (ltb q.0 k) (k, v) q l (put k v l) (p ∷ r) _ (put_left k v p l r h)

put_later : (k v : ℕ) (q : ℕ × ℕ) (t : List (ℕ × ℕ)) → q.0 < k → put k v (q ∷ t) ≡ q ∷ put k v t
put_later k v q t h = rw (le-ltb k q.0 (omega arith), lt-ltb q.0 k h)

pub put_right : (k v : ℕ) (p : ℕ × ℕ) (l r : List (ℕ × ℕ)) → p.0 < k → KeysRise (l ++ p ∷ r) → put k v (l ++ p ∷ r) ≡ l ++ p ∷ put k v r
put_right k v p [] r h s = put_later k v p r h
put_right k v p (q ∷ l) r h s =
    let f : q.0 < p.0 = left_below q l p r s in
    put_later k v q (l ++ p ∷ r) (omega arith) ∙ ap (λ z. q ∷ z) (put_right k v p l r h s.1)

pub put_at : (k v : ℕ) (p : ℕ × ℕ) (l r : List (ℕ × ℕ)) → k ≡ p.0 → KeysRise (l ++ p ∷ r) → put k v (l ++ p ∷ r) ≡ l ++ (k, v) ∷ r
put_at k v p [] r h s = rw (le-ltb k p.0 (omega arith), le-ltb p.0 k (omega arith))
put_at k v p (q ∷ l) r h s =
    let f : q.0 < p.0 = left_below q l p r s in
    put_later k v q (l ++ p ∷ r) (omega arith) ∙ ap (λ z. q ∷ z) (put_at k v p l r h s.1)

pub found_below : (k : ℕ) (t : List (ℕ × ℕ)) → AllByRecursion (λ q. k < q.0) t → found k t ≡ None
found_below k [] h = refl
found_below k (q ∷ t) h = let f : k < q.0 = h.0 in rw (ne_eqb k q.0 (omega arith)) (found_below k t h.1)

-- a key below that of p is below all that follow
below_rest : (k : ℕ) (p : ℕ × ℕ) (l r : List (ℕ × ℕ)) → k < p.0 → KeysRise (l ++ p ∷ r) → AllByRecursion (λ q. k < q.0) (p ∷ r)
below_rest k p [] r h s = (h, each-map (λ z. p.0 < z.0) (λ z. k < z.0) (λ z f. omega arith) r s.0)
below_rest k p (q ∷ l) r h s = below_rest k p l r h s.1

pub found_left : (k : ℕ) (p : ℕ × ℕ) (l r : List (ℕ × ℕ)) → k < p.0 → KeysRise (l ++ p ∷ r) → found k (l ++ p ∷ r) ≡ found k l
found_left k p [] r h s = found_below k (p ∷ r) (below_rest k p [] r h s)
found_left k p (q ∷ l) r h s = ap (λ z. cond (eqb k q.0) (Some q.1) z) (found_left k p l r h s.1)

pub found_right : (k : ℕ) (p : ℕ × ℕ) (l r : List (ℕ × ℕ)) → p.0 < k → KeysRise (l ++ p ∷ r) → found k (l ++ p ∷ r) ≡ found k r
found_right k p [] r h s = rw (ne_eqb k p.0 (omega arith))
found_right k p (q ∷ l) r h s =
    let f : q.0 < p.0 = left_below q l p r s in
    rw (ne_eqb k q.0 (omega arith)) (found_right k p l r h s.1)

pub found_at : (k : ℕ) (p : ℕ × ℕ) (l r : List (ℕ × ℕ)) → k ≡ p.0 → KeysRise (l ++ p ∷ r) → found k (l ++ p ∷ r) ≡ Some p.1
found_at k p [] r h s = rw (eq-eqb k p.0 h)
found_at k p (q ∷ l) r h s =
    let f : q.0 < p.0 = left_below q l p r s in
    rw (ne_eqb k q.0 (omega arith)) (found_at k p l r h s.1)

taken_below : (k : ℕ) (t : List (ℕ × ℕ)) → AllByRecursion (λ q. k < q.0) t → taken k t ≡ t
taken_below k [] h = refl
taken_below k (q ∷ t) h = let f : k < q.0 = h.0 in rw (ne_eqb k q.0 (omega arith)) (ap (λ z. q ∷ z) (taken_below k t h.1))

taken_cases : (b : Bool) (q : ℕ × ℕ) (l m u v : List (ℕ × ℕ)) → v ≡ u ++ m → cond b (l ++ m) (q ∷ v) ≡ cond b l (q ∷ u) ++ m
taken_cases true q l m u v i = refl
taken_cases false q l m u v i = ap (λ z. q ∷ z) i

pub taken_left : (k : ℕ) (p : ℕ × ℕ) (l r : List (ℕ × ℕ)) → k < p.0 → KeysRise (l ++ p ∷ r) → taken k (l ++ p ∷ r) ≡ taken k l ++ p ∷ r
taken_left k p [] r h s = taken_below k (p ∷ r) (below_rest k p [] r h s)
taken_left k p (q ∷ l) r h s = taken_cases (eqb k q.0) q l (p ∷ r) (taken k l) _ (taken_left k p l r h s.1)

pub taken_right : (k : ℕ) (p : ℕ × ℕ) (l r : List (ℕ × ℕ)) → p.0 < k → KeysRise (l ++ p ∷ r) → taken k (l ++ p ∷ r) ≡ l ++ p ∷ taken k r
taken_right k p [] r h s = rw (ne_eqb k p.0 (omega arith))
taken_right k p (q ∷ l) r h s =
    let f : q.0 < p.0 = left_below q l p r s in
    rw (ne_eqb k q.0 (omega arith)) (ap (λ z. q ∷ z) (taken_right k p l r h s.1))

pub taken_at : (k : ℕ) (p : ℕ × ℕ) (l r : List (ℕ × ℕ)) → k ≡ p.0 → KeysRise (l ++ p ∷ r) → taken k (l ++ p ∷ r) ≡ l ++ r
taken_at k p [] r h s = rw (eq-eqb k p.0 h)
taken_at k p (q ∷ l) r h s =
    let f : q.0 < p.0 = left_below q l p r s in
    rw (ne_eqb k q.0 (omega arith)) (ap (λ z. q ∷ z) (taken_at k p l r h s.1))
