-- A chain from which a number is taken, and into which it is put at an end.
use Rattle.std.specs.Prelude.{◌≡◌, ◌≢◌, ℕ, zero, suc, List, [], ◌∷◌, ◌++◌, length, refl}
use Rattle.std.proofs.Common.{◌∙◌, ap, sym, subst, ⊎_elim, arith}
use Rattle.std.proofs.lemmas.Bool.{cases_eq}
use Rattle.frame_pool.specs.Frames.{walk}
use Rattle.frame_pool.specs.Orders.{times, without}
use Rattle.frame_pool.specs.Rings.{Chain, Joins}
use Rattle.frame_pool.proofs.Times.{not_first, not_later, times_nil, times_other, times_same, without_none, without_other, without_same}

pub length_walk : (next : ℕ → ℕ) (n k : ℕ) → length (walk next n k) ≡ n
unfolding walk
length_walk next zero k = refl
length_walk next (suc n) k = ap suc (length_walk next n (next k))

-- a chain is what a walk finds
pub walk_chain : (o y : ℕ → ℕ) (a : ℕ) (xs : List ℕ) (z : ℕ) → Chain o y a xs z → walk y (length xs) (y a) ≡ xs
unfolding Chain walk
walk_chain o y a [] z c = refl
walk_chain o y a (x ∷ xs) z c = ap (λ k. k ∷ walk y (length xs) (y k)) c.0 ∙ ap (λ l. x ∷ l) (walk_chain o y x xs z c.1.1)

-- a number of the chain is linked with both its neighbours
pub record IsLinked (o y : ℕ → ℕ) (k : ℕ) : Type 0 where
  pub before : y (o k) ≡ k
  pub after : o (y k) ≡ k

starts : (o y : ℕ → ℕ) (a : ℕ) (xs : List ℕ) (z : ℕ) → Chain o y a xs z → o (y a) ≡ a
unfolding Chain
starts o y a [] z c = ap o c.0 ∙ c.1
starts o y a (x ∷ xs) z c = ap o c.0 ∙ c.1.0

ends : (o y : ℕ → ℕ) (a : ℕ) (xs : List ℕ) (z : ℕ) → Chain o y a xs z → y (o z) ≡ z
unfolding Chain
ends o y a [] z c = ap y c.1 ∙ c.0
ends o y a (x ∷ xs) z c = ends o y x xs z c.1.1

pub linked : (o y : ℕ → ℕ) (k a : ℕ) (xs : List ℕ) (z : ℕ) → Chain o y a xs z → times k xs ≡ 1 → IsLinked o y k
unfolding Chain
linked o y k a [] z c once = absurd (omega (arith, once, times_nil k))
linked o y k a (x ∷ xs) z c once = ⊎_elim
    (λ e. record { before = subst (λ i. y (o i) ≡ i) e (ap y c.1.0 ∙ c.0); after = subst (λ i. o (y i) ≡ i) e (starts o y x xs z c.1.1) })
    (λ ne. linked o y k x xs z c.1.1 (sym (times_other k x xs ne) ∙ once))
    (cases_eq x k)

-- k is taken out: its neighbours are joined
module _ (k : ℕ) (o y p q : ℕ → ℕ) (is : IsLinked o y k) (j : Joins (o k) (y k) o y p q) where
  -- a link that has no end at k stays
  stays_after : (s t : ℕ) → y s ≡ t → t ≢ k → q s ≡ t
  stays_after s t e ne = j.youngers s (λ d. ne (sym e ∙ ap y d ∙ is.before)) ∙ e

  stays_before : (s t : ℕ) → o t ≡ s → s ≢ k → p t ≡ s
  stays_before s t e ne = j.olders t (λ d. ne (sym e ∙ ap o d ∙ is.after)) ∙ e

  stays : (s : ℕ) (xs : List ℕ) (z : ℕ) → Chain o y s xs z → times k xs ≡ 0 → s ≢ k → z ≢ k → Chain p q s xs z
  unfolding Chain
  stays s [] z c none a b = (stays_after s z c.0 b, stays_before s z c.1 a)
  stays s (x ∷ xs) z c none a b =
      let ne = not_first k x xs none in
      (stays_after s x c.0 ne, (stays_before s x c.1.0 a, stays x xs z c.1.1 (not_later k x xs none) ne b))

  closes : (s : ℕ) (xs : List ℕ) (z : ℕ) → s ≡ o k → Chain o y k xs z → times k xs ≡ 0 → z ≢ k → Chain p q s xs z
  unfolding Chain
  closes s [] z before c none b = (ap q before ∙ j.younger ∙ c.0, ap p (sym c.0) ∙ j.older ∙ sym before)
  closes s (x ∷ xs) z before c none b =
      (ap q before ∙ j.younger ∙ c.0, (ap p (sym c.0) ∙ j.older ∙ sym before, stays x xs z c.1.1 (not_later k x xs none) (not_first k x xs none) b))

  pub taken_out : (s : ℕ) (xs : List ℕ) (z : ℕ) → Chain o y s xs z → times k xs ≡ 1 → s ≢ k → z ≢ k → Chain p q s (without k xs) z
  unfolding Chain
  taken_out s [] z c once a b = absurd (omega (arith, once, times_nil k))
  taken_out s (x ∷ xs) z c once a b = ⊎_elim
      (λ e.
      let none : times k xs ≡ 0 = omega (arith, once, times_same k x xs e) in
      subst (λ l. Chain p q s l z) (sym (without_same k x xs e ∙ without_none k xs none)) (closes s xs z (sym c.1.0 ∙ ap o e) (subst (λ i. Chain o y i xs z) e c.1.1) none b))
      (λ ne. subst (λ l. Chain p q s l z) (sym (without_other k x xs ne)) (stays_after s x c.0 ne, (stays_before s x c.1.0 a, taken_out x xs z c.1.1 (sym (times_other k x xs ne) ∙ once) ne b)))
      (cases_eq x k)

-- k is put between the last one and the knot
module _ (k knot : ℕ) (o y p q v w : ℕ → ℕ) (ne : k ≢ knot) (i : Joins (o knot) k o y p q) (j : Joins k knot p q v w) where
  put_last_from : (s : ℕ) (xs : List ℕ) → y (o knot) ≡ knot → Chain o y s xs knot → times k xs ≡ 0 → times knot xs ≡ 0 → s ≢ k → Chain v w s (xs ++ k ∷ []) knot
  unfolding Chain
  put_last_from s [] end c none never a = (j.youngers s a ∙ ap q (sym c.1) ∙ i.younger, (j.olders k ne ∙ i.older ∙ c.1, (j.younger, j.older)))
  put_last_from s (x ∷ xs) end c none never a =
      let e = not_first k x xs none in
      let f = not_first knot x xs never in
      (j.youngers s a ∙ i.youngers s (λ d. f (sym c.0 ∙ ap y d ∙ end)) ∙ c.0, (j.olders x f ∙ i.olders x e ∙ c.1.0, put_last_from x xs end c.1.1 (not_later k x xs none) (not_later knot x xs never) e))

  pub put_last : (xs : List ℕ) → Chain o y knot xs knot → times k xs ≡ 0 → times knot xs ≡ 0 → Chain v w knot (xs ++ k ∷ []) knot
  put_last xs c none never = put_last_from knot xs (ends o y knot xs knot c) c none never (λ e. ne (sym e))

-- k is put between the knot and the first one
module _ (k knot : ℕ) (o y p q v w : ℕ → ℕ) (ne : k ≢ knot) (i : Joins knot k o y p q) (j : Joins k (y knot) p q v w) where
  stays_behind : (s : ℕ) (xs : List ℕ) → o (y knot) ≡ knot → Chain o y s xs knot → times k xs ≡ 0 → times knot xs ≡ 0 → s ≢ k → s ≢ knot → Chain v w s xs knot
  unfolding Chain
  stays_behind s [] start c none never a b = (j.youngers s a ∙ i.youngers s b ∙ c.0, j.olders knot (λ d. b (sym c.1 ∙ ap o d ∙ start)) ∙ i.olders knot (λ d. ne (sym d)) ∙ c.1)
  stays_behind s (x ∷ xs) start c none never a b =
      let e = not_first k x xs none in
      let f = not_first knot x xs never in
      (j.youngers s a ∙ i.youngers s b ∙ c.0, (j.olders x (λ d. b (sym c.1.0 ∙ ap o d ∙ start)) ∙ i.olders x e ∙ c.1.0, stays_behind x xs start c.1.1 (not_later k x xs none) (not_later knot x xs never) e f))

  pub put_first : (xs : List ℕ) → Chain o y knot xs knot → times k xs ≡ 0 → times knot xs ≡ 0 → Chain v w knot (k ∷ xs) knot
  unfolding Chain
  put_first [] c none never = (j.youngers knot (λ d. ne (sym d)) ∙ i.younger, (j.olders k (λ d. ne (d ∙ c.0)) ∙ i.older, (j.younger ∙ c.0, ap v (sym c.0) ∙ j.older)))
  put_first (x ∷ xs) c none never =
      let e = not_first k x xs none in
      let f = not_first knot x xs never in
      (j.youngers knot (λ d. ne (sym d)) ∙ i.younger, (j.olders k (λ d. e (sym c.0 ∙ sym d)) ∙ i.older, (j.younger ∙ c.0, (ap v (sym c.0) ∙ j.older, stays_behind x xs (ap o c.0 ∙ c.1.0) c.1.1 (not_later k x xs none) (not_later knot x xs never) e f))))
