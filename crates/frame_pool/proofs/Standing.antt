-- The free frames stand before the others, also where a frame moves to an end.
use Rattle.std.specs.Prelude.{◌≡◌, ◌≢◌, ℕ, Bool, true, false, not, cond, ◌==◌, List, [], ◌∷◌, ◌++◌, filter, refl}
use Rattle.std.proofs.Common.{◌∙◌, ap, ap₂, sym, ⊎_elim, append_assoc, append-nil}
use Rattle.std.proofs.lemmas.Bool.{cases_eq}
use Rattle.std.proofs.lemmas.List.Elements.{filter-append, filter_agree}
use Rattle.frame_pool.specs.Orders.{StandFirst, freed_first, used_last, without}
use Rattle.frame_pool.proofs.Times.{without_other, without_same}

keep : (ℕ → Bool) → ℕ → List ℕ → List ℕ
keep t x xs = cond (t x) (x ∷ xs) xs

swapped : (t : ℕ → Bool) (k : ℕ) (xs : List ℕ) → filter t (without k xs) ≡ without k (filter t xs)
swapped t k [] = refl
swapped t k (x ∷ xs) = ⊎_elim
    (λ e. ap (filter t) (without_same k x xs e) ∙ swapped t k xs ∙ sym (dropped (t x) e))
    (λ ne. ap (filter t) (without_other k x xs ne) ∙ ap (λ l. cond (t x) (x ∷ l) l) (swapped t k xs) ∙ sym (kept (t x) ne))
    (cases_eq x k)
  where
    dropped : (b : Bool) → x ≡ k → without k (cond b (x ∷ filter t xs) (filter t xs)) ≡ without k (filter t xs)
    dropped true e = without_same k x (filter t xs) e
    dropped false e = refl

    kept : (b : Bool) → x ≢ k → without k (cond b (x ∷ filter t xs) (filter t xs)) ≡ cond b (x ∷ without k (filter t xs)) (without k (filter t xs))
    kept true ne = without_other k x (filter t xs) ne
    kept false ne = refl

-- tests that differ at k alone
agree_without : (t u : ℕ → Bool) (k : ℕ) (xs : List ℕ) → ((j : ℕ) → j ≢ k → u j ≡ t j) → filter u (without k xs) ≡ filter t (without k xs)
agree_without t u k [] same = refl
agree_without t u k (x ∷ xs) same = ⊎_elim
    (λ e. ap (filter u) (without_same k x xs e) ∙ agree_without t u k xs same ∙ sym (ap (filter t) (without_same k x xs e)))
    (λ ne. ap (filter u) (without_other k x xs ne) ∙ ap (λ b. cond b (x ∷ filter u (without k xs)) (filter u (without k xs))) (same x ne)
    ∙ ap (λ l. cond (t x) (x ∷ l) l) (agree_without t u k xs same) ∙ sym (ap (filter t) (without_other k x xs ne)))
    (cases_eq x k)

stand_without : (t u : ℕ → Bool) (k : ℕ) (xs : List ℕ) → StandFirst t xs → ((j : ℕ) → j ≢ k → u j ≡ t j) → StandFirst u (without k xs)
stand_without t u k xs stand same =
    ap₂ (λ l m. l ++ m) (agree_without t u k xs same ∙ swapped t k xs)
    (agree_without (λ j. not (t j)) (λ j. not (u j)) k xs (λ j ne. ap not (same j ne)) ∙ swapped (λ j. not (t j)) k xs)
    ∙ sym (filter-append (λ j. not (j == k)) (filter t xs) (filter (λ j. not (t j)) xs))
    ∙ ap (without k) stand

pub stand_same : (t u : ℕ → Bool) (xs : List ℕ) → StandFirst t xs → ((j : ℕ) → u j ≡ t j) → StandFirst u xs
stand_same t u xs stand same = ap₂ (λ l m. l ++ m) (filter_agree u t same xs) (filter_agree (λ j. not (u j)) (λ j. not (t j)) (λ j. ap not (same j)) xs) ∙ stand

-- k passes no more, and goes last
pub stand_last : (t u : ℕ → Bool) (k : ℕ) (xs : List ℕ) → StandFirst t xs → ((j : ℕ) → j ≢ k → u j ≡ t j) → u k ≡ false → StandFirst u (used_last k xs)
stand_last t u k xs stand same out =
    let ys = without k xs in
    ap₂ (λ l m. l ++ m)
    (filter-append u ys (k ∷ []) ∙ ap (λ b. filter u ys ++ cond b (k ∷ []) []) out ∙ append-nil (filter u ys))
    (filter-append (λ j. not (u j)) ys (k ∷ []) ∙ ap (λ b. filter (λ j. not (u j)) ys ++ cond (not b) (k ∷ []) []) out)
    ∙ sym (append_assoc (filter u ys) (filter (λ j. not (u j)) ys) (k ∷ []))
    ∙ ap (λ l. l ++ k ∷ []) (stand_without t u k xs stand same)

-- k passes now, and goes first
pub stand_first : (t u : ℕ → Bool) (k : ℕ) (xs : List ℕ) → StandFirst t xs → ((j : ℕ) → j ≢ k → u j ≡ t j) → u k ≡ true → StandFirst u (freed_first k xs)
stand_first t u k xs stand same now =
    let ys = without k xs in
    ap₂ (λ b c. cond b (k ∷ filter u ys) (filter u ys) ++ cond (not c) (k ∷ filter (λ j. not (u j)) ys) (filter (λ j. not (u j)) ys)) now now
    ∙ ap (λ l. k ∷ l) (stand_without t u k xs stand same)
