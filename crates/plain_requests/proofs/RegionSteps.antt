-- How what the plain program finds of a region follows, step by step.
use Rattle.plain_requests.proofs.Common.{◌≡◌, ℕ, suc, ◌+◌, ◌-◌, ◌<◌, true, false, List, [], ◌∷◌, ◌++◌, length, map, take, drop, get_or, refl, sym, ap, ◌∙◌, arith, ◌&&◌, range_with_len}
use Rattle.std.proofs.Common.{set, append_assoc}
use Rattle.std.specs.Prelude.{not}
use Rattle.std.proofs.lemmas.List.FromFn.{map-range_with_len_more}
use Rattle.std.proofs.lemmas.List.{map-append, take_more, take_more_set, take-append-drop, drop-set-lt}
use Rattle.rio_model.specs.Heap.{in_block}
use Rattle.rio_requests.specs.RegionAnswers.{all_free, all_in_range, in_range}

-- ---- spans

left_is : (d n : ℕ) → d < n → n - d ≡ suc (n - (d + 1))
left_is d n below = omega arith

-- a word in a range is passed
pub range_passed : (ranges : List (ℕ × ℕ)) (w d n : ℕ) → d < n → in_range ranges (w + d) ≡ true → all_in_range ranges (w + d) (n - d) ≡ all_in_range ranges (w + (d + 1)) (n - (d + 1))
range_passed ranges w d n below is =
    let next : w + d + 1 ≡ w + (d + 1) = omega arith in
    ap (all_in_range ranges (w + d)) (left_is d n below) ∙ ap (λ b. b && all_in_range ranges (w + d + 1) (n - (d + 1))) is ∙ ap (λ x. all_in_range ranges x (n - (d + 1))) next

-- a unit in no block is passed
pub free_passed : (blocks : List (ℕ × ℕ)) (t d n : ℕ) → d < n → in_block blocks (t + d) ≡ false → all_free blocks (t + d) (n - d) ≡ all_free blocks (t + (d + 1)) (n - (d + 1))
free_passed blocks t d n below is =
    let next : t + d + 1 ≡ t + (d + 1) = omega arith in
    ap (all_free blocks (t + d)) (left_is d n below) ∙ ap (λ b. not b && all_free blocks (t + d + 1) (n - (d + 1))) is ∙ ap (λ x. all_free blocks x (n - (d + 1))) next

-- ---- bytes and words

-- one more is pushed
pub pushed : (F : ℕ → ℕ) (a n : ℕ) (xs ys : List ℕ) (y : ℕ) → xs ≡ map F (range_with_len a n) → ys ≡ xs ++ y ∷ [] → y ≡ F (a + n) → ys ≡ map F (range_with_len a (n + 1))
pushed F a n xs ys y were now is = now ∙ ap (λ zs. zs ++ y ∷ []) were ∙ ap (λ z. map F (range_with_len a n) ++ z ∷ []) is ∙ sym (map-range_with_len_more F a n (a + n) refl)

-- the same of a list that is gone over
pub mapped_more : {X Y : Type 0} (f : X → Y) (xs : List X) (i : ℕ) (x : X) (ys zs : List Y) → i < length xs → x ≡ get_or xs i x → ys ≡ map f (take i xs) → zs ≡ ys ++ f x ∷ [] → zs ≡ map f (take (i + 1) xs)
mapped_more f xs i x ys zs below is were now =
    now
    ∙ ap (λ vs. vs ++ f x ∷ []) were
    ∙ sym (ap (map f) (take_more xs i x below ∙ ap (λ v. take i xs ++ v ∷ []) (sym is)) ∙ map-append f (take i xs) (x ∷ []))

-- ---- rows of transactions

-- a row is set
pub row_set : {X : Type 0} (xs : List X) (i : ℕ) (x : X) → i < length xs → set xs i x ≡ take i xs ++ x ∷ drop (i + 1) xs
row_set xs i x below =
    sym (take-append-drop (i + 1) (set xs i x))
    ∙ ap (λ ys. ys ++ drop (i + 1) (set xs i x)) (take_more_set xs i x below)
    ∙ ap (λ ys. (take i xs ++ x ∷ []) ++ ys) (drop-set-lt (i + 1) xs i x (omega arith))
    ∙ append_assoc (take i xs) (x ∷ []) (drop (i + 1) xs)
