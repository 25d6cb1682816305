-- Spans of words, as a slice of a range reads.
use Rattle.std.proofs.Common.{◌≡◌, ◌≤◌, ◌++◌, ◌∙◌, ℕ, ◌+◌, ◌-◌, ◌*◌, List, length, take, drop, slice_index_or, ap, sym, subst, arith, length-append, length-drop}
use Rattle.std.proofs.lemmas.List.{get_or_append_left, get_or-append_right, get_or-take, get_or-drop, length-take-le}
use borrow.Rule.Slice.PartMut.{put_mid}
use Rattle.rio_base.specs.Memory.{FrontStored}

-- the words from the first of page p to the first of the page behind it
pub page_span : (p : ℕ) (words : List ℕ) → take (512 * p + 512 - 512 * p) (drop (512 * p) words) ≡ take 512 (drop (512 * p) words)
page_span p words =
    let count : 512 * p + 512 - 512 * p ≡ 512 = omega arith in
    ap (λ (n : ℕ). take n (drop (512 * p) words)) count

-- a slice of n words is replaced
pub run_stored : (xs ys from : List ℕ) (a k at n : ℕ) → ys ≡ from → a ≡ at → k ≡ n → n ≡ length from → at + n ≤ length xs → FrontStored at n from xs (put_mid a k xs ys)
run_stored xs ys from a k at n same place size len fits =
    let front : length (take at xs) ≡ at = length-take-le at xs (omega arith) in
    subst (λ (zs : List ℕ). FrontStored at n from xs (put_mid a k xs zs)) (sym same) (subst (λ (b : ℕ). FrontStored at n from xs (put_mid b k xs from)) (sym place) (subst (λ (m : ℕ). FrontStored at n from xs (put_mid at m xs from)) (sym size) (record {
      count = omega (arith, length-append (take at xs) (from ++ drop n (drop at xs)), length-append from (drop n (drop at xs)), front, length-drop n (drop at xs), length-drop at xs);
      front = λ i less. get_or-append_right (take at xs) (from ++ drop n (drop at xs)) at (at + i) 0 front (omega arith) ∙ ap (λ j. slice_index_or (from ++ drop n (drop at xs)) j 0) (omega arith) ∙ get_or_append_left from (drop n (drop at xs)) 0 i (omega arith);
      below = λ i less. get_or_append_left (take at xs) (from ++ drop n (drop at xs)) 0 i (omega arith) ∙ get_or-take at xs i 0 less;
      above = λ i more. get_or-append_right (take at xs) (from ++ drop n (drop at xs)) at i 0 front (omega arith) ∙ get_or-append_right from (drop n (drop at xs)) n (i - at) 0 (sym len) (omega arith) ∙ get_or-drop n (drop at xs) (i - at - n) 0 ∙ get_or-drop at xs (n + (i - at - n)) 0 ∙ ap (λ j. slice_index_or xs j 0) (omega arith);
    })))
