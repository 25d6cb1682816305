-- A copy of a part of a list into the front of another.
use Rattle.std.proofs.Common.{◌≡◌, ℕ, ◌+◌, ◌-◌, ◌≤◌, List, ◌++◌, length, take, drop, sym, ap, ◌∙◌, arith, length-drop}
use Rattle.std.proofs.lemmas.List.{take-append-drop, drop-drop, take_at, length-take-le}

pub drop_in_two : (i n : ℕ) (xs : List ℕ) → drop i xs ≡ take n (drop i xs) ++ drop (i + n) xs
drop_in_two i n xs = sym (take-append-drop n (drop i xs)) ∙ ap (λ rest. take n (drop i xs) ++ rest) (drop-drop n i xs)

-- what a source gave, and what it has left, where it copied n bytes from place i on
pub given_front : (items xs more copied : List ℕ) (i n : ℕ) → xs ≡ items → i + n ≤ length xs → copied ≡ take ((i + n) - i) (drop i xs) → drop i items ≡ take n (copied ++ more) ++ drop (i + n) items
given_front items xs more copied i n lent fits is =
    let same : (i + n) - i ≡ n = omega arith in
    let part : copied ≡ take n (drop i xs) = is ∙ ap (λ k. take k (drop i xs)) same in
    let enough : n ≤ length (drop i xs) = omega (arith, length-drop i xs) in
    let size : length copied ≡ n = ap length part ∙ length-take-le n (drop i xs) enough in
    let front : take n (drop i items) ≡ take n (copied ++ more) = ap (λ (zs : List ℕ). take n (drop i zs)) (sym lent) ∙ sym part ∙ sym (take_at copied more n size) in
    drop_in_two i n items ∙ ap (λ zs. zs ++ drop (i + n) items) front
