-- The bytes that a piece holds: a part of its buffer.
use Rattle.std.proofs.Common.{◌≡◌, ℕ, ◌+◌, ◌-◌, ◌≤◌, List, length, take, drop, sym, ap, ◌∙◌, arith}
use Rattle.std.proofs.lemmas.List.{drop-drop, drop-take, length-take}

-- what is held after the first n bytes were passed over
pub held_after : (xs : List ℕ) (start end n : ℕ) → n ≤ length (take (end - start) (drop start xs)) → take (end - (start + n)) (drop (start + n) xs) ≡ drop n (take (end - start) (drop start xs))
held_after xs start end n within =
    let few : n ≤ end - start = omega (arith, length-take (end - start) (drop start xs)) in
    let rest : end - start ≡ n + (end - (start + n)) = omega arith in
    ap (take (end - (start + n))) (sym (drop-drop n start xs))
    ∙ sym (drop-take n (end - (start + n)) (drop start xs))
    ∙ ap (λ k. drop n (take k (drop start xs))) (sym rest)
