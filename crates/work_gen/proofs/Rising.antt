-- Bytes that are made one after the other.
use Rattle.std.proofs.Common.{◌≡◌, ◌∙◌, ◌<◌, ◌≤◌, ◌+◌, ◌-◌, ◌%◌, ℕ, suc, sym, ap, arith, List, [], ◌∷◌, ◌++◌, append-nil, append_assoc}
use Rattle.work_gen.specs.Requests.{rising}

-- one more byte is there, and one less is to come
pub one_more : (items now whole : List ℕ) (byte after count made : ℕ) → items ++ rising byte (count - made) ≡ whole → made < count → now ≡ items ++ byte ∷ [] → after ≡ (byte + 1) % 256
    → now ++ rising after (count - (made + 1)) ≡ whole
one_more items now whole byte after count made so_far inside pushed next =
    let left : count - made ≡ suc (count - (made + 1)) = omega (arith, inside) in
    ap (λ (xs : List ℕ). xs ++ rising after (count - (made + 1))) pushed ∙ append_assoc items (byte ∷ []) (rising after (count - (made + 1)))
    ∙ ap (λ (b : ℕ). items ++ byte ∷ rising b (count - (made + 1))) next ∙ ap (λ (n : ℕ). items ++ rising byte n) (sym left) ∙ so_far

-- all are there
pub all_made : (items whole : List ℕ) (byte count made : ℕ) → items ++ rising byte (count - made) ≡ whole → count ≤ made → items ≡ whole
all_made items whole byte count made so_far past =
    let none : count - made ≡ 0 = omega (arith, past) in
    sym (append-nil items) ∙ ap (λ (n : ℕ). items ++ rising byte n) (sym none) ∙ so_far
