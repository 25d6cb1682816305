-- Short names, which are copied with bytes that lie behind them.
use Rattle.std.proofs.Common.{◌≡◌, ℕ, zero, suc, ◌+◌, ◌≤◌, List, [], ◌∷◌, ◌++◌, length, take, sym, ap, ◌∙◌, arith}
use Rattle.std.proofs.lemmas.List.{append_assoc, length-take-le, take-take}
use Rattle.request_codec.specs.Text.{listed_name}

-- a space is held, and then 32 bytes behind it
pub space_held : (second first old run : List ℕ) (held : ℕ) → 32 ≤ length run → take (held + 1 + length (take 32 run)) second ≡ take (held + 1) first ++ take 32 run → take (held + 1) first ≡ take held old ++ 32 ∷ [] → take (held + 33) second ≡ take held old ++ 32 ∷ take 32 run
space_held second first old run held long then space =
    let size : held + 33 ≡ held + 1 + length (take 32 run) = let whole = length-take-le 32 run long in omega (arith, whole) in
    ap (λ (n : ℕ). take n second) size
    ∙ then
    ∙ ap (λ (xs : List ℕ). xs ++ take 32 run) space
    ∙ append_assoc (take held old) (32 ∷ []) (take 32 run)

-- a space and more bytes than a name has are held, of which the name's alone count
pub short_held : (room old run : List ℕ) (held len : ℕ) → held ≤ length old → len ≤ 32 → take (held + 33) room ≡ take held old ++ 32 ∷ take 32 run → take (held + 1 + len) room ≡ take held old ++ listed_name (take len run)
short_held room old run held len fits few is =
    sym (take-take (held + 1 + len) (held + 33) room (omega (arith, few)))
    ∙ ap (take (held + 1 + len)) is
    ∙ behind (take held old) (32 ∷ take 32 run) (held + 1 + len) (suc len) (let long = length-take-le held old fits in omega (arith, long))
    ∙ ap (λ (xs : List ℕ). take held old ++ 32 ∷ xs) (take-take len 32 run few)
  where
    behind : (xs ys : List ℕ) (n k : ℕ) → n ≡ length xs + k → take n (xs ++ ys) ≡ xs ++ take k ys
    behind [] ys n k e = let same : n ≡ k = omega (arith, e) in ap (λ (m : ℕ). take m ys) same
    behind (x ∷ xs) ys zero k e = absurd (omega (arith, e))
    behind (x ∷ xs) ys (suc n) k e = ap (λ (zs : List ℕ). x ∷ zs) (behind xs ys n k (omega (arith, e)))
