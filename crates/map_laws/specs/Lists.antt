-- A map as the list of its pairs, in the order of the keys. A pair is a key and its value.
use Rattle.std.specs.Prelude.{ℕ, ◌<◌, cond, List, [], ◌∷◌, Some, None, Option, nat_lt, nat_eq}
use Rattle.std.specs.List.{AllByRecursion}

-- each key is below all later ones
abbrev pub KeysRise : List (ℕ × ℕ) → Type 0
KeysRise [] = Unit {0}
KeysRise (p ∷ ps) = AllByRecursion (λ q. p.0 < q.0) ps × KeysRise ps

-- the value at key k
abbrev pub found : ℕ → List (ℕ × ℕ) → Option ℕ
found k [] = None
found k (p ∷ ps) = cond (nat_eq k p.0) (Some p.1) (found k ps)

-- the pair (k, v) in its place, for the pair of key k if there is one
abbrev pub put : ℕ → ℕ → List (ℕ × ℕ) → List (ℕ × ℕ)
put k v [] = (k, v) ∷ []
put k v (p ∷ ps) = cond (nat_lt k p.0) ((k, v) ∷ p ∷ ps) (cond (nat_lt p.0 k) (p ∷ put k v ps) ((k, v) ∷ ps))

-- the list without the pair of key k
abbrev pub taken : ℕ → List (ℕ × ℕ) → List (ℕ × ℕ)
taken k [] = []
taken k (p ∷ ps) = cond (nat_eq k p.0) ps (p ∷ taken k ps)
