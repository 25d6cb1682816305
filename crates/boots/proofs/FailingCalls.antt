-- Calls of a disk that are to fail, told one after the other.
use Rattle.std.proofs.Common.{◌≡◌, ◌≤◌, ◌+◌, ◌++◌, ℕ, nat_lt, cond, List, [], ◌∷◌, sym, ap, ◌∙◌, arith}
use Rattle.std.proofs.lemmas.Bool.Decides.{nat_tests}
use Rattle.block_disk.specs.MemDisks.{MemDiskState, upcoming}

one_most : (calls call : ℕ) → cond (nat_lt calls call) 1 0 ≤ 1
one_most calls call = grind (arith, nat_tests)

upcoming_push : (calls : ℕ) (failing : List ℕ) (call : ℕ) → upcoming calls (failing ++ call ∷ []) ≤ upcoming calls failing + 1
unfolding upcoming
upcoming_push calls [] call = let one = one_most calls call in omega (arith, one)
upcoming_push calls (x ∷ failing) call = let rest = upcoming_push calls failing call in omega (arith, rest)

-- a disk with these failing calls
abbrev with_failing : MemDiskState → List ℕ → MemDiskState
with_failing disk failing = record disk { failing = failing }

pub failing_then : (a b c : MemDiskState) (failing : List ℕ) → b ≡ record a { failing = b.failing } → c ≡ record b { failing = failing } → c ≡ record a { failing = c.failing }
failing_then a b c failing h k = k ∙ ap (λ (x : MemDiskState). with_failing x failing) h ∙ ap (with_failing a) (sym (ap (λ (x : MemDiskState). x.failing) k))

pub more_upcoming : (a b c : MemDiskState) (call n : ℕ) → c ≡ record b { failing = b.failing ++ call ∷ [] } → upcoming b.calls b.failing ≤ upcoming a.calls a.failing + n → upcoming c.calls c.failing ≤ upcoming a.calls a.failing + (n + 1)
more_upcoming a b c call n k less =
    let same = ap (λ (x : MemDiskState). upcoming x.calls x.failing) k in
    let one = upcoming_push b.calls b.failing call in
    omega (arith, same, one, less)
