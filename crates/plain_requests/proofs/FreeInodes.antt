-- The inodes that are left to look at.
use Rattle.plain_requests.proofs.Common.{◌≡◌, ◌<◌, ◌+◌, ◌-◌, ℕ, suc, Bool, false, cond, ◌∷◌, ap, ◌∙◌, arith, find, range_with_len}
use Rattle.std.specs.Prelude.{Some}

range_more : (a b n : ℕ) → b < n → range_with_len a (n - b) ≡ a ∷ range_with_len (a + 1) (n - (b + 1))
range_more a b n below = let e : n - b ≡ suc (n - (b + 1)) = omega arith in ap (range_with_len a) e

-- one of them is passed
pub find-passed : (p : ℕ → Bool) (a b n : ℕ) → b < n → p a ≡ false → find p (range_with_len a (n - b)) ≡ find p (range_with_len (a + 1) (n - (b + 1)))
find-passed p a b n below taken = ap (find p) (range_more a b n below) ∙ ap (λ t. cond t (Some a) (find p (range_with_len (a + 1) (n - (b + 1))))) taken
