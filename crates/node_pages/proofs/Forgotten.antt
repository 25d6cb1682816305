-- Blocks that are forgotten, one after the other.
use Rattle.node_pages.proofs.Common.{◌≡◌, ℕ, ◌+◌, ◌<◌, ◌≤◌, false, List, length, sym, subst, arith, inl, inr, slice_index, Contains, cases_eq, Block, Drops, Seen, numbers}
use Rattle.node_pages.specs.Staging.{Uncached}
use Rattle.node_pages.proofs.Listed.{as_many, place_of}
use Rattle.node_pages.proofs.Staged.{not_true}

pub forgotten_more : (bs : List ℕ) (n : ℕ) (x y : Seen) → Drops x y → ((t : ℕ) → t < n → x.cached (slice_index bs t) ≡ false) → y.cached (slice_index bs n) ≡ false → (t : ℕ) → t < n + 1 → y.cached (slice_index bs t) ≡ false
forgotten_more bs n x y drops old last t few = elim (cases_eq t n) [
  | inl here ↦ subst (λ s. y.cached (slice_index bs s) ≡ false) (sym here) last
  | inr away ↦ not_true (y.cached (slice_index bs t)) (x.cached (slice_index bs t)) (λ on. (drops.kept (slice_index bs t) on).0) (old t (omega (arith, few, away)))
]

pub forgotten_all : (bs : List Block) (n : ℕ) (y : Seen) → length bs ≤ n → ((t : ℕ) → t < n → y.cached (slice_index (numbers bs) t) ≡ false) → Uncached (Contains (numbers bs)) y
forgotten_all bs n y all each = λ b on. let at = place_of (numbers bs) b on in subst (λ c. y.cached c ≡ false) at.2 (each at.0 (let many = as_many bs in let few = at.1 in omega (arith, all, many, few)))
