-- Lines of many numbers, one after another.
use Rattle.std.proofs.Common.{◌≡◌, ℕ, List, flat_map, Option, subst}
use Rattle.std.specs.List.{range_with_len}
use Rattle.request_codec.specs.Sending.{Sent}

-- all numbers below this one are done
pub lines_are : (F : ℕ → List ℕ) {k n : ℕ} {a : Option (List ℕ)} {f : ℕ} {h : List ℕ} {b : Option (List ℕ)} {f1 : ℕ} {h1 : List ℕ} → k ≡ n → Sent a f h (flat_map F (range_with_len 0 k)) b f1 h1
    → Sent a f h (flat_map F (range_with_len 0 n)) b f1 h1
lines_are F {a = a} {f = f} {h = h} {b = b} {f1 = f1} {h1 = h1} is s = subst (λ (m : ℕ). Sent a f h (flat_map F (range_with_len 0 m)) b f1 h1) is s
