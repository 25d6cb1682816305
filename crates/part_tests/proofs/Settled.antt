-- A disk that was just opened: nothing of it is pending.
use Rattle.std.proofs.Common.{◌≡◌, ℕ, zero, suc, Bool, false, List, replicate, refl, ap, ◌∙◌}
use Rattle.rio_base.specs.Disks.{is_pending}

none_marked : (n b : ℕ) → is_pending (replicate n false) b ≡ false
none_marked zero b = refl
none_marked (suc n) zero = refl
none_marked (suc n) (suc b) = none_marked n b

pub settled : (n : ℕ) (pending : List Bool) → pending ≡ replicate n false → (b : ℕ) → is_pending pending b ≡ false
settled n pending is b = ap (λ (marks : List Bool). is_pending marks b) is ∙ none_marked n b
