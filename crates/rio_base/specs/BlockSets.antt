-- What calls on several blocks leave so: the names under which blocks are newly cached, and the words and loose blocks
-- outside a set.
use Rattle.std.specs.Prelude.{◌≡◌, ℕ, true, ◌⊎◌, Option}
use Rattle.rio_base.specs.declared.places.PageName.{PageName}
use Rattle.rio_base.specs.Blocks.{BlockWords, Seen}
use Rattle.rio_base.specs.Volume.{Kept}

-- what is cached was cached before under the name that it has, or has a name that it may have. `bears` says which
pub record CachesBy (bears : ℕ → Option PageName → Type 0) (s t : Seen) : Type 0 where
  pub each : (c : ℕ) → t.cached c ≡ true → ((s.cached c ≡ true) × (t.names c ≡ s.names c)) ⊎ bears c (t.names c)

-- no word differs outside a set of blocks
pub record SameOutside (inside : ℕ → Type 0) (f g : BlockWords) : Type 0 where
  pub others : (c w : ℕ) → (inside c → ⊥) → g c w ≡ f c w

-- no block becomes loose outside it
pub record FirmOutside (inside : ℕ → Type 0) (old new : Kept) : Type 0 where
  pub loose : (c : ℕ) → (inside c → ⊥) → new.loose c ≡ true → old.loose c ≡ true
