-- What wild stores do to a volume between its calls.
use Rattle.std.specs.Prelude.{◌≡◌, ℕ, ◌<◌, ◌≤◌, true, Some}
use Rattle.rio_base.specs.Blocks.{Health}
use Rattle.rio_base.specs.Volume.{Below}
use Rattle.rio_base.specs.declared.wild.Wild.{Wild}
use Rattle.rio_base.specs.declared.wild.Wild.TheVariants.{Changed, Trapped}

-- a wild store at this place: on a protected page it traps, and the volume is stopped; elsewhere it changes a word of which
-- a volume tells nothing
pub record Strikes (at : ℕ) (answer : Wild) (s : Health) (old : Below) (t : Health) (new : Below) : Type 0 where
  pub traps : at < old.memory.protected → (answer ≡ Trapped) × (t ≡ record s { stopped = true }) × (new ≡ record old { causes = record old.causes { trapped = Some at } })
  pub changes : old.memory.protected ≤ at → (answer ≡ Changed) × (t ≡ s) × (new ≡ old)

-- a wild store at this place is armed, and nothing else differs
pub record Arms (at : ℕ) (s : Health) (old : Below) (t : Health) (new : Below) : Type 0 where
  pub health : t ≡ s
  pub below : new ≡ record old { causes = record old.causes { armed = Some at } }
