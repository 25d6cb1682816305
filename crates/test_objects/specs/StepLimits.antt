-- A limit on steps: what is left of it, and what taking steps makes of it.
use Rattle.std.specs.Prelude.{◌≡◌, ℕ, ◌-◌, ◌<◌, ◌≤◌, ◌⊎◌, Bool, true, false, Option, Some, None, is_some, min, Result, Ok, Err, refl}
use Rattle.rio_base.specs.declared.failures.VolFail.{VolFail}
use Rattle.rio_base.specs.declared.failures.VolFail.TheVariants.{Stopped}
use Rattle.test_objects.specs.declared.step_limit.StepLimit.{StepLimit}
use Rattle.rio_base.specs.Blocks.{Causes, Health}
use Rattle.rio_base.specs.Rules.{none_some}
use Rattle.rio_base.specs.Volume.{Below}

-- there are n steps left, or no limit
abbrev pub HasSteps : ℕ → Option ℕ → Type 0
HasSteps n None = Unit {0}
HasSteps n (Some left) = n ≤ left

-- there are fewer than n left
abbrev pub LacksSteps : ℕ → Option ℕ → Type 0
LacksSteps n None = ⊥
LacksSteps n (Some left) = left < n

-- what is left after n steps
abbrev pub fewer : ℕ → Option ℕ → Option ℕ
fewer n None = None
fewer n (Some left) = Some (left - n)

-- how many of n steps are made
abbrev pub made_within : ℕ → Option ℕ → Bool → ℕ
made_within n left true = 0
made_within n None false = n
made_within n (Some left) false = min n left

abbrev pub made_of : ℕ → StepLimit → ℕ
made_of n limit = made_within n limit.left limit.stopped

-- n steps are asked for, and `stop` says that not all of them are made. Then it was stopped, or had fewer left, which
-- are made, and it is stopped. No step is asked for of a limit that is stopped where n is 0
pub record TakesSteps (n : ℕ) (stop : Type 0) (old new : StepLimit) : Type 0 where
  pub made : (stop → ⊥) → (0 < n → old.stopped ≡ false) × HasSteps n old.left × (new ≡ record old { left = fewer n old.left })
  pub cut : stop → (0 < n) × (((old.stopped ≡ true) × (new ≡ old)) ⊎ ((old.stopped ≡ false) × LacksSteps n old.left × (new ≡ record { left = Some 0; stopped = true })))

-- no fault, and whether it is stopped
abbrev pub limit_health : StepLimit → Health
limit_health limit = record { faults = 0; stopped = limit.stopped }

-- no disk, no protected page, no wild store; a stop may be set
abbrev pub limit_causes : Bool → Causes
limit_causes stop_set = record { stop_set = stop_set; armed = None; trapped = None; protected = λ p. false }

abbrev pub limit_below : StepLimit → Below
limit_below limit = record { roomy = true; home = None; writes = 0; around = None; causes = limit_causes (is_some limit.left); memory = record { protected = 0; scratch = 0 }; limit = None }

-- a call that reads n words of an object without a disk. It is no step, and fails only where the limit is stopped
abbrev pub ReadsWithin : {T : Type 0} → ℕ → StepLimit → Result T VolFail → Type 0
ReadsWithin n limit (Ok _) = 0 < n → limit.stopped ≡ false
ReadsWithin n limit (Err fail) = (fail ≡ Stopped) × (0 < n) × (limit.stopped ≡ true)

-- where it is told how far faults can rise, there are no more: it isn't told
pub limit_bounds : (limit : StepLimit) (faults most : ℕ) → (limit_below limit).limit ≡ Some most → faults ≤ most
limit_bounds limit faults most e = absurd (none_some most None refl e)
