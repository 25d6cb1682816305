-- What a look at a volume asks of the blocks that it is given, what it leaves, and which answers tell a broken rule.
use Rattle.std.specs.Prelude.{◌≡◌, ℕ, false, Result, IsErrOf}
use Rattle.rio_base.specs.Blocks.{EndsBy, Health, Looks, Seen}
use Rattle.rio_base.specs.declared.failures.VolFail.{VolFail}
use Rattle.rio_base.specs.declared.failures.VolFail.TheVariants.{Fault as VolumeFault, Stopped as VolumeStopped}
use Rattle.volume_check.specs.declared.failures.CheckFail.{CheckFail}
use Rattle.volume_check.specs.declared.failures.CheckFail.TheVariants.{Fault, Stopped, BadVolume, Memory}

-- the members of `Blocks` are given as functions of the object. No page counts as cached, whatever is read: a block may be
-- asked for as a table of one node and as a page of another, before it is known that no block counts twice
pub record CanLook {V : Type 0} (seen : V → Seen) (sound : V → Type 0) (passes : V → V → Type 0) (v : V) : Type 0 where
  pub keeps : sound v
  pub bare : (y : V) (b : ℕ) → passes v y → (seen y).cached b ≡ false

-- nothing was stored and nothing reads otherwise, and a fault or a stop has its cause
pub record Looked {V T : Type 0} (seen : V → Seen) (health : V → Health) (sound : V → Type 0) (passes : V → V → Type 0) (x y : V) (answer : Result T CheckFail) : Type 0 where
  pub looks : Looks (seen x) (seen y)
  pub passed : passes x y
  pub ends : EndsBy (health x) (health y) (IsErrOf answer Fault) (IsErrOf answer Stopped)
  pub keeps : sound y

-- ---- answers that tell a broken rule

-- a failure of the blocks below, handed on
abbrev pub handed : VolFail → CheckFail
handed VolumeFault = Fault
handed VolumeStopped = Stopped

-- where a rule and a block are told, they fail so
abbrev pub Refuses : (ℕ → ℕ → Type 0) → CheckFail → Type 0
Refuses fails (BadVolume rule b) = fails rule b.0
Refuses fails Fault = Unit {0}
Refuses fails Stopped = Unit {0}
Refuses fails Memory = Unit {0}
