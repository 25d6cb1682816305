-- Faults: counts of them, which calls of an object for tests are to fail, and failures of the calls below, handed on.
use Rattle.std.specs.Prelude.{ℕ, ◌<◌, ◌≤◌, ◌+◌, ◌^◌, ◌⊎◌, ◌≡◌, ◌-◌, ◌==◌, ◌&&◌, Result, MatchResult, nat_lt, Bool, true, false, List}
use Rattle.std.specs.List.{list_any}
use Rattle.rio_base.specs.declared.failures.DiskFail.{DiskFail}
use Rattle.rio_base.specs.declared.failures.DiskFail.TheVariants.{Fault as DiskFault, Stopped as DiskStopped}
use Rattle.rio_base.specs.declared.failures.VolFail.{VolFail}
use Rattle.rio_base.specs.declared.failures.VolFail.TheVariants.{Fault, Stopped}
use Rattle.rio_base.specs.declared.failures.ReadFail.{ReadFail}
use Rattle.rio_base.specs.declared.failures.ReadFail.TheVariants.{Fault as ReadFault, Stopped as ReadStopped}

-- ---- counts of faults. A count that has reached the largest u64 stays there, so that number too says that it rose

-- the count rose between these two readings
abbrev pub Rose : ℕ → ℕ → Type 0
Rose before after = (before < after) ⊎ (2 ^ 64 ≤ after + 1)

-- an answer that has its cause: an Err comes only where the count rose, and no count falls
pub record HasCause {T E : Type 0} (answer : Result T E) (before after : ℕ) : Type 0 where
  pub later : before ≤ after
  pub cause : MatchResult answer (λ _. Unit {0}) (λ _. Rose before after)

-- the count rose by n at least, or stands at the largest u64
abbrev pub RoseBy : ℕ → ℕ → ℕ → Type 0
RoseBy n before after = (before + n ≤ after) ⊎ (2 ^ 64 ≤ after + 1)

-- ---- calls of an object for tests that are to fail: a list of their numbers, counted from 1

-- after so many calls, the next one is to fail. Calls past the largest u64 are not counted, and none of them is to fail
abbrev pub is_due : ℕ → List ℕ → Bool
is_due calls failing = nat_lt calls (2 ^ 64 - 1) && list_any (λ call. call == calls + 1) failing

-- the call failed where it was due, and nowhere else
abbrev pub FailsIf : {T E : Type 0} → Bool → Result T E → Type 0
FailsIf due answer = MatchResult answer (λ _. due ≡ false) (λ _. due ≡ true)

-- ---- failures of a machine's calls as those of a volume's, and of a volume's as those of what reads it

abbrev pub vol_fail : DiskFail → VolFail
vol_fail DiskFault = Fault
vol_fail DiskStopped = Stopped

abbrev pub read_fail : VolFail → ReadFail
read_fail Fault = ReadFault
read_fail Stopped = ReadStopped
