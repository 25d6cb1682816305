-- The volume in memory whose disk fails: it counts its faults, and is otherwise the volume inside.
use Rattle.std.specs.Prelude.{◌≡◌, ℕ, ◌+◌, ◌-◌, ◌<◌, ◌≤◌, ◌&&◌, nat_lt, Bool, true, false, if◌then◌else◌, Result, Ok, Err}
use Rattle.rio_base.specs.declared.failures.RunFail.{RunFail}
use Rattle.rio_base.specs.declared.failures.RunFail.TheVariants.{Fault as RunFault, Stopped as RunStopped}
use Rattle.test_objects.specs.declared.faulty_volume.FaultyVolume.{FaultyVolume}
use Rattle.rio_base.specs.Blocks.{Health}
use Rattle.rio_base.specs.Disks.{raised}

abbrev pub faulty_health : FaultyVolume → Health
faulty_health v = record { faults = v.faults; stopped = v.inner.steps.stopped }

-- ---- which call fails

-- the call that is to fail is one of the next n that may need the disk. No call is to fail where `until` is 0
pub record IsDue (n until : ℕ) : Type 0 where
  pub from : 0 < until
  pub to : until ≤ n

-- how many calls may need the disk, of n on a block that is touched or not
abbrev pub needing : Bool → ℕ → ℕ
needing true n = 0
needing false n = n

-- n calls that may need the disk. One of them fails exactly where it is due, unless the volume stops before it
pub record CountsCalls (n : ℕ) (fault stop : Type 0) (old new : FaultyVolume) : Type 0 where
  pub until : new.until ≡ old.until - n
  pub fails : fault → IsDue n old.until
  pub due : IsDue n old.until → (stop → ⊥) → fault
  pub counted : fault → new.faults ≡ raised old.faults 1
  pub passed : (fault → ⊥) → new.faults ≡ old.faults

-- how many words of a run of n come before the one whose call fails, and n where none does
abbrev pub words_before : ℕ → ℕ → ℕ
words_before n until = if nat_lt 0 until && nat_lt until (n + 1) then until - 1 else n

-- what the words before the fault were answered
abbrev pub before_fault : {T : Type 0} → T → Result T RunFail → Result T RunFail
before_fault done (Ok x) = Ok x
before_fault done (Err (RunFault n)) = Ok done
before_fault done (Err RunStopped) = Err RunStopped
