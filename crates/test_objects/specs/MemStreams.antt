-- The source and the sink in memory, and the count of calls: what each has, and which of its calls are to fail.
use Rattle.std.specs.Prelude.{ℕ, List, Result, Ok, Err}
use Rattle.rio_base.specs.Disks.{raised}
use Rattle.test_objects.specs.declared.failing_calls.FailingCalls.{FailingCalls}

pub record MemSourceState : Type 0 where
  -- the bytes left
  pub left : List ℕ
  -- at most so many bytes are given by one call
  pub most : ℕ
  -- how many calls were made, and how many of them failed
  pub calls : ℕ
  pub faults : ℕ
  -- the calls that are to fail, by their numbers from 1
  pub failing : List ℕ

pub record MemSinkState : Type 0 where
  -- the bytes written
  pub written : List ℕ
  pub calls : ℕ
  pub faults : ℕ
  pub failing : List ℕ

-- ---- calls of an object for tests, counted: how many were made, and how many of them failed

-- the count of faults after such a call
abbrev pub faults_after : {T E : Type 0} → Result T E → ℕ → ℕ
faults_after (Ok _) faults = faults
faults_after (Err _) faults = raised faults 1

-- one call more, which failed where the answer says so
abbrev pub counted : {T E : Type 0} → Result T E → FailingCalls → FailingCalls
counted answer c = record c { calls = raised c.calls 1; faults = faults_after answer c.faults }
