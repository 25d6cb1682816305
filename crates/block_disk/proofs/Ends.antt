-- What follows at one outcome of a call.
use Rattle.std.specs.Prelude.{◌≡◌, ◌≤◌, ℕ, List, Option, Result, Ok, Err, IfOk, IfErr, IsErr, OnErr, OnOk}
use Rattle.std.proofs.Common.{le_trans, subst, sym}
use Rattle.rio_base.specs.Failures.{HasCause, Rose}
use Rattle.rio_base.specs.Disks.{HasFaultCause}
use Rattle.rio_base.proofs.Rules.{rose_later}
use Rattle.rio_base.specs.Hosts.{Files, HasSize}
use Rattle.block_disk.specs.declared.host_disk_fail.HostDiskFail.{HostDiskFail}
use Rattle.block_disk.specs.declared.host_disk_fail.HostDiskFail.TheVariants.{Absent, BadLength, Fault, Memory}
use Rattle.block_disk.specs.HostDisks.{AreFileWords, FailsAs}
use Rattle.block_disk.proofs.HostDiskRules.{no_limit, none_lower}

-- of an answer that is none nothing is owed
pub none_owed : {T E : Type 0} (r : Result T E) (P : Type 0) → IsErr r → OnOk r P
none_owed (Ok x) P e = cc
none_owed (Err x) P e = tt

pub none_made : {T E : Type 0} (r : Result T E) (P : T → Type 0) → IsErr r → IfOk r P
none_made (Ok x) P e = cc
none_made (Err x) P e = tt

pub owed : {T E : Type 0} (r : Result T E) (P : Type 0) → P → OnErr r P
owed (Ok x) P p = tt
owed (Err x) P p = p

-- a failure that is handed on, after calls that ended well
pub failed_on : {T E : Type 0} (r : Result T E) (a b c : ℕ) → IsErr r → a ≤ b → b ≤ c → Rose b c → HasCause r a c
failed_on (Ok x) a b c e first later rose = cc
failed_on (Err x) a b c e first later rose = record { later = le_trans first later; cause = rose_later a b c first rose }

-- the same of a disk that tells no bound
pub disk_failed : {T E : Type 0} (r : Result T E) (a b c : ℕ) → IsErr r → a ≤ b → b ≤ c → Rose b c → HasFaultCause r (no_limit a) (no_limit c)
disk_failed (Ok x) a b c e first later rose = cc
disk_failed (Err x) a b c e first later rose = record { last = none_lower a c (le_trans first later); cause = rose_later a b c first rose }

pub disk_went : {E : Type 0} (a b c : ℕ) → a ≤ b → b ≤ c → HasFaultCause {T = Unit {0}} {E = E} (Ok tt) (no_limit a) (no_limit c)
disk_went a b c first later = record { last = none_lower a c (le_trans first later); cause = tt }

-- why there is no disk, handed on
pub fails_as : {T : Type 0} (r : Result T HostDiskFail) (told : Option Files) (name : List ℕ) (rose : Type 0) (fail given : HostDiskFail) → r ≡ Err given → given ≡ fail → FailsAs fail told name rose → IfErr r (λ f. FailsAs f told name rose)
fails_as r told name rose fail given is same why = subst (λ (q : Result _ HostDiskFail). IfErr q (λ f. FailsAs f told name rose)) (sym is) (subst (λ (f : HostDiskFail). FailsAs f told name rose) (sym same) why)

-- the same after a call that ended well
pub fails_later : (fail : HostDiskFail) (told new : Option Files) (name : List ℕ) (a b c : ℕ) → new ≡ told → a ≤ b → FailsAs fail new name (Rose b c) → FailsAs fail told name (Rose a c)
fails_later fail told new name a b c same first why = by_fail fail (subst (λ (t : Option Files). FailsAs fail t name (Rose b c)) same why)
  where
    by_fail : (f : HostDiskFail) → FailsAs f told name (Rose b c) → FailsAs f told name (Rose a c)
    by_fail Absent h = h
    by_fail BadLength h = h
    by_fail Fault h = rose_later a b c first h
    by_fail Memory h = h

-- files that stayed
pub same_size : (told new : Option Files) (name : List ℕ) (size : Option ℕ) → new ≡ told → HasSize told name size → HasSize new name size
same_size told new name size same is = subst (λ (t : Option Files). HasSize t name size) (sym same) is

pub same_words : (told new : Option Files) (name words : List ℕ) → new ≡ told → AreFileWords new name words → AreFileWords told name words
same_words told new name words same are = subst (λ (t : Option Files). AreFileWords t name words) same are
