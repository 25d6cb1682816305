-- How a run of stores ends, told from its last part.
use Rattle.region_view.proofs.Common.{◌≡◌, ℕ, ◌≤◌, subst, Err, Ok, OnOk, Result, Health}
use Rattle.std.specs.Prelude.{OnErr}
use Rattle.rio_base.specs.declared.failures.RunFail.{RunFail}
use Rattle.rio_base.specs.declared.failures.RunFail.TheVariants.{Fault as RunFault, Stopped as RunStopped}
use Rattle.rio_base.specs.declared.failures.VolFail.TheVariants.{Fault as VolFault, Stopped as VolStopped}
use Rattle.rio_base.proofs.BlockRules.{ends_later}
use Rattle.rio_base.specs.Blocks.{Ends, FaultAt, as_word}

-- where it ended well, and where with a fault
pub ok_as : {T E : Type 0} (answer : Result T E) (p q : Type 0) → (p → q) → OnOk answer p → OnOk answer q
ok_as (Ok x) p q f h = f h
ok_as (Err e) p q f h = tt

pub fault_as : {T : Type 0} (answer : Result T RunFail) (p q : ℕ → Type 0) → ((n : ℕ) → p n → q n) → FaultAt answer p → FaultAt answer q
fault_as (Ok x) p q f h = tt
fault_as (Err (RunFault n)) p q f h = f n h
fault_as (Err RunStopped) p q f h = tt

pub fault_told : (T : Type 0) (e : RunFail) (n : ℕ) (p : ℕ → Type 0) → e ≡ RunFault n → FaultAt {T = T} (Err e) p → p n
fault_told T e n p is h = subst (λ (x : RunFail). FaultAt {T = T} (Err x) p) is h

-- parts that ended well, and then one that failed
pub ends_fault : {T U : Type 0} (s t u : Health) (e : RunFail) (n : ℕ) → e ≡ RunFault n → s.faults ≤ t.faults → t.stopped ≡ s.stopped → Ends t u (as_word {T = T} (Err e)) → Ends {T = U} s u (Err VolFault)
ends_fault {T = T} {U = U} s t u e n is later same h =
    let k : Ends {T = T} t u (Err VolFault) = subst (λ (x : RunFail). Ends t u (as_word {T = T} (Err x))) is h in
    ends_later {T = U} s t u (Err VolFault) later same (record { later = k.later; stays = k.stays; cause = k.cause })

pub ends_stop : {T U : Type 0} (s t u : Health) (e : RunFail) → e ≡ RunStopped → s.faults ≤ t.faults → t.stopped ≡ s.stopped → Ends t u (as_word {T = T} (Err e)) → Ends {T = U} s u (Err VolStopped)
ends_stop {T = T} {U = U} s t u e is later same h =
    let k : Ends {T = T} t u (Err VolStopped) = subst (λ (x : RunFail). Ends t u (as_word {T = T} (Err x))) is h in
    ends_later {T = U} s t u (Err VolStopped) later same (record { later = k.later; stays = k.stays; cause = k.cause })

-- it ended well
pub run_ended : {T U : Type 0} (s t : Health) (v : U) (w : T) → Ends s t (as_word (Ok w)) → Ends s t (as_word (Ok v))
run_ended s t v w h = record { later = h.later; stays = h.stays; cause = h.cause }

-- of each failure
pub on_err : {T E : Type 0} (answer : Result T E) (p : Type 0) → p → OnErr answer p
on_err (Ok x) p h = tt
on_err (Err e) p h = h
