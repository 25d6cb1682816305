-- How a call ends that hands on what another answered.
use Rattle.cached_pages.proofs.Common.{◌≡◌, ◌<◌, ◌==◌, ◌∙◌, ap, arith, sym, subst, ℕ, true, List, None, IsErrOf, Contents, Lasts, Running, StepEnds, Stopped, entry_of_block}
use Rattle.std.specs.Prelude.{Result, Ok, Err}
use Rattle.std.proofs.Common.{le_refl, refl}
use Rattle.std.proofs.lemmas.Bool.Decides.{nat_tests}
use Rattle.rio_base.specs.Blocks.{BlockWords, Ends, Health}
use Rattle.rio_base.specs.Rules.{none_some}
use Rattle.rio_base.specs.Volume.{put_run}
use Rattle.rio_base.proofs.VolumeRuns.{put_none}
use Rattle.rio_base.specs.Machine.{FaultCause}
use Rattle.rio_base.proofs.MachineRules.{ends_told, never}
use Rattle.rio_base.specs.declared.failures.VolFail.{VolFail}
use Rattle.rio_base.specs.declared.failures.VolFail.TheVariants.{Fault}
use Rattle.cached_pages.specs.Caches.{cache_health, is_touched}
use Rattle.cached_pages.proofs.Edits.{touched_entry}
use Rattle.cached_pages.proofs.Goes.{ends_of}

handed : {T U : Type 0} (e stop : VolFail) (answer : Result U VolFail) → answer ≡ Err e → IsErrOf answer stop → IsErrOf {T = T} (Err e) stop
handed e stop answer same q = cc

-- a failure, with an answer of another type
pub ends_handed : {T U : Type 0} (old new : Contents) (r s : Running) (e : VolFail) (answer : Result U VolFail) → answer ≡ Err e → Lasts old new → FaultCause old new (IsErrOf {T = T} (Err e) Fault) → StepEnds r s (IsErrOf {T = T} (Err e) Stopped) → Ends (cache_health old r) (cache_health new s) answer
ends_handed old new r s e answer same l f h = ends_of old new r s answer l (λ q. f (handed e Fault answer same q)) (ends_told r s e Stopped answer same h)

-- a value, and then one of another type
pub ends_came : {T U : Type 0} (x : T) (y : U) (old new : Contents) (r s : Running) → Lasts old new → StepEnds r s (IsErrOf {E = VolFail} (Ok x) Stopped) → Ends {T = U} (cache_health old r) (cache_health new s) (Ok y)
ends_came x y old new r s l h = ends_of old new r s (Ok y) l (λ q. absurd (never y Fault q)) (record { steps = h.steps; told = λ q. absurd (never y Stopped q); runs = λ q. h.runs (never x Stopped) })

-- a stop, with an answer of another type
pub ends_halted : {T U : Type 0} (old new : Contents) (r s : Running) (e : VolFail) → e ≡ Stopped → Lasts old new → StepEnds r s (IsErrOf {T = T} (Err e) Stopped) → Ends {T = U} (cache_health old r) (cache_health new s) (Err Stopped)
ends_halted old new r s e is l h = record { later = l.faults.later; stays = λ t. ap (λ (u : Running). u.stopped) (h.steps.frozen t) ∙ t; cause = h.told (ap Err is) }

-- nothing was called
pub ends_still : {T : Type 0} (x : T) (s : Health) → Ends {T = T} s s (Ok x)
ends_still x s = record { later = le_refl s.faults; stays = λ t. t; cause = refl }

-- a block that was touched is cached, so that no call on it can fail by a fault
pub unsure : {T U : Type 0} (words : List ℕ) (b : ℕ) (e : VolFail) (answer : Result U VolFail) → answer ≡ Err e → (IsErrOf {T = T} (Err e) Fault → entry_of_block words b ≡ None) → IsErrOf answer Fault → is_touched words b ≡ true → ⊥
unsure words b e answer same h fault touched = let t = touched_entry words b touched in none_some t.0 (entry_of_block words b) (h (handed e Fault answer same fault)) t.1

-- ---- a run of no words

pub no_length : (n : ℕ) → (n == 0) ≡ true → n ≡ 0
no_length n h = grind (arith, nat_tests, h)

pub run_none : (f : BlockWords) (b w n : ℕ) (words : List ℕ) → (n == 0) ≡ true → f ≡ put_run f b w n words
run_none f b w n words h = subst (λ k. f ≡ put_run f b w k words) (sym (no_length n h)) (put_none f b w words)

pub none_there : (n : ℕ) → (n == 0) ≡ true → 0 < n → ⊥
none_there n h some = let none = no_length n h in absurd (omega (arith, none, some))
