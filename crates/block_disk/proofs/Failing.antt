-- How far the count of faults can rise: it never rises itself.
use Rattle.std.specs.Prelude.{◌≡◌, ◌<◌, ◌≤◌, ℕ, ◌+◌, ◌-◌, ◌^◌, ◌==◌, ◌&&◌, ◌||◌, nat_lt, if◌then◌else◌, Bool, true, false, List, [], ◌∷◌, Some, Result, Ok, Err, ◌⊎◌, refl, MatchResult, replicate, length}
use Rattle.std.specs.List.{list_any}
use Rattle.std.proofs.Common.{arith, ap, sym, subst, ◌∙◌, inl, inr, le_refl, eqb-true, ltb-true}
use Rattle.std.proofs.lemmas.Bool.{cases_lt}
use Rattle.rio_base.specs.Failures.{FailsIf, HasCause, Rose, is_due}
use Rattle.rio_base.specs.Disks.{FaultCount, FaultsLast, HasFaultCause, raised}
use Rattle.rio_base.specs.Rules.{true_false}
use Rattle.block_disk.specs.MemDisks.{MemDiskState, contents_of, counted, is_read_due, most_faults, reads_left, upcoming, with_block}

-- 1 for a call that is still to come
comes : ℕ → ℕ → ℕ
comes calls call = if nat_lt calls call then 1 else 0

comes_later : (calls call : ℕ) → comes (calls + 1) call ≤ comes calls call
unfolding comes
comes_later calls call = grind arith

comes_now : (calls call : ℕ) → call ≡ calls + 1 → comes (calls + 1) call + 1 ≤ comes calls call
unfolding comes
comes_now calls call e = grind (arith, e)

pub upcoming_later : (calls : ℕ) (failing : List ℕ) → upcoming (calls + 1) failing ≤ upcoming calls failing
unfolding upcoming comes
upcoming_later calls [] = omega arith
upcoming_later calls (call ∷ failing) = omega (arith, comes_later calls call, upcoming_later calls failing)

or_parts : (a b : Bool) → (a || b) ≡ true → (a ≡ true) ⊎ (b ≡ true)
or_parts true b e = inl refl
or_parts false b e = inr e

pub upcoming_due : (calls : ℕ) (failing : List ℕ) → list_any (λ call. call == calls + 1) failing ≡ true → upcoming (calls + 1) failing + 1 ≤ upcoming calls failing
unfolding upcoming comes
upcoming_due calls [] due = absurd (true_false (sym due))
upcoming_due calls (call ∷ failing) due = by_parts (or_parts (call == calls + 1) (list_any (λ c. c == calls + 1) failing) due) (upcoming_due calls failing)
  where
    by_parts : ((call == calls + 1) ≡ true) ⊎ (list_any (λ c. c == calls + 1) failing ≡ true) → (list_any (λ c. c == calls + 1) failing ≡ true → upcoming (calls + 1) failing + 1 ≤ upcoming calls failing) → comes (calls + 1) call + upcoming (calls + 1) failing + 1 ≤ comes calls call + upcoming calls failing
    by_parts (inl e) on = omega (arith, comes_now calls call (eqb-true call (calls + 1) e), upcoming_later calls failing)
    by_parts (inr e) on = omega (arith, comes_later calls call, on e)

and_parts : (a b : Bool) → (a && b) ≡ true → (a ≡ true) × (b ≡ true)
and_parts true b e = (refl, e)
and_parts false b e = absurd (true_false (sym e))

-- a call is counted: no more are to come than before, and one fewer where it was due
upcoming_counted : (calls : ℕ) (failing : List ℕ) → upcoming (raised calls 1) failing ≤ upcoming calls failing
upcoming_counted calls failing = by_room (cases_lt calls (2 ^ 64 - 1))
  where
    by_room : (calls < 2 ^ 64 - 1) ⊎ (2 ^ 64 - 1 ≤ calls) → upcoming (raised calls 1) failing ≤ upcoming calls failing
    by_room (inl less) = subst (λ n. upcoming n failing ≤ upcoming calls failing) (omega (arith, less)) (upcoming_later calls failing)
    by_room (inr more) = subst (λ n. upcoming n failing ≤ upcoming calls failing) (omega (arith, more)) (le_refl (upcoming calls failing))

upcoming_fails : (calls : ℕ) (failing : List ℕ) → is_due calls failing ≡ true → upcoming (raised calls 1) failing + 1 ≤ upcoming calls failing
upcoming_fails calls failing due = by_test (and_parts (nat_lt calls (2 ^ 64 - 1)) (list_any (λ call. call == calls + 1) failing) due)
  where
    by_test : (nat_lt calls (2 ^ 64 - 1) ≡ true) × (list_any (λ call. call == calls + 1) failing ≡ true) → upcoming (raised calls 1) failing + 1 ≤ upcoming calls failing
    by_test h = subst (λ n. upcoming n failing + 1 ≤ upcoming calls failing) (omega (arith, ltb-true calls (2 ^ 64 - 1) h.0)) (upcoming_due calls failing h.1)

-- the counts of a disk that tells how far its faults can rise
faults_last : (before after most next : ℕ) → before ≤ after → next ≤ most → FaultsLast (record { count = before; limit = Some most }) (record { count = after; limit = Some next })
faults_last before after most next later less = record { later = later; limit = λ m e. (next, refl, subst (λ n. next ≤ n) (some_is most m e) less) }
  where
    some_is : (x y : ℕ) → Some x ≡ Some y → x ≡ y
    some_is x y e = cc

-- one call leaves the bound, where it failed only when it was due
pub last_call : {T E : Type 0} (answer : Result T E) (s : MemDiskState) → FailsIf (is_due s.calls s.failing) answer → FaultsLast (contents_of s).faults (contents_of (counted answer s)).faults
last_call (Ok _) s due = faults_last _ _ _ _ (le_refl s.faults) (omega (arith, upcoming_counted s.calls s.failing))
last_call (Err _) s due = faults_last _ _ _ _ (omega arith) (omega (arith, upcoming_fails s.calls s.failing due))

reads_fewer : (s : MemDiskState) (b : ℕ) → reads_left s b ≤ s.failing_reads
reads_fewer s b = grind arith

reads_due : (s : MemDiskState) (b : ℕ) → is_read_due s b ≡ true → reads_left s b + 1 ≤ s.failing_reads
reads_due s b e = grind (arith, and_parts (s.failing_block == b) (nat_lt 0 s.failing_reads) e, ltb-true 0 s.failing_reads)

-- so does a read, which fails also where its block is to fail, and then one fewer of these is to come
pub last_read : {T E : Type 0} (answer : Result T E) (s : MemDiskState) (b : ℕ) → FailsIf (is_read_due s b || is_due s.calls s.failing) answer → FaultsLast (contents_of s).faults (contents_of (record (counted answer s) { failing_reads = reads_left s b })).faults
last_read (Ok _) s b due = faults_last _ _ _ _ (le_refl s.faults) (omega (arith, upcoming_counted s.calls s.failing, reads_fewer s b))
last_read (Err _) s b due = faults_last _ _ _ _ (omega arith) (by_parts (or_parts (is_read_due s b) (is_due s.calls s.failing) due))
  where
    by_parts : (is_read_due s b ≡ true) ⊎ (is_due s.calls s.failing ≡ true) → raised s.faults 1 + (upcoming (raised s.calls 1) s.failing + reads_left s b) ≤ most_faults s
    by_parts (inl e) = omega (arith, upcoming_counted s.calls s.failing, reads_due s b e)
    by_parts (inr e) = omega (arith, upcoming_fails s.calls s.failing e, reads_fewer s b)

-- how a call ends that is counted
pub called : {T E : Type 0} (answer : Result T E) (old new : MemDiskState) → new ≡ counted answer old → FailsIf (is_due old.calls old.failing) answer → HasCause answer old.faults new.faults → HasFaultCause answer (contents_of old).faults (contents_of new).faults
called answer old new state fails cause = record {
  last = subst (λ (s : MemDiskState). FaultsLast (contents_of old).faults (contents_of s).faults) (sym state) (last_call answer old fails);
  cause = cause.cause;
}

pub called_read : {T E : Type 0} (answer : Result T E) (due : Bool) (b : ℕ) (old mid new : MemDiskState) → due ≡ is_read_due old b → mid ≡ record old { failing_reads = reads_left old b } → new ≡ counted answer mid → FailsIf (due || is_due mid.calls mid.failing) answer → HasCause answer mid.faults new.faults → HasFaultCause answer (contents_of old).faults (contents_of new).faults
called_read answer due b old mid new is counts state fails cause = record {
  last = subst (λ (s : MemDiskState). FaultsLast (contents_of old).faults (contents_of s).faults) (sym (state ∙ ap (counted answer) counts)) (last_read answer old b both);
  cause = (subst (λ (s : MemDiskState). HasCause answer s.faults new.faults) counts cause).cause;
}
  where
    both : FailsIf (is_read_due old b || is_due old.calls old.failing) answer
    both = subst (λ (d : Bool). FailsIf (d || is_due old.calls old.failing) answer) is (subst (λ (s : MemDiskState). FailsIf (due || is_due s.calls s.failing) answer) counts fails)

either : {T E : Type 0} (answer : Result T E) (P : Type 0) → P → MatchResult answer (λ _. Unit {0}) (λ _. P)
either (Ok _) P p = tt
either (Err _) P p = p

-- a failure that is handed on
pub handed_on : {T E : Type 0} (answer : Result T E) (old new : FaultCount) → FaultsLast old new → Rose old.count new.count → HasFaultCause answer old new
handed_on answer old new last rose = record { last = last; cause = either answer (Rose old.count new.count) rose }

-- an Ok, after which nothing of the counts changes
pub went_on : (old : FaultCount) (mid new : MemDiskState) → new ≡ record mid { synced = mid.blocks; pending = replicate (length mid.blocks) false } → FaultsLast old (contents_of mid).faults → FaultsLast old (contents_of new).faults
went_on old mid new rest last = subst (λ (s : MemDiskState). FaultsLast old (contents_of s).faults) (sym rest) last

-- a write, after which nothing more of the counts changes
pub wrote : {T E : Type 0} (answer : Result T E) (old : FaultCount) (mid new : MemDiskState) (b : ℕ) (words : List ℕ) → new ≡ with_block b words mid → HasFaultCause answer old (contents_of mid).faults → HasFaultCause answer old (contents_of new).faults
wrote answer old mid new b words rest cause = subst (λ (s : MemDiskState). HasFaultCause answer old (contents_of s).faults) (sym rest) cause
