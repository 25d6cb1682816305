-- What is so at the exits of a call: of answers that are errors, and of machines that were only read.
use Rattle.std.specs.Prelude.{◌≡◌, ℕ, ◌<◌, ◌++◌, true, List, length, take, replicate, slice_index, zero, suc, refl, Option, Some, None, Result, Ok, Err, IfOk, IsErr, IsErrOf, OnErr, OnOk}
use Rattle.std.proofs.Common.{◌∙◌, ap, sym, subst, le_refl}
use Rattle.std.proofs.lemmas.Bool.{eqb-true}
use Rattle.std.proofs.lemmas.List.{take_at}
use Rattle.std.proofs.lemmas.Result.{IfOk-from_err}
use Rattle.rio_base.specs.declared.places.Block.{Block}
use Rattle.rio_base.specs.declared.failures.VolFail.{VolFail}
use Rattle.rio_base.specs.declared.failures.VolFail.TheVariants.{Fault, Stopped}
use Rattle.rio_base.specs.Blocks.{Caches, Ends, Health, Looks}
use Rattle.rio_base.specs.Failures.{Rose}
use Rattle.rio_base.specs.Disks.{block_at}
use Rattle.rio_base.specs.Machine.{Contents, Lasts, Running}
use Rattle.rio_base.specs.Rules.{true_false}
use Rattle.rio_base.specs.declared.places.PageName.{PageName}
use Rattle.rio_model.specs.Cover.{stands}
use Rattle.registry.specs.Views.{ListsEntries, Viewed, base_of, is_held, view_health, view_seen}

-- ---- answers

pub not_ok : {T E : Type 0} (P : T → Type 0) (r : Result T E) → IsErr r → IfOk r P
not_ok P r e = IfOk-from_err r P e

pub ok_then : {T E : Type 0} (r : Result T E) (P Q : Type 0) → (P → Q) → OnOk r P → OnOk r Q
ok_then (Ok x) P Q h p = h p
ok_then (Err e) P Q h p = tt

pub err_then : {T E : Type 0} (r : Result T E) (P Q : Type 0) → (P → Q) → OnErr r P → OnErr r Q
err_then (Ok x) P Q h p = tt
err_then (Err e) P Q h p = h p

-- a failure that is handed on: what was asked of a fault, and how the call ends
pub fault_back : {T U : Type 0} (r : Result T VolFail) (q : Result U VolFail) (e d : VolFail) → r ≡ Err e → q ≡ Err d → d ≡ e → IsErrOf q Fault → IsErrOf r Fault
fault_back r q e d told is same fault = cc

err_as : {T U : Type 0} (s t : Health) (e : VolFail) → Ends {T = T} s t (Err e) → Ends {T = U} s t (Err e)
err_as s t Fault h = record { later = h.later; stays = h.stays; cause = h.cause }
err_as s t Stopped h = record { later = h.later; stays = h.stays; cause = h.cause }

pub ends_err : {T U : Type 0} (s t : Health) (r : Result T VolFail) (q : Result U VolFail) (e d : VolFail) → r ≡ Err e → q ≡ Err d → d ≡ e → Ends s t r → Ends s t q
ends_err s t r q e d told is same h = subst (λ x. Ends s t x) (sym (is ∙ ap Err same)) (err_as s t e (subst (λ x. Ends s t x) told h))

pub ends_ok : {T U : Type 0} (s t : Health) (x : T) (y : U) → Ends s t (Ok x) → Ends s t (Ok y)
ends_ok s t x y h = record { later = h.later; stays = h.stays; cause = h.cause }

pub ends_none : {T : Type 0} (s : Health) (x : T) → Ends s s (Ok x)
ends_none s x = record { later = le_refl s.faults; stays = λ e. e; cause = refl }

-- ---- a block of the disk is read

pub viewed_read : (c d : Contents) (r s : Running) → d ≡ record c { faults = d.faults } → s ≡ r → Lasts c d → Viewed c d r s
viewed_read c d r s rest run lasts = record { rest = rest; faults = lasts.faults; run = run }

stopped_on : (r s : Running) → s ≡ r → s.stopped ≡ r.stopped
stopped_on r s run = ap (λ (q : Running). q.stopped) run

pub ends_read : {T : Type 0} (c d : Contents) (r s : Running) (x : T) → s ≡ r → Lasts c d → Ends (view_health c r) (view_health d s) (Ok x)
ends_read c d r s x run lasts = record { later = lasts.faults.later; stays = λ e. stopped_on r s run ∙ e; cause = stopped_on r s run }

pub ends_fault : {T : Type 0} (c d : Contents) (r s : Running) → s ≡ r → Lasts c d → Rose c.faults.count d.faults.count → Ends {T = T} (view_health c r) (view_health d s) (Err Fault)
ends_fault c d r s run lasts rose = record { later = lasts.faults.later; stays = λ e. stopped_on r s run ∙ e; cause = (rose, stopped_on r s run) }

pub ends_stopped : {T : Type 0} (c d : Contents) (r s : Running) → s ≡ r → Lasts c d → r.stopped ≡ true → Ends {T = T} (view_health c r) (view_health d s) (Err Stopped)
ends_stopped c d r s run lasts stopped = record { later = lasts.faults.later; stays = λ e. stopped_on r s run ∙ e; cause = stopped_on r s run ∙ stopped }

pub none_held : (c : Contents) (room : List ℕ) (b : ℕ) → is_held None b ≡ true → room ≡ block_at c.disk b
none_held c room b e = absurd (true_false (sym e))

pub held_now : (c : Contents) (room : List ℕ) (held : Block) → room ≡ block_at c.disk held.0 → (b : ℕ) → is_held (Some held) b ≡ true → room ≡ block_at c.disk b
held_now c room held e b is = subst (λ n. room ≡ block_at c.disk n) (eqb-true _ _ is) e

-- ---- what a view that was only read shows

pub view_caches : (c d : Contents) (r s : Running) (b : ℕ) (name : Option PageName) → Caches (view_seen c r) (view_seen d s) b name
view_caches c d r s b name = record { others = λ x away e. absurd (true_false (sym e)); named = λ e. absurd (true_false (sym e)) }

pub view_looks : (c d : Contents) (r s : Running) → Viewed c d r s → Looks (view_seen c r) (view_seen d s)
view_looks c d r s h = record {
  count = ap (λ (m : Contents). length m.disk) h.rest;
  words = ap (λ (m : Contents). stands m) h.rest;
  base = ap (λ (m : Contents). Some (base_of m s)) h.rest ∙ ap (λ (q : Running). Some (base_of c q)) h.run;
}

pub disk_viewed : (c d : Contents) (r s : Running) (b : ℕ) → Viewed c d r s → b < length c.disk → b < length d.disk
disk_viewed c d r s b h less = subst (λ (m : Contents). b < length m.disk) (sym h.rest) less

-- ---- the table of blocks

zero_at : (n k : ℕ) → slice_index (replicate n 0) k ≡ 0
zero_at zero k = refl
zero_at (suc n) zero = refl
zero_at (suc n) (suc k) = zero_at n k

pub zeros_are : (xs ys : List ℕ) (n b : ℕ) → xs ≡ ys → ys ≡ replicate n 0 → slice_index xs b ≡ 0
zeros_are xs ys n b same zeros = ap (λ (l : List ℕ). slice_index l b) (same ∙ zeros) ∙ zero_at n b

-- a table that was lent as a slice
pub table_back : (words : List ℕ) (blocks len lent : ℕ) (new rest : List ℕ) → ListsEntries words lent new → lent ≡ len → len ≡ blocks → ListsEntries words blocks (take len (new ++ rest))
table_back words blocks len lent new rest table same count = subst (λ (l : List ℕ). ListsEntries words blocks l) (sym (take_at new rest len (table.count ∙ same))) (subst (λ n. ListsEntries words n new) (same ∙ count) table)
