-- How calls end, and what they leave where the machine is as before.
use Rattle.cached_pages.proofs.Common.{◌≡◌, ◌<◌, ◌==◌, ◌∙◌, ℕ, true, false, List, Some, ap, sym, subst, eq-eqb, ne_eqb, slice_index, Contents, Goes, Lasts, Running, StepEnds, Steps, IsValid, Coherent, SameEntries, found_is, frames_in, block_of, frames_of, gate_of, tag_at, tag_block}
use Rattle.std.specs.Prelude.{Result, Ok, IsErr}
use Rattle.std.proofs.Common.{le_refl, refl}
use Rattle.rio_base.specs.Blocks.{Halts, Health}
use Rattle.rio_base.specs.Volume.{Firm}
use Rattle.rio_base.specs.declared.failures.Stopped.{Stopped}
use Rattle.rio_model.specs.Cover.{is_loose}
use Rattle.cached_pages.specs.declared.tables.CacheTables.{CacheTables}
use Rattle.cached_pages.specs.Caches.{CacheSound, cache_below, cache_health, cache_kept, is_touched}
use Rattle.cached_pages.proofs.Edits.{bound_entry, gate_entries, touched_entry}
use Rattle.cached_pages.proofs.Freed.{halts_of}
use Rattle.cached_pages.proofs.Goes.{goes_few}
use Rattle.cached_pages.proofs.Kept.{tables_refl}
use Rattle.cached_pages.proofs.Rooms.{firm_by_tables}
use Rattle.cached_pages.proofs.Stills.{few_still, still_rest}
use Rattle.cached_pages.proofs.Updates.{shut_zero}

-- nothing was called
pub halts_none : {T : Type 0} (x : T) (s : Health) → Halts {T = T} {E = Stopped} s s (Ok x)
halts_none x s = record { later = le_refl s.faults; stays = λ t. t; cause = refl }

-- one call was stopped, and the answer says so
pub halts_err : {T : Type 0} (old new : Contents) (r s : Running) (stop : Type 0) (answer : Result T Stopped) → IsErr answer → stop → Lasts old new → StepEnds r s stop → Halts (cache_health old r) (cache_health new s) answer
halts_err old new r s stop answer tells is l h = halts_of old new r s answer l (record { steps = h.steps; told = λ x. h.told is; runs = λ n. absurd (n tells) })

-- no block becomes loose, beside the same tables
pub firm_loose : (old new : Contents) (t : CacheTables) → ((b : ℕ) → is_loose new b ≡ true → is_loose old b ≡ true) → Firm (cache_kept old t) (cache_kept new t)
firm_loose old new t h = firm_by_tables old new t t h (tables_refl t)

-- the marks of forgotten blocks are the same, whatever else is in the tables
pub firm_marks : (old new : Contents) (t u : CacheTables) → ((b : ℕ) → is_loose new b ≡ true → is_loose old b ≡ true) → u.forgotten ≡ t.forgotten → Firm (cache_kept old t) (cache_kept new u)
firm_marks old new t u h same = record { loose = λ b e. (firm_loose old new t h).loose b (rw (sym same) e) }

pub firm_same : (old new : Contents) (t : CacheTables) → new ≡ old → Firm (cache_kept old t) (cache_kept new t)
firm_same old new t same = firm_loose old new t (λ b e. ap (λ (m : Contents). is_loose m b) (sym same) ∙ e)

-- the entry of the frame that has a block
pub entry_bound : (n b k : ℕ) (c : Contents) (t : CacheTables) → CacheSound c n t → k < frames_in t.pool → block_of t.pool k ≡ Some b → IsValid c.words k × (tag_block (tag_at c.words k) ≡ b)
entry_bound n b k c t s less e = found_is c.words b k (bound_entry n b k c t s less e)

-- a block of it was touched, so the update is open, and no entry changes
pub still_open : (old new : List ℕ) (b : ℕ) → SameEntries old new → is_touched old b ≡ true → (gate_of new == 1) ≡ true
still_open old new b same touched = eq-eqb _ _ (gate_entries old new same ∙ (touched_entry old b touched).2.updating)

pub coherent_same : (n : ℕ) (old new : Contents) → new ≡ old → Coherent old n → Coherent new n
coherent_same n old new same s = subst (λ (m : Contents). Coherent m n) (sym same) s

-- no update is open behind a gate that was shut
pub idle_zero : (words : List ℕ) → gate_of words ≡ 0 → (gate_of words == 1) ≡ false
idle_zero words e = ne_eqb _ _ (shut_zero words e)

-- words alone changed, and not the count of frames
pub goes_rest : (old new : Contents) (t : CacheTables) (r s : Running) → Lasts old new → Steps r s → frames_of new.words ≡ frames_of old.words → new ≡ record old { words = new.words } → Goes (cache_health old r) (cache_below old r) (cache_health new s) (cache_below new s)
goes_rest old new t r s l h frames rest = goes_few 0 t old new r s l h frames (few_still 0 t old new (still_rest old new rest))

-- the listed frames are in the pool, and what is pinned is listed
pub list_within : (n : ℕ) (c : Contents) (t : CacheTables) → CacheSound c n t → (i : ℕ) → i < t.shadows → slice_index t.shadowed i < frames_in t.pool
list_within n c t s i less = subst (λ f. slice_index t.shadowed i < f) (sym s.frames) (s.listed i less)
