-- The order of use, and blocks that leave.
use Rattle.cached_pages.proofs.Common.{◌≡◌, ◌≢◌, ℕ, ◌<◌, ◌==◌, not, ◌⊎◌, Bool, true, false, if◌then◌else◌, List, Option, Some, None, refl, ◌∙◌, ap, sym, subst, inl, inr, cases_Bool, cases_eq, eq-eqb, Contents, none_some, true_false, used_last, block_of, frames_in, order_of, BlockRule, OneEntry, frames_of, HeldEntry, is_valid, tag_at, tag_block, Coherent, Keeps, entry_of_block, OnePage, found_entries, found_kept, found_other, same_entries, Made, frame_past, found_at, frames_one, tag_one, found_is}
use Rattle.std.specs.Prelude.{◌++◌, [], ◌∷◌, filter}
use Rattle.frame_pool.specs.Orders.{freed_first, without}
use Rattle.frame_pool.specs.Pools.{least_recent}
use Rattle.rio_model.specs.Cover.{frame_page}
use Rattle.rio_model.proofs.CoverLookups.{found_same}
use Rattle.cached_pages.specs.declared.tables.CacheTables.{CacheTables}
use Rattle.cached_pages.specs.Caches.{CacheSound}
use Rattle.cached_pages.specs.Uses.{AllStay, LeavesFrame, LeavesOldest, OthersStay, SameOrderBut, UsedLast, freed_order}
use Rattle.cached_pages.proofs.Rooms.{some_bound}

-- ---- blocks that leave

pub leaves_refl : (t : CacheTables) (words : List ℕ) → LeavesOldest t words words
leaves_refl t words = record { left = λ c k e none. absurd (none_some k (entry_of_block words c) none e) }

-- an entry but k is found as before
pub found_still : (k c j : ℕ) (old new : List ℕ) → OneEntry k old new → BlockRule new → j ≢ k → entry_of_block old c ≡ Some j → entry_of_block new c ≡ Some j
found_still k c j old new one rule ne e =
    let f = found_is old c j e in
    found_at new c j rule (record { within = subst (λ n. j < n) (sym (frames_one k old new one)) f.0.within; valid = ap is_valid (tag_one k j old new one ne) ∙ f.0.valid }) (ap tag_block (tag_one k j old new one ne) ∙ f.1)

-- entry k alone changed
pub leaves_one : (k n : ℕ) (old new : Contents) → Coherent old n → Keeps old new → OneEntry k old.words new.words → LeavesFrame k old.words new.words
leaves_one k n old new s h one = record { left = λ c j e none. from c j e none (cases_eq j k) }
  where
    from : (c j : ℕ) → entry_of_block old.words c ≡ Some j → entry_of_block new.words c ≡ None → (j ≡ k) ⊎ (j ≢ k) → j ≡ k
    from c j e none (inl same) = same
    from c j e none (inr ne) = absurd (none_some j (entry_of_block new.words c) none (found_still k c j old.words new.words one (h.coherent n s).rules.blocks ne e))

pub leaves_frame : (k : ℕ) (t : CacheTables) (old new : List ℕ) → least_recent t.pool ≡ Some k → LeavesFrame k old new → LeavesOldest t old new
leaves_frame k t old new oldest h = record { left = λ c j e none. oldest ∙ ap Some (sym (h.left c j e none)) }

-- ---- blocks that stay

pub stay_trans : (a b c : List ℕ) → AllStay a b → AllStay b c → AllStay a c
stay_trans a b c h i = record { stay = λ x k e. i.stay x k (h.stay x k e) }

pub stay_words : (old new : List ℕ) → new ≡ old → AllStay old new
stay_words old new same = record { stay = λ c k e. ap (λ ws. entry_of_block ws c) same ∙ e }

pub stay_found : (old new : List ℕ) → ((c : ℕ) → entry_of_block new c ≡ entry_of_block old c) → AllStay old new
stay_found old new h = record { stay = λ c k e. h c ∙ e }

-- entry k alone changed, and not its tag
pub stay_begun : (k : ℕ) (old new : List ℕ) → OneEntry k old new → tag_at new k ≡ tag_at old k → AllStay old new
stay_begun k old new one same = stay_found old new (λ c. found_kept k c old new one (ap is_valid same) (ap tag_block same))

-- an entry was made for block b, which wasn't cached
pub stay_made : (k b : ℕ) (dirty : Bool) (old new : List ℕ) → Made k b dirty old new → AllStay old new
stay_made k b dirty old new made = record { stay = λ c j e. let f = found_is old c j e in found_other k c old new made.one (λ v. absurd (true_false (sym v ∙ made.was))) (λ v q. made.free j f.0 (f.1 ∙ sym q ∙ made.block)) ∙ e }

-- a frame was filled
pub stay_filled : (old mid : Contents) (k : ℕ) (new : List ℕ) → mid.words ≡ old.words → OnePage (frame_page mid.words k) mid.words new → AllStay old.words new
stay_filled old mid k new e one = stay_found old.words new (λ c. found_entries mid.words new c (same_entries (frame_page mid.words k) mid.words new one (frame_past mid.words k)) ∙ ap (λ ws. entry_of_block ws c) e)

-- nothing changed
pub stay_hit : (old new : Contents) → new ≡ old → AllStay old.words new.words
stay_hit old new same = stay_words old.words new.words (ap (λ (m : Contents). m.words) same)

-- entries say of their pages what they said
pub stay_held : (old new : List ℕ) → frames_of new ≡ frames_of old → ((k : ℕ) → k < frames_of old → HeldEntry k old new) → AllStay old new
stay_held old new frames held = stay_found old new (λ c. found_same old new c frames (λ j less. let h = held j less in rw (h.valid, h.block) refl))

pub others_stay : (b : ℕ) (old new : List ℕ) → AllStay old new → OthersStay b old new
others_stay b old new h = record { stay = λ c k ne e. h.stay c k e }

-- entry k, which is of block b, alone changed
pub others_one : (b k : ℕ) (old new : List ℕ) → OneEntry k old new → BlockRule new → entry_of_block old b ≡ Some k → OthersStay b old new
others_one b k old new one rule found = record { stay = λ c j ne e. found_still k c j old new one rule (λ q. ne (sym (found_is old c j e).1 ∙ ap (λ x. tag_block (tag_at old x)) q ∙ (found_is old b k found).1)) e }

pub leaves_then : (t : CacheTables) (a c d : List ℕ) → LeavesOldest t a c → AllStay c d → LeavesOldest t a d
leaves_then t a c d h i = record { left = λ x k e none. from x k e none (entry_of_block c x) refl }
  where
    from : (x k : ℕ) → entry_of_block a x ≡ Some k → entry_of_block d x ≡ None → (o : Option ℕ) → entry_of_block c x ≡ o → least_recent t.pool ≡ Some k
    from x k e none None was = h.left x k e was
    from x k e none (Some j) was = absurd (none_some j (entry_of_block d x) none (i.stay x j was))

-- ---- the order of use

-- the first of the list passes the test or not
first_in : (p : ℕ → Bool) (x : ℕ) (xs : List ℕ) → p x ≡ true → filter p (x ∷ xs) ≡ x ∷ filter p xs
first_in p x xs e = by (p x) e
  where
    by : (q : Bool) → q ≡ true → (if q then x ∷ filter p xs else filter p xs) ≡ x ∷ filter p xs
    by true e = refl
    by false e = absurd (true_false (sym e))

first_out : (p : ℕ → Bool) (x : ℕ) (xs : List ℕ) → p x ≡ false → filter p (x ∷ xs) ≡ filter p xs
first_out p x xs e = by (p x) e
  where
    by : (q : Bool) → q ≡ false → (if q then x ∷ filter p xs else filter p xs) ≡ filter p xs
    by true e = absurd (true_false e)
    by false e = refl

twice : (p : ℕ → Bool) (xs : List ℕ) → filter p (filter p xs) ≡ filter p xs
twice p [] = refl
twice p (x ∷ xs) = from (twice p xs) (cases_Bool (p x))
  where
    from : filter p (filter p xs) ≡ filter p xs → (p x ≡ true) ⊎ (p x ≡ false) → filter p (filter p (x ∷ xs)) ≡ filter p (x ∷ xs)
    from rest (inl e) = ap (filter p) (first_in p x xs e) ∙ first_in p x (filter p xs) e ∙ ap (λ ys. x ∷ ys) rest ∙ sym (first_in p x xs e)
    from rest (inr e) = ap (filter p) (first_out p x xs e) ∙ rest ∙ sym (first_out p x xs e)

without_first : (k : ℕ) (xs : List ℕ) → without k (freed_first k xs) ≡ without k xs
without_first k xs = first_out (λ j. not (j == k)) k (without k xs) (ap not (eq-eqb k k refl)) ∙ twice (λ j. not (j == k)) xs

pub order_refl : (k : ℕ) (t : CacheTables) → SameOrderBut k t t
order_refl k t = record { others = refl }

pub order_freed : (k : ℕ) (t u : CacheTables) → order_of u.pool ≡ freed_first k (order_of t.pool) → SameOrderBut k t u
order_freed k t u e = record { others = ap (without k) e ∙ without_first k (order_of t.pool) }

pub used_bound : (b k : ℕ) (words : List ℕ) (t u v : CacheTables) → SameOrderBut k t u → order_of v.pool ≡ used_last k (order_of u.pool) → entry_of_block words b ≡ Some k → UsedLast b words t v
used_bound b k words t u v h e found = record { frame = k; found = found; order = e ∙ ap (λ xs. xs ++ (k ∷ [])) h.others }

pub used_then : (b : ℕ) (c d : List ℕ) (t u v : CacheTables) → UsedLast b c t u → AllStay c d → order_of v.pool ≡ order_of u.pool → UsedLast b d t v
used_then b c d t u v h i e = record { frame = h.frame; found = i.stay b h.frame h.found; order = e ∙ h.order }

pub order_same : (t u : CacheTables) → u ≡ t → order_of u.pool ≡ order_of t.pool
order_same t u e = ap (λ (x : CacheTables). order_of x.pool) e

-- the frame of a cached block was used
pub used_hit : (b k n : ℕ) (c : Contents) (t v : CacheTables) → CacheSound c n t → (k < frames_in t.pool) × (block_of t.pool k ≡ Some b) → order_of v.pool ≡ used_last k (order_of t.pool) → UsedLast b c.words t v
used_hit b k n c t v s bound e = record { frame = k; found = some_bound b k n c t s bound.0 bound.1; order = e }

-- ---- a frame becomes free

pub marked_order : (t u : CacheTables) → u ≡ record t { forgotten = u.forgotten } → order_of u.pool ≡ order_of t.pool
marked_order t u rest = ap (λ (x : CacheTables). order_of x.pool) rest

-- the block was not cached
pub freed_none : (b : ℕ) (words : List ℕ) (t u : CacheTables) → entry_of_block words b ≡ None → order_of u.pool ≡ order_of t.pool → order_of u.pool ≡ freed_order (entry_of_block words b) (order_of t.pool)
freed_none b words t u none e = e ∙ sym (ap (λ (o : Option ℕ). freed_order o (order_of t.pool)) none)

-- it was in frame k
pub freed_some : (b k : ℕ) (words : List ℕ) (t u v : CacheTables) → entry_of_block words b ≡ Some k → order_of u.pool ≡ order_of t.pool → order_of v.pool ≡ freed_first k (order_of u.pool) → order_of v.pool ≡ freed_order (entry_of_block words b) (order_of t.pool)
freed_some b k words t u v found same e = e ∙ ap (freed_first k) same ∙ sym (ap (λ (o : Option ℕ). freed_order o (order_of t.pool)) found)
