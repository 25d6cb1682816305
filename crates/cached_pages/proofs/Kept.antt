-- What holds between calls is kept, where entries and tables change a little.
use Rattle.cached_pages.proofs.Common.{◌≡◌, ◌≢◌, ℕ, ◌<◌, ◌≤◌, Bool, true, false, if◌then◌else◌, ◌⊎◌, List, length, slice_index, Option, Some, None, refl, ◌∙◌, ap, sym, subst, inl, inr, arith, cases_eq, Contents, true_false, IsValid, OneEntry, frames_of, gate_of, is_dirty, is_valid, shadow_at, tag_at, tag_block, Coherent, HeldEntry, IsBare, Keeps, coherent_on, entry_block, SameEntries, entry_same, tag_same, entry_one, frames_one, tag_one, valid_moved, FramePool, block_of, frames_in, is_pinned, pins_in}
use Rattle.rio_model.proofs.CoverFills.{valid_same}
use Rattle.frame_pool.specs.Pools.{blocks_in}
use Rattle.cached_pages.specs.declared.tables.CacheTables.{CacheTables}
use Rattle.cached_pages.specs.Caches.{CacheSound, IsListed, SameTables}
use Rattle.cached_pages.specs.EarlyBlocks.{Knows, LosesSome}
use Rattle.cached_pages.specs.declared.slots.EarlyWrites.{EarlyWrites}
use Rattle.write_back.specs.Flushing.{SameDisk}
use Rattle.cached_pages.specs.Stores.{Nears}
use Rattle.cached_pages.proofs.EarlyStates.{knows_loses, loses_refl}

-- the pool has so many frames and blocks as before, and the same pins
pub record SamePins (p q : FramePool) : Type 0 where
  pub frames : frames_in q ≡ frames_in p
  pub blocks : blocks_in q ≡ blocks_in p
  pub pins : (k : ℕ) → is_pinned q k ≡ is_pinned p k
  pub count : pins_in q ≡ pins_in p

-- the tables differ at most in the blocks of frames, the order of use, what the buffer holds, and blocks that are no longer
-- known
pub record TablesStay (t u : CacheTables) : Type 0 where
  pub same : SameTables t u
  pub pool : SamePins t.pool u.pool
  pub first : u.first_frame ≡ t.first_frame
  pub early : LosesSome t.early u.early
  pub buffer : length u.buffer.items ≡ length t.buffer.items

-- each entry with a shadow had it, and is still dirty while an update is open
pub record ShadowsStay (old new : List ℕ) : Type 0 where
  pub was : (k : ℕ) → IsValid new k → shadow_at new k ≢ 0 → IsValid old k × (shadow_at new k ≡ shadow_at old k)
  pub dirty : (k : ℕ) → gate_of old ≡ 1 → IsValid new k → shadow_at new k ≢ 0 → is_dirty (tag_at old k) ≡ true → is_dirty (tag_at new k) ≡ true

-- the machine has its sizes, its gate and its disk, and the same blocks are pending
pub record SameSizes (old new : Contents) : Type 0 where
  pub frames : frames_of new.words ≡ frames_of old.words
  pub gate : gate_of new.words ≡ gate_of old.words
  pub disk : new.disk ≡ old.disk
  pub pending : new.pending ≡ old.pending

pub sizes_keep : (old new : Contents) → Keeps old new → SameDisk old new → SameSizes old new
sizes_keep old new h still = record { frames = h.header 2 (omega arith); gate = h.header 4 (omega arith); disk = still.disk; pending = still.pending }

-- less is known of the same disk
pub knows_on : (old new : Contents) (e f : EarlyWrites) → new.disk ≡ old.disk → new.pending ≡ old.pending → LosesSome e f → Knows old.disk old.pending e → Knows new.disk new.pending f
knows_on old new e f disk pending h k = rw (disk, pending) (knows_loses old.disk old.pending e f k h)

listed_same : (t u : CacheTables) (k : ℕ) → SameTables t u → IsListed t k → IsListed u k
listed_same t u k same l = record { place = l.place; within = subst (λ n. l.place < n) (sym same.shadows) l.within; here = ap (λ (xs : List ℕ). slice_index xs l.place) same.shadowed ∙ l.here }

pub sound_stays : (n m : ℕ) (old new : Contents) (t u : CacheTables) → CacheSound old n t → Coherent new m → SameSizes old new → new.open_page ≡ None → TablesStay t u → ShadowsStay old.words new.words → ((k : ℕ) → k < frames_of old.words → block_of u.pool k ≡ entry_block new.words k) → CacheSound new m u
sound_stays n m old new t u s coherent sizes closed stay shadows bound = record {
  coherent = coherent;
  closed = closed;
  frames = stay.pool.frames ∙ s.frames ∙ sym sizes.frames;
  blocks = stay.pool.blocks ∙ s.blocks ∙ sym (ap length sizes.disk);
  first = rw (stay.first, sizes.frames) s.first;
  marks = rw (stay.same.forgotten, sizes.disk) s.marks;
  buffer = stay.buffer ∙ s.buffer;
  early = knows_on old new t.early u.early sizes.disk sizes.pending stay.early s.early;
  bound = λ k less. bound k (subst (λ f. k < f) sizes.frames less);
  most = subst (λ c. c ≤ 16) (sym stay.same.shadows) s.most;
  room = ap (λ (xs : List ℕ). length xs) stay.same.shadowed ∙ s.room;
  shadows = λ k v some. let w = shadows.was k v some in let r = s.shadows k w.0 (λ z. some (w.1 ∙ z)) in (rw (w.1, stay.same.shadows) r.0, rw (w.1, stay.same.shadowed) r.1);
  listed = λ i less. rw (stay.same.shadowed, sizes.frames) (s.listed i (subst (λ c. i < c) stay.same.shadows less));
  edited = λ is k v some. let w = shadows.was k v some in let e = s.edited (sym sizes.gate ∙ is) k w.0 (λ z. some (w.1 ∙ z)) in (shadows.dirty k (sym sizes.gate ∙ is) v some e.0, stay.pool.pins k ∙ e.1);
  pinned = λ k e. let p = s.pinned k (sym (stay.pool.pins k) ∙ e) in (sizes.gate ∙ p.0, listed_same t u k stay.same p.1);
  few = rw (stay.pool.count, stay.same.shadows) s.few;
}

-- no word of memory differs, and what is known of blocks that were written early is so
pub sound_near : (n m : ℕ) (old new : Contents) (t u : CacheTables) → CacheSound old n t → m ≡ n → Nears old new t u → new.open_page ≡ None → u.first_frame ≡ t.first_frame → length u.buffer.items ≡ length t.buffer.items → Knows new.disk new.pending u.early → CacheSound new m u
sound_near n m old new t u s same h closed first buffer early = record {
  coherent = coherent_on new n m same (h.keeps.coherent n s.coherent);
  closed = closed;
  frames = rw (h.pool, h.words) s.frames;
  blocks = rw (h.pool, h.lasts.blocks) s.blocks;
  first = rw (first, h.words) s.first;
  marks = rw (h.tables.forgotten, h.lasts.blocks) s.marks;
  buffer = buffer ∙ s.buffer;
  early = early;
  bound = λ k less. rw (h.pool, h.words) (s.bound k (subst (λ ws. k < frames_of ws) h.words less));
  most = rw h.tables.shadows s.most;
  room = ap (λ (xs : List ℕ). length xs) h.tables.shadowed ∙ s.room;
  shadows = λ k v some. rw (h.words, h.tables.shadows, h.tables.shadowed) (s.shadows k (valid k v) (bare k some));
  listed = λ i less. rw (h.tables.shadowed, h.words) (s.listed i (subst (λ c. i < c) h.tables.shadows less));
  edited = λ is k v some. let e = s.edited (ap gate_of (sym h.words) ∙ is) k (valid k v) (bare k some) in (ap (λ ws. is_dirty (tag_at ws k)) h.words ∙ e.0, ap (λ (p : FramePool). is_pinned p k) h.pool ∙ e.1);
  pinned = λ k e. let p = s.pinned k (ap (λ (q : FramePool). is_pinned q k) (sym h.pool) ∙ e) in (ap gate_of h.words ∙ p.0, listed_same t u k h.tables p.1);
  few = rw (h.pool, h.tables.shadows) s.few;
}
  where
    valid : (k : ℕ) → IsValid new.words k → IsValid old.words k
    valid k v = subst (λ ws. IsValid ws k) h.words v

    bare : (k : ℕ) → shadow_at new.words k ≢ 0 → shadow_at old.words k ≢ 0
    bare k some z = some (ap (λ ws. shadow_at ws k) h.words ∙ z)

-- ---- which tables stay

pub same_pins : (p : FramePool) → SamePins p p
same_pins p = record { frames = refl; blocks = refl; pins = λ k. refl; count = refl }

pub tables_refl : (t : CacheTables) → SameTables t t
tables_refl t = record { forgotten = refl; shadowed = refl; shadows = refl }

pub tables_trans : (t u v : CacheTables) → SameTables t u → SameTables u v → SameTables t v
tables_trans t u v h k = record { forgotten = k.forgotten ∙ h.forgotten; shadowed = k.shadowed ∙ h.shadowed; shadows = k.shadows ∙ h.shadows }

pub tables_same : (t : CacheTables) → TablesStay t t
tables_same t = record { same = tables_refl t; pool = same_pins t.pool; first = refl; early = loses_refl t.early; buffer = refl }

-- ---- which shadows stay

-- no entry changes but k, of which this is said
pub shadows_one : (k : ℕ) (old new : List ℕ) → OneEntry k old new → (IsValid new k → shadow_at new k ≢ 0 → IsValid old k × (shadow_at new k ≡ shadow_at old k)) → (gate_of old ≡ 1 → IsValid new k → shadow_at new k ≢ 0 → is_dirty (tag_at old k) ≡ true → is_dirty (tag_at new k) ≡ true) → ShadowsStay old new
shadows_one k old new one was dirty = record { was = λ j v some. at j v some (cases_eq j k); dirty = λ j is v some d. still j is v some d (cases_eq j k) }
  where
    at : (j : ℕ) → IsValid new j → shadow_at new j ≢ 0 → (j ≡ k) ⊎ (j ≢ k) → IsValid old j × (shadow_at new j ≡ shadow_at old j)
    at j v some (inl e) = subst (λ x. IsValid old x × (shadow_at new x ≡ shadow_at old x)) (sym e) (was (subst (IsValid new) e v) (subst (λ x. shadow_at new x ≢ 0) e some))
    at j v some (inr ne) = (valid_moved k j old new one ne v, entry_one k j 4 old new one ne (omega arith))

    still : (j : ℕ) → gate_of old ≡ 1 → IsValid new j → shadow_at new j ≢ 0 → is_dirty (tag_at old j) ≡ true → (j ≡ k) ⊎ (j ≢ k) → is_dirty (tag_at new j) ≡ true
    still j is v some d (inl e) = subst (λ x. is_dirty (tag_at new x) ≡ true) (sym e) (dirty is (subst (IsValid new) e v) (subst (λ x. shadow_at new x ≢ 0) e some) (subst (λ x. is_dirty (tag_at old x) ≡ true) e d))
    still j is v some d (inr ne) = ap is_dirty (tag_one k j old new one ne) ∙ d

-- entry k has no shadow afterwards, or isn't valid
pub shadows_gone : (k : ℕ) (old new : List ℕ) → OneEntry k old new → (IsValid new k → shadow_at new k ≡ 0) → ShadowsStay old new
shadows_gone k old new one none = shadows_one k old new one (λ v some. absurd (some (none v))) (λ is v some d. absurd (some (none v)))

-- entry k says what it said, and is dirty if it was, while an update is open
pub shadows_held : (k : ℕ) (old new : List ℕ) → OneEntry k old new → HeldEntry k old new → (gate_of old ≡ 1 → shadow_at old k ≢ 0 → is_dirty (tag_at old k) ≡ true → is_dirty (tag_at new k) ≡ true) → ShadowsStay old new
shadows_held k old new one held dirty = shadows_one k old new one (λ v some. (record { within = subst (λ f. k < f) (frames_one k old new one) v.within; valid = sym held.valid ∙ v.valid }, held.shadow)) (λ is v some d. dirty is (λ z. some (held.shadow ∙ z)) d)

-- no entry changes
pub shadows_entries : (old new : List ℕ) → SameEntries old new → ShadowsStay old new
shadows_entries old new same = record {
  was = λ k v some. let w = valid_same old new k same v in (w, entry_same old new k 4 same w.within (omega arith));
  dirty = λ k is v some d. ap is_dirty (tag_same old new k same (valid_same old new k same v).within) ∙ d;
}

-- ---- which frames have which blocks

tag_entry_block : ℕ → Option ℕ
tag_entry_block t = if is_valid t then Some (tag_block t) else None

-- entry k alone changes, and the pool has for frame k what the entry says
pub bound_one : (k n : ℕ) (old new : Contents) (t u : CacheTables) → CacheSound old n t → OneEntry k old.words new.words → block_of u.pool k ≡ entry_block new.words k → ((j : ℕ) → j ≢ k → block_of u.pool j ≡ block_of t.pool j) → (j : ℕ) → j < frames_of old.words → block_of u.pool j ≡ entry_block new.words j
unfolding tag_entry_block
bound_one k n old new t u s one here others j less = from (cases_eq j k)
  where
    from : (j ≡ k) ⊎ (j ≢ k) → block_of u.pool j ≡ entry_block new.words j
    from (inl e) = subst (λ x. block_of u.pool x ≡ entry_block new.words x) (sym e) here
    from (inr ne) = others j ne ∙ s.bound j less ∙ sym (ap tag_entry_block (tag_one k j old.words new.words one ne))

-- the tags are as before
pub bound_tags : (n : ℕ) (old new : Contents) (t : CacheTables) → CacheSound old n t → ((j : ℕ) → j < frames_of old.words → tag_at new.words j ≡ tag_at old.words j) → (j : ℕ) → j < frames_of old.words → block_of t.pool j ≡ entry_block new.words j
unfolding tag_entry_block
bound_tags n old new t s tags j less = s.bound j less ∙ sym (ap tag_entry_block (tags j less))

-- entry k is of the block that it was of
pub bound_held : (k n : ℕ) (old new : Contents) (t : CacheTables) → CacheSound old n t → OneEntry k old.words new.words → HeldEntry k old.words new.words → (j : ℕ) → j < frames_of old.words → block_of t.pool j ≡ entry_block new.words j
bound_held k n old new t s one held j less = from (cases_eq j k)
  where
    entry_by : (a b : Bool) (x y : ℕ) → b ≡ a → y ≡ x → (if a then Some x else None) ≡ (if b then Some y else None)
    entry_by a b x y e d = rw (e, d) refl

    from : (j ≡ k) ⊎ (j ≢ k) → block_of t.pool j ≡ entry_block new.words j
    from (inl e) = s.bound j less ∙ subst (λ x. entry_block old.words x ≡ entry_block new.words x) (sym e) (entry_by (is_valid (tag_at old.words k)) (is_valid (tag_at new.words k)) (tag_block (tag_at old.words k)) (tag_block (tag_at new.words k)) held.valid held.block)
    from (inr ne) = s.bound j less ∙ entry_by (is_valid (tag_at old.words j)) (is_valid (tag_at new.words j)) (tag_block (tag_at old.words j)) (tag_block (tag_at new.words j)) (ap is_valid (tag_one k j old.words new.words one ne)) (ap tag_block (tag_one k j old.words new.words one ne))

-- ---- pages that aren't pinned

-- a frame that isn't pinned is no part of the update
pub bare_unpinned : (k n : ℕ) (c : Contents) (t : CacheTables) → CacheSound c n t → IsValid c.words k → is_pinned t.pool k ≡ false → IsBare c.words k
bare_unpinned k n c t s v free = from (cases_eq (gate_of c.words) 1) (cases_eq (shadow_at c.words k) 0)
  where
    from : (gate_of c.words ≡ 1) ⊎ (gate_of c.words ≢ 1) → (shadow_at c.words k ≡ 0) ⊎ (shadow_at c.words k ≢ 0) → IsBare c.words k
    from (inr shut) d = inl shut
    from (inl is) (inl none) = inr none
    from (inl is) (inr some) = absurd (true_false (sym (s.edited is k v some).1 ∙ free))

-- there is a frame that isn't pinned
pub pins_fit : (n : ℕ) (c : Contents) (t : CacheTables) → CacheSound c n t → pins_in t.pool < frames_in t.pool
pins_fit n c t s = omega (arith, s.few, s.most, s.frames, s.coherent.sizes.least_frames)
