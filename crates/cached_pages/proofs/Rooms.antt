-- Entries that go and entries that come, and the tables beside them.
use Rattle.cached_pages.proofs.Common.{◌≡◌, ◌≢◌, ℕ, ◌+◌, ◌*◌, ◌<◌, ◌==◌, ◌||◌, Bool, true, false, if◌then◌else◌, ◌⊎◌, List, length, slice_index, Option, Some, None, is_some, refl, ◌∙◌, ap, sym, subst, inl, inr, arith, cases_eq, eq-eqb, ne_eqb, PageName, BlockWords, Contents, Lasts, Running, Steps, lasts_trans, none_some, true_false, Firm, BlockRule, IsValid, OneEntry, frames_of, gate_of, is_data, is_dirty, is_valid, shadow_at, tag_at, tag_block, tag_of, Coherent, HeldEntry, IsBare, Keeps, Narrows, entry_of_block, name_in, reads, OnePage, SameEntries, found_kept, found_other, frame_entries, same_entries, tag_same, Made, frame_past, cover_at, found_is, found_at, tag_one, coherent_on, valid_moved, entry_of, new_entry, Entry, block_of, frames_in}
use Rattle.rio_base.specs.Blocks.{Caches, Looks}
use Rattle.rio_base.specs.Disks.{block_at}
use Rattle.rio_base.specs.Volume.{Passes}
use Rattle.rio_model.specs.Cover.{frame_page, home_word, is_loose}
use Rattle.rio_model.proofs.CoverFills.{is_valid_made}
use Rattle.rio_model.proofs.CoverLookups.{found_free, found_none}
use Rattle.rio_model.proofs.CoverSteps.{keeps_trans}
use Rattle.cached_pages.specs.declared.tables.CacheTables.{CacheTables}
use Rattle.cached_pages.specs.Caches.{Adds, CacheSound, FewWrites, SameTables, SameTouches, cache_below, cache_health, cache_kept, cache_seen, was_forgotten}
use Rattle.cached_pages.proofs.Goes.{goes_few}
use Rattle.write_back.specs.Flushing.{SameDisk}
use Rattle.cached_pages.proofs.Kept.{SameSizes, TablesStay, bound_held, bound_one, bound_tags, shadows_entries, shadows_gone, shadows_held, sizes_keep, sound_stays, tables_same}
use Rattle.cached_pages.proofs.Stores.{cached_entries, name_other, narrows_cached}
use Rattle.cached_pages.proofs.Touched.{touches_entries, touches_one}

-- ---- names of entries

pub narrows_gone : (k n : ℕ) (c : Contents) (new : List ℕ) → Coherent c n → OneEntry k c.words new → tag_at new k ≡ 0 → Narrows c.words new
narrows_gone k n c new s one gone = record { found = λ b j e. from b j e (found_is new b j e) }
  where
    invalid : is_valid (tag_at new k) ≡ false
    invalid = ap is_valid gone

    from : (b j : ℕ) → entry_of_block new b ≡ Some j → IsValid new j × (tag_block (tag_at new j) ≡ b) → (entry_of_block c.words b ≡ Some j) × (name_in new (Some j) ≡ name_in c.words (Some j))
    from b j e v = let ne : j ≢ k = λ q. true_false (sym v.0.valid ∙ ap (λ y. is_valid (tag_at new y)) q ∙ invalid) in (found_at c.words b j s.rules.blocks (valid_moved k j c.words new one ne v.0) (ap tag_block (sym (tag_one k j c.words new one ne)) ∙ v.1), name_other k j c.words new one ne)

-- an entry was begun
pub begun_tag : (k j : ℕ) (old new : List ℕ) → OneEntry k old new → tag_at new k ≡ tag_at old k → tag_at new j ≡ tag_at old j
begun_tag k j old new one same = from (cases_eq j k)
  where
    from : (j ≡ k) ⊎ (j ≢ k) → tag_at new j ≡ tag_at old j
    from (inl e) = subst (λ x. tag_at new x ≡ tag_at old x) (sym e) same
    from (inr ne) = tag_one k j old new one ne

-- ---- what holds, after an entry changed

-- frame k was freed
pub evicted : (k n m : ℕ) (old new : Contents) (t u : CacheTables) → CacheSound old n t → Keeps old new → SameDisk old new → m ≡ n → new.open_page ≡ None → OneEntry k old.words new.words → tag_at new.words k ≡ 0 → TablesStay t u → block_of u.pool k ≡ None → ((j : ℕ) → j ≢ k → block_of u.pool j ≡ block_of t.pool j) → CacheSound new m u
evicted k n m old new t u s h still same closed one gone stay none others =
    sound_stays n m old new t u s (coherent_on new n m same (h.coherent n s.coherent)) (sizes_keep old new h still) closed stay (shadows_gone k old.words new.words one (λ v. absurd (true_false (sym v.valid ∙ ap is_valid gone)))) (bound_one k n old new t u s one (none ∙ sym (ap (λ x. if is_valid x then Some (tag_block x) else None) gone)) others)

-- what was said of the page of entry k is still said, and while an update is open it is dirty if it was
pub kept_at : (k n m : ℕ) (old new : Contents) (t : CacheTables) → CacheSound old n t → Keeps old new → SameDisk old new → m ≡ n → new.open_page ≡ None → OneEntry k old.words new.words → HeldEntry k old.words new.words → (gate_of old.words ≡ 1 → shadow_at old.words k ≢ 0 → is_dirty (tag_at old.words k) ≡ true → is_dirty (tag_at new.words k) ≡ true) → CacheSound new m t
kept_at k n m old new t s h still same closed one held dirty =
    sound_stays n m old new t t s (coherent_on new n m same (h.coherent n s.coherent)) (sizes_keep old new h still) closed (tables_same t) (shadows_held k old.words new.words one held dirty) (bound_held k n old new t s one held)

-- the entry is no part of the update
pub kept_bare : (k n m : ℕ) (old new : Contents) (t : CacheTables) → CacheSound old n t → Keeps old new → SameDisk old new → m ≡ n → new.open_page ≡ None → OneEntry k old.words new.words → HeldEntry k old.words new.words → IsBare old.words k → CacheSound new m t
kept_bare k n m old new t s h still same closed one held bare = kept_at k n m old new t s h still same closed one held (λ is some d. absurd (from bare is some))
  where
    from : IsBare old.words k → gate_of old.words ≡ 1 → shadow_at old.words k ≢ 0 → ⊥
    from (inl shut) is some = shut is
    from (inr none) is some = some none

-- the open update is as before: entry k, which is no part of it, went
pub touches_evicted : (k n : ℕ) (old new : Contents) → Coherent old n → Keeps old new → OneEntry k old.words new.words → IsBare old.words k → tag_at new.words k ≡ 0 → SameTouches old.words new.words
touches_evicted k n old new s h one bare gone = touches_one k old.words new.words one s.rules.blocks (h.coherent n s).rules.blocks (λ v. bare) (λ v. absurd (true_false (sym v.valid ∙ ap is_valid gone)))

-- an entry that isn't valid got other words but the tag
pub touches_begun : (k n : ℕ) (old new : Contents) → Coherent old n → Keeps old new → OneEntry k old.words new.words → is_valid (tag_at old.words k) ≡ false → tag_at new.words k ≡ tag_at old.words k → SameTouches old.words new.words
touches_begun k n old new s h one gone same = touches_one k old.words new.words one s.rules.blocks (h.coherent n s).rules.blocks (λ v. absurd (true_false (sym v.valid ∙ gone))) (λ v. absurd (true_false (sym v.valid ∙ ap is_valid same ∙ gone)))

-- an entry was made
pub touches_made : (k b n : ℕ) (old new : Contents) → Coherent old n → Keeps old new → Made k b false old.words new.words → SameTouches old.words new.words
touches_made k b n old new s h made = touches_one k old.words new.words made.one s.rules.blocks (h.coherent n s).rules.blocks (λ v. absurd (true_false (sym v.valid ∙ made.was))) (λ v. inr made.shadow)

pub at_first : (old mid : Contents) (k : ℕ) (new : List ℕ) → mid.words ≡ old.words → OnePage (frame_page mid.words k) mid.words new → OnePage (frame_page old.words k) old.words new
at_first old mid k new e one = subst (λ ws. OnePage (frame_page ws k) ws new) e one

pub page_same : (words new : List ℕ) (k : ℕ) → OnePage (frame_page words k) words new → SameEntries words new
page_same words new k one = same_entries (frame_page words k) words new one (frame_past words k)

-- no entry changed
pub touches_filled : (old mid : Contents) (k : ℕ) (new : List ℕ) → mid.words ≡ old.words → OnePage (frame_page mid.words k) mid.words new → SameTouches old.words new
touches_filled old mid k new e one = touches_entries old.words new (page_same old.words new k (at_first old mid k new e one))

-- ---- which entries are found

pub adds_narrows : (b : ℕ) (name : Option PageName) (old new : List ℕ) → Narrows old new → Adds b name old new
adds_narrows b name old new h = record { others = λ c k ne e. h.found c k e; named = λ k e. inl (h.found b k e) }

pub adds_after : (b : ℕ) (name : Option PageName) (a c d : List ℕ) → Narrows a c → Adds b name c d → Adds b name a d
adds_after b name a c d h i = record {
  others = λ x k ne e. let now = i.others x k ne e in let was = h.found x k now.0 in (was.0, now.1 ∙ was.1);
  named = λ k e. from k (i.named k e);
}
  where
    from : (k : ℕ) → ((entry_of_block c b ≡ Some k) × (name_in d (Some k) ≡ name_in c (Some k))) ⊎ (name_in d (Some k) ≡ name) → ((entry_of_block a b ≡ Some k) × (name_in d (Some k) ≡ name_in a (Some k))) ⊎ (name_in d (Some k) ≡ name)
    from k (inl e) = let was = h.found b k e.0 in inl (was.0, e.1 ∙ was.1)
    from k (inr e) = inr e

-- the pool has no frame for b, or this one
pub none_bound : (b n : ℕ) (c : Contents) (t : CacheTables) → CacheSound c n t → ((k : ℕ) → k < frames_in t.pool → block_of t.pool k ≢ Some b) → entry_of_block c.words b ≡ None
none_bound b n c t s none = found_free c.words b (λ j v e. none j (subst (λ f. j < f) (sym s.frames) v.within) (s.bound j v.within ∙ rw v.valid (ap Some e)))

bound_valid : (valid : Bool) (block b : ℕ) → (if valid then Some block else None) ≡ Some b → (valid ≡ true) × (block ≡ b)
bound_valid true block b e = (refl, cc)
bound_valid false block b e = absurd (none_some b None refl e)

pub some_bound : (b k n : ℕ) (c : Contents) (t : CacheTables) → CacheSound c n t → k < frames_in t.pool → block_of t.pool k ≡ Some b → entry_of_block c.words b ≡ Some k
some_bound b k n c t s less e =
    let within : k < frames_of c.words = subst (λ f. k < f) s.frames less in
    let v = bound_valid (is_valid (tag_at c.words k)) (tag_block (tag_at c.words k)) b (sym (s.bound k within) ∙ e) in
    found_at c.words b k s.coherent.rules.blocks (record { within = within; valid = v.0 }) v.1

-- a block that isn't cached has no frame
pub unbound : (b n : ℕ) (c : Contents) (t : CacheTables) → CacheSound c n t → entry_of_block c.words b ≡ None → (k : ℕ) → k < frames_in t.pool → block_of t.pool k ≢ Some b
unbound b n c t s none k less e = none_some k (entry_of_block c.words b) none (some_bound b k n c t s less e)

-- the frame of an entry that isn't valid is free, and that of a valid one isn't
pub frame_free : (k n : ℕ) (c : Contents) (t : CacheTables) → CacheSound c n t → k < frames_of c.words → is_valid (tag_at c.words k) ≡ false → block_of t.pool k ≡ None
frame_free k n c t s less gone = s.bound k less ∙ rw gone refl

pub frame_bound : (k n : ℕ) (c : Contents) (t : CacheTables) → CacheSound c n t → IsValid c.words k → block_of t.pool k ≢ None
frame_bound k n c t s v none = none_some (tag_block (tag_at c.words k)) (block_of t.pool k) none (s.bound k v.within ∙ rw v.valid refl)

pub free_of : (b : ℕ) (words : List ℕ) → entry_of_block words b ≡ None → (j : ℕ) → IsValid words j → tag_block (tag_at words j) ≢ b
free_of b words e j v = found_none words b j e v

pub none_still : (b : ℕ) (old new : List ℕ) → Narrows old new → entry_of_block old b ≡ None → entry_of_block new b ≡ None
none_still b old new h e = from (entry_of_block new b) refl
  where
    from : (o : Option ℕ) → entry_of_block new b ≡ o → entry_of_block new b ≡ None
    from None f = f
    from (Some k) f = absurd (none_some k (entry_of_block old b) e (h.found b k f).0)

-- the tag of no entry changed
pub same_tags : (n m : ℕ) (old new : Contents) (t u : CacheTables) → CacheSound old n t → Coherent new m → SameSizes old new → new.open_page ≡ None → SameEntries old.words new.words → TablesStay t u → ((j : ℕ) → block_of u.pool j ≡ block_of t.pool j) → CacheSound new m u
same_tags n m old new t u s coherent sizes closed same stay frames =
    sound_stays n m old new t u s coherent sizes closed stay (shadows_entries old.words new.words same) (λ j less. frames j ∙ bound_tags n old new t s (λ i x. tag_same old.words new.words i same x) j less)

-- a block was read, and a frame that no entry has was filled
pub filled_sound : (k n m : ℕ) (old mid new : Contents) (t u : CacheTables) → CacheSound old n t → Keeps old mid → Keeps mid new → SameDisk old new → m ≡ n → new.open_page ≡ None → mid.words ≡ old.words → OnePage (frame_page mid.words k) mid.words new.words → TablesStay t u → ((j : ℕ) → block_of u.pool j ≡ block_of t.pool j) → CacheSound new m u
filled_sound k n m old mid new t u s h i still same closed e one stay frames =
    let keeps = keeps_trans old mid new h i in
    same_tags n m old new t u s (coherent_on new n m same (keeps.coherent n s.coherent)) (sizes_keep old new keeps still) closed (page_same old.words new.words k (at_first old mid k new.words e one)) stay frames

-- no word changed
pub read_sound : (n m : ℕ) (old new : Contents) (t u : CacheTables) → CacheSound old n t → Keeps old new → SameDisk old new → m ≡ n → new.open_page ≡ None → new.words ≡ old.words → TablesStay t u → ((j : ℕ) → block_of u.pool j ≡ block_of t.pool j) → CacheSound new m u
read_sound n m old new t u s h still same closed e stay frames =
    same_tags n m old new t u s (coherent_on new n m same (h.coherent n s.coherent)) (sizes_keep old new h still) closed (record { count = ap (λ (ws : List ℕ). length ws) e; each = λ i less. ap (λ (ws : List ℕ). slice_index ws i) e }) stay frames

-- an entry that isn't valid got other words but the tag
pub begun_sound : (k n m : ℕ) (old new : Contents) (t : CacheTables) → CacheSound old n t → Keeps old new → SameDisk old new → m ≡ n → new.open_page ≡ None → OneEntry k old.words new.words → is_valid (tag_at old.words k) ≡ false → tag_at new.words k ≡ tag_at old.words k → CacheSound new m t
begun_sound k n m old new t s h still same closed one gone tag =
    sound_stays n m old new t t s (coherent_on new n m same (h.coherent n s.coherent)) (sizes_keep old new h still) closed (tables_same t) (shadows_gone k old.words new.words one (λ v. absurd (true_false (sym v.valid ∙ ap is_valid tag ∙ gone)))) (bound_tags n old new t s (λ j less. begun_tag k j old.words new.words one tag))

-- entry k was made, without a shadow, and frame k bound
pub made_sound : (k b n m : ℕ) (dirty : Bool) (old new : Contents) (t u : CacheTables) → CacheSound old n t → Coherent new m → SameSizes old new → new.open_page ≡ None → Made k b dirty old.words new.words → TablesStay t u → block_of u.pool k ≡ Some b → ((j : ℕ) → j ≢ k → block_of u.pool j ≡ block_of t.pool j) → CacheSound new m u
made_sound k b n m dirty old new t u s coherent sizes closed made stay bound others =
    sound_stays n m old new t u s coherent sizes closed stay (shadows_gone k old.words new.words made.one (λ v. made.shadow)) (bound_one k n old new t u s made.one (bound ∙ sym (rw (made.valid, made.block) refl)) others)

pub bound_made : (k b n m : ℕ) (old new : Contents) (t u : CacheTables) → CacheSound old n t → Keeps old new → SameDisk old new → m ≡ n → new.open_page ≡ None → Made k b false old.words new.words → TablesStay t u → block_of u.pool k ≡ Some b → ((j : ℕ) → j ≢ k → block_of u.pool j ≡ block_of t.pool j) → CacheSound new m u
bound_made k b n m old new t u s h still same closed made stay bound others = made_sound k b n m false old new t u s (coherent_on new n m same (h.coherent n s.coherent)) (sizes_keep old new h still) closed made stay bound others

pub found_new : (k b : ℕ) (old new : List ℕ) → Made k b false old new → BlockRule new → entry_of_block new b ≡ Some k
found_new k b old new made rule = found_at new b k rule (is_valid_made k b false old new made) made.block

pub adds_made : (k b : ℕ) (name : Option PageName) (old new : List ℕ) → Made k b false old new → BlockRule new → name_in new (Some k) ≡ name → Adds b name old new
adds_made k b name old new made rule named = record {
  others = λ c j ne e. let v = found_is new c j e in let differ : j ≢ k = λ q. ne (sym v.1 ∙ ap (λ y. tag_block (tag_at new y)) q ∙ made.block) in (sym (found_other k c old new made.one (λ x. absurd (true_false (sym x ∙ made.was))) (λ x q. ne (sym q ∙ made.block))) ∙ e, name_other k j old new made.one differ);
  named = λ j e. inr (ap (name_in new) (sym e ∙ found_new k b old new made rule) ∙ named);
}

name_new_by : (b : ℕ) (named : Bool) → is_data (tag_of b false named) ≡ named
name_new_by b true = eq-eqb _ 1 (omega arith)
name_new_by b false = ne_eqb _ 1 (omega arith)

name_entry : (e : Entry) → Option PageName
name_entry e = if is_data e.tag then Some (record { file = record { 0 = e.file }; index = e.index; size = e.size }) else None

name_new : (b : ℕ) (name : Option PageName) → name_entry (new_entry b name false) ≡ name
unfolding name_entry
name_new b None = rw (name_new_by b false) refl
name_new b (Some a) = rw (name_new_by b true) refl

pub name_made : (k b : ℕ) (name : Option PageName) (words : List ℕ) → entry_of words k ≡ new_entry b name false → name_in words (Some k) ≡ name
unfolding name_entry
name_made k b name words e = ap name_entry e ∙ name_new b name

-- ---- what a reader sees

cached_some : (o : Option ℕ) → is_some o ≡ true → (k : ℕ) × (o ≡ Some k)
cached_some None e = absurd (true_false (sym e))
cached_some (Some k) e = (k, refl)

pub caches_adds : (b : ℕ) (name : Option PageName) (old new : Contents) → Adds b name old.words new.words → Caches (cache_seen old) (cache_seen new) b name
caches_adds b name old new h = record {
  others = λ c ne e. let k = cached_some (entry_of_block new.words c) e in let was = h.others c k.0 ne k.1 in (ap is_some was.0, ap (name_in new.words) k.1 ∙ was.1 ∙ sym (ap (name_in old.words) was.0));
  named = λ e. from (cached_some (entry_of_block new.words b) e);
}
  where
    by : (k : ℕ) → entry_of_block new.words b ≡ Some k → ((entry_of_block old.words b ≡ Some k) × (name_in new.words (Some k) ≡ name_in old.words (Some k))) ⊎ (name_in new.words (Some k) ≡ name) → ((is_some (entry_of_block old.words b) ≡ true) × (name_in new.words (entry_of_block new.words b) ≡ name_in old.words (entry_of_block old.words b))) ⊎ (name_in new.words (entry_of_block new.words b) ≡ name)
    by k f (inl was) = inl (ap is_some was.0, ap (name_in new.words) f ∙ was.1 ∙ sym (ap (name_in old.words) was.0))
    by k f (inr is) = inr (ap (name_in new.words) f ∙ is)

    from : (k : ℕ) × (entry_of_block new.words b ≡ Some k) → ((is_some (entry_of_block old.words b) ≡ true) × (name_in new.words (entry_of_block new.words b) ≡ name_in old.words (entry_of_block old.words b))) ⊎ (name_in new.words (entry_of_block new.words b) ≡ name)
    from k = by k.0 k.1 (h.named k.0 k.1)

pub looks_keeps : (old new : Contents) → Keeps old new → Lasts old new → Looks (cache_seen old) (cache_seen new)
looks_keeps old new h l = record { count = l.blocks; words = h.reads; base = refl }

forgotten_or : (a b : Bool) → (a || b) ≡ true → (a ≡ true) ⊎ (b ≡ true)
forgotten_or true b e = inl refl
forgotten_or false b e = inr e

or_first : (a b : Bool) → a ≡ true → (a || b) ≡ true
or_first a b e = rw e refl

or_second : (a b : Bool) → b ≡ true → (a || b) ≡ true
or_second true b e = refl
or_second false b e = e

pub firm_by_tables : (old new : Contents) (t u : CacheTables) → ((b : ℕ) → is_loose new b ≡ true → is_loose old b ≡ true) → SameTables t u → Firm (cache_kept old t) (cache_kept new u)
firm_by_tables old new t u h same = record { loose = λ c e. from c (forgotten_or (was_forgotten u c) (is_loose new c) e) }
  where
    from : (c : ℕ) → (was_forgotten u c ≡ true) ⊎ (is_loose new c ≡ true) → (was_forgotten t c || is_loose old c) ≡ true
    from c (inl e) = or_first (was_forgotten t c) (is_loose old c) (rw (sym same.forgotten) e)
    from c (inr e) = or_second (was_forgotten t c) (is_loose old c) (h c e)

pub firm_keeps : (old new : Contents) (t u : CacheTables) → Keeps old new → SameTables t u → Firm (cache_kept old t) (cache_kept new u)
firm_keeps old new t u h same = firm_by_tables old new t u h.firm same

pub word_read : (k b w p : ℕ) (old new : Contents) → Keeps old new → entry_of_block new.words b ≡ Some k → w < 512 → p ≡ frame_page new.words k → slice_index new.words (512 * p + w) ≡ reads old b w
word_read k b w p old new h found small page = ap (λ q. slice_index new.words (512 * q + w)) page ∙ sym (cover_at (frame_page new.words) new.words new.disk b w k found small) ∙ ap (λ (f : BlockWords). f b w) h.reads

pub lasts_then : (a b c : Contents) → Lasts a b → Lasts b c → Lasts a c
lasts_then a b c h k = lasts_trans a b c h k

pub keeps_then : (a b c : Contents) → Keeps a b → Keeps b c → Keeps a c
keeps_then a b c h k = keeps_trans a b c h k

-- ---- a frame was filled

pub filled_tag : (old mid : Contents) (k j : ℕ) (new : List ℕ) → mid.words ≡ old.words → OnePage (frame_page mid.words k) mid.words new → j < frames_of old.words → tag_at new j ≡ tag_at old.words j
filled_tag old mid k j new e one less = tag_same old.words new j (page_same old.words new k (at_first old mid k new e one)) less

pub filled_narrows : (old mid : Contents) (k : ℕ) (new : List ℕ) → mid.words ≡ old.words → OnePage (frame_page mid.words k) mid.words new → Narrows old.words new
filled_narrows old mid k new e one = narrows_cached old.words new (cached_entries old.words new (page_same old.words new k (at_first old mid k new e one)))

pub filled_home : (old mid new : Contents) (k b : ℕ) (buffer : List ℕ) → mid.words ≡ old.words → OnePage (frame_page mid.words k) mid.words new.words → new ≡ record mid { words = new.words } → mid.disk ≡ old.disk → buffer ≡ block_at old.disk b → ((w : ℕ) → w < 512 → slice_index new.words (512 * frame_page mid.words k + w) ≡ slice_index buffer w) → (w : ℕ) → w < 512 → slice_index new.words (512 * frame_page new.words k + w) ≡ home_word new.disk b w
filled_home old mid new k b buffer e one rest disk read filled w less =
    ap (λ p. slice_index new.words (512 * p + w)) (frame_entries mid.words new.words k (page_same mid.words new.words k one)) ∙ filled w less ∙ ap (λ (xs : List ℕ). slice_index xs w) read ∙ ap (λ d. home_word d b w) (sym (ap (λ (m : Contents). m.disk) rest ∙ disk))

pub begun_narrows : (k : ℕ) (old new : List ℕ) → OneEntry k old new → tag_at new k ≡ tag_at old k → is_valid (tag_at old k) ≡ false → Narrows old new
begun_narrows k old new one same gone = record {
  found = λ b j e.
      let was = sym (found_kept k b old new one (ap is_valid same) (ap tag_block same)) ∙ e in
      let ne : j ≢ k = λ q. true_false (sym (found_is old b j was).0.valid ∙ ap (λ y. is_valid (tag_at old y)) q ∙ gone) in
      (was, name_other k j old new one ne);
}

-- ---- the volume is only read

pub passes_of : (b : ℕ) (c d : Contents) (r s : Running) (t u : CacheTables) → Keeps c d → Lasts c d → Steps r s → FewWrites b t c d → SameTouches c.words d.words → SameTables t u → Passes (cache_health c r) (cache_below c r) (cache_kept c t) (cache_health d s) (cache_below d s) (cache_kept d u)
passes_of b c d r s t u h l st few touches same = record {
  goes = goes_few b t c d r s l st (h.header 2 (omega arith)) few;
  standing = h.stands;
  firm = firm_keeps c d t u h same;
  updating = ap (λ n. n == 1) (h.header 4 (omega arith));
  touched = touches.touched;
  touches = rw (h.header 4 (omega arith), same.shadows) refl;
}
