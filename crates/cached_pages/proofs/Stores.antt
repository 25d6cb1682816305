-- An entry is marked dirty, or its page is stored into: the cache keeps its rules.
use Rattle.cached_pages.proofs.Common.{◌≡◌, ◌≢◌, ℕ, ◌+◌, ◌<◌, Bool, true, if◌then◌else◌, ◌⊎◌, List, length, slice_index, Option, Some, None, refl, ◌∙◌, ap, sym, subst, inl, inr, arith, cases_eq, PageName, Contents, Running, IsValid, OneEntry, frames_of, gate_of, is_data, is_dirty, is_valid, shadow_at, size_at, tag_at, tag_block, Coherent, HeldEntry, Keeps, Narrows, name_in, entry_one, frames_one, header_one, tag_one, found_is, SameEntries, entry_same, found_entries, found_kept, header_same, tag_same, coherent_on, entry_of, Entry}
use Rattle.rio_base.specs.Image.{registry_pages}
use Rattle.rio_model.specs.Registry.{HasLayout, file_at, index_at, with_dirty}
use Rattle.rio_model.proofs.RegistryRules.{dirtied_dirty}
use Rattle.rio_model.proofs.CoverSteps.{Retagged, hold_dirtied, keeps_dirty, layout_is, rest_stored}
use Rattle.registry.specs.Changes.{CanChange}
use Rattle.cached_pages.specs.declared.tables.CacheTables.{CacheTables}
use Rattle.cached_pages.specs.Caches.{CacheSound}
use Rattle.cached_pages.specs.Stores.{SameCached}

-- ---- what a change of an entry asks

pub can_change : (k : ℕ) (c : Contents) (r : Running) (t : CacheTables) → CacheSound c (length r.scratch) t → k < frames_of c.words → CanChange k c r
can_change k c r t s less = record { layout = layout_is c r.scratch s.coherent; closed = s.closed; entry = less }

pub layout_of : (c : Contents) (r : Running) (t : CacheTables) → CacheSound c (length r.scratch) t → HasLayout c.words r.scratch
layout_of c r t s = layout_is c r.scratch s.coherent

-- ---- the rules of a cache

-- the tags are of the same blocks, the shadows are the same, and no dirty entry becomes clean
pub record SameHolds (old new : List ℕ) : Type 0 where
  pub frames : frames_of new ≡ frames_of old
  pub gate : gate_of new ≡ gate_of old
  pub valid : (k : ℕ) → k < frames_of old → is_valid (tag_at new k) ≡ is_valid (tag_at old k)
  pub block : (k : ℕ) → k < frames_of old → tag_block (tag_at new k) ≡ tag_block (tag_at old k)
  pub shadow : (k : ℕ) → k < frames_of old → shadow_at new k ≡ shadow_at old k
  pub dirty : (k : ℕ) → k < frames_of old → is_dirty (tag_at old k) ≡ true → is_dirty (tag_at new k) ≡ true

pub sound_holds : (n m : ℕ) (old new : Contents) (t : CacheTables) → CacheSound old n t → (Coherent old n → Coherent new n) → m ≡ n → new.open_page ≡ None → new.disk ≡ old.disk → new.pending ≡ old.pending → SameHolds old.words new.words → CacheSound new m t
sound_holds n m old new t s coherent same closed disk pending h = record {
  coherent = coherent_on new n m same (coherent s.coherent);
  closed = closed;
  frames = s.frames ∙ sym h.frames;
  blocks = s.blocks ∙ sym (ap length disk);
  first = s.first ∙ ap (λ f. registry_pages f + 17) (sym h.frames);
  marks = s.marks ∙ sym (ap length disk);
  buffer = s.buffer;
  early = rw (disk, pending) s.early;
  bound = λ k less. let was = within k less in s.bound k was ∙ sym (rw (h.valid k was, h.block k was) refl);
  most = s.most;
  room = s.room;
  shadows = λ k v some. let x = valid k v in let e = h.shadow k x.within in rw e (s.shadows k x (λ z. some (e ∙ z)));
  listed = λ i less. subst (λ f. slice_index t.shadowed i < f) (sym h.frames) (s.listed i less);
  edited = λ one k v some. let x = valid k v in let e = s.edited (sym h.gate ∙ one) k x (λ z. some (h.shadow k x.within ∙ z)) in (h.dirty k x.within e.0, e.1);
  pinned = λ k p. let q = s.pinned k p in (h.gate ∙ q.0, q.1);
  few = s.few;
}
  where
    within : (k : ℕ) → k < frames_of new.words → k < frames_of old.words
    within k less = subst (λ f. k < f) h.frames less

    valid : (k : ℕ) → IsValid new.words k → IsValid old.words k
    valid k v = let was = within k v.within in record { within = was; valid = sym (h.valid k was) ∙ v.valid }

pub holds_one : (k : ℕ) (old new : List ℕ) → OneEntry k old new → HeldEntry k old new → (is_dirty (tag_at old k) ≡ true → is_dirty (tag_at new k) ≡ true) → SameHolds old new
holds_one k old new one h dirty = record {
  frames = frames_one k old new one;
  gate = header_one k old new 4 one (omega arith);
  valid = λ j less. valid j (cases_eq j k);
  block = λ j less. block j (cases_eq j k);
  shadow = λ j less. shadow j (cases_eq j k);
  dirty = λ j less d. dirt j (cases_eq j k) d;
}
  where
    valid : (j : ℕ) → (j ≡ k) ⊎ (j ≢ k) → is_valid (tag_at new j) ≡ is_valid (tag_at old j)
    valid j (inl e) = subst (λ x. is_valid (tag_at new x) ≡ is_valid (tag_at old x)) (sym e) h.valid
    valid j (inr ne) = ap is_valid (tag_one k j old new one ne)

    block : (j : ℕ) → (j ≡ k) ⊎ (j ≢ k) → tag_block (tag_at new j) ≡ tag_block (tag_at old j)
    block j (inl e) = subst (λ x. tag_block (tag_at new x) ≡ tag_block (tag_at old x)) (sym e) h.block
    block j (inr ne) = ap tag_block (tag_one k j old new one ne)

    shadow : (j : ℕ) → (j ≡ k) ⊎ (j ≢ k) → shadow_at new j ≡ shadow_at old j
    shadow j (inl e) = subst (λ x. shadow_at new x ≡ shadow_at old x) (sym e) h.shadow
    shadow j (inr ne) = entry_one k j 4 old new one ne (omega arith)

    dirt : (j : ℕ) → (j ≡ k) ⊎ (j ≢ k) → is_dirty (tag_at old j) ≡ true → is_dirty (tag_at new j) ≡ true
    dirt j (inl e) d = subst (λ x. is_dirty (tag_at new x) ≡ true) (sym e) (dirty (ap (λ x. is_dirty (tag_at old x)) (sym e) ∙ d))
    dirt j (inr ne) d = ap is_dirty (tag_one k j old new one ne) ∙ d

pub holds_entries : (old new : List ℕ) → SameEntries old new → SameHolds old new
holds_entries old new h = record {
  frames = header_same old new 2 h (omega arith);
  gate = header_same old new 4 h (omega arith);
  valid = λ j less. ap is_valid (tag_same old new j h less);
  block = λ j less. ap tag_block (tag_same old new j h less);
  shadow = λ j less. entry_same old new j 4 h less (omega arith);
  dirty = λ j less d. ap is_dirty (tag_same old new j h less) ∙ d;
}

-- ---- who is cached, under which name

name_by : Bool → ℕ → ℕ → ℕ → Option PageName
name_by d f i s = if d then Some (record { file = record { 0 = f }; index = i; size = s }) else None

pub name_same : (k : ℕ) (old new : List ℕ) → is_data (tag_at new k) ≡ is_data (tag_at old k) → file_at new k ≡ file_at old k → index_at new k ≡ index_at old k → size_at new k ≡ size_at old k → name_in new (Some k) ≡ name_in old (Some k)
unfolding name_by
name_same k old new d f i s = equal d f i s
  where
    equal : is_data (tag_at new k) ≡ is_data (tag_at old k) → file_at new k ≡ file_at old k → index_at new k ≡ index_at old k → size_at new k ≡ size_at old k → name_by (is_data (tag_at new k)) (file_at new k) (index_at new k) (size_at new k) ≡ name_by (is_data (tag_at old k)) (file_at old k) (index_at old k) (size_at old k)
    equal d f i s = rw (d, f, i, s) refl

pub name_other : (k j : ℕ) (old new : List ℕ) → OneEntry k old new → j ≢ k → name_in new (Some j) ≡ name_in old (Some j)
name_other k j old new one ne = name_same j old new (ap is_data (tag_one k j old new one ne)) (entry_one k j 1 old new one ne (omega arith)) (entry_one k j 2 old new one ne (omega arith)) (entry_one k j 3 old new one ne (omega arith))

pub name_held : (k : ℕ) (old new : List ℕ) → HeldEntry k old new → name_in new (Some k) ≡ name_in old (Some k)
name_held k old new h = name_same k old new h.named h.file h.index h.size

pub cached_refl : (words : List ℕ) → SameCached words words
cached_refl words = record { found = λ b. refl; names = λ b k e. refl }

pub cached_held : (k : ℕ) (old new : List ℕ) → OneEntry k old new → HeldEntry k old new → SameCached old new
cached_held k old new one h = record { found = λ b. found_kept k b old new one h.valid h.block; names = λ b j e. name j (cases_eq j k) }
  where
    name : (j : ℕ) → (j ≡ k) ⊎ (j ≢ k) → name_in new (Some j) ≡ name_in old (Some j)
    name j (inl e) = subst (λ x. name_in new (Some x) ≡ name_in old (Some x)) (sym e) (name_held k old new h)
    name j (inr ne) = name_other k j old new one ne

pub cached_entries : (old new : List ℕ) → SameEntries old new → SameCached old new
cached_entries old new h = record { found = λ b. found_entries old new b h; names = λ b j e. let less = (found_is old b j e).0.within in name_same j old new (ap is_data (tag_same old new j h less)) (entry_same old new j 1 h less (omega arith)) (entry_same old new j 2 h less (omega arith)) (entry_same old new j 3 h less (omega arith)) }

pub narrows_cached : (old new : List ℕ) → SameCached old new → Narrows old new
narrows_cached old new h = record { found = λ b k e. let was = sym (h.found b) ∙ e in (was, h.names b k was) }

-- ---- nothing changed

pub sound_same : (n m : ℕ) (old new : Contents) (t : CacheTables) → CacheSound old n t → m ≡ n → new ≡ old → CacheSound new m t
sound_same n m old new t s same e = subst (λ c. CacheSound c m t) (sym e) (subst (λ x. CacheSound old x t) (sym same) s)

pub cached_same : (old new : Contents) → new ≡ old → SameCached old.words new.words
cached_same old new e = rw e (cached_refl old.words)

-- ---- an entry is marked dirty

pub held_same : (k : ℕ) (old new : List ℕ) → new ≡ old → HeldEntry k old new
held_same k old new e = rw e (record { valid = refl; named = refl; block = refl; file = refl; index = refl; size = refl; shadow = refl })

pub held_refl : (k : ℕ) (words : List ℕ) → HeldEntry k words words
held_refl k words = held_same k words words refl

pub one_refl : (k : ℕ) (words : List ℕ) → OneEntry k words words
one_refl k words = record { count = refl; before = λ i less. refl; behind = λ i more. refl }

pub dirtied : (k : ℕ) (old new : List ℕ) → OneEntry k old new → entry_of new k ≡ record (entry_of old k) { tag = with_dirty (tag_at old k) } → Retagged k (with_dirty (tag_at old k)) old new
dirtied k old new one e = record {
  one = one;
  tag = ap (λ (x : Entry). x.tag) e;
  file = ap (λ (x : Entry). x.file) e;
  index = ap (λ (x : Entry). x.index) e;
  size = ap (λ (x : Entry). x.size) e;
  shadow = ap (λ (x : Entry). x.shadow) e;
}

pub dirtied_held : (k : ℕ) (old new : List ℕ) → OneEntry k old new → entry_of new k ≡ record (entry_of old k) { tag = with_dirty (tag_at old k) } → HeldEntry k old new
dirtied_held k old new one e =
    let r = dirtied k old new one e in
    let h = hold_dirtied (tag_at old k) in
    record { valid = ap is_valid r.tag ∙ h.valid; named = ap is_data r.tag ∙ h.named; block = ap tag_block r.tag ∙ h.block; file = r.file; index = r.index; size = r.size; shadow = r.shadow }

pub dirtied_is : (k : ℕ) (old new : List ℕ) → entry_of new k ≡ record (entry_of old k) { tag = with_dirty (tag_at old k) } → is_dirty (tag_at new k) ≡ true
dirtied_is k old new e = ap (λ (x : Entry). is_dirty x.tag) e ∙ dirtied_dirty (tag_at old k)

pub dirtied_keeps : (n k : ℕ) (old new : Contents) (words : List ℕ) (t : CacheTables) → CacheSound old n t → new ≡ record old { words = words } → IsValid old.words k → OneEntry k old.words new.words → entry_of new.words k ≡ record (entry_of old.words k) { tag = with_dirty (tag_at old.words k) } → Keeps old new
dirtied_keeps n k old new words t s stored v one e = keeps_dirty n k old new s.coherent (rest_stored old new words stored) v (dirtied k old.words new.words one e)

pub dirtied_sound : (n m k : ℕ) (old new : Contents) (t : CacheTables) → CacheSound old n t → Keeps old new → m ≡ n → new.open_page ≡ None → new ≡ record old { words = new.words } → OneEntry k old.words new.words → entry_of new.words k ≡ record (entry_of old.words k) { tag = with_dirty (tag_at old.words k) } → CacheSound new m t
dirtied_sound n m k old new t s h same closed rest one e = sound_holds n m old new t s (h.coherent n) same closed (ap (λ (x : Contents). x.disk) rest) (ap (λ (x : Contents). x.pending) rest) (holds_one k old.words new.words one (dirtied_held k old.words new.words one e) (λ d. dirtied_is k old.words new.words e))
