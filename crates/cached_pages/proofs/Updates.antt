-- What holds between calls is kept by the calls of an update.
use Rattle.cached_pages.proofs.Common.{◌≡◌, ◌≢◌, ℕ, ◌+◌, ◌-◌, ◌<◌, ◌≤◌, ◌==◌, ◌&&◌, not, Bool, true, false, ◌⊎◌, if◌then◌else◌, List, length, slice_index, Option, Some, None, is_some, refl, ◌∙◌, ap, sym, subst, inl, inr, arith, eq-eqb, Contents, disk_same, pending_same, true_false, IsValid, frames_of, gate_of, is_dirty, is_valid, shadow_at, tag_at, tag_block, Coherent, SameNames, entry_block, entry_of_block, name_in, found_is, coherent_on, is_pinned, pins_in}
use Rattle.rio_base.specs.Blocks.{Drops}
use Rattle.rio_base.specs.Image.{entry_at}
use Rattle.rio_base.specs.Volume.{Begun}
use Rattle.rio_model.proofs.CoverStands.{narrows_same}
use Rattle.shadow_pages.specs.Updates.{AreBare, LosesShadows, Opened, SameShadows}
use Rattle.cached_pages.specs.declared.tables.CacheTables.{CacheTables}
use Rattle.cached_pages.specs.Caches.{CacheSound, IsListed, cache_kept, cache_seen, has_shadow}
use Rattle.cached_pages.specs.Updating.{SameButPins}
use Rattle.cached_pages.proofs.Pins.{no_pins, pins_refl}

-- ---- the invariant

-- what the invariant says of shadows and pins, of a registry and its tables
pub record ShadowsFit (words : List ℕ) (t : CacheTables) : Type 0 where
  pub most : t.shadows ≤ 16
  pub shadows : (k : ℕ) → IsValid words k → shadow_at words k ≢ 0 → (shadow_at words k ≤ t.shadows) × (slice_index t.shadowed (shadow_at words k - 1) ≡ k)
  pub listed : (i : ℕ) → i < t.shadows → slice_index t.shadowed i < frames_of words
  pub edited : gate_of words ≡ 1 → (k : ℕ) → IsValid words k → shadow_at words k ≢ 0 → (is_dirty (tag_at words k) ≡ true) × (is_pinned t.pool k ≡ true)
  pub pinned : (k : ℕ) → is_pinned t.pool k ≡ true → (gate_of words ≡ 1) × IsListed t k
  pub few : pins_in t.pool ≤ t.shadows

pub fit_of : (n : ℕ) (c : Contents) (t : CacheTables) → CacheSound c n t → ShadowsFit c.words t
fit_of n c t s = record { most = s.most; shadows = s.shadows; listed = s.listed; edited = s.edited; pinned = s.pinned; few = s.few }

block_by : ℕ → Option ℕ
block_by t = if is_valid t then Some (tag_block t) else None

-- the registry says of its pages what it said, and shadows and pins fit it
pub sound_with : (n m : ℕ) (old new : Contents) (t u : CacheTables) → CacheSound old n t → Coherent new m → new.open_page ≡ None → new.disk ≡ old.disk → new.pending ≡ old.pending → frames_of new.words ≡ frames_of old.words → ((k : ℕ) → k < frames_of old.words → entry_block new.words k ≡ entry_block old.words k) → SameButPins t u → ShadowsFit new.words u → CacheSound new m u
sound_with n m old new t u s coherent closed disk pending frames blocks h f = record {
  coherent = coherent;
  closed = closed;
  frames = h.frames ∙ s.frames ∙ sym frames;
  blocks = h.blocks ∙ s.blocks ∙ sym (ap length disk);
  first = rw (h.first, frames) s.first;
  marks = rw (h.forgotten, disk) s.marks;
  buffer = rw h.buffer s.buffer;
  early = rw (h.early, disk, pending) s.early;
  bound = λ k less. let was = subst (λ f. k < f) frames less in h.held k ∙ s.bound k was ∙ sym (blocks k was);
  most = f.most;
  room = h.room ∙ s.room;
  shadows = f.shadows;
  listed = f.listed;
  edited = f.edited;
  pinned = f.pinned;
  few = f.few;
}

pub blocks_named : (old new : List ℕ) → SameNames old new → (k : ℕ) → k < frames_of old → entry_block new k ≡ entry_block old k
unfolding block_by
blocks_named old new h k less = ap block_by (h.tag k less)

pub valid_before : (old new : List ℕ) (k : ℕ) → SameNames old new → IsValid new k → IsValid old k
valid_before old new k h v =
    let less : k < frames_of old = subst (λ f. k < f) h.frames v.within in
    record { within = less; valid = ap is_valid (sym (h.tag k less)) ∙ v.valid }

-- the registry is as before, but for the gate, which is shut; nothing is pinned
pub fit_shut : (old new : List ℕ) (t u : CacheTables) → ShadowsFit old t → SameNames old new → LosesShadows old new → gate_of new ≢ 1 → u.shadows ≡ t.shadows → u.shadowed ≡ t.shadowed → ((k : ℕ) → is_pinned u.pool k ≡ false) → ShadowsFit new u
fit_shut old new t u f names loses shut count list none = record {
  most = subst (λ c. c ≤ 16) (sym count) f.most;
  shadows = λ k v some. let was = valid_before old new k names v in at k was some (loses k was.within);
  listed = λ i less. rw (list, names.frames) (f.listed i (subst (λ c. i < c) count less));
  edited = λ is. absurd (shut is);
  pinned = λ k e. absurd (true_false (sym e ∙ none k));
  few = rw (no_pins u.pool none) (omega arith);
}
  where
    at : (k : ℕ) → IsValid old k → shadow_at new k ≢ 0 → (shadow_at new k ≡ shadow_at old k) ⊎ (shadow_at new k ≡ 0) → (shadow_at new k ≤ u.shadows) × (slice_index u.shadowed (shadow_at new k - 1) ≡ k)
    at k v some (inl e) = let r = f.shadows k v (λ z. some (e ∙ z)) in (rw (e, count) r.0, rw (e, list) r.1)
    at k v some (inr z) = absurd (some z)

-- entries, gate and pool are as before
pub fit_same : (old new : List ℕ) (t : CacheTables) → ShadowsFit old t → SameNames old new → SameShadows old new → gate_of new ≡ gate_of old → ShadowsFit new t
fit_same old new t f names same gate = record {
  most = f.most;
  shadows = λ k v some. let was = valid_before old new k names v in let e = same k was.within in let r = f.shadows k was (λ z. some (e ∙ z)) in (rw e r.0, rw e r.1);
  listed = λ i less. rw names.frames (f.listed i less);
  edited = λ is k v some. let was = valid_before old new k names v in let r = f.edited (sym gate ∙ is) k was (λ z. some (same k was.within ∙ z)) in (ap is_dirty (names.tag k was.within) ∙ r.0, r.1);
  pinned = λ k e. let r = f.pinned k e in (gate ∙ r.0, r.1);
  few = f.few;
}

-- an update has begun: no entry has a shadow, and the list is empty
pub fit_begun : (new : List ℕ) (u : CacheTables) → AreBare new → u.shadows ≡ 0 → ((k : ℕ) → is_pinned u.pool k ≡ false) → ShadowsFit new u
fit_begun new u bare count none = record {
  most = rw count (omega arith);
  shadows = λ k v some. absurd (some (bare k v));
  listed = λ i less. absurd (omega (arith, less, count));
  edited = λ is k v some. absurd (some (bare k v));
  pinned = λ k e. absurd (true_false (sym e ∙ none k));
  few = rw (no_pins u.pool none) (omega arith);
}

pub sound_shut : (n m : ℕ) (old new : Contents) (t u : CacheTables) → CacheSound old n t → m ≡ n → (Coherent old n → Coherent new n) → new ≡ record old { words = new.words } → new.open_page ≡ None → SameNames old.words new.words → LosesShadows old.words new.words → gate_of new.words ≢ 1 → SameButPins t u → u.shadows ≡ t.shadows → u.shadowed ≡ t.shadowed → ((k : ℕ) → is_pinned u.pool k ≡ false) → CacheSound new m u
sound_shut n m old new t u s same coherent rest closed names loses shut pins count list none = sound_with n m old new t u s (coherent_on new n m same (coherent s.coherent)) closed (disk_same old new rest) (pending_same old new rest) names.frames (blocks_named old.words new.words names) pins (fit_shut old.words new.words t u (fit_of n old t s) names loses shut count list none)

pub sound_same : (n m : ℕ) (old new : Contents) (t : CacheTables) → CacheSound old n t → m ≡ n → (Coherent old n → Coherent new n) → new ≡ record old { words = new.words } → new.open_page ≡ None → SameNames old.words new.words → SameShadows old.words new.words → gate_of new.words ≡ gate_of old.words → CacheSound new m t
sound_same n m old new t s same coherent rest closed names shadows gate = sound_with n m old new t t s (coherent_on new n m same (coherent s.coherent)) closed (disk_same old new rest) (pending_same old new rest) names.frames (blocks_named old.words new.words names) (pins_refl t) (fit_same old.words new.words t (fit_of n old t s) names shadows gate)

pub sound_begun : (n m : ℕ) (old new : Contents) (t u : CacheTables) → CacheSound old n t → m ≡ n → (Coherent old n → Coherent new n) → new ≡ record old { words = new.words } → new.open_page ≡ None → SameNames old.words new.words → AreBare new.words → SameButPins t u → u.shadows ≡ 0 → ((k : ℕ) → is_pinned u.pool k ≡ false) → CacheSound new m u
sound_begun n m old new t u s same coherent rest closed names bare pins count none = sound_with n m old new t u s (coherent_on new n m same (coherent s.coherent)) closed (disk_same old new rest) (pending_same old new rest) names.frames (blocks_named old.words new.words names) pins (fit_begun new.words u bare count none)

-- ---- what a reader sees, and what stands

cached_some : (o : Option ℕ) → is_some o ≡ true → (k : ℕ) × (o ≡ Some k)
cached_some None e = absurd (true_false (sym e))
cached_some (Some k) e = (k, refl)

pub drops_named : (old new : Contents) → SameNames old.words new.words → Drops (cache_seen old) (cache_seen new)
drops_named old new names = record {
  kept = λ b e.
      let k = cached_some (entry_of_block new.words b) e in
      let was = (narrows_same old.words new.words names).found b k.0 k.1 in
      (ap is_some was.0, ap (name_in new.words) k.1 ∙ was.1 ∙ sym (ap (name_in old.words) was.0));
}

bare_touch : (words : List ℕ) (o : Option ℕ) → ((k : ℕ) → o ≡ Some k → shadow_at words k ≡ 0) → has_shadow words o ≡ false
bare_touch words None h = refl
bare_touch words (Some k) h = ap (λ s. not (s == 0)) (h k refl)

both_false : (a b : Bool) → b ≡ false → (a && b) ≡ false
both_false true b e = e
both_false false b e = refl

pub begun_of : (old new : Contents) (t u : CacheTables) → Opened old new → u.shadows ≡ 0 → Begun (cache_seen old) (cache_kept old t) (cache_kept new u)
begun_of old new t u h count = record {
  updating = eq-eqb _ _ h.gate;
  standing = h.stands;
  touched = λ b. both_false _ _ (bare_touch new.words (entry_of_block new.words b) (λ k e. h.bare k (found_is new.words b k e).0));
  touches = rw (h.gate, count) refl;
}

pub shut_zero : (words : List ℕ) → gate_of words ≡ 0 → gate_of words ≢ 1
shut_zero words e one = absurd (omega (arith, e, one))

pub same_loses : (old new : List ℕ) → SameShadows old new → LosesShadows old new
same_loses old new h k less = inl (h k less)

pub shadows_past : (old new : List ℕ) → ((i : ℕ) → 512 ≤ i → slice_index new i ≡ slice_index old i) → SameShadows old new
unfolding entry_at
shadows_past old new h = λ k less. h (entry_at k + 4) (omega arith)
