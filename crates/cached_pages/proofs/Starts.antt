-- A cache starts, and what is told of it.
use Rattle.cached_pages.proofs.Common.{◌≡◌, ℕ, ◌+◌, ◌/◌, ◌<◌, ◌||◌, ◌&&◌, ◌==◌, not, is_some, Bool, true, false, if◌then◌else◌, List, length, slice_index_or, Some, None, refl, ◌∙◌, ap, sym, arith, is_pending, Contents, Running, true_false, IsValid, frames_of, gate_of, is_valid, page_of_entry, tag_at, tag_block, Coherent, entry_of_block}
use Rattle.std.specs.Prelude.{replicate}
use Rattle.std.proofs.lemmas.List.{length-replicate}
use Rattle.rio_base.specs.Image.{registry_pages}
use Rattle.rio_model.specs.Cover.{frame_page, has_dirty, is_loose}
use Rattle.rio_model.specs.CoverLookups.{cover_home}
use Rattle.rio_model.proofs.CoverLookups.{found_free}
use Rattle.rio_model.proofs.CoverStands.{stands_firm}
use Rattle.rio_model.proofs.CoverSteps.{dirty_none, none_pending}
use Rattle.cached_pages.specs.declared.tables.CacheTables.{CacheTables}
use Rattle.cached_pages.specs.Caches.{CacheSound, IsFresh, Started, Tells, cache_below, cache_health, cache_kept, cache_seen, was_forgotten}

pub start_sound : (n : ℕ) (c : Contents) (t : CacheTables) → Coherent c n → c.open_page ≡ None → gate_of c.words ≡ 0 → ((k : ℕ) → k < frames_of c.words → tag_at c.words k ≡ 0) → IsFresh (frames_of c.words) (length c.disk) t → CacheSound c n t
start_sound n c t coherent closed shut empty fresh = record {
  coherent = coherent;
  closed = closed;
  frames = fresh.in_pool;
  blocks = fresh.in_volume;
  first = fresh.first;
  marks = fresh.marks;
  buffer = fresh.buffer;
  early = fresh.early c.disk c.pending;
  bound = λ k less. fresh.free k ∙ sym (ap (λ x. if is_valid x then Some (tag_block x) else None) (empty k less));
  most = omega (arith, fresh.none);
  room = fresh.room;
  shadows = λ k v some. absurd (invalid k v);
  listed = λ i less. absurd (omega (arith, less, fresh.none));
  edited = λ is k v some. absurd (invalid k v);
  pinned = λ k e. absurd (true_false (sym e ∙ fresh.unpinned k));
  few = omega (arith, fresh.few, fresh.none);
}
  where
    invalid : (k : ℕ) → IsValid c.words k → ⊥
    invalid k v = true_false (sym v.valid ∙ ap is_valid (empty k v.within))

no_entry : (c : Contents) → ((k : ℕ) → k < frames_of c.words → tag_at c.words k ≡ 0) → (b : ℕ) → entry_of_block c.words b ≡ None
no_entry c empty b = found_free c.words b (λ k v. absurd (true_false (sym v.valid ∙ ap is_valid (empty k v.within))))

none_dirty : (p d : Bool) → d ≡ false → (p && not d) ≡ p
none_dirty true d e = ap not e
none_dirty false d e = refl

loose_pending : (c : Contents) (b : ℕ) → entry_of_block c.words b ≡ None → is_loose c b ≡ is_pending c.pending b
unfolding is_loose
loose_pending c b none = none_dirty (is_pending c.pending b) (has_dirty c.words b) (dirty_none c.words b none)

pub started_of : (c : Contents) (t : CacheTables) → gate_of c.words ≡ 0 → ((k : ℕ) → k < frames_of c.words → tag_at c.words k ≡ 0) → IsFresh (frames_of c.words) (length c.disk) t → Started c (cache_seen c) (cache_kept c t)
started_of c t shut empty fresh = record {
  uncached = λ b. ap is_some (no_entry c empty b);
  reading = λ b w less. cover_home (frame_page c.words) c.words c.disk b w (no_entry c empty b) less;
  standing = λ b w less. cover_home (page_of_entry c.words) c.words c.disk b w (no_entry c empty b) less;
  loose = λ b. ap (λ x. x || is_loose c b) (fresh.firm b) ∙ loose_pending c b (no_entry c empty b);
  updating = ap (λ n. n == 1) shut;
}

loose_in : (a b : Bool) → b ≡ true → (a || b) ≡ true
loose_in true b e = refl
loose_in false b e = e

second_false : (a b : Bool) → (a || b) ≡ false → b ≡ false
second_false true b e = absurd (true_false e)
second_false false b e = e

pub tells_of : (c : Contents) (r : Running) (t : CacheTables) → CacheSound c (length r.scratch) t → Tells c r (cache_seen c) (cache_health c r) (cache_below c r) (cache_kept c t)
tells_of c r t s = record {
  stands_as = record { coherent = s.coherent; closed = s.closed; blocks = λ disk leaves b firm w. stands_firm c disk b w leaves (second_false (was_forgotten t b) (is_loose c b) firm) };
  cached = λ x. refl;
  names = λ x. refl;
  count = refl;
  reading = refl;
  updating = refl;
  loose = λ x e. loose_in (was_forgotten t x) (is_loose c x) e;
  health = refl;
  below = refl;
}

pub first_is : (frames : ℕ) → (frames + 101) / 102 + 17 ≡ registry_pages frames + 17
unfolding registry_pages
first_is frames = refl

-- no block is forgotten
pub none_marked : (n b : ℕ) (marks : List Bool) → marks ≡ replicate n false → slice_index_or marks b false ≡ false
none_marked n b marks e = ap (λ (xs : List Bool). slice_index_or xs b false) e ∙ none_pending n b

pub same_count : {A : Type 0} (n : ℕ) (x : A) (items : List A) → items ≡ replicate n x → length items ≡ n
same_count {A} n x items e = ap (λ (xs : List A). length xs) e ∙ length-replicate n x
