-- A cache after a flush: entries say of their pages what they said.
use Rattle.cached_pages.proofs.Common.{◌≡◌, ◌≢◌, ℕ, ◌<◌, ◌==◌, false, None, refl, ◌∙◌, sym, subst, arith, coherent_on, Contents, Lasts, HeldEntry, Keeps, entry_block, IsValid, frames_of, gate_of}
use Rattle.cached_pages.specs.declared.tables.CacheTables.{CacheTables}
use Rattle.cached_pages.specs.declared.slots.EarlyWrites.{EarlyWrites}
use Rattle.cached_pages.specs.Caches.{CacheSound}
use Rattle.cached_pages.specs.EarlyBlocks.{KnowsNone}

pub shut_by : (g : ℕ) → (g == 1) ≡ false → g ≢ 1
shut_by g e one = grind (arith, e, one)

-- nothing is known to be settled any more, so anything may be pending
pub flushed_sound : (n m : ℕ) (old new : Contents) (t u : CacheTables) (e : EarlyWrites) → CacheSound old n t → u ≡ record t { early = e } → KnowsNone e → gate_of old.words ≢ 1 → Keeps old new → Lasts old new → m ≡ n → new.open_page ≡ None → ((k : ℕ) → k < frames_of old.words → HeldEntry k old.words new.words) → CacheSound new m u
flushed_sound n m old new t u e s rest none shut keeps lasts same closed held = subst (CacheSound new m) (sym rest) (record {
  coherent = coherent_on new n m same (keeps.coherent n s.coherent);
  closed = closed;
  frames = s.frames ∙ sym frames;
  blocks = s.blocks ∙ sym lasts.blocks;
  first = rw frames s.first;
  marks = s.marks ∙ sym lasts.blocks;
  buffer = s.buffer;
  early = none new.disk new.pending;
  bound = λ k less. let was = subst (λ f. k < f) frames less in s.bound k was ∙ entry k was;
  most = s.most;
  room = s.room;
  shadows = λ k v some. let h = held k (within k v) in rw h.shadow (s.shadows k (valid k v) (λ z. some (h.shadow ∙ z)));
  listed = λ i less. rw frames (s.listed i less);
  edited = λ is k v some. absurd (shut (sym (keeps.header 4 (omega arith)) ∙ is));
  pinned = λ k on. absurd (shut (s.pinned k on).0);
  few = s.few;
})
  where
    frames : frames_of new.words ≡ frames_of old.words
    frames = keeps.header 2 (omega arith)

    within : (k : ℕ) → IsValid new.words k → k < frames_of old.words
    within k v = subst (λ f. k < f) frames v.within

    valid : (k : ℕ) → IsValid new.words k → IsValid old.words k
    valid k v = record { within = within k v; valid = sym (held k (within k v)).valid ∙ v.valid }

    entry : (k : ℕ) → k < frames_of old.words → entry_block old.words k ≡ entry_block new.words k
    entry k less = let h = held k less in rw (h.valid, h.block) refl
