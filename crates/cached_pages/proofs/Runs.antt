-- Words of a frame are stored, one or a run of them.
use Rattle.cached_pages.proofs.Common.{◌≡◌, ◌≢◌, ℕ, ◌+◌, ◌*◌, ◌<◌, ◌≤◌, ◌⊎◌, true, List, length, slice_set, Some, None, ◌∙◌, ap, sym, subst, inl, inr, arith, cases_eq, BlockWords, Contents, FrontStored, true_false, put_run, IsValid, frames_of, gate_of, is_dirty, page_of_entry, shadow_at, tag_at, Coherent, cover_by, entry_of_block, reads, stands, OnePage, SameEntries, found_entries, frame_entries, header_same, same_entries, tag_same, frame_past, found_is, disk_same, firm_by, pending_same}
use Rattle.rio_base.specs.Image.{registry_pages}
use Rattle.rio_base.specs.Volume.{put}
use Rattle.rio_model.specs.Cover.{frame_page, is_loose}
use Rattle.rio_model.proofs.CoverChanges.{cover_off, frame_behind, one_page_set, place_entries, place_shadow}
use Rattle.rio_model.proofs.CoverFills.{coherent_page, frame_off, page_off, puts_frame}
use Rattle.cached_pages.specs.declared.tables.CacheTables.{CacheTables}
use Rattle.cached_pages.specs.Caches.{CacheSound}
use Rattle.cached_pages.specs.Stores.{Rewrites}
use Rattle.cached_pages.proofs.Spans.{cover_run}
use Rattle.cached_pages.proofs.Stores.{holds_entries, sound_holds}

-- ---- a dirty entry's page changes

firm_page : (old new : Contents) → new ≡ record old { words = new.words } → SameEntries old.words new.words → (b : ℕ) → is_loose new b ≡ true → is_loose old b ≡ true
firm_page old new rest same b e = firm_by old new (pending_same old new rest) (λ c j f d. let v = found_is old.words c j f in (found_entries old.words new.words c same ∙ f, ap is_dirty (tag_same old.words new.words j same v.0.within) ∙ d)) b e

-- ---- a run of words

pub run_page : (k p w count : ℕ) (from old new : List ℕ) → p ≡ frame_page old k → w + count ≤ 512 → FrontStored (512 * p + w) count from old new → OnePage (frame_page old k) old new
run_page k p w count from old new page fits h = record {
  count = h.count;
  below = λ i less. h.below i (omega (arith, less, page));
  above = λ i more. h.above i (omega (arith, more, page, fits));
}

pub run_entries : (k p w count : ℕ) (from old new : List ℕ) → p ≡ frame_page old k → w + count ≤ 512 → FrontStored (512 * p + w) count from old new → SameEntries old new
run_entries k p w count from old new page fits h = same_entries (frame_page old k) old new (run_page k p w count from old new page fits h) (frame_past old k)

pub run_rewrites : (n k b p w count : ℕ) (from : List ℕ) (old new : Contents) → Coherent old n → new ≡ record old { words = new.words } → p ≡ frame_page old.words k → w + count ≤ 512 → FrontStored (512 * p + w) count from old.words new.words → entry_of_block old.words b ≡ Some k → is_dirty (tag_at old.words k) ≡ true → Rewrites (put_run (reads old) b w count from) old new
run_rewrites n k b p w count from old new s0 rest page fits h found dirty = record {
  reading = subst (λ d. cover_by (frame_page new.words) new.words d ≡ put_run (reads old) b w count from) (sym (disk_same old new rest))
      (cover_run k b w count from (frame_page old.words) (frame_page new.words) old.words new.words old.disk found fits (subst (λ q. FrontStored (512 * q + w) count from old.words new.words) page h) (λ j x ne. frame_off old.words j k ne) (λ j x. frame_entries old.words new.words j same) same one);
  firm = firm_page old new rest same;
  coherent = λ m s. coherent_page m (frame_page old.words k) old new rest one same (λ j x c. let ne : j ≢ k = λ e. true_false (sym dirty ∙ ap (λ y. is_dirty (tag_at old.words y)) (sym e) ∙ c) in (frame_off old.words j k ne, page_off old.words j k s.rules x ne)) s;
  header = λ i less. header_same old.words new.words i same less;
}
  where
    one : OnePage (frame_page old.words k) old.words new.words
    one = run_page k p w count from old.words new.words page fits h

    same : SameEntries old.words new.words
    same = run_entries k p w count from old.words new.words page fits h

-- in an open update what stands is in no frame of an entry with a shadow
pub run_hidden : (n k b p w count : ℕ) (from : List ℕ) (old new : Contents) → Coherent old n → new ≡ record old { words = new.words } → p ≡ frame_page old.words k → w + count ≤ 512 → FrontStored (512 * p + w) count from old.words new.words → entry_of_block old.words b ≡ Some k → gate_of old.words ≡ 1 → shadow_at old.words k ≢ 0 → stands new ≡ stands old
run_hidden n k b p w count from old new s rest page fits h found updating some = subst (λ d. cover_by (page_of_entry new.words) new.words d ≡ stands old) (sym (disk_same old new rest)) (cover_off (frame_page old.words k) (page_of_entry old.words) (page_of_entry new.words) old.words new.words old.disk (run_page k p w count from old.words new.words page fits h) same (λ j x. place_entries old.words new.words j same x.within) (λ j x e. apart j x e (cases_eq j k)))
  where
    same : SameEntries old.words new.words
    same = run_entries k p w count from old.words new.words page fits h

    va : IsValid old.words k
    va = (found_is old.words b k found).0

    apart : (j : ℕ) → IsValid old.words j → page_of_entry old.words j ≡ frame_page old.words k → (j ≡ k) ⊎ (j ≢ k) → ⊥
    apart j x e (inr ne) = page_off old.words j k s.rules x ne e
    apart j x e (inl q) = absurd (omega (arith, place_shadow old.words k updating some, ap (page_of_entry old.words) (sym q) ∙ e, frame_behind old.words k, (s.rules.shadows k va.within).most va.valid))

-- ---- one word

pub put_entries : (k p w v : ℕ) (old new : Contents) → new ≡ record old { words = slice_set old.words (512 * p + w) v } → p ≡ frame_page old.words k → w < 512 → SameEntries old.words new.words
put_entries k p w v old new stored page small = same_entries p old.words new.words (subst (λ ws. OnePage p old.words ws) (sym (ap (λ (m : Contents). m.words) stored)) (one_page_set old.words p w v small)) (subst (λ q. registry_pages (frames_of old.words) + 1 ≤ q) (sym page) (frame_past old.words k))

pub put_rewrites : (n k b p w v : ℕ) (old new : Contents) → Coherent old n → new ≡ record old { words = slice_set old.words (512 * p + w) v } → p ≡ frame_page old.words k → 512 * p + 512 ≤ length old.words → w < 512 → entry_of_block old.words b ≡ Some k → is_dirty (tag_at old.words k) ≡ true → Rewrites (put (reads old) b w v) old new
put_rewrites n k b p w v old new s stored page within small found dirty =
    let f = found_is old.words b k found in
    let at = subst (λ q. new ≡ record old { words = slice_set old.words (512 * q + w) v }) page stored in
    let puts = puts_frame n k b w v old new s at f.0 f.1 dirty small (omega (arith, within, page, small)) in
    record { reading = puts.reading; firm = puts.firm; coherent = puts.coherent; header = λ i less. header_same old.words new.words i (put_entries k p w v old new stored page small) less }

-- ---- the cache

pub rewrites_sound : (n m : ℕ) (words : BlockWords) (old new : Contents) (t : CacheTables) → CacheSound old n t → Rewrites words old new → m ≡ n → new.open_page ≡ None → new.disk ≡ old.disk → new.pending ≡ old.pending → SameEntries old.words new.words → CacheSound new m t
rewrites_sound n m words old new t s h same closed disk pending entries = sound_holds n m old new t s (h.coherent n) same closed disk pending (holds_entries old.words new.words entries)

pub run_sound : (n m k b p w count : ℕ) (from : List ℕ) (old new : Contents) (t : CacheTables) → CacheSound old n t → new ≡ record old { words = new.words } → p ≡ frame_page old.words k → w + count ≤ 512 → FrontStored (512 * p + w) count from old.words new.words → entry_of_block old.words b ≡ Some k → is_dirty (tag_at old.words k) ≡ true → m ≡ n → CacheSound new m t
run_sound n m k b p w count from old new t s rest page fits h found dirty same = rewrites_sound n m (put_run (reads old) b w count from) old new t s (run_rewrites n k b p w count from old new s.coherent rest page fits h found dirty) same (ap (λ (c : Contents). c.open_page) rest ∙ s.closed) (disk_same old new rest) (pending_same old new rest) (run_entries k p w count from old.words new.words page fits h)
