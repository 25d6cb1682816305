-- A block comes into the cache as zeros.
use Rattle.cached_pages.proofs.Common.{◌≡◌, ◌≢◌, ℕ, ◌+◌, ◌*◌, ◌<◌, ◌≤◌, Bool, true, false, if◌then◌else◌, ◌⊎◌, List, length, slice_index, Option, Some, None, refl, ◌∙◌, ap, sym, subst, inl, inr, arith, cases_eq, cases_Bool, eq-eqb, ne_eqb, PageName, BlockWords, InRange, Contents, true_false, OneEntry, frames_of, is_data, is_dirty, is_valid, tag_at, tag_block, tag_of, Coherent, Keeps, cover_by, entry_of_block, name_in, reads, OnePage, SameEntries, found_other, frame_entries, frame_word_one, same_entries, Made, frame_past, cover_at, found_is, header_one, tag_one, coherent_on, coherent_one, disk_same, firm_by, pending_same, entry_of, new_entry, Entry, block_of}
use Rattle.rio_base.specs.Volume.{cleared}
use Rattle.rio_model.specs.Cover.{frame_page, is_loose}
use Rattle.rio_model.proofs.CoverChanges.{found_made}
use Rattle.rio_model.proofs.CoverFills.{is_valid_made, keeps_begun, registry_made}
use Rattle.rio_model.specs.CoverLookups.{cover_past, cover_same}
use Rattle.rio_model.proofs.CoverSteps.{dirty_of, loose_parts}
use Rattle.cached_pages.specs.declared.tables.CacheTables.{CacheTables}
use Rattle.cached_pages.specs.Caches.{Adds, CacheSound}
use Rattle.cached_pages.specs.Stores.{Frees, SameCached}
use Rattle.cached_pages.proofs.Fills.{made_new}
use Rattle.cached_pages.proofs.Kept.{TablesStay}
use Rattle.cached_pages.proofs.Rooms.{free_of, made_sound}
use Rattle.cached_pages.proofs.Stores.{cached_entries, holds_entries, name_other, sound_holds}

-- ---- the frame is filled

filled_entries : (k : ℕ) (old new : List ℕ) → OnePage (frame_page old k) old new → SameEntries old new
filled_entries k old new one = same_entries (frame_page old k) old new one (frame_past old k)

pub filled_sound : (n m k : ℕ) (old new : Contents) (t : CacheTables) → CacheSound old n t → Keeps old new → new ≡ record old { words = new.words } → OnePage (frame_page old.words k) old.words new.words → m ≡ n → CacheSound new m t
filled_sound n m k old new t s h rest one same = sound_holds n m old new t s (h.coherent n) same (ap (λ (c : Contents). c.open_page) rest ∙ s.closed) (disk_same old new rest) (pending_same old new rest) (holds_entries old.words new.words (filled_entries k old.words new.words one))

pub filled_cached : (k : ℕ) (old new : List ℕ) → OnePage (frame_page old k) old new → SameCached old new
filled_cached k old new one = cached_entries old new (filled_entries k old new one)

pub filled_same : (k : ℕ) (old new : List ℕ) → OnePage (frame_page old k) old new → frame_page new k ≡ frame_page old k
filled_same k old new one = frame_entries old new k (filled_entries k old new one)

-- ---- the entry is made, dirty

pub made_found : (k b : ℕ) (old new : Contents) (n : ℕ) → Coherent old n → Made k b true old.words new.words → entry_of_block new.words b ≡ Some k
made_found k b old new n s m = found_made k b old.words new.words m.one m.free (is_valid_made k b true old.words new.words m) m.block (registry_made k b true old.words new.words m s.rules).blocks

made_other : (k b c : ℕ) (old new : List ℕ) → Made k b true old new → c ≢ b → entry_of_block new c ≡ entry_of_block old c
made_other k b c old new m ne = found_other k c old new m.one (λ v. absurd (true_false (sym v ∙ m.was))) (λ v e. ne (sym e ∙ m.block))

made_firm : (k b : ℕ) (old new : Contents) → new ≡ record old { words = new.words } → Made k b true old.words new.words → (c : ℕ) → is_loose new c ≡ true → is_loose old c ≡ true
made_firm k b old new rest m c e = firm_by old new (pending_same old new rest) (λ x j f d.
    let v = found_is old.words x j f in
    let ne : j ≢ k = λ q. true_false (sym v.0.valid ∙ ap (λ y. is_valid (tag_at old.words y)) q ∙ m.was) in
    (made_other k b x old.words new.words m (λ q. m.free j v.0 (v.1 ∙ q)) ∙ f, ap is_dirty (tag_one k j old.words new.words m.one ne) ∙ d)) c e

-- the frame is all zeros: block b reads as zeros, and no other block changes
pub zeros_frees : (n k b : ℕ) (old new : Contents) → Coherent old n → new ≡ record old { words = new.words } → Made k b true old.words new.words → b < length old.disk → ((w : ℕ) → w < 512 → slice_index old.words (512 * frame_page old.words k + w) ≡ 0) → (reads new ≡ cleared (reads old) b) × Frees b old new × (is_loose new b ≡ false)
zeros_frees n k b old new s0 rest m there zeros = (
  reading,
  record {
    others = record { others = λ c w ne. ap (λ (f : BlockWords). f c w) reading ∙ away c w ne };
    firm = λ c ne e. made_firm k b old new rest m c e;
    coherent = λ x s. coherent_one x k old new rest m.one m.within s (registry_made k b true old.words new.words m s.rules) (record {
      on_disk = λ v. rw (m.block, disk) there;
      clean = λ v c. absurd (true_false (sym m.is ∙ c));
      unedited = λ v c. absurd (true_false (sym m.is ∙ c));
    });
    header = λ i less. header_one k old.words new.words i m.one less;
  },
  firm (cases_Bool (is_loose new b)),
)
  where
    disk : new.disk ≡ old.disk
    disk = disk_same old new rest

    found : entry_of_block new.words b ≡ Some k
    found = made_found k b old new n s0 m

    firm : (is_loose new b ≡ true) ⊎ (is_loose new b ≡ false) → is_loose new b ≡ false
    firm (inr e) = e
    firm (inl e) = absurd (true_false (sym (dirty_of new.words b k found ∙ m.is) ∙ (loose_parts new b e).1))

    away : (c w : ℕ) → c ≢ b → cleared (reads old) b c w ≡ reads old c w
    away c w ne = rw (ne_eqb c b ne) refl

    here : (c w : ℕ) → c ≡ b → 0 ≡ cleared (reads old) b c w
    here c w e = rw (eq-eqb c b e) refl

    at : (c w : ℕ) → (c ≡ b) ⊎ (c ≢ b) → (w < 512) ⊎ (512 ≤ w) → cover_by (frame_page new.words) new.words old.disk c w ≡ cleared (reads old) b c w
    at c w (inl e) (inl less) = subst (λ x. cover_by (frame_page new.words) new.words old.disk x w ≡ 0) (sym e) (cover_at (frame_page new.words) new.words old.disk b w k found less ∙ frame_word_one k k w old.words new.words m.one m.within ∙ zeros w less) ∙ here c w e
    at c w (inl e) (inr large) = cover_past (frame_page new.words) new.words old.disk c w large ∙ here c w e
    at c w (inr ne) any = cover_same (frame_page old.words) old.words old.disk (frame_page new.words) new.words old.disk c w (record {
      entry = made_other k b c old.words new.words m ne;
      pages = λ j x f small. frame_word_one k j x old.words new.words m.one m.within;
      homes = λ x f small. refl;
    }) ∙ sym (away c w ne)

    small_or : (w : ℕ) → (w < 512) ⊎ (512 ≤ w)
    small_or w = grind arith

    reading : reads new ≡ cleared (reads old) b
    reading = subst (λ d. cover_by (frame_page new.words) new.words d ≡ cleared (reads old) b) (sym disk) (λ i c w. at c w (cases_eq c b) (small_or w) i)

-- ---- who is cached, under which name

name_new_by : (b : ℕ) (named : Bool) → is_data (tag_of b true named) ≡ named
name_new_by b true = eq-eqb _ 1 (omega arith)
name_new_by b false = ne_eqb _ 1 (omega arith)

name_entry : (e : Entry) → Option PageName
name_entry e = if is_data e.tag then Some (record { file = record { 0 = e.file }; index = e.index; size = e.size }) else None

name_new : (b : ℕ) (name : Option PageName) → name_entry (new_entry b name true) ≡ name
unfolding name_entry
name_new b None = rw (name_new_by b false) refl
name_new b (Some a) = rw (name_new_by b true) refl

name_made : (k b : ℕ) (name : Option PageName) (words : List ℕ) → entry_of words k ≡ new_entry b name true → name_in words (Some k) ≡ name
unfolding name_entry
name_made k b name words e = ap name_entry e ∙ name_new b name

pub zeros_adds : (n k b : ℕ) (name : Option PageName) (old new : Contents) → Coherent old n → Made k b true old.words new.words → entry_of new.words k ≡ new_entry b name true → Adds b name old.words new.words
zeros_adds n k b name old new s made e = record {
  others = λ c j ne f. let v = found_is new.words c j f in let differ : j ≢ k = λ q. ne (sym v.1 ∙ ap (λ y. tag_block (tag_at new.words y)) q ∙ made.block) in (sym (made_other k b c old.words new.words made ne) ∙ f, name_other k j old.words new.words made.one differ);
  named = λ j f. inr (ap (name_in new.words) (sym f ∙ made_found k b old new n s made) ∙ name_made k b name new.words e);
}

-- ---- the call

pub new_made : (k b : ℕ) (name : Option PageName) (old new : Contents) → OneEntry k old.words new.words → k < frames_of old.words → is_valid (tag_at old.words k) ≡ false → entry_of_block old.words b ≡ None → InRange name → entry_of new.words k ≡ new_entry b name true → Made k b true old.words new.words
new_made k b name old new one within gone none range e = made_new k b name true old.words new.words one within gone (free_of b old.words none) range e

pub zeros_sound : (n m k b : ℕ) (old new : Contents) (t u : CacheTables) → CacheSound old n t → Frees b old new → m ≡ n → new.open_page ≡ None → new.disk ≡ old.disk → new.pending ≡ old.pending → Made k b true old.words new.words → TablesStay t u → block_of u.pool k ≡ Some b → ((j : ℕ) → j ≢ k → block_of u.pool j ≡ block_of t.pool j) → CacheSound new m u
zeros_sound n m k b old new t u s h same closed disk pending made stay bound others = made_sound k b n m true old new t u s (coherent_on new n m same (h.coherent n s.coherent)) (record { frames = h.header 2 (omega arith); gate = h.header 4 (omega arith); disk = disk; pending = pending }) closed made stay bound others

-- a call that keeps all frees none
pub frees_keeps : (b : ℕ) (old new : Contents) → Keeps old new → Frees b old new
frees_keeps b old new h = record { others = record { others = λ c w ne. ap (λ (f : BlockWords). f c w) h.reads }; firm = λ c ne l. h.firm c l; coherent = h.coherent; header = h.header }

pub frees_after : (b : ℕ) (a c d : Contents) → Keeps a c → Frees b c d → Frees b a d
frees_after b a c d h k = record { others = record { others = λ x w ne. k.others.others x w ne ∙ ap (λ (f : BlockWords). f x w) h.reads }; firm = λ x ne l. h.firm x (k.firm x ne l); coherent = λ n s. k.coherent n (h.coherent n s); header = λ i less. k.header i less ∙ h.header i less }

pub begun_keeps : (n k : ℕ) (old new : Contents) (t : CacheTables) → CacheSound old n t → new ≡ record old { words = new.words } → OneEntry k old.words new.words → k < frames_of old.words → is_valid (tag_at old.words k) ≡ false → tag_at new.words k ≡ tag_at old.words k → Keeps old new
begun_keeps n k old new t s rest one within gone tag = keeps_begun n k old new s.coherent rest one within gone tag

pub cleared_then : (b : ℕ) (a d : BlockWords) (now : BlockWords) → now ≡ cleared d b → d ≡ a → now ≡ cleared a b
cleared_then b a d now e same = e ∙ ap (λ (f : BlockWords). cleared f b) same
