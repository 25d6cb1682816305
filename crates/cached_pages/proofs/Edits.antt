-- Words of a touched block are stored.
use Rattle.cached_pages.proofs.Common.{◌≡◌, ◌≢◌, ℕ, ◌+◌, ◌*◌, ◌<◌, ◌≤◌, ◌==◌, ◌&&◌, not, Bool, true, false, if◌then◌else◌, List, length, slice_set, Option, Some, None, refl, ◌∙◌, ap, sym, subst, arith, Contents, none_some, true_false, Coherent, SameNames, entry_of_block, stands, SameEntries, entry_same, header_same, same_entries, tag_same, frame_past, found_at, found_is, IsValid, frames_of, gate_of, is_dirty, is_valid, shadow_at, tag_at, tag_block, block_of, frames_in}
use Rattle.std.proofs.lemmas.Bool.{and_parts, eqb-true}
use Rattle.rio_base.specs.Image.{registry_pages}
use Rattle.rio_base.specs.Volume.{SameUpdate}
use Rattle.rio_model.specs.Cover.{frame_page}
use Rattle.rio_model.proofs.CoverChanges.{frame_behind, one_page_set}
use Rattle.rio_model.specs.CoverFills.{Puts}
use Rattle.rio_model.proofs.CoverFills.{puts_frame}
use Rattle.rio_model.proofs.CoverStands.{found_named}
use Rattle.shadow_pages.specs.Updates.{SameShadows}
use Rattle.cached_pages.specs.declared.tables.CacheTables.{CacheTables}
use Rattle.cached_pages.specs.Caches.{CacheSound, cache_kept, has_shadow, is_touched}

-- ---- a word of a frame

pub frame_room : (c : Contents) (n k : ℕ) → Coherent c n → k < frames_of c.words → 512 * frame_page c.words k + 512 ≤ length c.words
frame_room c n k s within = omega (arith, s.protected, within, frame_behind c.words k)

pub edit_room : (c : Contents) (n k p : ℕ) → Coherent c n → IsValid c.words k → p ≡ frame_page c.words k → 512 * p < length c.words
edit_room c n k p s v e = omega (arith, e, frame_room c n k s v.within)

pub edit_puts : (c d : Contents) (n k b w v p : ℕ) → Coherent c n → d ≡ record c { words = slice_set c.words (512 * p + w) v } → IsValid c.words k → tag_block (tag_at c.words k) ≡ b → is_dirty (tag_at c.words k) ≡ true → p ≡ frame_page c.words k → w < 512 → Puts k b w v c d
edit_puts c d n k b w v p s stored va block dirty page small = puts_frame n k b w v c d s (subst (λ q. d ≡ record c { words = slice_set c.words (512 * q + w) v }) page stored) va block dirty small (omega (arith, small, frame_room c n k s va.within))

pub edit_entries : (c d : Contents) (k w v p : ℕ) → d ≡ record c { words = slice_set c.words (512 * p + w) v } → p ≡ frame_page c.words k → w < 512 → SameEntries c.words d.words
edit_entries c d k w v p stored page small = subst (SameEntries c.words) (sym (ap (λ (m : Contents). m.words) stored)) (same_entries p c.words (slice_set c.words (512 * p + w) v) (one_page_set c.words p w v small) (subst (λ q. registry_pages (frames_of c.words) + 1 ≤ q) (sym page) (frame_past c.words k)))

-- ---- header and registry stay

pub names_entries : (old new : List ℕ) → SameEntries old new → SameNames old new
names_entries old new h = record {
  frames = header_same old new 2 h (omega arith);
  tag = λ k less. tag_same old new k h less;
  file = λ k less. entry_same old new k 1 h less (omega arith);
  index = λ k less. entry_same old new k 2 h less (omega arith);
  size = λ k less. entry_same old new k 3 h less (omega arith);
}

pub shadows_entries : (old new : List ℕ) → SameEntries old new → SameShadows old new
shadows_entries old new h = λ k less. entry_same old new k 4 h less (omega arith)

pub gate_entries : (old new : List ℕ) → SameEntries old new → gate_of new ≡ gate_of old
gate_entries old new h = header_same old new 4 h (omega arith)

-- ---- the open update stays

has_same : (old new : List ℕ) (o : Option ℕ) → ((k : ℕ) → o ≡ Some k → shadow_at new k ≡ shadow_at old k) → has_shadow new o ≡ has_shadow old o
has_same old new None h = refl
has_same old new (Some k) h = ap (λ s. not (s == 0)) (h k refl)

touched_both : (g h : ℕ) (a b : Bool) → h ≡ g → b ≡ a → ((h == 1) && b) ≡ ((g == 1) && a)
touched_both g h a b e d = rw (e, d) refl

pub touched_same : (old new : List ℕ) → SameNames old new → SameShadows old new → gate_of new ≡ gate_of old → is_touched new ≡ is_touched old
touched_same old new names shadows gate = λ i b. at b i
  where
    at : (b : ℕ) → is_touched new b ≡ is_touched old b
    at b = touched_both (gate_of old) (gate_of new) (has_shadow old (entry_of_block old b)) (has_shadow new (entry_of_block new b)) gate
        (ap (has_shadow new) (found_named old new b names) ∙ has_same old new (entry_of_block old b) (λ k e. shadows k (found_is old b k e).0.within))

pub same_update : (old new : Contents) (t : CacheTables) → SameEntries old.words new.words → stands new ≡ stands old → SameUpdate (cache_kept old t) (cache_kept new t)
same_update old new t h e = record {
  updating = ap (λ g. g == 1) (gate_entries old.words new.words h);
  touched = touched_same old.words new.words (names_entries old.words new.words h) (shadows_entries old.words new.words h) (gate_entries old.words new.words h);
  touches = ap (λ g. if g == 1 then t.shadows else 0) (gate_entries old.words new.words h);
}

-- ---- the entry of a touched block

-- the pool knows where a cached block is
pub bound_block : (n b k : ℕ) (c : Contents) (t : CacheTables) → CacheSound c n t → entry_of_block c.words b ≡ Some k → (k < frames_in t.pool) × (block_of t.pool k ≡ Some b)
bound_block n b k c t s found =
    let f = found_is c.words b k found in
    (subst (λ m. k < m) (sym s.frames) f.0.within, s.bound k f.0.within ∙ rw f.0.valid (ap Some f.1))

some_valid : (valid : Bool) (block b : ℕ) → (if valid then Some block else None) ≡ Some b → (valid ≡ true) × (block ≡ b)
some_valid true block b e = (refl, cc)
some_valid false block b e = absurd (none_some b None refl e)

pub bound_entry : (n b k : ℕ) (c : Contents) (t : CacheTables) → CacheSound c n t → k < frames_in t.pool → block_of t.pool k ≡ Some b → entry_of_block c.words b ≡ Some k
bound_entry n b k c t s less e =
    let within : k < frames_of c.words = subst (λ m. k < m) s.frames less in
    let v = some_valid (is_valid (tag_at c.words k)) (tag_block (tag_at c.words k)) b (sym (s.bound k within) ∙ e) in
    found_at c.words b k s.coherent.rules.blocks (record { within = within; valid = v.0 }) v.1

-- entry k is that of a touched block
pub record IsEdited (words : List ℕ) (k : ℕ) : Type 0 where
  pub updating : gate_of words ≡ 1
  pub valid : IsValid words k
  pub shadow : shadow_at words k ≢ 0

some_shadow : (words : List ℕ) (o : Option ℕ) → has_shadow words o ≡ true → (k : ℕ) × (o ≡ Some k) × (shadow_at words k ≢ 0)
some_shadow words None e = absurd (true_false (sym e))
some_shadow words (Some k) e = (k, refl, λ z. true_false (sym e ∙ ap (λ s. not (s == 0)) z))

pub touched_entry : (words : List ℕ) (b : ℕ) → is_touched words b ≡ true → (k : ℕ) × (entry_of_block words b ≡ Some k) × IsEdited words k
touched_entry words b e =
    let parts = and_parts _ _ e in
    let h = some_shadow words (entry_of_block words b) parts.1 in
    (h.0, h.1, record { updating = eqb-true _ _ parts.0; valid = (found_is words b h.0 h.1).0; shadow = h.2 })

some_same : (x y : ℕ) → Some x ≡ Some y → x ≡ y
some_same x y e = cc

pub is_edited : (n b k : ℕ) (c : Contents) (t : CacheTables) → CacheSound c n t → is_touched c.words b ≡ true → k < frames_in t.pool → block_of t.pool k ≡ Some b → IsEdited c.words k
is_edited n b k c t s touched less e = let h = touched_entry c.words b touched in subst (IsEdited c.words) (some_same h.0 k (sym h.1 ∙ bound_entry n b k c t s less e)) h.2

pub edited_dirty : (n b k : ℕ) (c : Contents) (t : CacheTables) → CacheSound c n t → is_touched c.words b ≡ true → k < frames_in t.pool → block_of t.pool k ≡ Some b → is_dirty (tag_at c.words k) ≡ true
edited_dirty n b k c t s touched less e = let h = is_edited n b k c t s touched less e in (s.edited h.updating k h.valid h.shadow).0

-- a touched block is cached
pub touched_found : (n b : ℕ) (c : Contents) (t : CacheTables) → CacheSound c n t → is_touched c.words b ≡ true → ((k : ℕ) → k < frames_in t.pool → block_of t.pool k ≢ Some b) → ⊥
touched_found n b c t s touched none = let h = touched_entry c.words b touched in let at = bound_block n b h.0 c t s h.1 in none h.0 at.0 at.1

pub page_of_frame : (n k : ℕ) (c : Contents) (t : CacheTables) → CacheSound c n t → t.first_frame + k ≡ frame_page c.words k
page_of_frame n k c t s = omega (arith, s.first, frame_behind c.words k)

-- what stands is in no frame of a touched block
pub touched_stands : (n b k : ℕ) (old new : Contents) (t : CacheTables) → CacheSound old n t → is_touched old.words b ≡ true → k < frames_in t.pool → block_of t.pool k ≡ Some b → (gate_of old.words ≡ 1 → shadow_at old.words k ≢ 0 → stands new ≡ stands old) → stands new ≡ stands old
touched_stands n b k old new t s touched less e hidden = let h = is_edited n b k old t s touched less e in hidden h.updating h.shadow

pub edited_stands : (n b k w v : ℕ) (old new : Contents) (t : CacheTables) → CacheSound old n t → is_touched old.words b ≡ true → k < frames_in t.pool → block_of t.pool k ≡ Some b → Puts k b w v old new → stands new ≡ stands old
edited_stands n b k w v old new t s touched less e puts = touched_stands n b k old new t s touched less e puts.hidden
