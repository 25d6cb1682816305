-- Steps towards the disk, one after the other, and what they leave so.
use Rattle.cached_pages.proofs.Common.{Some, ◌≡◌, ◌≢◌, ℕ, ◌+◌, ◌*◌, ◌<◌, ◌≤◌, ◌==◌, true, false, not, List, None, length, slice_index, refl, ◌∙◌, ap, sym, subst, arith, is_pending, none_some, true_false, Contents, Running, Steps, lasts_trans, OneEntry, HeldEntry, IsValid, frames_of, gate_of, is_dirty, tag_at, tag_block, Coherent, Keeps, Narrows, entry_of_block}
use Rattle.std.specs.Prelude.{nat_lt, drop}
use Rattle.std.proofs.Common.{get_or-take, length-drop, length-take-le}
use Rattle.std.proofs.lemmas.List.{get_or-drop}
use Rattle.std.proofs.lemmas.Bool.{le-ltb}
use Rattle.rio_base.specs.Blocks.{Drops, Looks}
use Rattle.rio_base.specs.Disks.{block_at, raised}
use Rattle.rio_base.specs.Memory.{page_at}
use Rattle.rio_base.specs.Volume.{Passes}
use Rattle.rio_base.proofs.MachineRules.{lasts_refl, steps_refl}
use Rattle.rio_model.proofs.CoverStands.{narrows_refl}
use Rattle.rio_model.proofs.CoverSteps.{keeps_refl, keeps_trans}
use Rattle.rio_model.specs.Cover.{OnDisk, frame_page, home_word}
use Rattle.write_back.specs.Flushing.{SameDisk}
use Rattle.cached_pages.specs.declared.slots.EarlyWrites.{EarlyWrites}
use Rattle.cached_pages.specs.declared.tables.CacheTables.{CacheTables}
use Rattle.cached_pages.specs.Caches.{CacheSound, cache_below, cache_health, cache_kept, cache_seen, is_touched}
use Rattle.cached_pages.specs.EarlyBlocks.{HasWords, Knows, LosesSome, SettlesAll, owner_of, slot_at}
use Rattle.cached_pages.proofs.EarlyStates.{knows_but, knows_settled}
use Rattle.cached_pages.specs.Stores.{Nears}
use Rattle.cached_pages.specs.Uses.{DirtiesOnly, LeavesFrame}
use Rattle.cached_pages.proofs.Goes.{roomy_is, runs_of}
use Rattle.cached_pages.proofs.Kept.{tables_refl, tables_trans}
use Rattle.cached_pages.proofs.Rooms.{firm_keeps, looks_keeps}
use Rattle.cached_pages.proofs.DirtyMarks.{marks_one}
use Rattle.cached_pages.proofs.Stills.{still_refl}
use Rattle.cached_pages.proofs.StoreCalls.{drops_narrows}
use Rattle.cached_pages.proofs.Uses.{leaves_one}

pub nears_refl : (c : Contents) (t : CacheTables) → Nears c c t t
nears_refl c t = record { keeps = keeps_refl c; words = refl; lasts = lasts_refl c; tables = tables_refl t; pool = refl }

pub nears_trans : (a b c : Contents) (t u v : CacheTables) → Nears a b t u → Nears b c u v → Nears a c t v
nears_trans a b c t u v h k = record { keeps = keeps_trans a b c h.keeps k.keeps; words = k.words ∙ h.words; lasts = lasts_trans a b c h.lasts k.lasts; tables = tables_trans t u v h.tables k.tables; pool = k.pool ∙ h.pool }

-- ---- entries and pages, over a step

pub valid_near : (k : ℕ) (old new : Contents) (t u : CacheTables) → Nears old new t u → IsValid old.words k → IsValid new.words k
valid_near k old new t u h v = subst (λ ws. IsValid ws k) (sym h.words) v

pub tag_near : (k : ℕ) (old new : Contents) (t u : CacheTables) → Nears old new t u → tag_at new.words k ≡ tag_at old.words k
tag_near k old new t u h = ap (λ ws. tag_at ws k) h.words

-- the disk has the same blocks
pub home_near : (k : ℕ) (old new : Contents) → new.words ≡ old.words → new.disk ≡ old.disk → OnDisk old k → OnDisk new k
home_near k old new words disk d = record { same = rw (words, disk) d.same }

-- ---- writes

pub one_after : (a b c : ℕ) → b ≡ a → c ≤ raised b 1 → c ≤ raised a 1
one_after a b c e h = subst (λ x. c ≤ raised x 1) e h

pub one_before : (a b c : ℕ) → b ≤ raised a 1 → c ≡ b → c ≤ raised a 1
one_before a b c h e = subst (λ x. x ≤ raised a 1) (sym e) h

pub one_none : (a b : ℕ) → b ≡ a → b ≤ raised a 1
one_none a b e = omega (arith, e)

-- ---- what is known of blocks that were written early

-- block b is written: it isn't known, and the others are as before
pub knows_written : (b n : ℕ) (old new : Contents) (t : CacheTables) (cleared : EarlyWrites) → CacheSound old n t → LosesSome t.early cleared → ((s : ℕ) → owner_of (slot_at cleared s) ≢ Some b) → ((c : ℕ) → c ≢ b → block_at new.disk c ≡ block_at old.disk c) → ((c : ℕ) → c ≢ b → is_pending new.pending c ≡ is_pending old.pending c) → Knows new.disk new.pending cleared
knows_written b n old new t cleared s h off blocks marks = knows_but old.disk new.disk old.pending new.pending t.early cleared s.early h (λ i c owner. let ne : c ≢ b = λ q. off i (owner ∙ ap Some q) in (blocks c ne, marks c ne))

-- nothing is pending
pub knows_synced : (n : ℕ) (old new : Contents) (t : CacheTables) (now : EarlyWrites) → CacheSound old n t → SettlesAll t.early now → new.disk ≡ old.disk → ((b : ℕ) → is_pending new.pending b ≡ false) → Knows new.disk new.pending now
knows_synced n old new t now s h disk none = subst (λ d. Knows d new.pending now) (sym disk) (knows_settled old.disk old.pending new.pending t.early now s.early h none)

page_word : (words : List ℕ) (p w : ℕ) → w < 512 → slice_index (page_at words p) w ≡ slice_index words (512 * p + w)
page_word words p w less = get_or-take 512 (drop (512 * p) words) w 0 less ∙ get_or-drop (512 * p) words w 0

-- a page within memory has 512 words
pub page_full : (words : List ℕ) (p : ℕ) → 512 * p + 512 ≤ length words → length (page_at words p) ≡ 512
page_full words p within = length-take-le 512 (drop (512 * p) words) (omega (arith, within, length-drop (512 * p) words))

-- a page of these words is on the disk
pub home_has : (k b p : ℕ) (c : Contents) (page : List ℕ) → b ≡ tag_block (tag_at c.words k) → p ≡ frame_page c.words k → page ≡ page_at c.words p → HasWords page c.disk b → OnDisk c k
home_has k b p c page block place is h = record { same = λ w less. ap (λ q. slice_index c.words (512 * q + w)) (sym place) ∙ sym (page_word c.words p w less) ∙ ap (λ (xs : List ℕ). slice_index xs w) (sym is) ∙ h w less ∙ ap (λ x. home_word c.disk x w) block }

-- and a page on the disk is of these words
pub has_home : (k b p : ℕ) (c : Contents) (page : List ℕ) → b ≡ tag_block (tag_at c.words k) → p ≡ frame_page c.words k → page ≡ page_at c.words p → OnDisk c k → HasWords page c.disk b
has_home k b p c page block place is d w less = ap (λ (xs : List ℕ). slice_index xs w) is ∙ page_word c.words p w less ∙ ap (λ q. slice_index c.words (512 * q + w)) place ∙ d.same w less ∙ ap (λ x. home_word c.disk x w) (sym block)

-- ---- where frame k leaves after a step

pub one_entry_near : (k : ℕ) (old new : Contents) (t u : CacheTables) (words : List ℕ) → Nears old new t u → OneEntry k new.words words → OneEntry k old.words words
one_entry_near k old new t u words h one = subst (λ ws. OneEntry k ws words) h.words one

pub held_near : (k : ℕ) (old new : Contents) (t u : CacheTables) (words : List ℕ) → Nears old new t u → HeldEntry k new.words words → HeldEntry k old.words words
held_near k old new t u words h held = subst (λ ws. HeldEntry k ws words) h.words held

pub leaves_near : (k : ℕ) (old new : List ℕ) → new ≡ old → LeavesFrame k old new
leaves_near k old new e = subst (LeavesFrame k old) (sym e) (record { left = λ c j f none. absurd (none_some j (entry_of_block old c) none f) })

pub released_leaves : (k n : ℕ) (old mid new : Contents) → mid.words ≡ old.words → Coherent mid n → Keeps mid new → OneEntry k mid.words new.words → LeavesFrame k old.words new.words
released_leaves k n old mid new e s h one = subst (λ ws. LeavesFrame k ws new.words) e (leaves_one k n mid new s h one)

pub released_narrows : (old mid new : List ℕ) → mid ≡ old → Narrows mid new → Narrows old new
released_narrows old mid new e h = subst (λ ws. Narrows ws new) e h

pub released_marks : (k : ℕ) (old mid new : List ℕ) → mid ≡ old → Narrows mid new → OneEntry k mid new → (is_dirty (tag_at new k) ≡ true → is_dirty (tag_at mid k) ≡ true) → DirtiesOnly None old new
released_marks k old mid new e h one marks = subst (λ ws. DirtiesOnly None ws new) e (marks_one None k mid new h one marks)

pub narrows_near : (old new : Contents) (t u : CacheTables) → Nears old new t u → Narrows old.words new.words
narrows_near old new t u h = subst (λ ws. Narrows old.words ws) (sym h.words) (narrows_refl old.words)

-- ---- the volume is only read

-- there is no frame for each block
pub not_roomy : (frames count : ℕ) → not (nat_lt frames count) ≡ false → count ≤ frames → ⊥
not_roomy frames count e le = true_false (sym (ap not (le-ltb frames count le)) ∙ e)

pub passes_near : (c d : Contents) (r s : Running) (t u : CacheTables) → Nears c d t u → Steps r s → (length c.disk ≤ frames_of c.words → SameDisk c d) → Passes (cache_health c r) (cache_below c r) (cache_kept c t) (cache_health d s) (cache_below d s) (cache_kept d u)
passes_near c d r s t u h st quiet = record {
  goes = record {
    runs = runs_of c d r s h.lasts st (ap frames_of h.words);
    quiet = record {
      home = λ e. let q = quiet (roomy_is (frames_of c.words) (length c.disk) e) in rw (q.disk, q.pending) refl;
      writes = λ e. (quiet (roomy_is (frames_of c.words) (length c.disk) e)).writes;
    };
  };
  standing = h.keeps.stands;
  firm = firm_keeps c d t u h.keeps h.tables;
  updating = ap (λ ws. gate_of ws == 1) h.words;
  touched = ap is_touched h.words;
  touches = rw (h.words, h.tables.shadows) refl;
}

-- nothing was called
pub passes_none : (c : Contents) (r : Running) (t : CacheTables) → Passes (cache_health c r) (cache_below c r) (cache_kept c t) (cache_health c r) (cache_below c r) (cache_kept c t)
passes_none c r t = passes_near c c r r t t (nears_refl c t) (steps_refl r) (λ e. still_refl c)

pub looks_near : (c d : Contents) (t u : CacheTables) → Nears c d t u → Looks (cache_seen c) (cache_seen d)
looks_near c d t u h = looks_keeps c d h.keeps h.lasts

pub drops_near : (c d : Contents) (t u : CacheTables) → Nears c d t u → Drops (cache_seen c) (cache_seen d)
drops_near c d t u h = drops_narrows c d (narrows_near c d t u h)
