-- Covers word by word, the page that counts for an entry, words of which one page, or the gate alone, changes, and what
-- stands while no update is open.
use Rattle.std.specs.Prelude.{◌≡◌, ◌≢◌, ℕ, ◌+◌, ◌*◌, ◌<◌, ◌≤◌, ◌==◌, ◌&&◌, not, Bool, true, false, if◌then◌else◌, ◌⊎◌, List, length, slice_index, refl}
use Rattle.std.proofs.Common.{◌∙◌, sym, inl, inr, arith, ap}
use Rattle.std.proofs.lemmas.Bool.{eq-eqb, ne_eqb}
use Rattle.rio_base.specs.Image.{registry_pages}
use Rattle.rio_base.specs.Rules.{true_false}
use Rattle.rio_base.specs.Machine.{Contents}
use Rattle.rio_model.specs.Registry.{frames_of, gate_of, page_of_entry, shadow_at}
use Rattle.rio_model.specs.Cover.{cover_by, frame_page, reads, stands}
use Rattle.rio_model.specs.CoverLookups.{cover_past, cover_same}

-- ---- covers, word by word

pub covers_by : (page : ℕ → ℕ) (words : List ℕ) (disk : List (List ℕ)) (page2 : ℕ → ℕ) (words2 : List ℕ) (disk2 : List (List ℕ)) → ((b w : ℕ) → w < 512 → cover_by page2 words2 disk2 b w ≡ cover_by page words disk b w) → cover_by page2 words2 disk2 ≡ cover_by page words disk
covers_by page words disk page2 words2 disk2 h = λ i b w. at b w (small_or w) i
  where
    small_or : (w : ℕ) → (w < 512) ⊎ (512 ≤ w)
    small_or w = grind arith

    at : (b w : ℕ) → (w < 512) ⊎ (512 ≤ w) → cover_by page2 words2 disk2 b w ≡ cover_by page words disk b w
    at b w (inl small) = h b w small
    at b w (inr large) = cover_past page2 words2 disk2 b w large ∙ sym (cover_past page words disk b w large)

-- ---- the page that counts

bare_if : (g s r k : ℕ) → (g ≢ 1) ⊎ (s ≡ 0) → (if (g == 1) && not (s == 0) then r + s else r + (17 + k)) ≡ r + (17 + k)
bare_if g s r k (inl n) = rw (ne_eqb g 1 n) refl
bare_if g s r k (inr z) = by (g == 1) (s == 0) (eq-eqb s 0 z)
  where
    by : (a b : Bool) → b ≡ true → (if a && not b then r + s else r + (17 + k)) ≡ r + (17 + k)
    by true true e = refl
    by false true e = refl
    by a false e = absurd (true_false (sym e))

pub place_bare : (words : List ℕ) (k : ℕ) → (gate_of words ≢ 1) ⊎ (shadow_at words k ≡ 0) → page_of_entry words k ≡ frame_page words k
unfolding page_of_entry frame_page
place_bare words k h = bare_if (gate_of words) (shadow_at words k) (registry_pages (frames_of words)) k h

-- ---- one page changes

pub record OnePage (p : ℕ) (old new : List ℕ) : Type 0 where
  pub count : length new ≡ length old
  pub below : (i : ℕ) → i < 512 * p → slice_index new i ≡ slice_index old i
  pub above : (i : ℕ) → 512 * p + 512 ≤ i → slice_index new i ≡ slice_index old i

-- header and registry are as they were where the page lies behind them
pub record SameEntries (old new : List ℕ) : Type 0 where
  pub count : length new ≡ length old
  pub each : (i : ℕ) → i < 512 * (1 + registry_pages (frames_of old)) → slice_index new i ≡ slice_index old i

-- the gate is g now, and all other words are as before
pub record Gated (g : ℕ) (old new : List ℕ) : Type 0 where
  pub count : length new ≡ length old
  pub gate : gate_of new ≡ g
  pub others : (i : ℕ) → i ≢ 4 → slice_index new i ≡ slice_index old i

-- ---- the gate

-- while the gate isn't 1, what reads stands
pub stands_idle : (c : Contents) → gate_of c.words ≢ 1 → stands c ≡ reads c
stands_idle c shut = covers_by (frame_page c.words) c.words c.disk (page_of_entry c.words) c.words c.disk (λ b w less. cover_same (frame_page c.words) c.words c.disk (page_of_entry c.words) c.words c.disk b w (record {
  entry = refl;
  pages = λ k x e small. ap (λ p. slice_index c.words (512 * p + x)) (place_bare c.words k (inl shut));
  homes = λ x e small. refl;
}))
