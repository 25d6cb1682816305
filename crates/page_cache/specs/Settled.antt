-- What a cache says stands, and what it says is touched, between calls.
use Rattle.std.specs.Prelude.{◌≡◌, ◌≢◌, ℕ, ◌+◌, ◌*◌, ◌==◌, not, true, false, ◌⊎◌, List, slice_index, Some, refl}
use Rattle.std.proofs.Common.{◌∙◌, ap, sym, inl, inr}
use Rattle.std.proofs.lemmas.Bool.{and_from, and_parts, cases_eq, eq-eqb, eqb-true, ne_eqb}
use Rattle.rio_base.specs.Machine.{Contents}
use Rattle.rio_base.specs.Rules.{true_false}
use Rattle.rio_base.specs.Volume.{Settled}
use Rattle.rio_model.specs.Registry.{gate_of, page_of_entry, shadow_at}
use Rattle.rio_model.specs.Cover.{entry_of_block, frame_page, reads, stands}
use Rattle.rio_model.specs.CoverChanges.{place_bare, stands_idle}
use Rattle.rio_model.specs.CoverLookups.{cover_same}
use Rattle.cached_pages.specs.Caches.{CacheSound, cache_kept, cache_seen, has_shadow, is_touched}
use Rattle.cached_pages.specs.declared.tables.CacheTables.{CacheTables}

-- the gate of an open update, and of none
pub gate_open : (words : List ℕ) → (gate_of words == 1) ≡ true → gate_of words ≡ 1
gate_open words e = eqb-true _ _ e

pub gate_shut : (words : List ℕ) → (gate_of words == 1) ≡ false → gate_of words ≢ 1
gate_shut words e one = true_false (sym (eq-eqb _ _ one) ∙ e)

-- in an open update a block that isn't touched has no shadow
pub untouched_bare : (words : List ℕ) (b k : ℕ) → gate_of words ≡ 1 → is_touched words b ≡ false → entry_of_block words b ≡ Some k → shadow_at words k ≡ 0
untouched_bare words b k is untouched found = from (cases_eq (shadow_at words k) 0)
  where
    from : (shadow_at words k ≡ 0) ⊎ (shadow_at words k ≢ 0) → shadow_at words k ≡ 0
    from (inl none) = none
    from (inr some) = absurd (true_false (sym (and_from _ _ (eq-eqb _ _ is) (ap (has_shadow words) found ∙ ap not (ne_eqb _ _ some))) ∙ untouched))

-- so it stands as it reads
pub untouched_stands : (c : Contents) (b w : ℕ) → gate_of c.words ≡ 1 → is_touched c.words b ≡ false → stands c b w ≡ reads c b w
untouched_stands c b w is untouched = cover_same (frame_page c.words) c.words c.disk (page_of_entry c.words) c.words c.disk b w (record {
  entry = refl;
  pages = λ k x e small. ap (λ p. slice_index c.words (512 * p + x)) (place_bare c.words k (inr (untouched_bare c.words b k is untouched e)));
  homes = λ x e small. refl;
})

pub cache_settled : (c : Contents) (n : ℕ) (t : CacheTables) → CacheSound c n t → Settled (cache_seen c) (cache_kept c t)
cache_settled c n t s = record {
  idle = λ shut. record { stands = λ b firm w. ap (λ f. f b w) (stands_idle c (gate_shut c.words shut)) };
  in_update = λ is. record { untouched = λ b none w. sym (untouched_stands c b w (gate_open c.words is) none) };
  touched = λ b e. (and_parts _ _ e).0;
}
