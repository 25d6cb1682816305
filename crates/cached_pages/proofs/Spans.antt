-- A run of words of a frame is stored.
use Rattle.cached_pages.proofs.Common.{◌≡◌, ◌≢◌, ℕ, ◌+◌, ◌-◌, ◌*◌, ◌<◌, ◌≤◌, ◌⊎◌, List, slice_index, Option, Some, None, refl, ◌∙◌, ap, sym, subst, inl, inr, arith, cases_eq, BlockWords, FrontStored, put_run, IsValid, tag_at, tag_block, cover_by, entry_of_block, OnePage, SameEntries, found_entries, cover_at, found_is}
use Rattle.std.proofs.lemmas.Bool.Decides.{nat_tests}
use Rattle.rio_model.proofs.CoverChanges.{off_page}
use Rattle.rio_model.specs.CoverLookups.{cover_home, cover_past}

put_off : (f : BlockWords) (b w n : ℕ) (from : List ℕ) (c x : ℕ) → (c ≢ b) ⊎ (x < w) ⊎ (w + n ≤ x) → f c x ≡ put_run f b w n from c x
put_off f b w n from c x (inl h) = grind (arith, nat_tests, h)
put_off f b w n from c x (inr (inl h)) = grind (arith, nat_tests, h)
put_off f b w n from c x (inr (inr h)) = grind (arith, nat_tests, h)

put_on : (f : BlockWords) (b w n : ℕ) (from : List ℕ) (c x : ℕ) → c ≡ b → w ≤ x → x < w + n → slice_index from (x - w) ≡ put_run f b w n from c x
put_on f b w n from c x e lo hi = grind (arith, nat_tests, e, lo, hi)

pub cover_run : (k b w n : ℕ) (from : List ℕ) (page page2 : ℕ → ℕ) (words now : List ℕ) (disk : List (List ℕ)) → entry_of_block words b ≡ Some k → w + n ≤ 512 → FrontStored (512 * page k + w) n from words now → ((j : ℕ) → IsValid words j → j ≢ k → page j ≢ page k) → ((j : ℕ) → IsValid words j → page2 j ≡ page j) → SameEntries words now → OnePage (page k) words now → cover_by page2 now disk ≡ put_run (cover_by page words disk) b w n from
cover_run k b w n from page page2 words now disk found fits h off places same one = λ i c x. at c x (cases_eq c b) (where_is x) i
  where
    where_is : (x : ℕ) → (x < w) ⊎ ((w ≤ x) × (x < w + n)) ⊎ ((w + n ≤ x) × (x < 512)) ⊎ (512 ≤ x)
    where_is x = grind arith

    old : BlockWords
    old = cover_by page words disk

    other : (c x : ℕ) (o : Option ℕ) → c ≢ b → x < 512 → entry_of_block words c ≡ o → cover_by page2 now disk c x ≡ cover_by page words disk c x
    other c x None ne less e = cover_home page2 now disk c x (found_entries words now c same ∙ e) less ∙ sym (cover_home page words disk c x e less)
    other c x (Some j) ne less e =
        let f = found_is words c j e in
        let g = found_is words b k found in
        let differ : j ≢ k = λ q. ne (sym f.1 ∙ ap (λ m. tag_block (tag_at words m)) q ∙ g.1) in
        cover_at page2 now disk c x j (found_entries words now c same ∙ e) less ∙ ap (λ m. slice_index now (512 * m + x)) (places j f.0) ∙ off_page (page k) (page j) x words now one (off j f.0 differ) less ∙ sym (cover_at page words disk c x j e less)

    here : (x : ℕ) → x < 512 → cover_by page2 now disk b x ≡ slice_index now (512 * page k + x)
    here x less = cover_at page2 now disk b x k (found_entries words now b same ∙ found) less ∙ ap (λ m. slice_index now (512 * m + x)) (places k (found_is words b k found).0)

    moved : (c x : ℕ) → c ≡ b → cover_by page2 now disk b x ≡ cover_by page words disk b x → cover_by page2 now disk c x ≡ cover_by page words disk c x
    moved c x e d = subst (λ (m : ℕ). cover_by page2 now disk m x ≡ cover_by page words disk m x) (sym e) d

    at : (c x : ℕ) → (c ≡ b) ⊎ (c ≢ b) → (x < w) ⊎ ((w ≤ x) × (x < w + n)) ⊎ ((w + n ≤ x) × (x < 512)) ⊎ (512 ≤ x) → cover_by page2 now disk c x ≡ put_run (cover_by page words disk) b w n from c x
    at c x e (inr (inr (inr large))) = cover_past page2 now disk c x large ∙ sym (cover_past page words disk c x large) ∙ put_off (cover_by page words disk) b w n from c x (inr (inr (omega (arith, large, fits))))
    at c x (inl e) (inl lo) = moved c x e (here x (omega (arith, lo, fits)) ∙ h.below (512 * page k + x) (omega (arith, lo)) ∙ sym (cover_at page words disk b x k found (omega (arith, lo, fits)))) ∙ put_off (cover_by page words disk) b w n from c x (inr (inl lo))
    at c x (inl e) (inr (inl m)) = subst (λ (y : ℕ). cover_by page2 now disk y x ≡ slice_index from (x - w)) (sym e) (here x (omega (arith, m, fits)) ∙ ap (slice_index now) (omega (arith, m)) ∙ h.front (x - w) (omega (arith, m))) ∙ put_on (cover_by page words disk) b w n from c x e m.0 m.1
    at c x (inl e) (inr (inr (inl u))) = moved c x e (here x u.1 ∙ h.above (512 * page k + x) (omega (arith, u)) ∙ sym (cover_at page words disk b x k found u.1)) ∙ put_off (cover_by page words disk) b w n from c x (inr (inr u.0))
    at c x (inr ne) (inl lo) = other c x (entry_of_block words c) ne (omega (arith, lo, fits)) refl ∙ put_off (cover_by page words disk) b w n from c x (inl ne)
    at c x (inr ne) (inr (inl m)) = other c x (entry_of_block words c) ne (omega (arith, m, fits)) refl ∙ put_off (cover_by page words disk) b w n from c x (inl ne)
    at c x (inr ne) (inr (inr (inl u))) = other c x (entry_of_block words c) ne u.1 refl ∙ put_off (cover_by page words disk) b w n from c x (inl ne)
