-- The open update stays, where the entries that change are no part of it.
use Rattle.cached_pages.proofs.Common.{◌≡◌, ◌≢◌, ℕ, ◌<◌, ◌==◌, ◌&&◌, not, Bool, false, ◌⊎◌, List, Option, Some, None, refl, ◌∙◌, ap, sym, subst, inl, inr, arith, cases_eq, ne_eqb, none_some, BlockRule, IsValid, OneEntry, gate_of, is_valid, shadow_at, tag_block, HeldEntry, IsBare, entry_of_block, SameEntries, entry_same, found_entries, found_kept, header_same, entry_one, found_at, frames_one, header_one, tag_one, found_is, valid_moved}
use Rattle.rio_model.proofs.CoverChanges.{shadow_one}
use Rattle.cached_pages.specs.Caches.{SameTouches, has_shadow, is_touched}

pub touches_by : (old new : List ℕ) → ((b : ℕ) → is_touched new b ≡ is_touched old b) → SameTouches old new
touches_by old new h = record { touched = λ i b. h b i }

pub touches_refl : (words : List ℕ) → SameTouches words words
touches_refl words = record { touched = refl }

pub touches_trans : (a b c : List ℕ) → SameTouches a b → SameTouches b c → SameTouches a c
touches_trans a b c h i = record { touched = i.touched ∙ h.touched }

pub touches_words : (old new : List ℕ) → new ≡ old → SameTouches old new
touches_words old new e = subst (SameTouches old) (sym e) (touches_refl old)

-- the same gate, and of each block a shadow or none as before
touched_both : (g h : ℕ) (a b : Bool) → h ≡ g → b ≡ a → ((h == 1) && b) ≡ ((g == 1) && a)
touched_both g h a b e d = rw (e, d) refl

touched_shut : (g : ℕ) (a : Bool) → g ≢ 1 → ((g == 1) && a) ≡ false
touched_shut g a ne = rw (ne_eqb g 1 ne) refl

shadow_still : (old new : List ℕ) (o : Option ℕ) → ((j : ℕ) → o ≡ Some j → shadow_at new j ≡ shadow_at old j) → has_shadow new o ≡ has_shadow old o
shadow_still old new None h = refl
shadow_still old new (Some j) h = ap (λ s. not (s == 0)) (h j refl)

shadow_none : (words : List ℕ) (k : ℕ) → shadow_at words k ≡ 0 → has_shadow words (Some k) ≡ false
shadow_none words k e = ap (λ s. not (s == 0)) e

-- entry k alone changes, and says of its page what it said
pub touches_held : (k : ℕ) (old new : List ℕ) → OneEntry k old new → HeldEntry k old new → SameTouches old new
touches_held k old new one held = touches_by old new (λ b. touched_both (gate_of old) (gate_of new) (has_shadow old (entry_of_block old b)) (has_shadow new (entry_of_block new b)) (header_one k old new 4 one (omega arith))
    (ap (has_shadow new) (found_kept k b old new one held.valid held.block) ∙ shadow_still old new (entry_of_block old b) (λ j e. shadow_one k j old new one (λ q. held.shadow))))

-- no entry changes
pub touches_entries : (old new : List ℕ) → SameEntries old new → SameTouches old new
touches_entries old new same = touches_by old new (λ b. touched_both (gate_of old) (gate_of new) (has_shadow old (entry_of_block old b)) (has_shadow new (entry_of_block new b)) (header_same old new 4 same (omega arith))
    (ap (has_shadow new) (found_entries old new b same) ∙ shadow_still old new (entry_of_block old b) (λ j e. entry_same old new j 4 same (found_is old b j e).0.within (omega arith))))

-- an entry but k, or none of those
other_or_not : (k : ℕ) (o : Option ℕ) → ((j : ℕ) × (j ≢ k) × (o ≡ Some j)) ⊎ ((j : ℕ) → j ≢ k → o ≢ Some j)
other_or_not k None = inr (λ j ne e. none_some j None refl e)
other_or_not k (Some j) = from (cases_eq j k)
  where
    some_same : (x y : ℕ) → Some x ≡ Some y → x ≡ y
    some_same x y e = cc

    from : (j ≡ k) ⊎ (j ≢ k) → ((i : ℕ) × (i ≢ k) × (Some j ≡ Some i)) ⊎ ((i : ℕ) → i ≢ k → Some j ≢ Some i)
    from (inl e) = inr (λ i ne d. ne (sym (some_same j i d) ∙ e))
    from (inr ne) = inl (j, ne, refl)

-- entry k alone changes, and is no part of the update before and after
pub touches_one : (k : ℕ) (old new : List ℕ) → OneEntry k old new → BlockRule old → BlockRule new → (IsValid old k → IsBare old k) → (IsValid new k → IsBare new k) → SameTouches old new
touches_one k old new one before after bare_old bare_new = touches_by old new (λ b. at b (cases_eq (gate_of old) 1))
  where
    gate : gate_of new ≡ gate_of old
    gate = header_one k old new 4 one (omega arith)

    bare_shadow : (words : List ℕ) → gate_of words ≡ 1 → IsBare words k → shadow_at words k ≡ 0
    bare_shadow words is (inl shut) = absurd (shut is)
    bare_shadow words is (inr none) = none

    dull : (words : List ℕ) (b : ℕ) (o : Option ℕ) → entry_of_block words b ≡ o → (IsValid words k → IsBare words k) → gate_of words ≡ 1 → ((j : ℕ) → j ≢ k → o ≢ Some j) → has_shadow words o ≡ false
    dull words b None e bare is none = refl
    dull words b (Some j) e bare is none = from (cases_eq j k)
      where
        from : (j ≡ k) ⊎ (j ≢ k) → has_shadow words (Some j) ≡ false
        from (inl q) = shadow_none words j (subst (λ x. shadow_at words x ≡ 0) (sym q) (bare_shadow words is (bare (subst (IsValid words) q (found_is words b j e).0))))
        from (inr ne) = absurd (none j ne refl)

    valid_on : (j : ℕ) → j ≢ k → IsValid old j → IsValid new j
    valid_on j ne v = record { within = subst (λ f. j < f) (sym (frames_one k old new one)) v.within; valid = ap is_valid (tag_one k j old new one ne) ∙ v.valid }

    on : (b j : ℕ) → j ≢ k → entry_of_block old b ≡ Some j → entry_of_block new b ≡ Some j
    on b j ne e = let f = found_is old b j e in found_at new b j after (valid_on j ne f.0) (ap tag_block (tag_one k j old new one ne) ∙ f.1)

    back : (b j : ℕ) → j ≢ k → entry_of_block new b ≡ Some j → entry_of_block old b ≡ Some j
    back b j ne e = let f = found_is new b j e in found_at old b j before (valid_moved k j old new one ne f.0) (ap tag_block (sym (tag_one k j old new one ne)) ∙ f.1)

    has : (b : ℕ) → gate_of old ≡ 1 → ((j : ℕ) × (j ≢ k) × (entry_of_block old b ≡ Some j)) ⊎ ((j : ℕ) → j ≢ k → entry_of_block old b ≢ Some j) → has_shadow new (entry_of_block new b) ≡ has_shadow old (entry_of_block old b)
    has b is (inl f) = ap (has_shadow new) (on b f.0 f.1 f.2) ∙ ap (λ s. not (s == 0)) (entry_one k f.0 4 old new one f.1 (omega arith)) ∙ sym (ap (has_shadow old) f.2)
    has b is (inr none) = dull new b (entry_of_block new b) refl bare_new (gate ∙ is) (λ j ne e. none j ne (back b j ne e)) ∙ sym (dull old b (entry_of_block old b) refl bare_old is none)

    at : (b : ℕ) → (gate_of old ≡ 1) ⊎ (gate_of old ≢ 1) → is_touched new b ≡ is_touched old b
    at b (inl is) = touched_both (gate_of old) (gate_of new) (has_shadow old (entry_of_block old b)) (has_shadow new (entry_of_block new b)) gate (has b is (other_or_not k (entry_of_block old b)))
    at b (inr shut) = touched_shut (gate_of new) (has_shadow new (entry_of_block new b)) (λ e. shut (sym gate ∙ e)) ∙ sym (touched_shut (gate_of old) (has_shadow old (entry_of_block old b)) shut)
