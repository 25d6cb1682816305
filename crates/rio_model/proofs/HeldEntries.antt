-- Entries that say what they said, where one entry changes.
use Rattle.rio_model.proofs.Common.{◌≡◌, ◌≢◌, ◌⊎◌, ◌<◌, ℕ, Bool, if◌then◌else◌, List, Option, Some, None, refl, ◌∙◌, ap, sym, subst, inl, inr, arith, cases_eq, true_false}
use Rattle.rio_base.specs.declared.places.PageName.{PageName}
use Rattle.rio_model.specs.Cover.{HeldEntry, Narrows, entry_of_block, name_in}
use Rattle.rio_model.specs.CoverLookups.{found_is}
use Rattle.rio_model.proofs.CoverLookups.{entry_one, found_at, frames_one, tag_one}
use Rattle.rio_model.specs.Registry.{BlockRule, IsValid, OneEntry, file_at, frames_of, index_at, is_data, is_valid, size_at, tag_at, tag_block}

pub one_entry_then : (k : ℕ) (a b c : List ℕ) → OneEntry k a b → OneEntry k b c → OneEntry k a c
one_entry_then k a b c h i = record {
  count = i.count ∙ h.count;
  before = λ j less. i.before j less ∙ h.before j less;
  behind = λ j more. i.behind j more ∙ h.behind j more;
}

pub held_same : (k : ℕ) (old new : List ℕ) → new ≡ old → HeldEntry k old new
held_same k old new e = rw e (record { valid = refl; named = refl; block = refl; file = refl; index = refl; size = refl; shadow = refl })

pub held_then : (k : ℕ) (a b c : List ℕ) → HeldEntry k a b → HeldEntry k b c → HeldEntry k a c
held_then k a b c h i = record { valid = i.valid ∙ h.valid; named = i.named ∙ h.named; block = i.block ∙ h.block; file = i.file ∙ h.file; index = i.index ∙ h.index; size = i.size ∙ h.size; shadow = i.shadow ∙ h.shadow }

-- another entry than the one that changes
pub held_other : (k j : ℕ) (old new : List ℕ) → OneEntry k old new → j ≢ k → HeldEntry j old new
held_other k j old new one ne =
    let t = tag_one k j old new one ne in
    record {
      valid = ap is_valid t;
      named = ap is_data t;
      block = ap tag_block t;
      file = entry_one k j 1 old new one ne (omega arith);
      index = entry_one k j 2 old new one ne (omega arith);
      size = entry_one k j 3 old new one ne (omega arith);
      shadow = entry_one k j 4 old new one ne (omega arith);
    }

-- ---- names

name_by : Bool → ℕ → ℕ → ℕ → Option PageName
name_by named file index size = if named then Some (record { file = record { 0 = file }; index = index; size = size }) else None

name_held : (k : ℕ) (old new : List ℕ) → HeldEntry k old new → name_in new (Some k) ≡ name_in old (Some k)
unfolding name_by
name_held k old new h = by
  where
    by : name_by (is_data (tag_at new k)) (file_at new k) (index_at new k) (size_at new k) ≡ name_by (is_data (tag_at old k)) (file_at old k) (index_at old k) (size_at old k)
    by = rw (h.named, h.file, h.index, h.size) refl

-- each valid entry was one, and says what it said
pub narrows_by : (old new : List ℕ) → frames_of new ≡ frames_of old → BlockRule old → ((k : ℕ) → IsValid new k → HeldEntry k old new) → Narrows old new
narrows_by old new frames rule held = record { found = λ b k e. from b k (found_is new b k e) }
  where
    from : (b k : ℕ) → IsValid new k × (tag_block (tag_at new k) ≡ b) → (entry_of_block old b ≡ Some k) × (name_in new (Some k) ≡ name_in old (Some k))
    from b k (v, block) =
        let h = held k v in
        (found_at old b k rule (record { within = subst (λ f. k < f) frames v.within; valid = sym h.valid ∙ v.valid }) (sym h.block ∙ block), name_held k old new h)

pub held_each : (k : ℕ) (old new : List ℕ) → OneEntry k old new → HeldEntry k old new → (j : ℕ) → HeldEntry j old new
held_each k old new one held j = from (cases_eq j k)
  where
    from : (j ≡ k) ⊎ (j ≢ k) → HeldEntry j old new
    from (inl e) = subst (λ x. HeldEntry x old new) (sym e) held
    from (inr ne) = held_other k j old new one ne

pub narrows_held : (k : ℕ) (old new : List ℕ) → BlockRule old → OneEntry k old new → HeldEntry k old new → Narrows old new
narrows_held k old new rule one held = narrows_by old new (frames_one k old new one) rule (λ j v. held_each k old new one held j)

-- entry k changes in words that are still the old ones
pub narrows_after : (k : ℕ) (old mid new : List ℕ) → BlockRule old → mid ≡ old → OneEntry k mid new → HeldEntry k mid new → Narrows old new
narrows_after k old mid new rule same one held = narrows_held k old new rule (subst (λ ws. OneEntry k ws new) same one) (subst (λ ws. HeldEntry k ws new) same held)

-- all entries say what they said, in words that are still the old ones
pub narrows_all : (old mid new : List ℕ) → BlockRule old → mid ≡ old → frames_of new ≡ frames_of old → ((k : ℕ) → HeldEntry k mid new) → Narrows old new
narrows_all old mid new rule same frames held = narrows_by old new frames rule (λ k v. subst (λ ws. HeldEntry k ws new) same (held k))

pub narrows_gone : (k : ℕ) (old new : List ℕ) → BlockRule old → OneEntry k old new → tag_at new k ≡ 0 → Narrows old new
narrows_gone k old new rule one gone = narrows_by old new (frames_one k old new one) rule (λ j v. from j v (cases_eq j k))
  where
    from : (j : ℕ) → IsValid new j → (j ≡ k) ⊎ (j ≢ k) → HeldEntry j old new
    from j v (inl e) = absurd (true_false (sym v.valid ∙ ap (λ x. is_valid (tag_at new x)) e ∙ ap is_valid gone))
    from j v (inr ne) = held_other k j old new one ne
