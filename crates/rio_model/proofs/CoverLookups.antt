-- Which entry is found for a block, before and after entries change.
use Rattle.rio_model.proofs.Common.{if◌then◌else◌, slice_index, Some, None, ◌∙◌, ap, sym, subst, inl, inr, arith, cases_eq, cases_Bool, eq-eqb, true_false}
use Rattle.std.specs.Prelude.{◌≡◌, ◌≢◌, ℕ, zero, suc, ◌+◌, ◌*◌, ◌/◌, ◌%◌, ◌<◌, ◌≤◌, Bool, true, false, ◌⊎◌, List, Option, refl}
use Rattle.std.proofs.lemmas.Bool.{and_from}
use Rattle.rio_base.specs.Image.{entry_at, registry_pages}
use Rattle.rio_base.specs.Rules.{none_some}
use Rattle.rio_model.specs.Registry.{BlockRule, IsValid, OneEntry, frames_of, tag_at, tag_block}
use Rattle.rio_model.specs.Cover.{cover_by, entry_of_block, holds, last_of}
use Rattle.rio_model.specs.CoverLookups.{last_found, holds_valid, SameAt, cover_same}

none_step : (t : ℕ → Bool) (n j : ℕ) (b : Bool) → t n ≡ b → (if b then Some n else last_of t n) ≡ None → (last_of t n ≡ None → j < n → t j ≡ false) → j < suc n → (j ≡ n) ⊎ (j ≢ n) → t j ≡ false
none_step t n j true e s r less c = absurd (none_some n (Some n) s refl)
none_step t n j false e s r less (inl same) = subst (λ (i : ℕ). t i ≡ false) (sym same) e
none_step t n j false e s r less (inr other) = r s (omega (arith, less, other))

pub last_none : (t : ℕ → Bool) (n j : ℕ) → last_of t n ≡ None → j < n → t j ≡ false
unfolding last_of
last_none t zero j e less = absurd (omega (arith, less))
last_none t (suc n) j e less = none_step t n j (t n) refl e (last_none t n j) less (cases_eq j n)

pub none_passes : (t : ℕ → Bool) (n : ℕ) → ((j : ℕ) → j < n → t j ≡ false) → last_of t n ≡ None
unfolding last_of
none_passes t zero h = refl
none_passes t (suc n) h = rw (h n (omega arith)) (none_passes t n (λ j less. h j (omega (arith, less))))

pub last_same : (t u : ℕ → Bool) (n : ℕ) → ((j : ℕ) → j < n → u j ≡ t j) → last_of u n ≡ last_of t n
unfolding last_of
last_same t u zero h = refl
last_same t u (suc n) h = rw (h n (omega arith), last_same t u n (λ j less. h j (omega (arith, less)))) refl

one_step : (t : ℕ → Bool) (n k : ℕ) (o : Option ℕ) → last_of t n ≡ o → k < n → t k ≡ true → ((j : ℕ) → j < n → t j ≡ true → j ≡ k) → o ≡ Some k
one_step t n k None e less here one = absurd (true_false (sym here ∙ last_none t n k e less))
one_step t n k (Some j) e less here one = let h = last_found t n j e in ap Some (one j h.0 h.1)

pub last_one : (t : ℕ → Bool) (n k : ℕ) → k < n → t k ≡ true → ((j : ℕ) → j < n → t j ≡ true → j ≡ k) → last_of t n ≡ Some k
last_one t n k less here one = one_step t n k (last_of t n) refl less here one

-- ---- entries

pub header_one : (k : ℕ) (old new : List ℕ) (i : ℕ) → OneEntry k old new → i < 512 → slice_index new i ≡ slice_index old i
unfolding entry_at
header_one k old new i one less = one.before i (omega (arith, less))

pub frames_one : (k : ℕ) (old new : List ℕ) → OneEntry k old new → frames_of new ≡ frames_of old
frames_one k old new one = header_one k old new 2 one (omega arith)

apart_entries : (j k : ℕ) → j ≢ k → (entry_at j + 5 ≤ entry_at k) ⊎ (entry_at k + 5 ≤ entry_at j)
unfolding entry_at
apart_entries j k n = grind (arith, n, div_step j k, div_step k j)
  where
    div_step : (a b : ℕ) → a < b → 512 * (1 + a / 102) + 5 * (a % 102) + 5 ≤ 512 * (1 + b / 102) + 5 * (b % 102)
    div_step a b h = omega (arith, h)

pub entry_one : (k j x : ℕ) (old new : List ℕ) → OneEntry k old new → j ≢ k → x < 5 → slice_index new (entry_at j + x) ≡ slice_index old (entry_at j + x)
entry_one k j x old new one n small = from (apart_entries j k n)
  where
    from : (entry_at j + 5 ≤ entry_at k) ⊎ (entry_at k + 5 ≤ entry_at j) → slice_index new (entry_at j + x) ≡ slice_index old (entry_at j + x)
    from (inl e) = one.before (entry_at j + x) (omega (arith, e, small))
    from (inr e) = one.behind (entry_at j + x) (omega (arith, e, small))

pub tag_one : (k j : ℕ) (old new : List ℕ) → OneEntry k old new → j ≢ k → tag_at new j ≡ tag_at old j
tag_one k j old new one n = from (apart_entries j k n)
  where
    from : (entry_at j + 5 ≤ entry_at k) ⊎ (entry_at k + 5 ≤ entry_at j) → tag_at new j ≡ tag_at old j
    from (inl e) = one.before (entry_at j) (omega (arith, e))
    from (inr e) = one.behind (entry_at j) (omega (arith, e))

-- a word behind the registry
pub behind_one : (k : ℕ) (old new : List ℕ) (i : ℕ) → OneEntry k old new → k < frames_of old → 512 * (1 + registry_pages (frames_of old)) ≤ i → slice_index new i ≡ slice_index old i
unfolding entry_at registry_pages
behind_one k old new i one within past = one.behind i (omega (arith, within, past))

pub holds_is : (words : List ℕ) (b k : ℕ) → IsValid words k → tag_block (tag_at words k) ≡ b → holds words b k ≡ true
holds_is words b k v e = and_from _ _ v.valid (eq-eqb _ _ e)

pub found_none : (words : List ℕ) (b k : ℕ) → entry_of_block words b ≡ None → IsValid words k → tag_block (tag_at words k) ≢ b
unfolding entry_of_block
found_none words b k e v same = true_false (sym (holds_is words b k v same) ∙ last_none (holds words b) (frames_of words) k e v.within)

pub found_at : (words : List ℕ) (b k : ℕ) → BlockRule words → IsValid words k → tag_block (tag_at words k) ≡ b → entry_of_block words b ≡ Some k
unfolding entry_of_block
found_at words b k rule v same = last_one (holds words b) (frames_of words) k v.within (holds_is words b k v same) (λ j less h. let w = holds_valid words b j less h in rule j k w.0 v (w.1 ∙ sym same))

pub found_free : (words : List ℕ) (b : ℕ) → ((j : ℕ) → IsValid words j → tag_block (tag_at words j) ≢ b) → entry_of_block words b ≡ None
unfolding entry_of_block
found_free words b free = none_passes (holds words b) (frames_of words) (λ j less. no j less (cases_Bool (holds words b j)))
  where
    no : (j : ℕ) → j < frames_of words → (holds words b j ≡ true) ⊎ (holds words b j ≡ false) → holds words b j ≡ false
    no j less (inl h) = let w = holds_valid words b j less h in absurd (free j w.0 w.1)
    no j less (inr h) = h

-- the same entries hold b before and after
pub found_same : (old new : List ℕ) (b : ℕ) → frames_of new ≡ frames_of old → ((j : ℕ) → j < frames_of old → holds new b j ≡ holds old b j) → entry_of_block new b ≡ entry_of_block old b
unfolding entry_of_block
found_same old new b frames h = ap (last_of (holds new b)) frames ∙ last_same (holds old b) (holds new b) (frames_of old) h

pub covers_same : (page : ℕ → ℕ) (words : List ℕ) (disk : List (List ℕ)) (page2 : ℕ → ℕ) (words2 : List ℕ) (disk2 : List (List ℕ)) → ((b : ℕ) → SameAt page words disk page2 words2 disk2 b) → cover_by page2 words2 disk2 ≡ cover_by page words disk
covers_same page words disk page2 words2 disk2 h = λ i b w. cover_same page words disk page2 words2 disk2 b w (h b) i
