-- Edits of entries, pushed one after the other.
use Rattle.directories.proofs.Common.{◌≡◌, ℕ, zero, suc, ◌+◌, ◌<◌, ◌≤◌, ◌++◌, List, [], ◌∷◌, length, map, take, slice_index_or, refl, subst, sym, ap, ◌∙◌, arith, Contains, append-nil, word_edit, Edit, run_edits}
use Rattle.std.proofs.lemmas.List.{append_assoc, get_or_default, map-append}
use Rattle.std.proofs.lemmas.List.FromFn.{map-range_with_len_more}
use Rattle.rio_model.specs.Updates.{WordEdit}
use Rattle.directories.specs.Contents.{all_edits, entry_edits}
use Rattle.directories.specs.declared.storing.EntryWords.{EntryWords}

-- one word more of an entry
pub edit_next : (old : List WordEdit) (b : ℕ) (v : ℕ → ℕ) (first t : ℕ) (xs ys : List Edit) (e : Edit) → map word_edit xs ≡ old ++ run_edits b v first t → ys ≡ xs ++ e ∷ [] → word_edit e ≡ record { block = b; word = first + t; value = v (first + t) } → map word_edit ys ≡ old ++ run_edits b v first (t + 1)
edit_next old b v first t xs ys e so more is =
    ap (map word_edit) more ∙ map-append word_edit xs (e ∷ []) ∙ ap (λ zs. zs ++ word_edit e ∷ []) so ∙ append_assoc old (run_edits b v first t) (word_edit e ∷ [])
    ∙ ap (λ x. old ++ (run_edits b v first t ++ x ∷ [])) is ∙ ap (λ zs. old ++ zs) (sym (map-range_with_len_more edit_at first t (first + t) refl))
  where
    edit_at : ℕ → WordEdit
    edit_at w = record { block = b; word = w; value = v w }

-- one entry more
pub all_next : (es : List EntryWords) (k : ℕ) (d : EntryWords) → k < length es → all_edits (take (k + 1) es) ≡ all_edits (take k es) ++ entry_edits (slice_index_or es k d)
all_next [] k d few = absurd (omega (arith, few))
all_next (e ∷ es) zero d few = append-nil (entry_edits e)
all_next (e ∷ es) (suc k) d few =
    let next : suc k + 1 ≡ suc (k + 1) = omega arith in
    ap (λ n. all_edits (take n (e ∷ es))) next ∙ ap (λ zs. entry_edits e ++ zs) (all_next es k d (omega (arith, few))) ∙ sym (append_assoc (entry_edits e) (all_edits (take k es)) (entry_edits (slice_index_or es k d)))

pub entry_pushed : (old : List WordEdit) (es : List EntryWords) (k : ℕ) (d : EntryWords) (xs ys : List Edit) → k < length es → map word_edit xs ≡ old ++ all_edits (take k es) → map word_edit ys ≡ map word_edit xs ++ entry_edits (slice_index_or es k d) → map word_edit ys ≡ old ++ all_edits (take (k + 1) es)
entry_pushed old es k d xs ys few so more = more ∙ ap (λ zs. zs ++ entry_edits (slice_index_or es k d)) so ∙ append_assoc old (all_edits (take k es)) (entry_edits (slice_index_or es k d)) ∙ ap (λ zs. old ++ zs) (sym (all_next es k d few))

pub entry_in : (es : List EntryWords) (k : ℕ) (d : EntryWords) → k < length es → Contains es (slice_index_or es k d)
entry_in es k d few = (k, few, get_or_default es k (slice_index_or es k d) d few)

-- of one entry or two that lie within their pages, each does
pub one_within : (a : EntryWords) → a.first + 8 ≤ 512 → (e : EntryWords) → Contains (a ∷ []) e → e.first + 8 ≤ 512
one_within a fits e (zero, few, is) = subst (λ (x : EntryWords). x.first + 8 ≤ 512) is fits
one_within a fits e (suc k, few, is) = absurd (omega (arith, few))

pub two_within : (a b : EntryWords) → a.first + 8 ≤ 512 → b.first + 8 ≤ 512 → (e : EntryWords) → Contains (a ∷ b ∷ []) e → e.first + 8 ≤ 512
two_within a b fits other e (zero, few, is) = subst (λ (x : EntryWords). x.first + 8 ≤ 512) is fits
two_within a b fits other e (suc zero, few, is) = subst (λ (x : EntryWords). x.first + 8 ≤ 512) is other
two_within a b fits other e (suc (suc k), few, is) = absurd (omega (arith, few))
