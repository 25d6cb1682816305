-- Lists of edits and of numbers, one further.
use Rattle.node_pages.proofs.Common.{◌≡◌, ◌≢◌, true, inl, inr, set, length, cases_eq, ℕ, ◌+◌, ◌-◌, ◌<◌, ◌≤◌, ◌&&◌, cond, List, [], ◌∷◌, ◌++◌, map, sym, ap, ◌∙◌, arith, min, slice_index, nat_lt, nat_le, nat_tests, map-append, WordEdit, run_edits}
use Rattle.std.proofs.lemmas.List.{get_or-set_other, get_or-set_same}
use Rattle.std.proofs.lemmas.List.FromFn.{map-range_with_len_more}
use Rattle.node_pages.specs.Changes.{new_direct, word_edit}
use Rattle.node_pages.specs.declared.changes.Edit.{Edit}

abbrev edit_at : ℕ → (ℕ → ℕ) → ℕ → WordEdit
edit_at b v w = record { block = b; word = w; value = v w }

pub run_next : (b : ℕ) (v : ℕ → ℕ) (first w : ℕ) (xs ys : List Edit) (e : Edit) → first ≤ w → map word_edit xs ≡ run_edits b v first (w - first) → ys ≡ xs ++ e ∷ [] → word_edit e ≡ record { block = b; word = w; value = v w } → map word_edit ys ≡ run_edits b v first (w + 1 - first)
run_next b v first w xs ys e low so more is =
    let one : w + 1 - first ≡ (w - first) + 1 = omega (arith, low) in
    let at : first + (w - first) ≡ w = omega (arith, low) in
    ap (map word_edit) more ∙ map-append word_edit xs (e ∷ []) ∙ ap (λ zs. zs ++ word_edit e ∷ []) so ∙ ap (λ x. run_edits b v first (w - first) ++ x ∷ []) is ∙ sym (map-range_with_len_more (edit_at b v) first (w - first) w at) ∙ ap (run_edits b v first) (sym one)

pub direct_done : (old : List ℕ) (have p want : ℕ) (taken : List ℕ) (q : ℕ) → q < 24 → p ≤ want → min want 24 ≤ p → new_direct old have p taken q ≡ new_direct old have want taken q
direct_done old have p want taken q few low high = ap (λ t. cond t (slice_index taken (q - have)) (slice_index old q)) (test have p want q few low high)
  where
    test : (have p want q : ℕ) → q < 24 → p ≤ want → min want 24 ≤ p → (nat_le have q && nat_lt q p) ≡ (nat_le have q && nat_lt q want)
    test have p want q few low high = ap (λ t. nat_le have q && t) (less p want q few low high)
      where
        less : (p want q : ℕ) → q < 24 → p ≤ want → min want 24 ≤ p → nat_lt q p ≡ nat_lt q want
        less p want q few low high = grind (arith, nat_tests, few, low, high)

-- one more number of the inode
pub direct_next : (old now : List ℕ) (have p : ℕ) (taken : List ℕ) (v q : ℕ) → have ≤ p → p < length now → v ≡ slice_index taken (p - have) → slice_index now q ≡ new_direct old have p taken q → slice_index (set now p v) q ≡ new_direct old have (p + 1) taken q
direct_next old now have p taken v q low few is before = elim (cases_eq q p) [
  | inl same ↦ ap (slice_index (set now p v)) same ∙ get_or-set_same now p v 0 few ∙ is ∙ sym (ap (new_direct old have (p + 1) taken) same ∙ ap (λ t. cond t (slice_index taken (p - have)) (slice_index old p)) (at have p low))
  | inr away ↦ get_or-set_other now p q v 0 away ∙ before ∙ ap (λ t. cond (nat_le have q && t) (slice_index taken (q - have)) (slice_index old q)) (off p q away)
]
  where
    at : (have p : ℕ) → have ≤ p → (nat_le have p && nat_lt p (p + 1)) ≡ true
    at have p low = grind (arith, nat_tests, low)

    off : (p q : ℕ) → q ≢ p → nat_lt q p ≡ nat_lt q (p + 1)
    off p q away = grind (arith, nat_tests, away)
