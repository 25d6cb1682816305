-- Names counted entry by entry, and directory by directory.
use Rattle.rio_model.proofs.Common.{◌≡◌, ◌≢◌, ◌⊎◌, ℕ, zero, suc, ◌+◌, ◌<◌, ◌≤◌, ◌∙◌, List, refl, sym, ap, subst, arith, inl, inr, length, cases_eq, VolumeShape, IsIno}
use Rattle.std.specs.Prelude.{replicate, slice_index_or, slice_set}
use Rattle.std.proofs.lemmas.List.{get_or-set_other, get_or-set_same, length-set}
use Rattle.rio_model.specs.Held.{HasEntry, Held, entry_ino}
use Rattle.rio_model.proofs.ReadStates.{HoldsWithin}
use Rattle.rio_model.proofs.VolumeFailRules.{ino_held}
use Rattle.volume_check.specs.Tree.{CountOf, Counted, Names, NamesBefore, one_more}
use Rattle.volume_check.specs.declared.name_counts.NameCount.{NameCount}
use Rattle.volume_check.specs.declared.name_counts.NameCount.TheVariants.{No, One, Several}

-- ---- one entry more

-- the same entries, and one
pub record Adds (old new : ℕ → ℕ → Type 0) (d j : ℕ) : Type 0 where
  pub keeps : (e k : ℕ) → old e k → new e k
  pub has : new d j
  pub back : (e k : ℕ) → new e k → old e k ⊎ ((e ≡ d) × (k ≡ j))
  pub away : old d j → ⊥

count_more : (old new : ℕ → ℕ → Type 0) (d j : ℕ) (c : NameCount) → Adds old new d j → CountOf old c → CountOf new (one_more c)
count_more old new d j No h none = (
  d,
  j,
  h.has,
  λ e k x. elim (h.back e k x) [
    | inl was ↦ absurd (none e k was)
    | inr here ↦ here
  ],
)
count_more old new d j One h one = (one.0, one.1, d, j, h.keeps one.0 one.1 one.2, h.has, λ same. h.away (subst (λ x. old x j) same.0 (subst (λ y. old one.0 y) same.1 one.2)))
count_more old new d j Several h two = (two.0, two.1, two.2, two.3, h.keeps two.0 two.1 two.4, h.keeps two.2 two.3 two.5, two.6)

count_same : (old new : ℕ → ℕ → Type 0) (c : NameCount) → ((e k : ℕ) → old e k → new e k) → ((e k : ℕ) → new e k → old e k) → CountOf old c → CountOf new c
count_same old new No forth back none = λ d j x. none d j (back d j x)
count_same old new One forth back one = (one.0, one.1, forth one.0 one.1 one.2, λ e k x. one.3 e k (back e k x))
count_same old new Several forth back two = (two.0, two.1, two.2, two.3, forth two.0 two.1 two.4, forth two.2 two.3 two.5, two.6)

-- ---- by the order in which they are looked at

abbrev Before : ℕ → ℕ → ℕ → ℕ → Type 0
Before n x d j = (d < n) ⊎ ((d ≡ n) × (j < x))

before_next : (n x d j : ℕ) → Before n x d j → Before n (x + 1) d j
before_next n x d j (inl less) = inl less
before_next n x d j (inr at) = inr (at.0, (let less = at.1 in omega (arith, less)))

next_before : (n x d j : ℕ) → Before n (x + 1) d j → Before n x d j ⊎ ((d ≡ n) × (j ≡ x))
next_before n x d j (inl less) = inl (inl less)
next_before n x d j (inr at) = elim (cases_eq j x) [
  | inl same ↦ inr (at.0, same)
  | inr other ↦ inl (inr (at.0, (let less = at.1 in omega (arith, less, other))))
]

not_before : (n x : ℕ) → Before n x n x → ⊥
not_before n x (inl less) = omega (arith, less)
not_before n x (inr at) = let less = at.1 in omega (arith, less)

pub counted_entry : (shape : VolumeShape) (held : ℕ → Held) (n x i : ℕ) (counts : List NameCount) → Counted shape held n x counts → HasEntry held n x → entry_ino (held n) x ≡ i → i ≤ shape.inodes → Counted shape held n (x + 1) (slice_set counts i (one_more (slice_index_or counts i No)))
counted_entry shape held n x i counts h entry is within = record {
  len = length-set counts i (one_more (slice_index_or counts i No)) ∙ h.len;
  each = λ k ino. count_at k ino (cases_eq k i);
}
  where
    inside : i < length counts
    inside = let len = h.len in omega (arith, len, within)

    count_at : (k : ℕ) → IsIno shape k → (k ≡ i) ⊎ (k ≢ i) → CountOf (NamesBefore held n (x + 1) k) (slice_index_or (slice_set counts i (one_more (slice_index_or counts i No))) k No)
    count_at k ino (inl same) =
        subst (CountOf (NamesBefore held n (x + 1) k)) (sym (ap (λ y. slice_index_or (slice_set counts i (one_more (slice_index_or counts i No))) y No) same ∙ get_or-set_same counts i (one_more (slice_index_or counts i No)) No inside ∙ ap (λ y. one_more (slice_index_or counts y No)) (sym same)))
        (count_more (NamesBefore held n x k) (NamesBefore held n (x + 1) k) n x (slice_index_or counts k No) (record {
          keeps = λ d j at. record { names = at.names; before = before_next n x d j at.before };
          has = record { names = record { entry = entry; ino = is ∙ sym same }; before = inr (refl, omega arith) };
          back = λ d j at. elim (next_before n x d j at.before) [
            | inl before ↦ inl (record { names = at.names; before = before })
            | inr here ↦ inr here
          ];
          away = λ at. not_before n x at.before;
        }) (h.each k ino))
    count_at k ino (inr other) =
        subst (CountOf (NamesBefore held n (x + 1) k)) (sym (get_or-set_other counts i k (one_more (slice_index_or counts i No)) No other))
        (count_same (NamesBefore held n x k) (NamesBefore held n (x + 1) k) (slice_index_or counts k No)
        (λ d j at. record { names = at.names; before = before_next n x d j at.before })
        (λ d j at. elim (next_before n x d j at.before) [
          | inl before ↦ record { names = at.names; before = before }
          | inr here ↦ absurd (other (sym at.names.ino ∙ (λ q. entry_ino (held (here.0 q)) (here.1 q)) ∙ is))
        ])
        (h.each k ino))

-- all entries of node n are before entry x
abbrev pub EndsBefore : (ℕ → Held) → ℕ → ℕ → Type 0
EndsBefore held n x = (j : ℕ) → HasEntry held n j → j < x

pub counted_node : (shape : VolumeShape) (held : ℕ → Held) (n x : ℕ) (counts : List NameCount) → EndsBefore held n x → Counted shape held n x counts → Counted shape held (n + 1) 0 counts
counted_node shape held n x counts ends h = record {
  len = h.len;
  each = λ i ino. count_same (NamesBefore held n x i) (NamesBefore held (n + 1) 0 i) (slice_index_or counts i No) (λ d j at. record { names = at.names; before = inl (forth d j at.before) }) (λ d j at. record { names = at.names; before = back d j at.names.entry at.before (cases_eq d n) }) (h.each i ino);
}
  where
    forth : (d j : ℕ) → Before n x d j → d < n + 1
    forth d j (inl less) = omega (arith, less)
    forth d j (inr at) = let same = at.0 in omega (arith, same)

    back : (d j : ℕ) → HasEntry held d j → Before (n + 1) 0 d j → (d ≡ n) ⊎ (d ≢ n) → Before n x d j
    back d j entry (inl less) (inl same) = inr (same, ends j (subst (λ y. HasEntry held y j) same entry))
    back d j entry (inl less) (inr other) = inl (omega (arith, less, other))
    back d j entry (inr at) e = absurd (let none = at.1 in omega (arith, none))

pub counted_other : (shape : VolumeShape) (held : ℕ → Held) (n : ℕ) (counts : List NameCount) → (held n).kind ≢ 1 → Counted shape held n 0 counts → Counted shape held (n + 1) 0 counts
counted_other shape held n counts other h = counted_node shape held n 0 counts (λ j entry. absurd (other entry.dir)) h

replicated : (n i : ℕ) → slice_index_or (replicate n No) i No ≡ No
replicated zero i = refl
replicated (suc n) zero = refl
replicated (suc n) (suc i) = replicated n i

replicate_long : (n : ℕ) → length (replicate n No) ≡ n
replicate_long zero = refl
replicate_long (suc n) = let rest = replicate_long n in omega (arith, rest)

pub counted_none : (shape : VolumeShape) (held : ℕ → Held) (counts : List NameCount) → HoldsWithin shape held → counts ≡ replicate (shape.inodes + 1) No → Counted shape held 1 0 counts
counted_none shape held counts within is = subst (λ cs. Counted shape held 1 0 cs) (sym is) (record {
  len = replicate_long (shape.inodes + 1);
  each = λ i ino. subst (CountOf (NamesBefore held 1 0 i)) (sym (replicated (shape.inodes + 1) i)) (λ d j at. none d j at.names.entry at.before);
})
  where
    none : (d j : ℕ) → HasEntry held d j → Before 1 0 d j → ⊥
    none d j entry (inl less) = let zero_is : d ≡ 0 = omega (arith, less) in let free = within d (inl zero_is) in let dir = entry.dir in omega (arith, free, dir)
    none d j entry (inr at) = let no = at.1 in omega (arith, no)

pub counted_all : (shape : VolumeShape) (held : ℕ → Held) (counts : List NameCount) (i : ℕ) → HoldsWithin shape held → Counted shape held (shape.inodes + 1) 0 counts → IsIno shape i → CountOf (Names held i) (slice_index_or counts i No)
counted_all shape held counts i within h ino = count_same (NamesBefore held (shape.inodes + 1) 0 i) (Names held i) (slice_index_or counts i No) (λ d j at. at.names) (λ d j names. record { names = names; before = inl (let is = ino_held shape held d within (let dir = names.entry.dir in omega (arith, dir)) in let to = is.to in omega (arith, to)) }) (h.each i ino)
