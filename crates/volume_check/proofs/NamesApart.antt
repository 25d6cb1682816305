-- Rule 9, by the sorted names of a directory.
use Rattle.rio_model.proofs.Common.{◌≡◌, ◌⊎◌, ℕ, ◌+◌, ◌*◌, ◌/◌, ◌%◌, ◌<◌, ◌≤◌, ◌∙◌, List, [], map, sym, ap, subst, arith, inl, inr, length, slice_index, range_with_len}
use Rattle.std.proofs.Common.{◌^◌}
use Rattle.std.specs.Prelude.{slice_index_or}
use Rattle.std.proofs.lemmas.List.FromFn.{get_or-map-range_with_len, length-map-range_with_len}
use Rattle.rio_model.specs.Held.{HasEntry, Held, entry_name}
use Rattle.rio_model.specs.VolumeRules.{EntryRule, ApartAt}
use Rattle.volume_check.specs.Entries.{AllDiffer, HasEntries, name_in, name_words}
use Rattle.volume_check.proofs.EntryBytes.{entry_within, length_same, names_same, within_entry}
use Rattle.volume_check.proofs.NameSorts.{words_apart}

-- the words of the name of entry j
abbrev pub name_at : List ℕ → ℕ → List ℕ
name_at words j = name_words (name_in (slice_index words) j)

-- those of all entries
abbrev pub names_at : List ℕ → List (List ℕ)
names_at words = map (name_at words) (range_with_len 0 (length words / 8))

pub short_names : (held : ℕ → Held) (d : ℕ) (words : List ℕ) → EntryRule held → (held d).kind ≡ 1 → HasEntries (held d) words → (j : ℕ) → 8 * j + 8 ≤ length words → slice_index words (8 * j) / 2 ^ 32 % 2 ^ 8 ≤ 56
short_names held d words rule dir has j within = subst (λ n. n ≤ 56) (length_same (held d) words j has within) (rule.each d j (record { dir = dir; within = within_entry (held d) words j has within })).0.few

name_is : (held : ℕ → Held) (d : ℕ) (words : List ℕ) (j : ℕ) → EntryRule held → HasEntries (held d) words → HasEntry held d j → slice_index_or (names_at words) j [] ≡ name_words (entry_name (held d) j)
name_is held d words j rule has at =
    let within = entry_within (held d) words j has at.within in
    get_or-map-range_with_len (name_at words) 0 (length words / 8) j j [] (omega (arith, within)) (omega arith) ∙ ap name_words (names_same (held d) words j has within (rule.each d j at).0.few)

order : (a b : ℕ) → (a < b) ⊎ (a ≡ b) ⊎ (b < a)
order a b = grind arith

names_long : (words : List ℕ) → length (names_at words) ≡ length words / 8
names_long words = length-map-range_with_len (name_at words) 0 (length words / 8)

pub apart_by : (held : ℕ → Held) (d : ℕ) (words : List ℕ) → EntryRule held → HasEntries (held d) words → AllDiffer (names_at words) → ApartAt held d
apart_by held d words rule has differ j k at on e = by (order j k)
  where
    clash : (x y : ℕ) → HasEntry held d x → HasEntry held d y → entry_name (held d) x ≡ entry_name (held d) y → x < y → ⊥
    clash x y at on e less =
        differ x y less (let long = names_long words in let inside = entry_within (held d) words y has on.within in omega (arith, long, inside)) (name_is held d words x rule has at ∙ ap name_words e ∙ sym (name_is held d words y rule has on))

    by : (j < k) ⊎ (j ≡ k) ⊎ (k < j) → j ≡ k
    by (inl less) = absurd (clash j k at on e less)
    by (inr (inl same)) = same
    by (inr (inr more)) = absurd (clash k j on at (sym e) more)

-- no directory, no entries
pub apart_none : (held : ℕ → Held) (d k : ℕ) → (held d).kind ≡ k → (k ≡ 1 → ⊥) → ApartAt held d
apart_none held d k is other x y at on same = absurd (other (sym is ∙ at.dir))

pub differ_at : (held : ℕ → Held) (d : ℕ) (words : List ℕ) → EntryRule held → (held d).kind ≡ 1 → HasEntries (held d) words → ApartAt held d → AllDiffer (names_at words)
differ_at held d words rule dir has apart j k less small same =
    let one = entry j (omega (arith, less, small)) in
    let other = entry k small in
    let equal = apart j k one other (words_apart _ _ (rule.each d j one).0 (rule.each d k other).0 (sym (name_is held d words j rule has one) ∙ same ∙ name_is held d words k rule has other)) in
    omega (arith, less, equal)
  where
    entry : (x : ℕ) → x < length (names_at words) → HasEntry held d x
    entry x small = let long = names_long words in record { dir = dir; within = within_entry (held d) words x has (omega (arith, long, small)) }
