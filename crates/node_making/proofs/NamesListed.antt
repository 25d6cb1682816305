-- The names of a directory's rows, in byte order, are those that the state has in it.
use Rattle.request_ends.proofs.Common.{◌≡◌, ◌≢◌, ℕ, ◌+◌, ◌*◌, ◌/◌, ◌%◌, ◌<◌, Bool, true, false, cond, List, [], ◌∷◌, length, map, get_or, Option, refl, sym, ap, subst, ◌∙◌, arith, inl, inr, All, get, AllByRecursion, Contains, list_any, range_with_len, eq_by_cmp, is_eq, Ordering, Less, Equal, Greater, cases_Bool, length-map-range_with_len, get_or-map-range_with_len, none-some, true_false, State, names_in, Held, entry_name, Reads, NamesApartRule, Result, Ok, VolumeShape, BlockWords, answered, at_inode, held_of, names_of, walk_to_dir, ReadsAs}
use Rattle.std.proofs.Common.{Some, None}
use Rattle.std.specs.Prelude.{◌||◌, ◌&&◌, T}
use Rattle.std.specs.Cmp.{eq_by_cmp_equiv}
use Rattle.std.specs.Cmp.Lexicographic.{slice_cmp, nat_list_cmp_total}
use Rattle.std.specs.FinMap.{find, is_sorted}
use Rattle.std.specs.FinMap.Entries.{below_all}
use Rattle.std.specs.List.{IsDistinct}
use Rattle.std.specs.List.Sorted.{IsSorted, IsStrictlySortedBy}
use Rattle.std.specs.Option.{unwrap_or}
use Rattle.std.specs.Ordering.{nat_cmp, is_lt, ordering_reverse}
use Rattle.std.proofs.lemmas.List.Elements.{All-contains, All-from_get_or, Contains-get_or}
use Rattle.std.proofs.lemmas.List.Sorted.{All-permutation, Contains-permutation}
use Rattle.std.proofs.lemmas.Map.Keys.{IsDistinct-from_apart, IsDistinct-IsPermutation, apart_from_distinct, sorted_from_all_adjacent}
use Rattle.std.proofs.lemmas.Map.Lookups.{exact_bytes}
use Rattle.std.proofs.lemmas.Map.Views.{Contains-from_any, list_any-from_Contains}
use Rattle.rio_model.proofs.InDirectory.{names_in-is}
use Rattle.file_tree.proofs.RowReads.{rows_of_reads}
use Rattle.directories.specs.Rows.{NamesApart, ListsNames}
use Rattle.rio_requests.specs.declared.reply.Reply.TheVariants.{Names as NamesOf}
use Rattle.rio_requests.specs.Answers.{list}
use Rattle.file_tree.proofs.ReadTrees.{dir_whole}
use Rattle.region_view.proofs.UsedInodes.{used_ino}

abbrev by_bytes : List ℕ → List ℕ → Ordering
by_bytes = slice_cmp nat_cmp

abbrev same_bytes : List ℕ → List ℕ → Bool
same_bytes = eq_by_cmp by_bytes

one_name : (a b : List ℕ) → same_bytes a b ≡ true → a ≡ b
one_name a b e = exact_bytes a b (equal _ e)
  where
    equal : (o : Ordering) → is_eq o ≡ true → o ≡ Equal
    equal Less h = absurd (true_false (sym h))
    equal Equal h = refl
    equal Greater h = absurd (true_false (sym h))

names_differ : (a b : List ℕ) → a ≢ b → same_bytes a b ≡ false
names_differ a b away = elim (cases_Bool (same_bytes a b)) [
  | inl same ↦ absurd (away (one_name a b same))
  | inr other ↦ other
]

-- ---- names in order that differ rise

rises : (a b : List ℕ) (r : Ordering) → by_bytes a b ≡ r → is_lt (by_bytes b a) ≡ false → same_bytes a b ≡ false → r ≡ Less
rises a b Less e order apart = refl
rises a b Equal e order apart = absurd (true_false (ap is_eq (sym e) ∙ apart))
rises a b Greater e order apart = absurd (true_false (sym (ap is_lt (nat_list_cmp_total.antisymm b a ∙ ap ordering_reverse e)) ∙ order))

strictly : (names : List (List ℕ)) → IsSorted by_bytes names → IsDistinct same_bytes names → IsStrictlySortedBy by_bytes names
strictly names order apart = sorted_from_all_adjacent nat_list_cmp_total names [] (λ k within. rises (get_or names k []) (get_or names (k + 1) []) _ refl (order k [] (omega arith) within) (apart_from_distinct same_bytes names k (k + 1) [] apart (omega arith) within))

-- ---- names with what each of them names

abbrev pairs : (List ℕ → ℕ) → List (List ℕ) → List (List ℕ × ℕ)
pairs value names = map (λ name. (name, value name)) names

both : (a b : Bool) → T a → T b → T (a && b)
both true b p q = q
both false b p q = absurd p

below_pairs : (value : List ℕ → ℕ) (name : List ℕ) (names : List (List ℕ)) → AllByRecursion (λ y. by_bytes name y ≡ Less) names → T (below_all by_bytes name (pairs value names))
below_pairs value name [] h = tt
below_pairs value name (x ∷ xs) h = both _ _ (subst (λ r. T (is_lt r)) (sym h.0) tt) (below_pairs value name xs h.1)

sorted_pairs : (value : List ℕ → ℕ) (names : List (List ℕ)) → IsStrictlySortedBy by_bytes names → T (is_sorted by_bytes (pairs value names))
unfolding IsStrictlySortedBy
sorted_pairs value [] s = tt
sorted_pairs value (x ∷ xs) s = both _ _ (below_pairs value x xs s.0) (sorted_pairs value xs s.1)

find_next : (value : List ℕ → ℕ) (q x : List ℕ) (rest : Option ℕ) (b c : Bool) → same_bytes q x ≡ b → rest ≡ cond c (Some (value q)) None → cond b (Some (value x)) rest ≡ cond (b || c) (Some (value q)) None
find_next value q x rest true c e r = ap (λ n. Some (value n)) (sym (one_name q x e))
find_next value q x rest false c e r = r

find_pairs : (value : List ℕ → ℕ) (q : List ℕ) (names : List (List ℕ)) → find by_bytes q (pairs value names) ≡ cond (list_any (same_bytes q) names) (Some (value q)) None
find_pairs value q [] = refl
find_pairs value q (x ∷ xs) = find_next value q x _ _ _ refl (find_pairs value q xs)

-- ---- the names of the slots

abbrev slot_names : Held → List (List ℕ)
slot_names h = map (entry_name h) (range_with_len 0 (h.size / 64))

slot_name : (h : Held) (j : ℕ) (d : List ℕ) → j < h.size / 64 → get_or (slot_names h) j d ≡ entry_name h j
slot_name h j d within = get_or-map-range_with_len (entry_name h) 0 (h.size / 64) j j d within (omega arith)

slots_many : (h : Held) → length (slot_names h) ≡ h.size / 64
slots_many h = length-map-range_with_len (entry_name h) 0 (h.size / 64)

slots_differ : (h : Held) → NamesApart h → IsDistinct same_bytes (slot_names h)
slots_differ h apart = IsDistinct-from_apart same_bytes (slot_names h) (λ i j d less within.
    let in_j : j < h.size / 64 = omega (arith, within, slots_many h) in
    let in_i : i < h.size / 64 = omega (arith, less, in_j) in
    ap (λ a. same_bytes a (get_or (slot_names h) j d)) (slot_name h i d in_i) ∙ ap (same_bytes (entry_name h i)) (slot_name h j d in_j)
    ∙ names_differ _ _ (λ e. let same = apart i j (omega (arith, in_i)) (omega (arith, in_j)) e in omega (arith, same, less)))

has_slot : (h : Held) (j : ℕ) → h.size % 64 ≡ 0 → 64 * j < h.size → Contains (slot_names h) (entry_name h j)
has_slot h j whole within =
    let below : j < h.size / 64 = omega (arith, whole, within) in
    subst (Contains (slot_names h)) (slot_name h j [] below) (Contains-get_or (slot_names h) j [] (omega (arith, below, slots_many h)))

-- ---- the names of a directory

pub names_listed : (h : ℕ → Held) (s : State) (d : ℕ) (names : List (List ℕ)) → Reads h s → NamesApartRule h → (h d).kind ≡ 1 → (h d).size % 64 ≡ 0 → ListsNames (h d) names → names ≡ names_in s d
names_listed h s d names r apart dir whole lists = sym (names_in-is s d (pairs value names) (sorted_pairs value names (strictly names lists.order distinct)) (λ n. each n _ refl) ∙ firsts names)
  where
    value : List ℕ → ℕ
    value n = unwrap_or (get s.names (d, n)) 0

    distinct : IsDistinct same_bytes names
    distinct = IsDistinct-IsPermutation same_bytes (eq_by_cmp_equiv nat_list_cmp_total).symm (slot_names (h d)) names lists.all (slots_differ (h d) (λ a b in_a in_b. apart.each d a b (record { dir = dir; within = in_a }) (record { dir = dir; within = in_b })))

    listed : (n : List ℕ) (i : ℕ) → get s.names (d, n) ≡ Some i → Contains names n
    listed n i e = let at = (rows_of_reads h s r).back d n i e in Contains-permutation (slot_names (h d)) names n lists.all (subst (Contains (slot_names (h d))) at.1.1.named (has_slot (h d) at.1.0 whole at.1.1.within))

    slot_some : (j : ℕ) → j < length (slot_names (h d)) → get s.names (d, get_or (slot_names (h d)) j []) ≢ None
    slot_some j within none =
        let below : j < (h d).size / 64 = omega (arith, within, slots_many (h d)) in
        none-some _ (sym none ∙ ap (λ n. get s.names (d, n)) (slot_name (h d) j [] below) ∙ r.entries d j (record { dir = dir; within = omega (arith, below) }))

    some : All (λ n. get s.names (d, n) ≢ None) names
    some = All-permutation (λ n. get s.names (d, n) ≢ None) (slot_names (h d)) names lists.all (All-from_get_or (λ n. get s.names (d, n) ≢ None) (slot_names (h d)) [] slot_some)

    each : (n : List ℕ) (o : Option ℕ) → get s.names (d, n) ≡ o → get s.names (d, n) ≡ find by_bytes n (pairs value names)
    each n (Some i) e = e ∙ ap Some (ap (λ x. unwrap_or x 0) (sym e)) ∙ sym (find_pairs value n names ∙ ap (λ b. cond b (Some (value n)) None) (list_any-from_Contains (eq_by_cmp_equiv nat_list_cmp_total) n names (listed n i e)))
    each n None e = e ∙ sym (find_pairs value n names ∙ elim (cases_Bool (list_any (same_bytes n) names)) [
      | inl has ↦ absurd (All-contains (λ x. get s.names (d, x) ≢ None) names n some (Contains-from_any one_name n names has) e)
      | inr has_none ↦ ap (λ b. cond b (Some (value n)) None) has_none
    ])

    firsts : (ns : List (List ℕ)) → map (λ (e : List ℕ × ℕ). e.0) (pairs value ns) ≡ ns
    firsts [] = refl
    firsts (n ∷ ns) = ap (λ xs. n ∷ xs) (firsts ns)

-- what a request to list them answers
pub list_answer : (shape : VolumeShape) (f : BlockWords) (s : State) (path : List ℕ) (d : ℕ) (names : List (List ℕ)) → ReadsAs shape f s → walk_to_dir s (names_of path) ≡ Ok d → (held_of shape f d).kind ≡ 1 → ListsNames (held_of shape f d) names → list s path ≡ answered s (NamesOf names)
list_answer shape f s path d names reads at dir lists =
    ap (λ (w : Result ℕ ℕ). at_inode s w (λ n. answered s (NamesOf (names_in s n)))) at
    ∙ ap (λ ns. answered s (NamesOf ns)) (sym (names_listed (held_of shape f) s d names reads.reads reads.apart dir (dir_whole shape f s d reads (used_ino shape f d (subst (λ n. 0 < n) (sym dir) (omega arith))) dir) lists))
