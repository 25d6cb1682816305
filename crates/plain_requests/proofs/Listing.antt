-- Rows in the order of their keys, and the names of a directory among them.
use Rattle.plain_requests.proofs.Common.{◌≡◌, ◌≢◌, ◌==◌, ◌<◌, ◌≤◌, ◌+◌, ◌-◌, ℕ, Bool, true, false, cond, List, [], ◌∷◌, ◌++◌, length, map, take, drop, get_or, refl, sym, ap, ◌∙◌, arith, put, drop_more, drop_all, name_cmp, row_entries}
use Rattle.std.proofs.Common.{rules, set, append_assoc}
use Rattle.std.specs.Prelude.{filter}
use Rattle.std.specs.List.{AllZip, each_same}
use Rattle.std.specs.declared.cmp.Ordering.TheVariants.{Less, Equal}
use Rattle.std.specs.FinMap.{empty, entries, from_entries, len-entries, len-empty}
use Rattle.std.specs.FinMap.Entries.{by_order}
use Rattle.std.proofs.lemmas.List.{map-append, take_more, take_all, get_or_default, take_more_set, take-append-drop, drop-set-lt}
use Rattle.std.proofs.lemmas.List.Elements.{filter-append}
use Rattle.rio_model.specs.Names.{NameKey, Names, row_entry}
use Rattle.rio_model.specs.declared.rows.NameRow.{NameRow}
use Rattle.rio_model.proofs.NameOrder.{name_entries-insert}

no_entries : {A : Type 0} (es : List A) → length es ≡ 0 → es ≡ []
no_entries [] e = refl
no_entries (x ∷ es) e = absurd (omega arith)

abbrev pub no_names : Names
no_names = empty

pub entries-empty : entries no_names ≡ []
entries-empty = no_entries _ (sym (len-entries no_names) ∙ len-empty name_cmp ℕ)

pub entries-more : (rows : List NameRow) (i : ℕ) (row : NameRow) → i < length rows → row ≡ get_or rows i row → put name_cmp (row_entry row).0 row.ino.0 (entries (from_entries {R = name_cmp} (row_entries (drop (i + 1) rows)))) ≡ entries (from_entries {R = name_cmp} (row_entries (drop i rows)))
entries-more rows i row below is =
    sym (name_entries-insert _ _ _) ∙ ap (λ rs. entries (from_entries {R = name_cmp} (row_entries rs))) (sym (drop_more rows i row below ∙ ap (λ r. r ∷ drop (i + 1) rows) (sym is)))

-- one row more is put among those in order
pub placed_next : (rows : List NameRow) (left : ℕ) (row copy : NameRow) (placed new : List (NameKey × ℕ)) → 0 < left → left ≤ length rows → row ≡ get_or rows (left - 1) row → copy ≡ row → placed ≡ entries (from_entries {R = name_cmp} (row_entries (drop left rows))) → new ≡ put name_cmp (row_entry copy).0 copy.ino.0 placed → new ≡ entries (from_entries {R = name_cmp} (row_entries (drop (left - 1) rows)))
placed_next rows left row copy placed new some within is same known made =
    let e : left ≡ (left - 1) + 1 = omega arith in
    let below : left - 1 < length rows = omega arith in
    made
    ∙ ap (λ (r : NameRow). put name_cmp (row_entry r).0 r.ino.0 placed) same
    ∙ ap (put name_cmp (row_entry row).0 row.ino.0) (known ∙ ap (λ n. entries (from_entries {R = name_cmp} (row_entries (drop n rows)))) e)
    ∙ entries-more rows (left - 1) row below is

pub none_placed : (rows made : List NameRow) → made ≡ [] → row_entries made ≡ entries (from_entries {R = name_cmp} (row_entries (drop (length rows) rows)))
none_placed rows made is = ap row_entries is ∙ sym (ap (λ rs. entries (from_entries {R = name_cmp} (row_entries rs))) (drop_all (length rows) rows (omega arith)) ∙ entries-empty)

-- where a row goes before the first of those that are left, takes its place, and behind all
goes_before : (row other : NameRow) (ds rest : List NameRow) → ds ≡ other ∷ rest → Less ≡ name_cmp (row_entry row).0 (row_entry other).0 → put name_cmp (row_entry row).0 row.ino.0 (row_entries ds) ≡ row_entry row ∷ row_entries ds
goes_before row other ds rest is less =
    ap (λ rs. put name_cmp (row_entry row).0 row.ino.0 (row_entries rs)) is
    ∙ ap (λ o. by_order o (row_entry row ∷ row_entries (other ∷ rest)) (((row_entry other).0, row.ino.0) ∷ row_entries rest) (row_entry other ∷ put name_cmp (row_entry row).0 row.ino.0 (row_entries rest))) (sym less)
    ∙ ap (λ rs. row_entry row ∷ row_entries rs) (sym is)

takes_place : (row other : NameRow) (ds rest : List NameRow) → ds ≡ other ∷ rest → Equal ≡ name_cmp (row_entry row).0 (row_entry other).0 → put name_cmp (row_entry row).0 row.ino.0 (row_entries ds) ≡ ((row_entry other).0, row.ino.0) ∷ row_entries rest
takes_place row other ds rest is same =
    ap (λ rs. put name_cmp (row_entry row).0 row.ino.0 (row_entries rs)) is
    ∙ ap (λ o. by_order o (row_entry row ∷ row_entries (other ∷ rest)) (((row_entry other).0, row.ino.0) ∷ row_entries rest) (row_entry other ∷ put name_cmp (row_entry row).0 row.ino.0 (row_entries rest))) (sym same)

at_drop : (rows : List NameRow) (i : ℕ) (row : NameRow) → i < length rows → row ≡ get_or rows i row → drop i rows ≡ row ∷ drop (i + 1) rows
at_drop rows i row below is = drop_more rows i row below ∙ ap (λ r. r ∷ drop (i + 1) rows) (sym is)

pub put-less : (rows : List NameRow) (i : ℕ) (row other : NameRow) → i < length rows → other ≡ get_or rows i other → Less ≡ name_cmp (row_entry row).0 (row_entry other).0 → row_entries (take i rows ++ row ∷ drop i rows) ≡ row_entries (take i rows) ++ put name_cmp (row_entry row).0 row.ino.0 (row_entries (drop i rows))
put-less rows i row other below is less =
    map-append row_entry (take i rows) (row ∷ drop i rows) ∙ ap (λ es. row_entries (take i rows) ++ es) (sym (goes_before row other _ _ (at_drop rows i other below is) less))

pub put-equal : (rows : List NameRow) (i : ℕ) (row other placed : NameRow) → i < length rows → other ≡ get_or rows i other → Equal ≡ name_cmp (row_entry row).0 (row_entry other).0 → row_entry placed ≡ ((row_entry other).0, row.ino.0) → row_entries (take i rows ++ placed ∷ drop (i + 1) rows) ≡ row_entries (take i rows) ++ put name_cmp (row_entry row).0 row.ino.0 (row_entries (drop i rows))
put-equal rows i row other placed below is same changed =
    map-append row_entry (take i rows) (placed ∷ drop (i + 1) rows)
    ∙ ap (λ e. row_entries (take i rows) ++ e ∷ row_entries (drop (i + 1) rows)) changed
    ∙ ap (λ es. row_entries (take i rows) ++ es) (sym (takes_place row other _ _ (at_drop rows i other below is) same))

set_split : (rows : List NameRow) (i : ℕ) (row : NameRow) → i < length rows → set rows i row ≡ take i rows ++ row ∷ drop (i + 1) rows
set_split rows i row below =
    sym (take-append-drop (i + 1) (set rows i row))
    ∙ ap (λ xs. xs ++ drop (i + 1) (set rows i row)) (take_more_set rows i row below)
    ∙ ap (λ xs. (take i rows ++ row ∷ []) ++ xs) (drop-set-lt (i + 1) rows i row (omega arith))
    ∙ append_assoc (take i rows) (row ∷ []) (drop (i + 1) rows)

-- two reads of one place
pub same_read : (rows : List NameRow) (i : ℕ) (a b : NameRow) → i < length rows → a ≡ get_or rows i a → b ≡ get_or rows i b → a ≡ b
same_read rows i a b below p q = p ∙ get_or_default rows i a b below ∙ sym q

pub put-set : (rows : List NameRow) (i : ℕ) (row other placed : NameRow) → i < length rows → other ≡ get_or rows i other → Equal ≡ name_cmp (row_entry row).0 (row_entry other).0 → row_entry placed ≡ ((row_entry other).0, row.ino.0) → row_entries (set rows i placed) ≡ row_entries (take i rows) ++ put name_cmp (row_entry row).0 row.ino.0 (row_entries (drop i rows))
put-set rows i row other placed below is same changed = ap row_entries (set_split rows i placed below) ∙ put-equal rows i row other placed below is same changed

pub put-end : (rows : List NameRow) (i : ℕ) (row : NameRow) → length rows ≤ i → row_entries (rows ++ row ∷ []) ≡ row_entries (take i rows) ++ put name_cmp (row_entry row).0 row.ino.0 (row_entries (drop i rows))
put-end rows i row past =
    map-append row_entry rows (row ∷ [])
    ∙ ap (λ rs. row_entries rs ++ row_entry row ∷ []) (sym (take_all i rows past))
    ∙ ap (λ rs. row_entries (take i rows) ++ put name_cmp (row_entry row).0 row.ino.0 (row_entries rs)) (sym (drop_all i rows past))

abbrev pub names_among : ℕ → List NameRow → List (List ℕ)
names_among dir rows = map (λ key. key.1) (filter (λ (key : NameKey). key.0 == dir) (map (λ e. e.0) (row_entries rows)))

names_among-append : (dir : ℕ) (xs ys : List NameRow) → names_among dir (xs ++ ys) ≡ names_among dir xs ++ names_among dir ys
names_among-append dir xs ys =
    ap (λ es. map (λ (key : NameKey). key.1) (filter (λ (key : NameKey). key.0 == dir) (map (λ (e : NameKey × ℕ). e.0) es))) (map-append row_entry xs ys)
    ∙ ap (λ ks. map (λ (key : NameKey). key.1) (filter (λ (key : NameKey). key.0 == dir) ks)) (map-append (λ (e : NameKey × ℕ). e.0) (row_entries xs) (row_entries ys))
    ∙ ap (map (λ (key : NameKey). key.1)) (filter-append (λ (key : NameKey). key.0 == dir) _ _)
    ∙ map-append (λ (key : NameKey). key.1) _ _

names_among_one : (dir : ℕ) (row : NameRow) (b : Bool) → row.dir.0 == dir ≡ b → names_among dir (row ∷ []) ≡ cond b (row.name ∷ []) []
names_among_one dir row b e = ap (λ t. map (λ (key : NameKey). key.1) (cond t ((row_entry row).0 ∷ []) [])) e ∙ elim b as (λ t. map (λ (key : NameKey). key.1) (cond t ((row_entry row).0 ∷ []) []) ≡ cond t (row.name ∷ []) []) [ true ↦ refl | false ↦ refl ]

names_among-more : (dir : ℕ) (rows : List NameRow) (i : ℕ) (row : NameRow) (b : Bool) → i < length rows → row ≡ get_or rows i row → row.dir.0 == dir ≡ b → names_among dir (take (i + 1) rows) ≡ names_among dir (take i rows) ++ cond b (row.name ∷ []) []
names_among-more dir rows i row b below is e =
    ap (names_among dir) (take_more rows i row below ∙ ap (λ r. take i rows ++ r ∷ []) (sym is)) ∙ names_among-append dir _ _ ∙ ap (λ ns. names_among dir (take i rows) ++ ns) (names_among_one dir row b e)

-- a row of the directory adds a copy of its name, and another row adds nothing
pub names_among_copied : (dir : ℕ) (rows : List NameRow) (i : ℕ) (row : NameRow) (copy : List ℕ) → i < length rows → row ≡ get_or rows i row → row.dir.0 ≡ dir → AllZip (λ x y. y ≡ x) row.name copy → names_among dir (take (i + 1) rows) ≡ names_among dir (take i rows) ++ copy ∷ []
names_among_copied dir rows i row copy below is e copied =
    names_among-more dir rows i row true below is (search (rules, e)) ∙ ap (λ n. names_among dir (take i rows) ++ n ∷ []) (sym (each_same _ _ copied))

pub names_among_passed : (dir : ℕ) (rows : List NameRow) (i : ℕ) (row : NameRow) → i < length rows → row ≡ get_or rows i row → row.dir.0 ≢ dir → names_among dir (take (i + 1) rows) ≡ names_among dir (take i rows)
names_among_passed dir rows i row below is other =
    names_among-more dir rows i row false below is (search (rules, other)) ∙ search rules
