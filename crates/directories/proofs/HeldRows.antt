-- Rows of a directory put one after the other are all its rows.
use Rattle.directories.proofs.Common.{◌≡◌, ℕ, zero, suc, ◌+◌, ◌/◌, ◌%◌, ◌^◌, ◌<◌, ◌≤◌, ◌⊎◌, Bool, true, false, cond, List, [], ◌∷◌, map, refl, sym, ap, subst, ◌∙◌, arith, inl, inr, slice_index, Some, None, Result, range_with_len, cases_lt, Held, entry_ino, entry_name}
use Rattle.std.proofs.Common.{◌++◌, is_some, true≢false, unwrap_or}
use Rattle.std.specs.Prelude.{OnOk}
use Rattle.std.specs.Cmp.Lexicographic.{slice_cmp, nat_list_cmp_total, bytes_decides}
use Rattle.std.specs.FinMap.{empty, get, get-empty, get-insert, insert}
use Rattle.std.specs.Ordering.{eq_by_cmp, nat_cmp}
use Rattle.std.specs.Str.{bytes_eq}
use Rattle.std.proofs.lemmas.List.FromFn.{map-range_with_len_more}
use Rattle.std.proofs.lemmas.Map.Text.{is_eq-slice_cmp}
use Rattle.name_index.specs.Rows.{NamesOfDir}
use Rattle.directories.specs.Entries.{name_in}
use Rattle.directories.specs.Rows.{HasRow, HoldsRows, NamesApart}
use Rattle.directories.proofs.EntryRead.{IsSlot}

-- the row of slot j of a directory
abbrev pub row_of : Held → ℕ → List ℕ × ℕ
row_of h j = (entry_name h j, entry_ino h j)

-- rows put one after the other
abbrev pub put_rows : NamesOfDir → List (List ℕ × ℕ) → NamesOfDir
put_rows names [] = names
put_rows names (row ∷ rows) = put_rows (insert names row.0 row.1) rows

-- one row more
pub put_more : (names : NamesOfDir) (rows : List (List ℕ × ℕ)) (row : List ℕ × ℕ) → put_rows names (rows ++ row ∷ []) ≡ insert (put_rows names rows) row.0 row.1
put_more names [] row = refl
put_more names (r ∷ rows) row = put_more (insert names r.0 r.1) rows row

-- a row told by other terms
pub put_as : {E : Type 0} (old new : NamesOfDir) (a b : List ℕ) (i j : ℕ) (r : Result (Unit {0}) E) → OnOk r (new ≡ insert old a i) → a ≡ b → i ≡ j → OnOk r (new ≡ insert old b j)
put_as old new a b i j r h same at = subst (λ k. OnOk r (new ≡ insert old b k)) at (subst (λ n. OnOk r (new ≡ insert old n i)) same h)

-- the row of an entry that was read, behind those of the slots before
pub rows_next : (h : Held) (n : ℕ) (old new : NamesOfDir) (words : List ℕ) → old ≡ put_rows empty (map (row_of h) (range_with_len 0 n)) → new ≡ insert old (name_in (slice_index words) 0) (slice_index words 0 % 2 ^ 32) → IsSlot h n words → new ≡ put_rows empty (map (row_of h) (range_with_len 0 (n + 1)))
rows_next h n old new words so more is =
    more
    ∙ ap (λ name. insert old name (slice_index words 0 % 2 ^ 32)) is.named
    ∙ ap (insert old (entry_name h n)) is.ino
    ∙ ap (λ names. insert names (entry_name h n) (entry_ino h n)) so
    ∙ sym (put_more empty (map (row_of h) (range_with_len 0 n)) (row_of h n))
    ∙ ap (put_rows empty) (sym (map-range_with_len_more (row_of h) 0 n n (omega arith)))

none_some : {A : Type 0} {x : A} → None ≡ Some x → ⊥
none_some e = true≢false (sym (ap is_some e))

same_some : (x y : ℕ) → Some x ≡ Some y → x ≡ y
same_some x y e = ap (λ o. unwrap_or o x) e

-- what is held of the first n slots
pub record HoldsFirst (h : Held) (n : ℕ) (names : NamesOfDir) : Type 0 where
  pub has : (j : ℕ) → j < n → get names (entry_name h j) ≡ Some (entry_ino h j)
  pub only : (name : List ℕ) (i : ℕ) → get names name ≡ Some i → (j : ℕ) × (j < n) × (entry_name h j ≡ name) × (entry_ino h j ≡ i)

tied : (a b : List ℕ) → eq_by_cmp (slice_cmp nat_cmp) a b ≡ bytes_eq a b
tied a b = is_eq-slice_cmp a b

first_none : (h : Held) → HoldsFirst h 0 empty
first_none h = record {
  has = λ j low. absurd (omega (arith, low));
  only = λ name i is. absurd (none_some (sym (get-empty (slice_cmp nat_cmp) name) ∙ is));
}

-- one slot more, whose name no other has
first_more : (h : Held) (n : ℕ) (names : NamesOfDir) → ((j : ℕ) → j < n → entry_name h j ≡ entry_name h n → ⊥) → HoldsFirst h n names → HoldsFirst h (n + 1) (insert names (entry_name h n) (entry_ino h n))
first_more h n names apart holds = record { has = λ j low. has j low (cases_lt j n); only = λ name i is. only name i (bytes_eq name (entry_name h n)) refl is }
  where
    put : NamesOfDir
    put = insert names (entry_name h n) (entry_ino h n)

    at : (name : List ℕ) (b : Bool) → bytes_eq name (entry_name h n) ≡ b → get put name ≡ cond b (Some (entry_ino h n)) (get names name)
    at name b e = get-insert nat_list_cmp_total names (entry_name h n) (entry_ino h n) name ∙ ap (λ t. cond t (Some (entry_ino h n)) (get names name)) (tied name (entry_name h n) ∙ e)

    other : (j : ℕ) → j < n → (b : Bool) → bytes_eq (entry_name h j) (entry_name h n) ≡ b → get put (entry_name h j) ≡ Some (entry_ino h j)
    other j low true e = absurd (apart j low ((bytes_decides (entry_name h j) (entry_name h n)).0 e))
    other j low false e = at (entry_name h j) false e ∙ holds.has j low

    has : (j : ℕ) → j < n + 1 → (j < n) ⊎ (n ≤ j) → get put (entry_name h j) ≡ Some (entry_ino h j)
    has j low (inl below) = other j below (bytes_eq (entry_name h j) (entry_name h n)) refl
    has j low (inr past) =
        let is : n ≡ j = omega (arith, low, past) in
        subst (λ k. get put (entry_name h k) ≡ Some (entry_ino h k)) is (at (entry_name h n) true ((bytes_decides (entry_name h n) (entry_name h n)).1 refl))

    only : (name : List ℕ) (i : ℕ) (b : Bool) → bytes_eq name (entry_name h n) ≡ b → get put name ≡ Some i → (j : ℕ) × (j < n + 1) × (entry_name h j ≡ name) × (entry_ino h j ≡ i)
    only name i true e is = (n, omega arith, sym ((bytes_decides name (entry_name h n)).0 e), same_some _ _ (sym (at name true e) ∙ is))
    only name i false e is = let p = holds.only name i (sym (at name false e) ∙ is) in (p.0, omega (arith, p.1), p.2, p.3)

-- the rows of the first n slots
rows_first : (h : Held) (n : ℕ) → ((a b : ℕ) → a < n → b < n → entry_name h a ≡ entry_name h b → a ≡ b) → HoldsFirst h n (put_rows empty (map (row_of h) (range_with_len 0 n)))
rows_first h zero apart = first_none h
rows_first h (suc n) apart =
    let more : n + 1 ≡ suc n = omega arith in
    let before = rows_first h n (λ a b p q. apart a b (omega (arith, p)) (omega (arith, q))) in
    let step = first_more h n _ (λ j low same. (let at = apart j n (omega (arith, low)) (omega arith) same in omega (arith, low, at))) before in
    subst (λ k. HoldsFirst h k (put_rows empty (map (row_of h) (range_with_len 0 k)))) more
    (subst (λ rows. HoldsFirst h (n + 1) (put_rows empty rows)) (sym (map-range_with_len_more (row_of h) 0 n n (omega arith)))
    (subst (λ names. HoldsFirst h (n + 1) names) (sym (put_more empty (map (row_of h) (range_with_len 0 n)) (row_of h n))) step))

-- those of all slots are the directory's
pub rows_held : (h : Held) → h.size % 64 ≡ 0 → NamesApart h → HoldsRows h (put_rows empty (map (row_of h) (range_with_len 0 (h.size / 64))))
rows_held h whole apart = record { has = λ name i row. has name i row; only = λ name i is. only name i is }
  where
    all : HoldsFirst h (h.size / 64) (put_rows empty (map (row_of h) (range_with_len 0 (h.size / 64))))
    all = rows_first h (h.size / 64) (λ a b p q. apart a b (omega (arith, p, whole)) (omega (arith, q, whole)))

    has : (name : List ℕ) (i : ℕ) → HasRow h name i → get (put_rows empty (map (row_of h) (range_with_len 0 (h.size / 64)))) name ≡ Some i
    has name i (j, e) = subst (λ n. get (put_rows empty (map (row_of h) (range_with_len 0 (h.size / 64)))) n ≡ Some i) e.named (all.has j (let low = e.within in omega (arith, low, whole)) ∙ ap Some e.ino)

    only : (name : List ℕ) (i : ℕ) → get (put_rows empty (map (row_of h) (range_with_len 0 (h.size / 64)))) name ≡ Some i → HasRow h name i
    only name i is = let p = all.only name i is in let low = p.1 in (p.0, record { within = omega (arith, low, whole); named = p.2; ino = p.3 })
