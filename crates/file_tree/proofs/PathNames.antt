-- The names of a path, by its bytes.
use Rattle.request_ends.proofs.Common.{◌≡◌, ◌≢◌, ◌==◌, ℕ, suc, ◌+◌, ◌-◌, ◌<◌, ◌≤◌, ◌⊎◌, true, List, [], ◌∷◌, ◌++◌, length, take, drop, get_or, Option, refl, sym, ap, subst, ◌∙◌, arith, inl, inr, append-nil, append_assoc, All, slice_index, Decides-eqb, drop_more, length-append, take-append-drop, pieces, front_of, last_of, IsName, IsPath, names_of, slashed, differs, found}
use Rattle.std.proofs.Common.{Some, None}
use Rattle.std.specs.Option.{unwrap_or}
use Rattle.std.proofs.Math.Seq.{drop-append-add, take-append_seam, get_or-append_seam}
use Rattle.std.proofs.lemmas.Bool.{cases_lt}
use Rattle.std.proofs.lemmas.List.{drop-drop, drop_all, get_or-append-add, get_or-drop, get_or-take, length-drop, length-take-le, take_all, take_rest}
use Rattle.std.proofs.lemmas.List.Elements.{All-take}
use Rattle.memchr.specs.Find.{IsFirstByte, IsLastByte, is_byte}
use Rattle.rio_base.specs.Bytes.{Lacks}
use Rattle.rio_model.specs.Paths.{AreNames}
use Rattle.rio_model.proofs.PathPieces.{pieces_first, pieces_whole}

-- ---- bytes without a slash

pub lacks_all : (sep : ℕ) (xs : List ℕ) → ((k : ℕ) → k < length xs → slice_index xs k ≢ sep) → Lacks sep xs
lacks_all sep [] h = tt
lacks_all sep (b ∷ xs) h = (differs b sep (h 0 (omega arith)), lacks_all sep xs (λ k within. h (suc k) (omega (arith, within))))

pub lacks_name : (name : List ℕ) → IsName name → Lacks 47 name
lacks_name name is = lacks_all 47 name (λ k within. (is.bytes k 0 within).not_slash)

-- ---- the piece from a place on

-- up to the next slash, or to the end
pub next_piece : (path : List ℕ) (at end : ℕ) → at < length path → at ≤ end → Lacks 47 (take (end - at) (drop at path)) → (end ≡ length path) ⊎ ((end < length path) × (slice_index path end ≡ 47)) → pieces 47 (drop at path) ≡ take (end - at) (drop at path) ∷ pieces 47 (drop (end + 1) path)
next_piece path at end within from lacks (inr (below, slash)) =
    ap (pieces 47) (sym (take-append-drop (end - at) (drop at path)) ∙ ap (λ xs. take (end - at) (drop at path) ++ xs) rest)
    ∙ pieces_first 47 (take (end - at) (drop at path)) (drop (end + 1) path) lacks
  where
    back : at + (end - at) ≡ end
    back = omega (arith, from)

    rest : drop (end - at) (drop at path) ≡ 47 ∷ drop (end + 1) path
    rest = drop-drop (end - at) at path ∙ ap (λ n. drop n path) back ∙ drop_more path end 0 below ∙ ap (λ b. b ∷ drop (end + 1) path) slash
next_piece path at end within from lacks (inl whole) =
    ap (pieces 47) (sym all) ∙ by (take (end - at) (drop at path)) some lacks ∙ ap (λ xs. take (end - at) (drop at path) ∷ pieces 47 xs) (sym (drop_all (end + 1) path (omega (arith, whole))))
  where
    long : length (drop at path) ≡ length path - at
    long = length-drop at path

    all : take (end - at) (drop at path) ≡ drop at path
    all = take_all (end - at) (drop at path) (omega (arith, long, whole))

    some : 0 < length (take (end - at) (drop at path))
    some = (let same : length (take (end - at) (drop at path)) ≡ length (drop at path) = ap length all in omega (arith, long, within, same))

    by : (xs : List ℕ) → 0 < length xs → Lacks 47 xs → pieces 47 xs ≡ xs ∷ []
    by [] none l = absurd (omega (arith, none))
    by (b ∷ xs) none l = pieces_whole 47 b xs l

pub no_piece : (path : List ℕ) (at : ℕ) → length path ≤ at → pieces 47 (drop at path) ≡ []
no_piece path at past = ap (pieces 47) (drop_all at path past)

-- ---- names with a slash before each

pub All_first : (name : List ℕ) (names : List (List ℕ)) → All IsName (name ∷ names) → IsName name
All_first name names all = all 0 [] (omega arith)

pub All_rest : (name : List ℕ) (names : List (List ℕ)) → All IsName (name ∷ names) → All IsName names
All_rest name names all = λ k d within. all (suc k) d (omega (arith, within))

pieces_slashed : (name : List ℕ) (names : List (List ℕ)) → IsName name → All IsName names → pieces 47 (name ++ slashed names) ≡ name ∷ names
pieces_slashed [] names is all = absurd (let some = is.some in omega (arith, some))
pieces_slashed (b ∷ name) [] is all = ap (pieces 47) (append-nil (b ∷ name)) ∙ pieces_whole 47 b name (lacks_name (b ∷ name) is)
pieces_slashed (b ∷ name) (n ∷ names) is all = pieces_first 47 (b ∷ name) (n ++ slashed names) (lacks_name (b ∷ name) is) ∙ ap (λ ns. (b ∷ name) ∷ ns) (pieces_slashed n names (All_first n names all) (All_rest n names all))

pub names_slashed : (names : List (List ℕ)) → All IsName names → names_of (slashed names) ≡ names
names_slashed [] all = refl
names_slashed (n ∷ names) all = pieces_slashed n names (All_first n names all) (All_rest n names all)

names_are : (path : List ℕ) (names : List (List ℕ)) → AreNames path names → names_of path ≡ names
names_are path names are = ap names_of are.is ∙ names_slashed names are.each

slashed_long : (names : List (List ℕ)) → All IsName names → 0 < length names → 1 < length (slashed names)
slashed_long [] all some = absurd (omega (arith, some))
slashed_long (n ∷ names) all some =
    let one = (All_first n names all).some in
    let long : length (n ++ slashed names) ≡ length n + length (slashed names) = length-append n (slashed names) in
    omega (arith, one, long)

-- ---- the root

pub root_short : (path : List ℕ) → IsPath path → length path ≤ 1 → names_of path ≡ []
root_short path (inl root) short = ap names_of root
root_short path (inr (names, are, some, few)) short = absurd (let long = slashed_long names are.each some in let same : length path ≡ length (slashed names) = ap length are.is in omega (arith, long, same, short))

pub root_long : (path : List ℕ) → IsPath path → 1 < length path → 0 < length (names_of path)
root_long path (inl root) long = absurd (let same : length path ≡ 1 = ap length root in omega (arith, same, long))
root_long path (inr (names, are, some, few)) long = subst (λ ns. 0 < length ns) (sym (names_are path names are)) some

-- ---- the last slash

pub is_slashed : (path : List ℕ) → IsPath path → 0 < length (names_of path) → path ≡ slashed (names_of path)
is_slashed path (inl root) some = absurd (let none : length (names_of path) ≡ 0 = ap (λ xs. length (names_of xs)) root in omega (arith, none, some))
is_slashed path (inr (names, are, more, few)) some = are.is ∙ sym (ap slashed (names_are path names are))

pub named_all : (path : List ℕ) → IsPath path → All IsName (names_of path)
named_all path (inl root) = subst (All IsName) (sym (ap names_of root)) (λ k d within. absurd (omega (arith, within)))
named_all path (inr (names, are, some, few)) = subst (All IsName) (sym (names_are path names are)) are.each

pub slashed_append : (a b : List (List ℕ)) → slashed (a ++ b) ≡ slashed a ++ slashed b
slashed_append [] b = refl
slashed_append (n ∷ a) b = ap (λ xs. 47 ∷ (n ++ xs)) (slashed_append a b) ∙ ap (λ xs. 47 ∷ xs) (sym (append_assoc n (slashed a) (slashed b)))

-- names, up to the last one
pub split_last : (q : List (List ℕ)) → 0 < length q → q ≡ front_of q ++ last_of q ∷ []
split_last q some =
    sym (take-append-drop (length q - 1) q)
    ∙ ap (λ x. front_of q ++ x) (drop_more q (length q - 1) [] (omega (arith, some)))
    ∙ ap (λ x. front_of q ++ last_of q ∷ x) (drop_all (length q - 1 + 1) q (omega (arith, some)))

-- a path, cut before its last name
pub path_cut : (path : List ℕ) → IsPath path → 0 < length (names_of path) → path ≡ slashed (front_of (names_of path)) ++ 47 ∷ last_of (names_of path)
path_cut path p some =
    is_slashed path p some
    ∙ ap slashed (split_last (names_of path) some)
    ∙ slashed_append (front_of (names_of path)) (last_of (names_of path) ∷ [])
    ∙ ap (λ xs. slashed (front_of (names_of path)) ++ 47 ∷ xs) (append-nil (last_of (names_of path)))

pub last_named : (path : List ℕ) → IsPath path → 0 < length (names_of path) → IsName (last_of (names_of path))
last_named path p some = named_all path p (length (names_of path) - 1) [] (omega (arith, some))

one_place : (front last : List ℕ) (found : Option ℕ) → IsName last → IsLastByte (is_byte 47) (front ++ 47 ∷ last) found → unwrap_or found 0 ≡ length front
one_place front last None name none = absurd (none (length front) (omega arith) (let long : length (front ++ 47 ∷ last) ≡ length front + length (47 ∷ last) = length-append front (47 ∷ last) in omega (arith, long)) ((Decides-eqb _ 47).1 (get_or-append_seam front 47 last 0)))
one_place front last (Some k) name (at, here) = omega (arith, low, high)
  where
    long : length (front ++ 47 ∷ last) ≡ length front + suc (length last)
    long = length-append front (47 ∷ last)

    low : length front ≤ k
    low = by (cases_lt k (length front))
      where
        by : (k < length front) ⊎ (length front ≤ k) → length front ≤ k
        by (inr past) = past
        by (inl before) = absurd (at.after (length front) (omega (arith, before)) (omega (arith, long)) ((Decides-eqb _ 47).1 (get_or-append_seam front 47 last 0)))

    high : k ≤ length front
    high = by (cases_lt (length front) k)
      where
        by : (length front < k) ⊎ (k ≤ length front) → k ≤ length front
        by (inr before) = before
        by (inl past) =
            let back : length front + suc (k - length front - 1) ≡ k = omega (arith, past) in
            let top = at.high in
            let within : k - length front - 1 < length last = omega (arith, top, long, past) in
            let is : get_or last (k - length front - 1) 0 ≡ 47 = sym (get_or-append-add front (47 ∷ last) (suc (k - length front - 1)) 0) ∙ ap (λ n. get_or (front ++ 47 ∷ last) n 0) back ∙ (Decides-eqb _ 47).0 here in
            absurd ((name.bytes (k - length front - 1) 0 within).not_slash is)

pub cut_place : (path : List ℕ) (found : Option ℕ) → IsPath path → 0 < length (names_of path) → IsLastByte (is_byte 47) path found → unwrap_or found 0 ≡ length (slashed (front_of (names_of path)))
cut_place path found p some last = one_place (slashed (front_of (names_of path))) (last_of (names_of path)) found (last_named path p some) (subst (λ xs. IsLastByte (is_byte 47) xs found) (path_cut path p some) last)

front_named : (names : List (List ℕ)) → All IsName names → All IsName (front_of names)
front_named names all = All-take IsName (length names - 1) names all

pub cut_front : (path : List ℕ) (at : ℕ) → IsPath path → 0 < length (names_of path) → at ≡ length (slashed (front_of (names_of path))) → front_of (names_of path) ≡ names_of (take at path)
cut_front path at p some is =
    sym (names_slashed (front_of (names_of path)) (front_named (names_of path) (named_all path p)))
    ∙ ap names_of (sym (ap (λ n. take n path) is ∙ ap (take (length (slashed (front_of (names_of path))))) (path_cut path p some) ∙ take-append_seam (slashed (front_of (names_of path))) (47 ∷ last_of (names_of path))))

pub cut_name : (path : List ℕ) (at : ℕ) → IsPath path → 0 < length (names_of path) → at ≡ length (slashed (front_of (names_of path))) → last_of (names_of path) ≡ drop (at + 1) path
cut_name path at p some is =
    sym (ap (λ n. drop (n + 1) path) is ∙ ap (drop (length (slashed (front_of (names_of path))) + 1)) (path_cut path p some) ∙ drop-append-add (slashed (front_of (names_of path))) (47 ∷ last_of (names_of path)) 1)

-- ---- the first slash from a place on

pub record SlashAt (path : List ℕ) (at len : ℕ) : Type 0 where
  pub within : at + len < length path
  pub slash : slice_index path (at + len) ≡ 47
  pub lacks : Lacks 47 (take (at + len - at) (drop at path))

byte_here : (xs : List ℕ) (k : ℕ) → slice_index xs k == 47 ≡ true → slice_index xs k ≡ 47
byte_here xs k is = (Decides-eqb _ 47).0 is

lacks_before : (xs : List ℕ) (len : ℕ) → len ≤ length xs → ((k : ℕ) → 0 ≤ k → k < len → slice_index xs k == 47 ≡ true → ⊥) → Lacks 47 (take len xs)
lacks_before xs len most none = lacks_all 47 (take len xs) (λ k within slash.
    let long : length (take len xs) ≡ len = length-take-le len xs most in
    let below : k < len = omega (arith, within, long) in
    none k (omega arith) below ((Decides-eqb _ 47).1 (sym (get_or-take len xs k 0 below) ∙ slash)))

pub slash_some : (path : List ℕ) (at len : ℕ) → at ≤ length path → IsFirstByte (is_byte 47) (take (length path - at) (drop at path)) (Some len) → SlashAt path at len
slash_some path at len low first = by (subst (λ xs. IsFirstByte (is_byte 47) xs (Some len)) (take_rest path at) first)
  where
    long : length (drop at path) ≡ length path - at
    long = length-drop at path

    back : at + len - at ≡ len
    back = omega arith

    by : IsFirstByte (is_byte 47) (drop at path) (Some len) → SlashAt path at len
    by (near, here) = record {
      within = (let high = near.high in omega (arith, high, long, low));
      slash = sym (get_or-drop at path len 0) ∙ byte_here (drop at path) len here;
      lacks = subst (λ n. Lacks 47 (take n (drop at path))) (sym back) (lacks_before (drop at path) len (let high = near.high in omega (arith, high)) near.before);
    }

pub slash_none : (path : List ℕ) (at : ℕ) → IsFirstByte (is_byte 47) (take (length path - at) (drop at path)) None → Lacks 47 (take (length path - at) (drop at path))
slash_none path at none = lacks_all 47 (take (length path - at) (drop at path)) (λ k within slash. none k (omega arith) within ((Decides-eqb _ 47).1 slash))
