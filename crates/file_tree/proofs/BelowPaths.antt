-- Paths that lie below another one, by their bytes.
use Rattle.request_ends.proofs.Common.{◌≡◌, ◌==◌, ℕ, ◌+◌, ◌<◌, ◌≤◌, Bool, true, false, List, [], ◌∷◌, ◌++◌, ◌&&◌, length, take, drop, refl, sym, ap, subst, ◌∙◌, arith, append-nil, append_assoc, All, slice_index, Decides-eqb, drop_more, length-append, take-append-drop, pieces, true_false, IsName, IsPath, names_of, slashed, is_below}
use Rattle.std.specs.Str.{bytes_eq}
use Rattle.std.proofs.Math.Seq.{take-append_seam}
use Rattle.std.proofs.lemmas.Slice.Eq.{bytes_eq-Decides}
use Rattle.rio_model.proofs.PathPieces.{pieces_first}
use Rattle.file_tree.proofs.PathNames.{All_first, All_rest, is_slashed, lacks_name, named_all, slashed_append}

-- ---- names that go on

below_on : (ts : List (List ℕ)) (x : List ℕ) (xs : List (List ℕ)) → is_below ts (ts ++ x ∷ xs) ≡ true
below_on [] x xs = refl
below_on (t ∷ ts) x xs = ap (λ b. b && is_below ts (ts ++ x ∷ xs)) ((bytes_eq-Decides t t).1 refl) ∙ below_on ts x xs

-- what they go on with
record GoesOn (ts ns : List (List ℕ)) : Type 0 where
  first : List ℕ
  rest : List (List ℕ)
  is : ns ≡ ts ++ first ∷ rest

goes_more : (t n : List ℕ) (ts ns : List (List ℕ)) → (is_below ts ns ≡ true → GoesOn ts ns) → is_below (t ∷ ts) (n ∷ ns) ≡ true → GoesOn (t ∷ ts) (n ∷ ns)
goes_more t n ts ns rest h = by (bytes_eq t n) refl
  where
    by : (b : Bool) → bytes_eq t n ≡ b → GoesOn (t ∷ ts) (n ∷ ns)
    by false e = absurd (true_false (sym h ∙ ap (λ b. b && is_below ts ns) e))
    by true e =
        let g = rest (sym (ap (λ b. b && is_below ts ns) e) ∙ h) in
        record { first = g.first; rest = g.rest; is = ap (λ x. x ∷ ns) (sym ((bytes_eq-Decides t n).0 e)) ∙ ap (λ xs. t ∷ xs) g.is }

goes_on : (ts ns : List (List ℕ)) → is_below ts ns ≡ true → GoesOn ts ns
goes_on [] [] h = absurd (true_false (sym h))
goes_on [] (n ∷ ns) h = record { first = n; rest = ns; is = refl }
goes_on (t ∷ ts) [] h = absurd (true_false (sym h))
goes_on (t ∷ ts) (n ∷ ns) h = goes_more t n ts ns (λ e. goes_on ts ns e) h

-- ---- by their bytes

-- names, and what comes behind a slash after them
pieces_on : (t : List ℕ) (ts : List (List ℕ)) (r : List ℕ) → IsName t → All IsName ts → pieces 47 (t ++ (slashed ts ++ 47 ∷ r)) ≡ t ∷ (ts ++ pieces 47 r)
pieces_on [] ts r is all = absurd (let some = is.some in omega (arith, some))
pieces_on (b ∷ t) [] r is all = pieces_first 47 (b ∷ t) r (lacks_name (b ∷ t) is)
pieces_on (b ∷ t) (u ∷ ts) r is all =
    ap (λ xs. pieces 47 ((b ∷ t) ++ 47 ∷ xs)) (append_assoc u (slashed ts) (47 ∷ r))
    ∙ pieces_first 47 (b ∷ t) (u ++ (slashed ts ++ 47 ∷ r)) (lacks_name (b ∷ t) is)
    ∙ ap (λ xs. (b ∷ t) ∷ xs) (pieces_on u ts r (All_first u ts all) (All_rest u ts all))

names_on : (ts : List (List ℕ)) (r : List ℕ) → All IsName ts → 0 < length ts → names_of (slashed ts ++ 47 ∷ r) ≡ ts ++ pieces 47 r
names_on [] r all some = absurd (omega (arith, some))
names_on (t ∷ ts) r all some = ap (pieces 47) (append_assoc t (slashed ts) (47 ∷ r)) ∙ pieces_on t ts r (All_first t ts all) (All_rest t ts all)

-- what the bytes of a path are that lies below
record GoesBelow (path top : List ℕ) : Type 0 where
  longer : length top < length path
  front : take (length top) path ≡ top
  slash : slice_index path (length top) ≡ 47

below_bytes : (path top : List ℕ) → IsPath path → IsPath top → 0 < length (names_of top) → is_below (names_of top) (names_of path) ≡ true → GoesBelow path top
below_bytes path top p t some h = by (names_of path) refl (goes_on (names_of top) (names_of path) h)
  where
    of : (r : List ℕ) → path ≡ top ++ 47 ∷ r → GoesBelow path top
    of r is = record {
      longer = (let long : length path ≡ length top + length (47 ∷ r) = ap length is ∙ length-append top (47 ∷ r) in omega (arith, long));
      front = ap (take (length top)) is ∙ take-append_seam top (47 ∷ r);
      slash = ap (λ xs. slice_index xs (length top)) is ∙ seam top r;
    }
      where
        seam : (a b : List ℕ) → slice_index (a ++ 47 ∷ b) (length a) ≡ 47
        seam [] b = refl
        seam (x ∷ a) b = seam a b

    by : (ns : List (List ℕ)) → names_of path ≡ ns → GoesOn (names_of top) ns → GoesBelow path top
    by ns same g =
        let named : 0 < length (names_of path) = (let long : length (names_of path) ≡ length (names_of top) + length (g.first ∷ g.rest) = ap length (same ∙ g.is) ∙ length-append (names_of top) (g.first ∷ g.rest) in omega (arith, long)) in
        of (g.first ++ slashed g.rest) (is_slashed path p named ∙ ap slashed (same ∙ g.is) ∙ slashed_append (names_of top) (g.first ∷ g.rest) ∙ ap (λ xs. xs ++ slashed (g.first ∷ g.rest)) (sym (is_slashed top t some)))

bytes_below : (path top : List ℕ) → IsPath path → IsPath top → 0 < length (names_of top) → GoesBelow path top → is_below (names_of top) (names_of path) ≡ true
bytes_below path top p t some g = by (pieces 47 rest) refl
  where
    rest : List ℕ
    rest = drop (length top + 1) path

    cut : path ≡ top ++ 47 ∷ rest
    cut = sym (take-append-drop (length top) path) ∙ ap (λ xs. xs ++ drop (length top) path) g.front ∙ ap (λ xs. top ++ xs) (drop_more path (length top) 0 g.longer ∙ ap (λ b. b ∷ rest) g.slash)

    names : names_of path ≡ names_of top ++ pieces 47 rest
    names = ap names_of (cut ∙ ap (λ xs. xs ++ 47 ∷ rest) (is_slashed top t some)) ∙ names_on (names_of top) rest (named_all top t) some

    by : (xs : List (List ℕ)) → pieces 47 rest ≡ xs → is_below (names_of top) (names_of path) ≡ true
    by (x ∷ xs) e = ap (is_below (names_of top)) (names ∙ ap (λ ys. names_of top ++ ys) e) ∙ below_on (names_of top) x xs
    by [] e =
        let same : names_of path ≡ names_of top = names ∙ ap (λ ys. names_of top ++ ys) e ∙ append-nil (names_of top) in
        let equal : length path ≡ length top = ap length (is_slashed path p (subst (λ ns. 0 < length ns) (sym same) some) ∙ ap slashed same ∙ sym (is_slashed top t some)) in
        let longer = g.longer in
        absurd (omega (arith, equal, longer))

-- ---- the tests

pub below_short : (path top : List ℕ) → IsPath path → IsPath top → 0 < length (names_of top) → length path ≤ length top → is_below (names_of top) (names_of path) ≡ false
below_short path top p t some short = by (is_below (names_of top) (names_of path)) refl
  where
    by : (b : Bool) → is_below (names_of top) (names_of path) ≡ b → b ≡ false
    by false e = refl
    by true e = absurd (let longer = (below_bytes path top p t some e).longer in omega (arith, longer, short))

pub below_long : (path top : List ℕ) (s f : Bool) → IsPath path → IsPath top → 0 < length (names_of top) → length top < length path → s ≡ (slice_index path (length top) == 47) → f ≡ bytes_eq (take (length top) path) top → (s && f) ≡ is_below (names_of top) (names_of path)
below_long path top s f p t some longer slash front = by (is_below (names_of top) (names_of path)) refl s f refl refl
  where
    by : (b : Bool) → is_below (names_of top) (names_of path) ≡ b → (x y : Bool) → s ≡ x → f ≡ y → (x && y) ≡ b
    by true e x y sx fy =
        let g = below_bytes path top p t some e in
        ap (λ z. z && y) (sym sx ∙ slash ∙ (Decides-eqb (slice_index path (length top)) 47).1 g.slash) ∙ sym fy ∙ front ∙ (bytes_eq-Decides (take (length top) path) top).1 g.front
    by false e false y sx fy = refl
    by false e true false sx fy = refl
    by false e true true sx fy = absurd (true_false (sym (bytes_below path top p t some (record {
      longer = longer;
      front = (bytes_eq-Decides (take (length top) path) top).0 (sym front ∙ fy);
      slash = (Decides-eqb (slice_index path (length top)) 47).0 (sym slash ∙ sx);
    })) ∙ e))

pub below_slash : (path top : List ℕ) (f : Bool) → IsPath path → IsPath top → 0 < length (names_of top) → length top < length path → slice_index path (length top) ≡ 47 → f ≡ bytes_eq (take (length top) path) top → f ≡ is_below (names_of top) (names_of path)
below_slash path top f p t some longer slash front = below_long path top true f p t some longer (sym ((Decides-eqb (slice_index path (length top)) 47).1 slash)) front

pub below_other : (path top : List ℕ) → IsPath path → IsPath top → 0 < length (names_of top) → length top < length path → (slice_index path (length top) ≡ 47 → ⊥) → (slice_index path (length top) == 47) ≡ is_below (names_of top) (names_of path)
below_other path top p t some longer other = by (slice_index path (length top) == 47) refl
  where
    by : (s : Bool) → (slice_index path (length top) == 47) ≡ s → s ≡ is_below (names_of top) (names_of path)
    by true e = absurd (other ((Decides-eqb (slice_index path (length top)) 47).0 e))
    by false e = below_long path top false (bytes_eq (take (length top) path) top) p t some longer (sym e) refl
