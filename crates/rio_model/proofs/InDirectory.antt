-- The names of a directory, told by look-ups: the layers above keep them in other ways.
use Rattle.rio_model.proofs.Common.{◌≡◌, ◌==◌, ◌&&◌, ℕ, Bool, true, false, cond, List, [], ◌∷◌, map, refl, sym, ap, subst, ◌∙◌, arith, Some, filter, Equal, nat_cmp, eq_by_cmp, nat_cmp_total, get, entries, find, nat_cmp-IsAntisymmetric, nat_tests, Decides-eqb}
use Rattle.std.specs.Ordering.{is_lt, ordering_then}
use Rattle.std.specs.Cmp.Lexicographic.{slice_cmp, nat_list_cmp_total}
use Rattle.std.specs.FinMap.{is_sorted, get-entries, entries_sorted, slice_cmp-IsAntisymmetric}
use Rattle.std.specs.FinMap.Entries.{same_entries, below_all}
use Rattle.std.proofs.lemmas.Cmp.{tied_itself}
use Rattle.std.proofs.lemmas.Map.Text.{is_eq-slice_cmp}
use lib.Dec.{T}
use Rattle.rio_model.specs.States.{names_in}
use Rattle.rio_model.specs.Names.{NameKey, name_cmp}
use Rattle.rio_model.specs.declared.state.State.{State}
use Rattle.rio_model.proofs.NameOrder.{name_tied}

-- the names of a directory, with what each names
abbrev pub in_dir : ℕ → List (NameKey × ℕ) → List (List ℕ × ℕ)
in_dir dir [] = []
in_dir dir (e ∷ es) = cond (e.0.0 == dir) ((e.0.1, e.1) ∷ in_dir dir es) (in_dir dir es)

map-in_dir : (dir : ℕ) (es : List (NameKey × ℕ)) → map (λ (key : NameKey). key.1) (filter (λ (key : NameKey). key.0 == dir) (map (λ (e : NameKey × ℕ). e.0) es)) ≡ map (λ (e : List ℕ × ℕ). e.0) (in_dir dir es)
map-in_dir dir [] = refl
map-in_dir dir (e ∷ es) =
    elim (e.0.0 == dir) as (λ b. map (λ (key : NameKey). key.1) (cond b (e.0 ∷ filter (λ (key : NameKey). key.0 == dir) (map (λ (x : NameKey × ℕ). x.0) es)) (filter (λ (key : NameKey). key.0 == dir) (map (λ (x : NameKey × ℕ). x.0) es))) ≡ map (λ (x : List ℕ × ℕ). x.0) (cond b ((e.0.1, e.1) ∷ in_dir dir es) (in_dir dir es))) [
      | true ↦ ap (λ ns. e.0.1 ∷ ns) (map-in_dir dir es)
      | false ↦ map-in_dir dir es
    ]

tied_in : (dir : ℕ) (n : List ℕ) (k : NameKey) → eq_by_cmp name_cmp (dir, n) k ≡ ((dir == k.0) && eq_by_cmp (slice_cmp nat_cmp) n k.1)
tied_in dir n k = name_tied (dir, n) k ∙ ap (λ b. (dir == k.0) && b) (sym (is_eq-slice_cmp n k.1))

turned_eqb : (a b : ℕ) → (a == b) ≡ (b == a)
turned_eqb a b = grind (arith, nat_tests)

-- a name is found in its directory as in the whole
find-in_dir : (dir : ℕ) (n : List ℕ) (es : List (NameKey × ℕ)) → find (slice_cmp nat_cmp) n (in_dir dir es) ≡ find name_cmp (dir, n) es
find-in_dir dir n [] = refl
find-in_dir dir n (e ∷ es) =
    elim (e.0.0 == dir) as (λ b. find (slice_cmp nat_cmp) n (cond b ((e.0.1, e.1) ∷ in_dir dir es) (in_dir dir es)) ≡ cond (b && eq_by_cmp (slice_cmp nat_cmp) n e.0.1) (Some e.1) (find name_cmp (dir, n) es)) [
      | true ↦ ap (cond (eq_by_cmp (slice_cmp nat_cmp) n e.0.1) (Some e.1)) (find-in_dir dir n es)
      | false ↦ find-in_dir dir n es
    ]
    ∙ ap (λ b. cond (b && eq_by_cmp (slice_cmp nat_cmp) n e.0.1) (Some e.1) (find name_cmp (dir, n) es)) (turned_eqb e.0.0 dir)
    ∙ ap (λ b. cond b (Some e.1) (find name_cmp (dir, n) es)) (sym (tied_in dir n e.0))

first : (a b : Bool) → T (a && b) → T a
first true b p = tt
first false b p = p

second : (a b : Bool) → T (a && b) → T b
second true b p = p
second false b p = absurd p

both : (a b : Bool) → T a → T b → T (a && b)
both true b p q = q
both false b p q = p

less_in : (x k : NameKey) → x.0 ≡ k.0 → T (is_lt (name_cmp x k)) → T (is_lt (slice_cmp nat_cmp x.1 k.1))
less_in x k same less = subst (λ o. T (is_lt (ordering_then o (slice_cmp nat_cmp x.1 k.1)))) (subst (λ d. nat_cmp x.0 d ≡ Equal) same (tied_itself nat_cmp_total x.0)) less

below_more : (dir : ℕ) (x : NameKey) (e : NameKey × ℕ) (rest : List (List ℕ × ℕ)) (b : Bool) → (e.0.0 == dir) ≡ b → x.0 ≡ dir → T (is_lt (name_cmp x e.0)) → T (below_all (slice_cmp nat_cmp) x.1 rest) → T (below_all (slice_cmp nat_cmp) x.1 (cond b ((e.0.1, e.1) ∷ rest) rest))
below_more dir x e rest true here at less below = both _ _ (less_in x e.0 (at ∙ sym ((Decides-eqb e.0.0 dir).0 here)) less) below
below_more dir x e rest false here at less below = below

below_in_dir : (dir : ℕ) (x : NameKey) → x.0 ≡ dir → (es : List (NameKey × ℕ)) → T (below_all name_cmp x es) → T (below_all (slice_cmp nat_cmp) x.1 (in_dir dir es))
below_in_dir dir x at [] below = tt
below_in_dir dir x at (e ∷ es) below = below_more dir x e (in_dir dir es) (e.0.0 == dir) refl at (first _ _ below) (below_in_dir dir x at es (second _ _ below))

sorted_more : (dir : ℕ) (e : NameKey × ℕ) (rest : List (List ℕ × ℕ)) (b : Bool) → (e.0.0 == dir) ≡ b → (e.0.0 ≡ dir → T (below_all (slice_cmp nat_cmp) e.0.1 rest)) → T (is_sorted (slice_cmp nat_cmp) rest) → T (is_sorted (slice_cmp nat_cmp) (cond b ((e.0.1, e.1) ∷ rest) rest))
sorted_more dir e rest true here below order = both _ _ (below ((Decides-eqb e.0.0 dir).0 here)) order
sorted_more dir e rest false here below order = order

sorted_in_dir : (dir : ℕ) (es : List (NameKey × ℕ)) → T (is_sorted name_cmp es) → T (is_sorted (slice_cmp nat_cmp) (in_dir dir es))
sorted_in_dir dir [] h = tt
sorted_in_dir dir (e ∷ es) h = sorted_more dir e (in_dir dir es) (e.0.0 == dir) refl (λ at. below_in_dir dir e.0 at es (first _ _ h)) (sorted_in_dir dir es (second _ _ h))

-- Names in byte order, with what each names, are those of a directory where each look-up says so.
pub names_in-is : (s : State) (dir : ℕ) (fs : List (List ℕ × ℕ)) → T (is_sorted (slice_cmp nat_cmp) fs) → ((n : List ℕ) → get s.names (dir, n) ≡ find (slice_cmp nat_cmp) n fs) → names_in s dir ≡ map (λ (e : List ℕ × ℕ). e.0) fs
names_in-is s dir fs order each =
    map-in_dir dir (entries s.names)
    ∙ ap (map (λ (e : List ℕ × ℕ). e.0)) (same_entries (slice_cmp nat_cmp) nat_list_cmp_total (slice_cmp-IsAntisymmetric nat_cmp-IsAntisymmetric) (in_dir dir (entries s.names)) fs (sorted_in_dir dir (entries s.names) (entries_sorted s.names)) order (λ n. find-in_dir dir n (entries s.names) ∙ sym (get-entries s.names (dir, n)) ∙ each n))
