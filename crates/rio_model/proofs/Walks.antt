-- Walks along names: over names and more names, by the rows from a node up to the root, and the one path to each node of
-- a tree.
use Rattle.std.specs.Prelude.{Result, Ok, Err}
use Rattle.std.proofs.Common.{append-nil}
use Rattle.rio_model.proofs.Common.{◌≡◌, ℕ, ◌++◌, Bool, true, false, cond, List, [], ◌∷◌, Option, Some, None, refl, sym, ap, subst, ◌∙◌, get}
use Rattle.rio_model.specs.declared.state.State.{State}
use Rattle.rio_model.specs.Paths.{from_found, is_dir, walk}
use Rattle.rio_model.specs.VolumeRules.{TreeRule}

-- ---- over names and more names

-- one name on
pub walk_step : (s : State) (i j : ℕ) (name : List ℕ) (more : List (List ℕ)) → is_dir (get s.nodes i) ≡ true → get s.names (i, name) ≡ Some j → walk s i (name ∷ more) ≡ walk s j more
walk_step s i j name more dir row = ap (λ b. cond b (from_found (get s.names (i, name)) (λ y. walk s y more)) (Err 4)) dir ∙ ap (λ o. from_found o (λ y. walk s y more)) row

-- a walk over one name and more takes a row of a directory
pub record Stepped (s : State) (i : ℕ) (name : List ℕ) (more : List (List ℕ)) (j : ℕ) : Type 0 where
  pub over : ℕ
  pub dir : is_dir (get s.nodes i) ≡ true
  pub row : get s.names (i, name) ≡ Some over
  pub rest : walk s over more ≡ Ok j

pub stepped : (s : State) (i j : ℕ) (name : List ℕ) (more : List (List ℕ)) → walk s i (name ∷ more) ≡ Ok j → Stepped s i name more j
stepped s i j name more e = by _ _ refl refl e
  where
    by : (b : Bool) (o : Option ℕ) → is_dir (get s.nodes i) ≡ b → get s.names (i, name) ≡ o → cond b (from_found o (λ y. walk s y more)) (Err 4) ≡ Ok j → Stepped s i name more j
    by true (Some y) d o h = record { over = y; dir = d; row = o; rest = h }
    by true None d o h = absurd (cc (h))
    by false o d is h = absurd (cc (h))

-- on from where a walk ended, or its refusal
abbrev pub walk_on : State → Result ℕ ℕ → List (List ℕ) → Result ℕ ℕ
walk_on s (Ok j) more = walk s j more
walk_on s (Err number) more = Err number

-- over names and more names, it goes on from where the first ones end
pub walk_over : (s : State) (i : ℕ) (names more : List (List ℕ)) → walk s i (names ++ more) ≡ walk_on s (walk s i names) more
walk_over s i [] more = refl
walk_over s i (n ∷ ns) more = by (is_dir (get s.nodes i)) (get s.names (i, n)) (λ y. walk_over s y ns more)
  where
    by : (b : Bool) (o : Option ℕ) → ((y : ℕ) → walk s y (ns ++ more) ≡ walk_on s (walk s y ns) more) → cond b (from_found o (λ y. walk s y (ns ++ more))) (Err 4) ≡ walk_on s (cond b (from_found o (λ y. walk s y ns)) (Err 4)) more
    by true (Some y) rec = rec y
    by true None rec = refl
    by false o rec = refl

pub walk_append : (s : State) (i j : ℕ) (names more : List (List ℕ)) → walk s i names ≡ Ok j → walk s i (names ++ more) ≡ walk s j more
walk_append s i j names more e = walk_over s i names more ∙ ap (λ r. walk_on s r more) e

-- ---- by the rows from a node up to the root

-- a row of a directory
pub record Hangs (s : State) (d : ℕ) (name : List ℕ) (i : ℕ) : Type 0 where
  pub dir : is_dir (get s.nodes d) ≡ true
  pub row : get s.names (d, name) ≡ Some i

-- these names, the last one first, lead from the root to node i
abbrev pub Up : State → List (List ℕ) → ℕ → Type 0
Up s [] i = i ≡ 1
Up s (name ∷ names) i = (d : ℕ) × Up s names d × Hangs s d name i

abbrev pub turned : List (List ℕ) → List (List ℕ) → List (List ℕ)
turned [] more = more
turned (name ∷ names) more = turned names (name ∷ more)

turned_twice : (p q more : List (List ℕ)) → turned (turned p q) more ≡ turned q (p ++ more)
turned_twice [] q more = refl
turned_twice (name ∷ p) q more = turned_twice p (name ∷ q) more

turned_back : (p : List (List ℕ)) → turned (turned p []) [] ≡ p
turned_back p = turned_twice p [] [] ∙ append-nil p

pub up_walk : (s : State) (i j : ℕ) (up names : List (List ℕ)) → Up s up i → walk s i names ≡ Ok j → Up s (turned names up) j
up_walk s i j up [] h e = subst (Up s up) (cc (e)) h
up_walk s i j up (n ∷ ns) h e = let t = stepped s i j n ns e in up_walk s t.over j (n ∷ up) ns (i, h, record { dir = t.dir; row = t.row }) t.rest

pub walk_up : (s : State) (i j : ℕ) (up names : List (List ℕ)) → Up s up i → walk s i names ≡ Ok j → walk s 1 (turned up names) ≡ Ok j
walk_up s i j [] names h e = ap (λ k. walk s k names) (sym h) ∙ e
walk_up s i j (n ∷ up) names h e = walk_up s h.0 j up (n ∷ names) h.1 (walk_step s h.0 i n names h.2.dir h.2.row ∙ e)

-- ---- the one path

one_up : (s : State) (i : ℕ) (p q : List (List ℕ)) → TreeRule s → Up s p i → Up s q i → p ≡ q
one_up s i [] [] tree h k = refl
one_up s i [] (b ∷ q) tree h k = absurd (tree.root k.0 b (k.2.row ∙ ap Some h))
one_up s i (a ∷ p) [] tree h k = absurd (tree.root h.0 a (h.2.row ∙ ap Some k))
one_up s i (a ∷ p) (b ∷ q) tree h k =
    let same = tree.one h.0 k.0 a b i h.2.row k.2.row in
    let rest : p ≡ q = one_up s k.0 p q tree (subst (Up s p) same.0 h.1) k.1 in
    (λ t. same.1 t ∷ rest t)

pub one_path : (s : State) (i : ℕ) (p q : List (List ℕ)) → TreeRule s → walk s 1 p ≡ Ok i → walk s 1 q ≡ Ok i → p ≡ q
one_path s i p q tree to_p to_q =
    let same = one_up s i (turned p []) (turned q []) tree (up_walk s 1 i [] p refl to_p) (up_walk s 1 i [] q refl to_q) in
    sym (turned_back p) ∙ ap (λ r. turned r []) same ∙ turned_back q
