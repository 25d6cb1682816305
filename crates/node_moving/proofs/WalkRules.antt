-- Walks along names: one up to the last name, and one that goes on from where another ends.
use Rattle.request_ends.proofs.Common.{None, Some, Result, Ok, Err, get, State, front_of, last_of, walk_to_dir, from_found, is_dir, walk, found, is_below, ◌≡◌, ℕ, ◌-◌, ◌<◌, ◌&&◌, Bool, true, false, cond, List, [], ◌∷◌, ◌++◌, length, Option, refl, sym, ap, subst, ◌∙◌, append_assoc, true_false, TreeRule}
use Rattle.rio_model.specs.Paths.{as_dir}
use Rattle.rio_model.proofs.Walks.{one_path, walk_append, walk_on, walk_over}
use Rattle.std.proofs.lemmas.Slice.Eq.{bytes_eq-Decides}
use Rattle.node_moving.specs.WalkRules.{OutOfReach}
use Rattle.file_tree.proofs.PathNames.{split_last}

-- ---- up to the last name

-- a walk to a directory ends there, at a directory
pub record AtDir (s : State) (r : Result ℕ ℕ) (dir : ℕ) : Type 0 where
  pub ends : r ≡ Ok dir
  pub is : is_dir (get s.nodes dir) ≡ true

pub at_dir : (s : State) (r : Result ℕ ℕ) (dir : ℕ) → as_dir s r ≡ Ok dir → AtDir s r dir
at_dir s (Err c) dir e = absurd (cc (e))
at_dir s (Ok i) dir e = by _ refl e
  where
    by : (b : Bool) → is_dir (get s.nodes i) ≡ b → ◌≡◌ {A = Result ℕ ℕ} (cond b (Ok i) (Err 4)) (Ok dir) → AtDir s (Ok i) dir
    by true d h = record { ends = h; is = subst (λ k. is_dir (get s.nodes k) ≡ true) (cc (h)) d }
    by false d h = absurd (cc (h))

pub to_dir : (s : State) (names : List (List ℕ)) (dir : ℕ) → walk_to_dir s names ≡ Ok dir → AtDir s (walk s 1 names) dir
to_dir s names dir e = at_dir s (walk s 1 names) dir e

-- the last name is looked up in the directory of the others
pub walk_last : (s : State) (q : List (List ℕ)) (dir : ℕ) → 0 < length q → walk_to_dir s (front_of q) ≡ Ok dir → walk s 1 q ≡ found s dir (last_of q)
walk_last s q dir some e =
    let at = to_dir s (front_of q) dir e in
    ap (walk s 1) (split_last q some)
    ∙ walk_append s 1 dir (front_of q) (last_of q ∷ []) at.ends
    ∙ ap (λ b. cond b (found s dir (last_of q)) (Err 4)) at.is

pub walk_last_err : (s : State) (q : List (List ℕ)) (number : ℕ) → 0 < length q → walk_to_dir s (front_of q) ≡ Err number → walk s 1 q ≡ Err number
walk_last_err s q number some e = ap (walk s 1) (split_last q some) ∙ walk_over s 1 (front_of q) (last_of q ∷ []) ∙ by (walk s 1 (front_of q)) e
  where
    by_dir : (i : ℕ) (b : Bool) → ◌≡◌ {A = Result ℕ ℕ} (cond b (Ok i) (Err 4)) (Err number) → cond b (found s i (last_of q)) (Err 4) ≡ Err number
    by_dir i true h = absurd (cc (h))
    by_dir i false h = h

    by : (r : Result ℕ ℕ) → as_dir s r ≡ Err number → walk_on s r (last_of q ∷ []) ≡ Err number
    by (Ok i) h = by_dir i (is_dir (get s.nodes i)) h
    by (Err c) h = h

pub found_row : (s : State) (dir i : ℕ) (name : List ℕ) → found s dir name ≡ Ok i → get s.names (dir, name) ≡ Some i
found_row s dir i name e = by _ refl e
  where
    by : (o : Option ℕ) → get s.names (dir, name) ≡ o → ◌≡◌ {A = Result ℕ ℕ} (from_found o Ok) (Ok i) → get s.names (dir, name) ≡ Some i
    by (Some j) is h = is ∙ ap Some (cc (h))
    by None is h = absurd (cc (h))

-- the row that a path ends at
pub path_row : (s : State) (q : List (List ℕ)) (dir i : ℕ) → 0 < length q → walk_to_dir s (front_of q) ≡ Ok dir → walk s 1 q ≡ Ok i → get s.names (dir, last_of q) ≡ Some i
path_row s q dir i some at e = found_row s dir i (last_of q) (sym (walk_last s q dir some at) ∙ e)

-- ---- on from where a path ends

pub below_append : (p names : List (List ℕ)) (name : List ℕ) → is_below p (p ++ (names ++ name ∷ [])) ≡ true
below_append [] [] name = refl
below_append [] (n ∷ names) name = refl
below_append (top ∷ p) names name = ap (λ b. b && is_below p (p ++ (names ++ name ∷ []))) ((bytes_eq-Decides top top).1 refl) ∙ below_append p names name

-- the directory of a path that does not go on where another ends
pub out_of_reach : (s : State) (i dir : ℕ) (p q : List (List ℕ)) → TreeRule s → walk s 1 p ≡ Ok i → walk_to_dir s (front_of q) ≡ Ok dir → 0 < length q → is_below p q ≡ false → OutOfReach s i dir
out_of_reach s i dir p q tree at to some apart names way =
    let same : p ++ names ≡ front_of q = one_path s dir (p ++ names) (front_of q) tree (walk_append s 1 i p names at ∙ way) (to_dir s (front_of q) dir to).ends in
    let whole : p ++ (names ++ last_of q ∷ []) ≡ q = sym (append_assoc p names (last_of q ∷ [])) ∙ ap (λ x. x ++ last_of q ∷ []) same ∙ sym (split_last q some) in
    true_false (sym (below_append p names (last_of q)) ∙ ap (is_below p) whole ∙ apart)
