-- The names of a state stay a tree: where a node goes, is moved, or is moved over another.
use Rattle.request_ends.proofs.Common.{◌≡◌, ◌≢◌, ℕ, false, true, List, [], ◌∷◌, ◌++◌, sym, ap, ◌∙◌, inl, inr, get, true_false, State, NameKey, is_dir, TreeRule, name_get_same}
use Rattle.rio_requests.specs.Answers.{moved, replaced, without}
use Rattle.std.specs.FinMap.{remove}
use Rattle.std.proofs.Common.{Some, None, Ok}
use Rattle.rio_model.proofs.NameRules.{cases_key, some_none, same_some, row_kept, row_left, row_moved, row_stays, one_left, one_moved, node_kept, node_left}
use Rattle.rio_model.proofs.Walks.{Hangs, Up, walk_append, walk_step}
use Rattle.node_moving.specs.WalkRules.{OutOfReach}
use Rattle.file_tree.proofs.TreeRules.{RowsFit, dir_used, Reached, reached, one_row, tree_by, up_kept}

-- ---- a node that goes

pub tree_without : (s : State) (d : ℕ) (name : List ℕ) (i : ℕ) → TreeRule s → get s.names (d, name) ≡ Some i → ((n : List ℕ) → get s.names (i, n) ≡ None) → TreeRule (without s d name i)
tree_without s d name i tree row empty = tree_by t root (one_left s.names (d, name) (one_row s tree)) (λ j used. let left = node_left s.nodes i j used in let way = reached s j tree left.some in (way.0, up_kept s t (λ y. y ≢ i) step way.0 j left.away way.1))
  where
    t : State
    t = without s d name i

    root : (q : NameKey) → get t.names q ≢ Some 1
    root q e = tree.root q.0 q.1 (row_left s.names (d, name) q 1 e).row

    step : (c : ℕ) (n : List ℕ) (y : ℕ) → y ≢ i → Hangs s c n y → (c ≢ i) × Hangs t c n y
    step c n y off h =
        let away : c ≢ i = (λ here. some_none _ y (ap (λ x. get s.names (x, n)) here ∙ empty n) h.row) in
        (away, record { dir = ap is_dir (node_kept s.nodes i c away) ∙ h.dir; row = row_kept s.names (d, name) (c, n) (λ same. off (same_some _ y i h.row (ap (get s.names) same ∙ row))) ∙ h.row })

-- ---- a node that is moved

root_moved : (s : State) (d : ℕ) (a : List ℕ) (e : ℕ) (b : List ℕ) (i : ℕ) → TreeRule s → get s.names (d, a) ≡ Some i → (q : NameKey) → get (moved s d a e b i).names q ≢ Some 1
root_moved s d a e b i tree from q is = elim (row_moved s.names (d, a) (e, b) i q 1 is) [ inl new ↦ tree.root d a (from ∙ ap Some new.1) | inr r ↦ tree.root q.0 q.1 r.row ]

pub tree_moved : (s : State) (d : ℕ) (a : List ℕ) (e : ℕ) (b : List ℕ) (i : ℕ) → TreeRule s → get s.names (d, a) ≡ Some i → is_dir (get s.nodes e) ≡ true → get s.names (e, b) ≡ None → OutOfReach s i e → TreeRule (moved s d a e b i)
tree_moved s d a e b i tree from dir free apart = tree_by t (root_moved s d a e b i tree from) (one_moved s.names (d, a) (e, b) i (one_row s tree) from) (λ j used. let way = reached s j tree used in reach way.0 j way.1)
  where
    t : State
    t = moved s d a e b i

    on : (c : ℕ) (n : List ℕ) (y : ℕ) → get s.names (c, n) ≡ Some y → ◌≢◌ {A = NameKey} (c, n) (e, b)
    on c n y row same = some_none _ y (ap (get s.names) same ∙ free) row

    -- no row on the way to the directory is the one that goes, for a node below which it lies is not moved
    step : (c : ℕ) (n : List ℕ) (y : ℕ) → OutOfReach s i y → Hangs s c n y → OutOfReach s i c × Hangs t c n y
    step c n y far h = (
      (λ names way. far (names ++ n ∷ []) (walk_append s i c names (n ∷ []) way ∙ walk_step s c y n [] h.dir h.row)),
      record { dir = h.dir; row = row_stays s.names (d, a) (e, b) i (c, n) (λ same. far [] (ap Ok (same_some _ i y (ap (get s.names) same ∙ from) h.row))) (on c n y h.row) ∙ h.row },
    )

    to : Reached t e
    to = let way = reached s e tree (dir_used _ dir) in (way.0, up_kept s t (OutOfReach s i) step way.0 e apart way.1)

    reach : (up : List (List ℕ)) (x : ℕ) → Up s up x → Reached t x
    reach [] x h = ([], h)
    reach (n ∷ up) x h = elim (cases_key (h.0, n) (d, a)) [
      | inl same ↦ (b ∷ to.0, (e, to.1, record { dir = dir; row = name_get_same (remove s.names (d, a)) (e, b) i ∙ sym from ∙ sym (ap (get s.names) same) ∙ h.2.row }))
      | inr off ↦ (let way = reach up h.0 h.1 in (n ∷ way.0, (h.0, way.1, record { dir = h.2.dir; row = row_stays s.names (d, a) (e, b) i (h.0, n) off (on h.0 n x h.2.row) ∙ h.2.row })))
    ]

-- ---- a node that is moved over another, neither of them a directory

pub tree_replaced : (s : State) (d : ℕ) (a : List ℕ) (e : ℕ) (b : List ℕ) (i j : ℕ) → RowsFit s → TreeRule s → get s.names (d, a) ≡ Some i → get s.names (e, b) ≡ Some j → i ≢ j → is_dir (get s.nodes i) ≡ false → is_dir (get s.nodes j) ≡ false → TreeRule (replaced s d a e b i j)
tree_replaced s d a e b i j fit tree from to other leaf_i leaf_j = tree_by t (root_moved s d a e b i tree from) (one_moved s.names (d, a) (e, b) i (one_row s tree) from) (λ x used. let left = node_left s.nodes j x used in let way = reached s x tree left.some in reach way.0 x left.away way.1)
  where
    t : State
    t = replaced s d a e b i j

    dir_kept : (c : ℕ) → is_dir (get s.nodes c) ≡ true → is_dir (get t.nodes c) ≡ true
    dir_kept c is = ap is_dir (node_kept s.nodes j c (λ here. true_false (sym is ∙ ap (λ x. is_dir (get s.nodes x)) here ∙ leaf_j))) ∙ is

    -- the rows of directories stay
    step : (c : ℕ) (n : List ℕ) (y : ℕ) → is_dir (get s.nodes y) ≡ true → Hangs s c n y → (is_dir (get s.nodes c) ≡ true) × Hangs t c n y
    step c n y is h = (h.dir, record { dir = dir_kept c h.dir; row = row_stays s.names (d, a) (e, b) i (c, n) (λ same. leaf i leaf_i (same_some _ y i h.row (ap (get s.names) same ∙ from))) (λ same. leaf j leaf_j (same_some _ y j h.row (ap (get s.names) same ∙ to))) ∙ h.row })
      where
        leaf : (k : ℕ) → is_dir (get s.nodes k) ≡ false → y ≢ k
        leaf k none here = true_false (sym is ∙ ap (λ x. is_dir (get s.nodes x)) here ∙ none)

    dir_up : (up : List (List ℕ)) (c : ℕ) → is_dir (get s.nodes c) ≡ true → Up s up c → Up t up c
    dir_up up c is h = up_kept s t (λ y. is_dir (get s.nodes y) ≡ true) step up c is h

    reach : (up : List (List ℕ)) (x : ℕ) → x ≢ j → Up s up x → Reached t x
    reach [] x off h = ([], h)
    reach (n ∷ up) x off h = elim (cases_key (h.0, n) (d, a)) [
      | inl same ↦ (let below = reached s e tree (dir_used _ (fit.dirs e b j to)) in (b ∷ below.0, (e, dir_up below.0 e (fit.dirs e b j to) below.1, record { dir = dir_kept e (fit.dirs e b j to); row = name_get_same (remove s.names (d, a)) (e, b) i ∙ sym from ∙ sym (ap (get s.names) same) ∙ h.2.row })))
      | inr away ↦ (n ∷ up, (h.0, dir_up up h.0 h.2.dir h.1, record { dir = dir_kept h.0 h.2.dir; row = row_stays s.names (d, a) (e, b) i (h.0, n) away (λ same. off (same_some _ x j h.2.row (ap (get s.names) same ∙ to))) ∙ h.2.row }))
    ]
