-- A node that is made, and its row: the state that is read then, whose names stay a tree.
use Rattle.request_ends.proofs.Common.{◌≡◌, ◌≢◌, ℕ, ◌⊎◌, List, refl, sym, ap, subst, ◌∙◌, arith, inl, inr, get, VolumeShape, BlockWords, State, with_new, Held, held_of, NameKey, IsName, node_in, ReadsAs, IsMapped, TreeRule, name_get_other, get_here, get_there, true, [], ◌∷◌, insert, cases_eq, Node, is_dir, walk, name_get_same}
use Rattle.directories.specs.RowChanges.{AddsRow}
use Rattle.rio_requests.specs.Answers.{empty_node}
use Rattle.std.proofs.Common.{Some, None, Ok}
use Rattle.node_updates.proofs.EmptyHeld.{empty_held}
use Rattle.file_tree.proofs.NameSteps.{by_two, dirs_apart, insert_back, insert_some, row_comes}
use Rattle.file_tree.proofs.RowReads.{EachReads, OneReads, SoundReads, Stays, bare_names, by_each, of_each, one_bare, one_changes, one_stays, reads_as, sound_of, dir_not_3}
use Rattle.rio_model.proofs.NameRules.{some_none, row_put, one_put}
use Rattle.rio_model.proofs.Walks.{Up, stepped}
use Rattle.file_tree.proofs.TreeRules.{RowsFit, dir_used, Reached, reached, one_row, tree_by, up_kept}

-- an empty node i comes, and its row in directory d: all but these two inodes stay
pub record MakesRow (h k : ℕ → Held) (d : ℕ) (name : List ℕ) (i kind : ℕ) : Type 0 where
  pub dir : (h d).kind ≡ 1
  pub free : (h i).kind ≡ 0
  pub dir_or_file : (kind ≡ 1) ⊎ (kind ≡ 2)
  pub row : AddsRow name i (h d) (k d)
  pub made : k i ≡ empty_held kind
  pub others : (x : ℕ) → x ≢ d → x ≢ i → k x ≡ h x

empty_reads : (kind : ℕ) → (kind ≡ 1) ⊎ (kind ≡ 2) → node_in (empty_held kind) ≡ Some (empty_node kind)
empty_reads kind (inl dir) = subst (λ n. node_in (empty_held n) ≡ Some (empty_node n)) (sym dir) refl
empty_reads kind (inr file) = subst (λ n. node_in (empty_held n) ≡ Some (empty_node n)) (sym file) refl

pub row_made : (h k : ℕ → Held) (s : State) (d : ℕ) (name : List ℕ) (i kind : ℕ) → SoundReads h s → get s.names (d, name) ≡ None → IsName name → MakesRow h k d name i kind → SoundReads k (with_new s d name i (empty_node kind))
row_made h k s d name i kind r free named c = of_each k t (record {
  each = λ x. by_two (λ y. OneReads (k y) t y) i d x new dir (away x);
  named = λ x n v e. elim (insert_back s.names (d, name) i (x, n) v e) [
    | inl at ↦ subst IsName (sym (ap (λ (q : NameKey). q.1) at.0)) named
    | inr old ↦ p.named x n v old.1
  ];
  used = λ x n v e. insert_some s.nodes i (empty_node kind) v (λ other. elim (insert_back s.names (d, name) i (x, n) v e) [
    | inl at ↦ absurd (other at.1)
    | inr old ↦ p.used x n v old.1
  ]);
  idle = p.idle;
})
  where
    t : State
    t = with_new s d name i (empty_node kind)

    p : EachReads h s
    p = by_each h s r

    apart : i ≢ d
    apart same = let dir = c.dir in let free = ap (λ x. (h x).kind) (sym same) ∙ c.free in omega (arith, dir, free)

    new : OneReads (k i) t i
    new = one_bare (k i) t i (ap (λ (n : Held). n.size) c.made) (get_here s.nodes i (empty_node kind) ∙ sym (ap node_in c.made ∙ empty_reads kind c.dir_or_file)) (λ n. name_get_other s.names (d, name) i (i, n) (dirs_apart i d n name apart) ∙ bare_names (h i) s i (p.each i) (λ dir. let free = c.free in absurd (omega (arith, free, dir))) n)

    dir : OneReads (k d) t d
    dir = one_changes (h d) (k d) s t d _ _ _ c.dir c.row (get_there s.nodes i (empty_node kind) d (λ same. apart (sym same))) (row_comes s.names d name i free) (p.each d)

    away : (x : ℕ) → x ≢ i → x ≢ d → OneReads (k x) t x
    away x not_i not_d = one_stays (h x) (k x) s t x (c.others x not_d not_i) (get_there s.nodes i (empty_node kind) x not_i) (λ n. name_get_other s.names (d, name) i (x, n) (dirs_apart x d n name not_d)) (p.each x)

pub made_as : (shape : VolumeShape) (f g : BlockWords) (s : State) (d : ℕ) (name : List ℕ) (i kind : ℕ) → ReadsAs shape f s → IsMapped shape g → TreeRule (with_new s d name i (empty_node kind)) → get s.names (d, name) ≡ None → IsName name → MakesRow (held_of shape f) (held_of shape g) d name i kind → ReadsAs shape g (with_new s d name i (empty_node kind))
made_as shape f g s d name i kind r mapped tree free named c = reads_as shape f g s _ r mapped refl tree (λ x. by_two (Stays (held_of shape f) (held_of shape g)) i d x (inr (λ is. kind_not_3 (sym (ap (λ (n : Held). n.kind) c.made) ∙ is))) (inr (dir_not_3 c.row.dir)) (λ not_i not_d. inl (c.others x not_d not_i))) (row_made (held_of shape f) (held_of shape g) s d name i kind (sound_of shape f s r) free named c)
  where
    kind_not_3 : kind ≢ 3
    kind_not_3 is = elim c.dir_or_file [ inl one ↦ omega (arith, one, is) | inr two ↦ omega (arith, two, is) ]

-- where there is a directory, the root is one
pub root_dir : (s : State) (d : ℕ) → TreeRule s → is_dir (get s.nodes d) ≡ true → is_dir (get s.nodes 1) ≡ true
root_dir s d tree dir = let way = tree.reached d (dir_used _ dir) in by way.0 way.1
  where
    by : (names : List (List ℕ)) → walk s 1 names ≡ Ok d → is_dir (get s.nodes 1) ≡ true
    by [] here = subst (λ x. is_dir (get s.nodes x) ≡ true) (sym (cc (here))) dir
    by (n ∷ names) way = (stepped s 1 d n names way).dir

-- ---- a new node

dir_stays : (s : State) (i : ℕ) (node : Node) (x : ℕ) → get s.nodes i ≡ None → is_dir (get s.nodes x) ≡ true → is_dir (get (insert s.nodes i node) x) ≡ true
dir_stays s i node x new is = ap is_dir (get_there s.nodes i node x (λ here. dir_used _ is (ap (get s.nodes) here ∙ new))) ∙ is

pub tree_new : (s : State) (d : ℕ) (name : List ℕ) (i : ℕ) (node : Node) → RowsFit s → TreeRule s → is_dir (get s.nodes d) ≡ true → get s.names (d, name) ≡ None → get s.nodes i ≡ None → TreeRule (with_new s d name i node)
tree_new s d name i node fit tree dir free new = tree_by t root (one_put s.names (d, name) i (one_row s tree) (λ q e. fit.used q.0 q.1 i e new)) (λ j used. elim (cases_eq j i) [
  | inl here ↦ subst (Reached t) (sym here) (name ∷ below.0, (d, kept below.0 d below.1, record { dir = dir_stays s i node d new dir; row = name_get_same s.names (d, name) i }))
  | inr away ↦ (let way = reached s j tree (λ none. used (get_there s.nodes i node j away ∙ none)) in (way.0, kept way.0 j way.1))
])
  where
    t : State
    t = with_new s d name i node

    root : (q : NameKey) → get t.names q ≢ Some 1
    root q e = elim (row_put s.names (d, name) i q 1 e) [ inl here ↦ dir_used _ (root_dir s d tree dir) (ap (get s.nodes) (sym here.1) ∙ new) | inr r ↦ tree.root q.0 q.1 r.row ]

    kept : (up : List (List ℕ)) (x : ℕ) → Up s up x → Up t up x
    kept up x = up_kept s t (λ y. y ≡ y) (λ c n y p h. (refl, record { dir = dir_stays s i node c new h.dir; row = name_get_other s.names (d, name) i (c, n) (λ same. some_none _ y (ap (get s.names) same ∙ free) h.row) ∙ h.row })) up x refl

    below : Reached s d
    below = reached s d tree (dir_used _ dir)
