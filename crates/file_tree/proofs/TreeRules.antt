-- The names of a state are a tree, by its rows from each node up to the root.
use Rattle.request_ends.proofs.Common.{◌≡◌, ◌≢◌, ℕ, true, List, [], ◌∷◌, Option, refl, sym, ap, ◌∙◌, get, true_false, Node, State, NameKey, is_dir, TreeRule}
use Rattle.std.proofs.Common.{Some, None}
use Rattle.rio_model.proofs.NameRules.{OneRow}
use Rattle.rio_model.proofs.Walks.{Hangs, Up, turned, up_walk, walk_up}

-- rows name nodes, and stand in directories
pub record RowsFit (s : State) : Type 0 where
  pub used : (d : ℕ) (name : List ℕ) (i : ℕ) → get s.names (d, name) ≡ Some i → get s.nodes i ≢ None
  pub dirs : (d : ℕ) (name : List ℕ) (i : ℕ) → get s.names (d, name) ≡ Some i → is_dir (get s.nodes d) ≡ true

pub dir_used : (o : Option Node) → is_dir o ≡ true → o ≢ None
dir_used o dir none = true_false (sym dir ∙ ap is_dir none)

-- ---- up to the root

abbrev pub Reached : State → ℕ → Type 0
Reached s i = (up : List (List ℕ)) × Up s up i

pub reached : (s : State) (i : ℕ) → TreeRule s → get s.nodes i ≢ None → Reached s i
reached s i tree used = let way = tree.reached i used in (turned way.0 [], up_walk s 1 i [] way.0 refl way.1)

pub one_row : (s : State) → TreeRule s → OneRow s.names
one_row s tree p q v x y = let same = tree.one p.0 q.0 p.1 q.1 v x y in (λ t. (same.0 t, same.1 t))

pub tree_by : (t : State) → ((q : NameKey) → get t.names q ≢ Some 1) → OneRow t.names → ((i : ℕ) → get t.nodes i ≢ None → Reached t i) → TreeRule t
tree_by t root one reach = record {
  root = λ d name e. root (d, name) e;
  one = λ c d a b i x y. let same = one (c, a) (d, b) i x y in (ap (λ (k : NameKey). k.0) same, ap (λ (k : NameKey). k.1) same);
  reached = λ i used. let way = reach i used in (turned way.0 [], walk_up t i i way.0 [] way.1 refl);
}

-- rows up from nodes of a kind stay, where each row of such a node stays and stands in a directory of the kind
pub up_kept : (s t : State) (P : ℕ → Type 0) → ((d : ℕ) (name : List ℕ) (i : ℕ) → P i → Hangs s d name i → P d × Hangs t d name i) → (up : List (List ℕ)) (i : ℕ) → P i → Up s up i → Up t up i
up_kept s t P step [] i p h = h
up_kept s t P step (name ∷ up) i p h = let k = step h.0 name i p h.2 in (h.0, up_kept s t P step up h.0 k.0 h.1, k.1)
