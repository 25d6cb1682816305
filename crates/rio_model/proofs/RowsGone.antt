-- Rows that are taken away: what is left is the map without their key.
use Rattle.rio_model.proofs.Common.{◌≡◌, ℕ, Bool, true, false, cond, List, [], ◌∷◌, map, refl, sym, ap, ◌∙◌, None, filter, not, Ordering, nat_cmp, eq_by_cmp, is_eq, nat_cmp_total, find, from_entries, get-from_entries, nat_cmp-IsAntisymmetric, remove, same_map}
use Rattle.std.specs.Cmp.{IsTotalOrder, alike_right, eq_by_cmp_equiv}
use Rattle.std.specs.FinMap.{IsAntisymmetric, get-remove}
use Rattle.std.specs.FinMap.Entries.{find-where_key}
use Rattle.rio_model.specs.Names.{NameKey, name_cmp, row_entry, row_entries}
use Rattle.rio_model.specs.Nodes.{node_entry, node_entries}
use Rattle.rio_model.specs.declared.node.Node.{Node}
use Rattle.rio_model.specs.declared.rows.NameRow.{NameRow}
use Rattle.rio_model.specs.declared.rows.NodeRow.{NodeRow}
use Rattle.rio_model.proofs.NameOrder.{name_total, name_exact}

turned : {A : Type 0} (b : Bool) (x y : A) → cond (not b) x y ≡ cond b y x
turned true x y = refl
turned false x y = refl

map-cond : {A B : Type 0} (f : A → B) (b : Bool) (x : A) (ys : List A) (zs : List B) → map f ys ≡ zs → map f (cond b (x ∷ ys) ys) ≡ cond b (f x ∷ zs) zs
map-cond f true x ys zs e = ap (λ l. f x ∷ l) e
map-cond f false x ys zs e = e

map-filter : {A B : Type 0} (f : A → B) (p : B → Bool) (xs : List A) → map f (filter (λ x. p (f x)) xs) ≡ filter p (map f xs)
map-filter f p [] = refl
map-filter f p (x ∷ xs) = map-cond f (p (f x)) x (filter (λ y. p (f y)) xs) (filter p (map f xs)) (map-filter f p xs)

from_entries-without : {K X : Type 0} {R : K → K → Ordering} (o : IsTotalOrder R) → IsAntisymmetric R → (k : K) (es : List (K × X)) → from_entries {R = R} (filter (λ (e : K × X). not (eq_by_cmp R k e.0)) es) ≡ remove (from_entries es) k
from_entries-without {R = R} o same k es = same_map o same _ _ (λ q.
    get-from_entries o _ q
    ∙ find-where_key R (λ x. not (eq_by_cmp R k x)) q (λ x t. ap (λ r. not (is_eq r)) (sym (alike_right o q x k t))) es
    ∙ turned (eq_by_cmp R k q) _ _
    ∙ ap (λ b. cond b None (find R q es)) ((eq_by_cmp_equiv o).symm k q)
    ∙ sym (get-remove o (from_entries es) k q ∙ ap (cond (eq_by_cmp R q k) None) (get-from_entries o es q)))

pub names_without : (k : NameKey) (rows : List NameRow) → from_entries {R = name_cmp} (row_entries (filter (λ (r : NameRow). not (eq_by_cmp name_cmp k (row_entry r).0)) rows)) ≡ remove (from_entries (row_entries rows)) k
names_without k rows = ap (λ (es : List (NameKey × ℕ)). from_entries {R = name_cmp} es) (map-filter row_entry (λ e. not (eq_by_cmp name_cmp k e.0)) rows) ∙ from_entries-without name_total name_exact k (row_entries rows)

pub nodes_without : (i : ℕ) (rows : List NodeRow) → from_entries {R = nat_cmp} (node_entries (filter (λ (r : NodeRow). not (eq_by_cmp nat_cmp i r.ino.0)) rows)) ≡ remove (from_entries (node_entries rows)) i
nodes_without i rows = ap (λ (es : List (ℕ × Node)). from_entries {R = nat_cmp} es) (map-filter node_entry (λ e. not (eq_by_cmp nat_cmp i e.0)) rows) ∙ from_entries-without nat_cmp_total nat_cmp-IsAntisymmetric i (node_entries rows)
