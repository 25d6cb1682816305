-- What rows and nodes a state has once one is put in or taken out.
use Rattle.rio_model.proofs.Common.{◌≡◌, ◌≢◌, ◌⊎◌, ℕ, true, cond, Option, Some, None, refl, sym, ap, ◌∙◌, inl, inr, nat_cmp_total, get, insert, remove, eq_by_cmp, is_eq, Ordering, Equal, cases_Bool, true_false}
use Rattle.std.specs.declared.cmp.Ordering.TheVariants.{Greater, Less}
use Rattle.std.specs.FinMap.{get-remove}
use Rattle.rio_model.specs.Names.{NameKey, Names, name_cmp}
use Rattle.rio_model.specs.Nodes.{Nodes}
use Rattle.rio_model.proofs.NameOrder.{name_apart, name_exact, name_get-remove, name_get_other, name_get_same, name_itself, nat_tied}
use Rattle.rio_model.proofs.WordRules.{differs, itself}

-- ---- keys

tied : (o : Ordering) → is_eq o ≡ true → o ≡ Equal
tied Less e = absurd (true_false (sym e))
tied Equal e = refl
tied Greater e = absurd (true_false (sym e))

pub key_of : (p q : NameKey) → eq_by_cmp name_cmp p q ≡ true → p ≡ q
key_of p q e = name_exact p q (tied _ e)

pub cases_key : (p q : NameKey) → (p ≡ q) ⊎ (p ≢ q)
cases_key p q = elim (cases_Bool (eq_by_cmp name_cmp p q)) [
  | inl same ↦ inl (key_of p q same)
  | inr other ↦ inr (λ e. true_false (sym (ap (λ k. eq_by_cmp name_cmp k q) e ∙ name_itself q) ∙ other))
]

-- ---- rows

pub some_none : (o : Option ℕ) (i : ℕ) → o ≡ None → o ≢ Some i
some_none o i none some = cc (none, some)

pub same_some : (o : Option ℕ) (i j : ℕ) → o ≡ Some i → o ≡ Some j → i ≡ j
same_some o i j x y = cc (x, y)

pub row_removed : (m : Names) (k : NameKey) → get (remove m k) k ≡ None
row_removed m k = name_get-remove m k k ∙ ap (λ b. cond b None (get m k)) (name_itself k)

pub row_kept : (m : Names) (k q : NameKey) → q ≢ k → get (remove m k) q ≡ get m q
row_kept m k q away = name_get-remove m k q ∙ ap (λ b. cond b None (get m q)) (name_apart q k away)

-- a row at another key than this one
pub record RowBeside (m : Names) (k q : NameKey) (v : ℕ) : Type 0 where
  pub away : q ≢ k
  pub row : get m q ≡ Some v

-- the rows once one is taken out
pub row_left : (m : Names) (k q : NameKey) (v : ℕ) → get (remove m k) q ≡ Some v → RowBeside m k q v
row_left m k q v e =
    let away : q ≢ k = (λ same. some_none _ v (ap (get (remove m k)) same ∙ row_removed m k) e) in
    record { away = away; row = sym (row_kept m k q away) ∙ e }

-- and once one is put in
pub row_put : (m : Names) (k : NameKey) (v : ℕ) (q : NameKey) (w : ℕ) → get (insert m k v) q ≡ Some w → ((q ≡ k) × (v ≡ w)) ⊎ RowBeside m k q w
row_put m k v q w e = elim (cases_key q k) [
  | inl same ↦ inl (same, same_some _ v w (ap (get (insert m k v)) same ∙ name_get_same m k v) e)
  | inr away ↦ inr (record { away = away; row = sym (name_get_other m k v q away) ∙ e })
]

-- a row that is neither the one taken out nor the one put in
pub record RowApart (m : Names) (k l q : NameKey) (v : ℕ) : Type 0 where
  pub off : q ≢ k
  pub on : q ≢ l
  pub row : get m q ≡ Some v

-- the rows once one is put in place of another
pub row_moved : (m : Names) (k l : NameKey) (v : ℕ) (q : NameKey) (w : ℕ) → get (insert (remove m k) l v) q ≡ Some w → ((q ≡ l) × (v ≡ w)) ⊎ RowApart m k l q w
row_moved m k l v q w e = elim (row_put (remove m k) l v q w e) [
  | inl new ↦ inl new
  | inr old ↦ (let left = row_left m k q w old.row in inr (record { off = left.away; on = old.away; row = left.row }))
]

pub row_stays : (m : Names) (k l : NameKey) (v : ℕ) (q : NameKey) → q ≢ k → q ≢ l → get (insert (remove m k) l v) q ≡ get m q
row_stays m k l v q off on = name_get_other (remove m k) l v q on ∙ row_kept m k q off

-- ---- one row at most names a node

abbrev pub OneRow : Names → Type 0
OneRow m = (p q : NameKey) (v : ℕ) → get m p ≡ Some v → get m q ≡ Some v → p ≡ q

pub one_left : (m : Names) (k : NameKey) → OneRow m → OneRow (remove m k)
one_left m k one p q v x y = one p q v (row_left m k p v x).row (row_left m k q v y).row

pub one_put : (m : Names) (k : NameKey) (v : ℕ) → OneRow m → ((q : NameKey) → get m q ≢ Some v) → OneRow (insert m k v)
one_put m k v one none p q w x y = elim (row_put m k v p w x) [
  | inl a ↦ elim (row_put m k v q w y) [
    | inl b ↦ a.0 ∙ sym b.0
    | inr b ↦ absurd (none q (b.row ∙ ap Some (sym a.1)))
  ]
  | inr a ↦ elim (row_put m k v q w y) [
    | inl b ↦ absurd (none p (a.row ∙ ap Some (sym b.1)))
    | inr b ↦ one p q w a.row b.row
  ]
]

-- a row that is put in place of another one names what that one named
pub one_moved : (m : Names) (k l : NameKey) (i : ℕ) → OneRow m → get m k ≡ Some i → OneRow (insert (remove m k) l i)
one_moved m k l i one row = one_put (remove m k) l i (one_left m k one) (λ q e. let r = row_left m k q i e in r.away (one q k i r.row row))

-- ---- nodes

pub node_removed : (m : Nodes) (i : ℕ) → get (remove m i) i ≡ None
node_removed m i = get-remove nat_cmp_total m i i ∙ ap (λ b. cond b None (get m i)) (nat_tied i i ∙ itself i)

pub node_kept : (m : Nodes) (i j : ℕ) → j ≢ i → get (remove m i) j ≡ get m j
node_kept m i j away = get-remove nat_cmp_total m i j ∙ ap (λ b. cond b None (get m j)) (nat_tied j i ∙ differs j i away)

-- a node that is left is another than the one taken out, and was there
pub record NodeBeside (m : Nodes) (i j : ℕ) : Type 0 where
  pub away : j ≢ i
  pub some : get m j ≢ None

pub node_left : (m : Nodes) (i j : ℕ) → get (remove m i) j ≢ None → NodeBeside m i j
node_left m i j some =
    let away : j ≢ i = (λ same. some (ap (get (remove m i)) same ∙ node_removed m i)) in
    record { away = away; some = λ none. some (node_kept m i j away ∙ none) }
