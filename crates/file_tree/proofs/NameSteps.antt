-- Names of a state that come, and what changes of the names of one directory then.
use Rattle.request_ends.proofs.Common.{◌≡◌, ◌≢◌, ℕ, ◌⊎◌, true, List, Option, refl, sym, ap, subst, ◌∙◌, inl, inr, get, insert, eq_by_cmp, is_eq, Ordering, Less, Equal, Greater, cases_Bool, cases_eq, none-some, true_false, Node, NameKey, Names, name_cmp, name_get_same, name_get_other, get_here, get_there}
use Rattle.std.proofs.Common.{Some, None}
use Rattle.std.proofs.lemmas.Option.{same_Some}
use Rattle.rio_model.specs.Nodes.{Nodes}
use Rattle.rio_model.proofs.NameOrder.{name_exact, name_itself}
use Rattle.directories.specs.RowChanges.{NoName, NoRow, TheRow}

-- ---- numbers and keys

-- what holds at some numbers, and at all others
pub by_one : (P : ℕ → Type 0) (a x : ℕ) → P a → (x ≢ a → P x) → P x
by_one P a x at_a else = elim (cases_eq x a) [
  | inl same ↦ subst P (sym same) at_a
  | inr not_a ↦ else not_a
]

pub by_two : (P : ℕ → Type 0) (a b x : ℕ) → P a → P b → (x ≢ a → x ≢ b → P x) → P x
by_two P a b x at_a at_b else = by_one P a x at_a (λ not_a. by_one P b x at_b (else not_a))

pub same_key : (p q : NameKey) → (p ≡ q) ⊎ (p ≢ q)
same_key p q = elim (cases_Bool (eq_by_cmp name_cmp p q)) [
  | inl same ↦ inl (name_exact p q (equal _ same))
  | inr other ↦ inr (λ e. true_false (sym (name_itself q) ∙ ap (λ k. eq_by_cmp name_cmp k q) (sym e) ∙ other))
]
  where
    equal : (o : Ordering) → is_eq o ≡ true → o ≡ Equal
    equal Less h = absurd (true_false (sym h))
    equal Equal h = refl
    equal Greater h = absurd (true_false (sym h))

pub same_name : (a b : List ℕ) → (a ≡ b) ⊎ (a ≢ b)
same_name a b = elim (same_key (0, a) (0, b)) [
  | inl same ↦ inl (ap (λ (q : NameKey). q.1) same)
  | inr other ↦ inr (λ e. other (ap (λ n. (0, n)) e))
]

-- keys of two directories
pub dirs_apart : (x d : ℕ) (y n : List ℕ) → x ≢ d → ◌≢◌ {A = NameKey} (x, y) (d, n)
dirs_apart x d y n away e = away (ap (λ (q : NameKey). q.0) e)

-- ---- names and nodes that come

pub insert_back : (m : Names) (q : NameKey) (i : ℕ) (p : NameKey) (v : ℕ) → get (insert m q i) p ≡ Some v → ((p ≡ q) × (v ≡ i)) ⊎ ((p ≢ q) × (get m p ≡ Some v))
insert_back m q i p v e = elim (same_key p q) [
  | inl same ↦ inl (same, same_Some v i (sym e ∙ ap (get (insert m q i)) same ∙ name_get_same m q i))
  | inr away ↦ inr (away, sym (name_get_other m q i p away) ∙ e)
]

pub no_value : (o : Option ℕ) → ((v : ℕ) → o ≡ Some v → ⊥) → o ≡ None
no_value None h = refl
no_value (Some v) h = absurd (h v refl)

pub insert_some : (m : Nodes) (i : ℕ) (n : Node) (j : ℕ) → (j ≢ i → get m j ≢ None) → get (insert m i n) j ≢ None
insert_some m i n j some none = elim (cases_eq j i) [
  | inl here ↦ none-some n (sym none ∙ ap (get (insert m i n)) here ∙ get_here m i n)
  | inr away ↦ some away (sym (get_there m i n j away) ∙ none)
]

-- ---- the names of one directory

-- in directory d, names m are names l, but for these rows
pub record ChangesNames (l m : Names) (d : ℕ) (gone : List ℕ → Type 0) (new : List ℕ → ℕ → Type 0) : Type 0 where
  pub known : (name : List ℕ) → gone name ⊎ (gone name → ⊥)
  pub came : (name : List ℕ) (i : ℕ) → new name i → get m (d, name) ≡ Some i
  pub kept : (name : List ℕ) (i : ℕ) → (gone name → ⊥) → get l (d, name) ≡ Some i → get m (d, name) ≡ Some i
  pub from : (name : List ℕ) (i : ℕ) → get m (d, name) ≡ Some i → new name i ⊎ ((gone name → ⊥) × (get l (d, name) ≡ Some i))

pub rows_stay : (l m : Names) (d : ℕ) → ((name : List ℕ) → get m (d, name) ≡ get l (d, name)) → ChangesNames l m d NoName NoRow
rows_stay l m d same = record {
  known = λ name. inr (λ z. z);
  came = λ name i z. absurd z;
  kept = λ name i _ e. same name ∙ e;
  from = λ name i e. inr ((λ z. z), sym (same name) ∙ e);
}

-- after other changes, one row comes, where none was or in place of one
pub row_inserted : (l m : Names) (d : ℕ) (b : List ℕ) (i : ℕ) (less gone : List ℕ → Type 0) → ChangesNames l m d less NoRow → ((n : List ℕ) → gone n ⊎ (gone n → ⊥)) → ((n : List ℕ) → less n → gone n) → ((n : List ℕ) → gone n → less n ⊎ (n ≡ b)) → ((gone b → ⊥) → get l (d, b) ≡ None) → ChangesNames l (insert m (d, b) i) d gone (TheRow b i)
row_inserted l m d b i less gone c known more split free = record {
  known = known;
  came = λ n v at. ap (λ x. get (insert m (d, b) i) (d, x)) at.0 ∙ name_get_same m (d, b) i ∙ ap Some (sym at.1);
  kept = λ n v stays e. elim (same_name n b) [
    | inl same ↦ absurd (none-some v (sym (free (λ g. stays (subst gone (sym same) g))) ∙ ap (λ x. get l (d, x)) (sym same) ∙ e))
    | inr away ↦ name_get_other m (d, b) i (d, n) (λ q. away (ap (λ (k : NameKey). k.1) q)) ∙ c.kept n v (λ g. stays (more n g)) e
  ];
  from = λ n v e. elim (insert_back m (d, b) i (d, n) v e) [
    | inl new ↦ inl (ap (λ (k : NameKey). k.1) new.0, new.1)
    | inr old ↦ inr (left_of n v old.1 (λ same. old.0 (ap (λ x. (d, x)) same)))
  ];
}
  where
    left_of : (n : List ℕ) (v : ℕ) → get m (d, n) ≡ Some v → n ≢ b → (gone n → ⊥) × (get l (d, n) ≡ Some v)
    left_of n v e away = elim (c.from n v e) [
      | inl z ↦ absurd z
      | inr old ↦ ((λ g. elim (split n g) [ inl was_less ↦ old.0 was_less | inr same ↦ away same ]), old.1)
    ]

-- a row comes where none was
pub row_comes : (l : Names) (d : ℕ) (b : List ℕ) (i : ℕ) → get l (d, b) ≡ None → ChangesNames l (insert l (d, b) i) d NoName (TheRow b i)
row_comes l d b i free = row_inserted l l d b i NoName NoName (rows_stay l l d (λ n. refl)) (λ n. inr (λ z. z)) (λ n z. z) (λ n z. absurd z) (λ _. free)
