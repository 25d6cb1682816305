-- Names and nodes that go, and the names of one directory once one goes or gives way to another.
use Rattle.request_ends.proofs.Common.{◌≡◌, ◌≢◌, ℕ, ◌⊎◌, true, false, cond, List, refl, sym, ap, subst, ◌∙◌, inl, inr, get, insert, eq_by_cmp, none-some, NameKey, Names, name_cmp, differs, name_get_other}
use Rattle.rio_model.proofs.WordRules.{itself}
use Rattle.std.proofs.Common.{Some, None}
use Rattle.std.specs.Cmp.{nat_cmp_total}
use Rattle.std.specs.FinMap.{get-remove, remove}
use Rattle.std.specs.Ordering.{nat_cmp}
use Rattle.rio_model.specs.Nodes.{Nodes}
use Rattle.rio_model.proofs.NameOrder.{name_itself, name_apart, name_get-remove, nat_tied}
use Rattle.directories.specs.RowChanges.{NoName, NoRow, TheRow}
use Rattle.file_tree.proofs.NameSteps.{by_one, by_two, same_key, same_name, dirs_apart, insert_back, ChangesNames, rows_stay, row_inserted}

pub by_three : (P : ℕ → Type 0) (a b c x : ℕ) → P a → P b → P c → (x ≢ a → x ≢ b → x ≢ c → P x) → P x
by_three P a b c x at_a at_b at_c else = by_one P a x at_a (λ not_a. by_two P b c x at_b at_c (else not_a))

-- ---- names that come and go

pub remove_other : (m : Names) (q p : NameKey) → p ≢ q → get (remove m q) p ≡ get m p
remove_other m q p n = name_get-remove m q p ∙ ap (λ b. cond b None (get m p)) (name_apart p q n)

pub remove_back : (m : Names) (q p : NameKey) (v : ℕ) → get (remove m q) p ≡ Some v → (p ≢ q) × (get m p ≡ Some v)
remove_back m q p v e = elim (same_key p q) [
  | inl same ↦ absurd (none-some v (sym (name_get-remove m q p ∙ ap (λ b. cond b None (get m p)) (ap (eq_by_cmp name_cmp p) (sym same) ∙ name_itself p)) ∙ e))
  | inr away ↦ (away, sym (remove_other m q p away) ∙ e)
]

-- a name that is there after a move is the new one, or was there and is neither of the two
pub record WasThere (m : Names) (q r p : NameKey) (v : ℕ) : Type 0 where
  pub not_gone : p ≢ q
  pub not_new : p ≢ r
  pub was : get m p ≡ Some v

pub moved_back : (m : Names) (q r : NameKey) (i : ℕ) (p : NameKey) (v : ℕ) → get (insert (remove m q) r i) p ≡ Some v → ((p ≡ r) × (v ≡ i)) ⊎ WasThere m q r p v
moved_back m q r i p v e = elim (insert_back (remove m q) r i p v e) [
  | inl new ↦ inl new
  | inr old ↦ (let back = remove_back m q p v old.1 in inr (record { not_gone = back.0; not_new = old.0; was = back.1 }))
]

pub moved_other : (m : Names) (q r : NameKey) (i : ℕ) (p : NameKey) → p ≢ q → p ≢ r → get (insert (remove m q) r i) p ≡ get m p
moved_other m q r i p not_gone not_new = name_get_other (remove m q) r i p not_new ∙ remove_other m q p not_gone

-- ---- nodes that come and go

pub gone_here : (m : Nodes) (i : ℕ) → get (remove m i) i ≡ None
gone_here m i = let same : eq_by_cmp nat_cmp i i ≡ true = nat_tied i i ∙ itself i in get-remove nat_cmp_total m i i ∙ ap (λ b. cond b None (get m i)) same

pub gone_there : (m : Nodes) (i j : ℕ) → j ≢ i → get (remove m i) j ≡ get m j
gone_there m i j away = let other : eq_by_cmp nat_cmp j i ≡ false = nat_tied j i ∙ differs j i away in get-remove nat_cmp_total m i j ∙ ap (λ b. cond b None (get m j)) other

pub remove_some : (m : Nodes) (i j : ℕ) → j ≢ i → get m j ≢ None → get (remove m i) j ≢ None
remove_some m i j away some none = some (sym (gone_there m i j away) ∙ none)

-- one row is gone
pub row_removed : (l : Names) (d : ℕ) (a : List ℕ) (gone : List ℕ → Type 0) → gone a → ((n : List ℕ) → gone n → n ≡ a) → ChangesNames l (remove l (d, a)) d gone NoRow
row_removed l d a gone at alone = record {
  known = λ n. elim (same_name n a) [ inl same ↦ inl (subst gone (sym same) at) | inr other ↦ inr (λ g. other (alone n g)) ];
  came = λ n i z. absurd z;
  kept = λ n i stays e. remove_other l (d, a) (d, n) (λ q. stays (subst gone (sym (ap (λ (k : NameKey). k.1) q)) at)) ∙ e;
  from = λ n i e. let back = remove_back l (d, a) (d, n) i e in inr ((λ g. back.0 (ap (λ x. (d, x)) (alone n g))), back.1);
}

-- a row is gone from directory d, and one comes in directory e
pub row_leaves : (l : Names) (d : ℕ) (a : List ℕ) (e : ℕ) (b : List ℕ) (i : ℕ) (gone : List ℕ → Type 0) → d ≢ e → gone a → ((n : List ℕ) → gone n → n ≡ a) → ChangesNames l (insert (remove l (d, a)) (e, b) i) d gone NoRow
row_leaves l d a e b i gone apart at alone =
    let c = row_removed l d a gone at alone in
    let same : (n : List ℕ) → get (insert (remove l (d, a)) (e, b) i) (d, n) ≡ get (remove l (d, a)) (d, n) = λ n. name_get_other (remove l (d, a)) (e, b) i (d, n) (dirs_apart d e n b apart) in
    record {
      known = c.known;
      came = λ n v z. absurd z;
      kept = λ n v stays is. same n ∙ c.kept n v stays is;
      from = λ n v is. c.from n v (sym (same n) ∙ is);
    }

pub row_arrives : (l : Names) (d : ℕ) (a : List ℕ) (e : ℕ) (b : List ℕ) (i : ℕ) (gone : List ℕ → Type 0) → d ≢ e → ((n : List ℕ) → gone n ⊎ (gone n → ⊥)) → ((n : List ℕ) → gone n → n ≡ b) → ((gone b → ⊥) → get l (e, b) ≡ None) → ChangesNames l (insert (remove l (d, a)) (e, b) i) e gone (TheRow b i)
row_arrives l d a e b i gone apart known alone free =
    row_inserted l (remove l (d, a)) e b i NoName gone (rows_stay l (remove l (d, a)) e (λ n. remove_other l (d, a) (e, n) (dirs_apart e d n a (λ same. apart (sym same))))) known (λ n z. absurd z) (λ n g. inr (alone n g)) free

-- both in one directory
pub row_changes : (l : Names) (d : ℕ) (a b : List ℕ) (i : ℕ) (gone : List ℕ → Type 0) → ((n : List ℕ) → gone n ⊎ (gone n → ⊥)) → gone a → ((n : List ℕ) → gone n → (n ≡ a) ⊎ (n ≡ b)) → ((gone b → ⊥) → get l (d, b) ≡ None) → ChangesNames l (insert (remove l (d, a)) (d, b) i) d gone (TheRow b i)
row_changes l d a b i gone known at alone free =
    row_inserted l (remove l (d, a)) d b i (λ n. n ≡ a) gone (row_removed l d a (λ n. n ≡ a) refl (λ n same. same)) known (λ n same. subst gone (sym same) at) alone free
