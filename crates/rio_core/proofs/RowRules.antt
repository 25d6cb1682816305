-- The rows of open transactions, and their marks.
use Rattle.rio_core.proofs.Common.{◌≡◌, ◌≢◌, ℕ, ◌⊎◌, inl, inr, Bool, true, false, Option, Some, None, List, [], ◌∷◌, refl, sym, ap, subst, ◌∙◌, cases_eq, Txn, OneEach, txn_at, Marks, mark_of, set_mark}
use Rattle.std.proofs.Common.{◌==◌, cond}
use Rattle.rio_model.proofs.WordRules.{differs, itself}
use Rattle.rio_requests.specs.Transactions.{set_txn, txn_before}
use Rattle.vista_region.specs.Marks.{row_before}
use Rattle.rio_core.proofs.RegionsLaws.{IsOn, mark_in}
use Rattle.rio_core.specs.Regions.{marks_of}

is_same : (a b : ℕ) → a ≡ b → (a == b) ≡ true
is_same a b e = ap (λ x. x == b) e ∙ itself b

-- ---- rows and marks

rows_before : (txns : List Txn) (i : ℕ) (o : Option Txn) → IsOn i o → marks_of (txn_before o txns) ≡ row_before i (mark_in o) (marks_of txns)
rows_before txns i None on = refl
rows_before txns i (Some t) on = ap (λ (x : ℕ). (x, t.doomed) ∷ marks_of txns) on

-- the rows follow the transactions
pub marks_set : (txns : List Txn) (i : ℕ) (o : Option Txn) → IsOn i o → marks_of (set_txn txns i o) ≡ set_mark (marks_of txns) i (mark_in o)
marks_set [] i o on = rows_before [] i o on
marks_set (t ∷ txns) i o on = by (t.ino.0 == i) (marks_set txns i o on)
  where
    by : (b : Bool) → marks_of (set_txn txns i o) ≡ set_mark (marks_of txns) i (mark_in o) → marks_of (cond b (txn_before o txns) (t ∷ set_txn txns i o)) ≡ cond b (row_before i (mark_in o) (marks_of txns)) ((t.ino.0, t.doomed) ∷ set_mark (marks_of txns) i (mark_in o))
    by true later = rows_before txns i o on
    by false later = ap (λ (ms : Marks). (t.ino.0, t.doomed) ∷ ms) later

-- a region's mark is that of its transaction
pub mark_at : (txns : List Txn) (i : ℕ) → mark_of (marks_of txns) i ≡ mark_in (txn_at txns i)
mark_at [] i = refl
mark_at (t ∷ txns) i = by (t.ino.0 == i) (mark_at txns i)
  where
    by : (b : Bool) → mark_of (marks_of txns) i ≡ mark_in (txn_at txns i) → cond b (Some t.doomed) (mark_of (marks_of txns) i) ≡ mark_in (cond b (Some t) (txn_at txns i))
    by true later = refl
    by false later = later

pub mark_same : (marks : Marks) (i : ℕ) → set_mark marks i (mark_of marks i) ≡ marks
mark_same [] i = refl
mark_same (m ∷ marks) i = by (cases_eq m.0 i) (mark_same marks i)
  where
    by : (m.0 ≡ i) ⊎ (m.0 ≢ i) → set_mark marks i (mark_of marks i) ≡ marks → set_mark (m ∷ marks) i (mark_of (m ∷ marks) i) ≡ m ∷ marks
    by (inl e) later = ap (λ b. cond b (row_before i (cond b (Some m.1) (mark_of marks i)) marks) (m ∷ set_mark marks i (cond b (Some m.1) (mark_of marks i)))) (is_same m.0 i e) ∙ ap (λ (x : ℕ). (x, m.1) ∷ marks) (sym e)
    by (inr away) later = ap (λ b. cond b (row_before i (cond b (Some m.1) (mark_of marks i)) marks) (m ∷ set_mark marks i (cond b (Some m.1) (mark_of marks i)))) (differs m.0 i away) ∙ ap (λ (ms : Marks). m ∷ ms) later

-- ---- the transaction of a region

at_front : (txns : List Txn) (i : ℕ) (o : Option Txn) → txn_at txns i ≡ None → IsOn i o → txn_at (txn_before o txns) i ≡ o
at_front txns i None none on = none
at_front txns i (Some t) none on = ap (λ b. cond b (Some t) (txn_at txns i)) (is_same t.ino.0 i on)

-- it is what was set
pub txn_set : (txns : List Txn) (i : ℕ) (o : Option Txn) → OneEach txns → IsOn i o → txn_at (set_txn txns i o) i ≡ o
txn_set [] i o once on = at_front [] i o refl on
txn_set (t ∷ txns) i o once on = by (cases_eq t.ino.0 i) (txn_set txns i o once.1 on)
  where
    by : (t.ino.0 ≡ i) ⊎ (t.ino.0 ≢ i) → txn_at (set_txn txns i o) i ≡ o → txn_at (set_txn (t ∷ txns) i o) i ≡ o
    by (inl e) later = ap (λ b. txn_at (cond b (txn_before o txns) (t ∷ set_txn txns i o)) i) (is_same t.ino.0 i e) ∙ at_front txns i o (ap (txn_at txns) (sym e) ∙ once.0) on
    by (inr away) later =
        let other = differs t.ino.0 i away in
        ap (λ b. txn_at (cond b (txn_before o txns) (t ∷ set_txn txns i o)) i) other ∙ ap (λ b. cond b (Some t) (txn_at (set_txn txns i o) i)) other ∙ later

behind_front : (txns : List Txn) (i j : ℕ) (o : Option Txn) → IsOn i o → j ≢ i → txn_at (txn_before o txns) j ≡ txn_at txns j
behind_front txns i j None on away = refl
behind_front txns i j (Some t) on away = ap (λ b. cond b (Some t) (txn_at txns j)) (differs t.ino.0 j (λ e. away (sym e ∙ on)))

-- those of others stay
pub txn_beside : (txns : List Txn) (i j : ℕ) (o : Option Txn) → IsOn i o → j ≢ i → txn_at (set_txn txns i o) j ≡ txn_at txns j
txn_beside [] i j o on away = behind_front [] i j o on away
txn_beside (t ∷ txns) i j o on away = by (cases_eq t.ino.0 i) (txn_beside txns i j o on away)
  where
    by : (t.ino.0 ≡ i) ⊎ (t.ino.0 ≢ i) → txn_at (set_txn txns i o) j ≡ txn_at txns j → txn_at (set_txn (t ∷ txns) i o) j ≡ txn_at (t ∷ txns) j
    by (inl e) later =
        ap (λ b. txn_at (cond b (txn_before o txns) (t ∷ set_txn txns i o)) j) (is_same t.ino.0 i e)
        ∙ behind_front txns i j o on away
        ∙ sym (ap (λ b. cond b (Some t) (txn_at txns j)) (differs t.ino.0 j (λ same. away (sym same ∙ e))))
    by (inr other) later = ap (λ b. txn_at (cond b (txn_before o txns) (t ∷ set_txn txns i o)) j) (differs t.ino.0 i other) ∙ ap (cond (t.ino.0 == j) (Some t)) later

-- no region has two
pub once_set : (txns : List Txn) (i : ℕ) (o : Option Txn) → OneEach txns → IsOn i o → OneEach (set_txn txns i o)
once_set [] i None once on = tt
once_set [] i (Some t) once on = (refl, tt)
once_set (t ∷ txns) i o once on = by (cases_eq t.ino.0 i) (once_set txns i o once.1 on)
  where
    front : (o : Option Txn) → IsOn i o → t.ino.0 ≡ i → OneEach (txn_before o txns)
    front None on e = once.1
    front (Some u) on e = (ap (txn_at txns) (on ∙ sym e) ∙ once.0, once.1)

    by : (t.ino.0 ≡ i) ⊎ (t.ino.0 ≢ i) → OneEach (set_txn txns i o) → OneEach (set_txn (t ∷ txns) i o)
    by (inl e) later = subst (λ b. OneEach (cond b (txn_before o txns) (t ∷ set_txn txns i o))) (sym (is_same t.ino.0 i e)) (front o on e)
    by (inr away) later = subst (λ b. OneEach (cond b (txn_before o txns) (t ∷ set_txn txns i o))) (sym (differs t.ino.0 i away)) (txn_beside txns i t.ino.0 o on away ∙ once.0, later)

-- the mark that is set is that of its region
pub mark_set : (txns : List Txn) (i : ℕ) (o : Option Txn) → OneEach txns → IsOn i o → mark_of (set_mark (marks_of txns) i (mark_in o)) i ≡ mark_in o
mark_set txns i o once on = ap (λ (ms : Marks). mark_of ms i) (sym (marks_set txns i o on)) ∙ mark_at (set_txn txns i o) i ∙ ap mark_in (txn_set txns i o once on)
