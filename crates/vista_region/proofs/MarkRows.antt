-- The rows of open transactions, as those of a map.
use Rattle.vista_region.proofs.Common.{◌≡◌, ◌≢◌, ℕ, ◌⊎◌, inl, inr, Bool, true, false, cond, Option, Some, None, [], ◌∷◌, Result, Ok, Err, refl, sym, ap, subst, ◌∙◌, arith, OnOk, is_some, cases_eq, nat_tests, true_false}
use Rattle.std.proofs.Common.{nat_eq}
use Rattle.std.specs.Prelude.{OnErr, is_err}
use Rattle.std.specs.Map.{lookup, remove_entry}
use Rattle.indexmap.specs.IndexMap.{insert_entry}
use Rattle.vista_region.specs.Marks.{Marks, mark_of, set_mark}

turned : (a b : ℕ) → nat_eq a b ≡ nat_eq b a
turned a b = by (cases_eq a b)
  where
    by : (a ≡ b) ⊎ (a ≢ b) → nat_eq a b ≡ nat_eq b a
    by (inl e) = grind (arith, nat_tests)
    by (inr e) = grind (arith, nat_tests)

pub mark_is : (ms : Marks) (i : ℕ) → lookup (nat_eq i) ms ≡ mark_of ms i
mark_is [] i = refl
mark_is (m ∷ ms) i = ap (λ b. cond b (Some m.1) (lookup (nat_eq i) ms)) (turned i m.0) ∙ ap (λ o. cond (nat_eq m.0 i) (Some m.1) o) (mark_is ms i)

pub inserted : (ms : Marks) (i : ℕ) (b : Bool) → insert_entry nat_eq ms i b ≡ set_mark ms i (Some b)
inserted [] i b = refl
inserted (m ∷ ms) i b = by (cases_eq m.0 i) (inserted ms i b)
  where
    by : (m.0 ≡ i) ⊎ (m.0 ≢ i) → insert_entry nat_eq ms i b ≡ set_mark ms i (Some b) → insert_entry nat_eq (m ∷ ms) i b ≡ set_mark (m ∷ ms) i (Some b)
    by (inl e) later =
        let left : nat_eq i m.0 ≡ true = grind (arith, nat_tests) in
        let right : nat_eq m.0 i ≡ true = grind (arith, nat_tests) in
        ap (λ t. cond t ((m.0, b) ∷ ms) (m ∷ insert_entry nat_eq ms i b)) left ∙ ap (λ k. (k, b) ∷ ms) e ∙ sym (ap (λ t. cond t ((i, b) ∷ ms) (m ∷ set_mark ms i (Some b))) right)
    by (inr e) later =
        let left : nat_eq i m.0 ≡ false = grind (arith, nat_tests) in
        let right : nat_eq m.0 i ≡ false = grind (arith, nat_tests) in
        ap (λ t. cond t ((m.0, b) ∷ ms) (m ∷ insert_entry nat_eq ms i b)) left ∙ ap (λ (xs : Marks). m ∷ xs) later ∙ sym (ap (λ t. cond t ((i, b) ∷ ms) (m ∷ set_mark ms i (Some b))) right)

pub removed : (ms : Marks) (i : ℕ) → remove_entry (nat_eq i) ms ≡ set_mark ms i None
removed [] i = refl
removed (m ∷ ms) i = ap (λ t. cond t ms (m ∷ remove_entry (nat_eq i) ms)) (turned i m.0) ∙ ap (λ (xs : Marks). cond (nat_eq m.0 i) ms (m ∷ xs)) (removed ms i)

HasNone : Option Bool → Type 0
HasNone None = Unit {0}
HasNone (Some b) = ⊥

some_none : (b : Bool) (o : Option Bool) → o ≡ None → o ≡ Some b → ⊥
unfolding HasNone
some_none b o n s = subst HasNone (sym n ∙ s) tt

-- a row that is there takes another mark
pub doomed : {T E : Type 0} (r : Result T E) (ms new : Marks) (i : ℕ) → ((b : Bool) × (mark_of ms i ≡ Some b)) → OnOk r (new ≡ insert_entry nat_eq ms i true) → OnErr r (lookup (nat_eq i) ms ≡ None) → new ≡ set_mark ms i (Some true)
doomed (Ok x) ms new i some put none = put ∙ inserted ms i true
doomed (Err e) ms new i some put none = absurd (some_none some.0 (mark_of ms i) (sym (mark_is ms i) ∙ none) some.1)

none_of : (o : Option Bool) → is_some o ≡ false → o ≡ None
none_of None e = refl
none_of (Some b) e = absurd (true_false e)

ok_of : {T E : Type 0} (r : Result T E) (P : Type 0) → is_err r ≡ false → OnOk r P → P
ok_of (Ok x) P e p = p
ok_of (Err x) P e p = absurd (true_false e)

-- a row goes last where none is there
pub began : {T E : Type 0} (r : Result T E) (o : Option Bool) (ms new : Marks) (i : ℕ) → o ≡ mark_of ms i → is_some o ≡ false → is_err r ≡ false → OnOk r (new ≡ insert_entry nat_eq ms i false) → (mark_of ms i ≡ None) × (new ≡ set_mark ms i (Some false))
began r o ms new i is none fine put = (sym is ∙ none_of o none, ok_of r (new ≡ insert_entry nat_eq ms i false) fine put ∙ inserted ms i false)
