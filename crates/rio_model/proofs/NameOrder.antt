-- The order of names is total and ties only equal keys, so what the laws of finite maps say holds of names.
use Rattle.rio_model.proofs.Common.{◌≡◌, ◌≢◌, ◌==◌, ◌&&◌, ℕ, Bool, true, false, cond, List, [], ◌∷◌, ◌++◌, refl, sym, ap, ◌∙◌, arith, Some, None, Ordering, Equal, nat_cmp, eq_by_cmp, is_eq, nat_cmp_total, get, insert, from_entries, find, entries, get-from_entries, same_map, remove, nat_tests, Decides-eqb}
use Rattle.std.specs.declared.cmp.Ordering.TheVariants.{Less, Greater}
use Rattle.std.specs.Str.{bytes_eq}
use Rattle.std.specs.Cmp.{IsTotalOrder, tied_then}
use Rattle.std.specs.Cmp.Lexicographic.{slice_cmp, nat_list_cmp_total}
use Rattle.std.specs.FinMap.{put, get-insert, get-remove, entries-insert, from_entries_push}
use Rattle.std.proofs.lemmas.Cmp.{on_total, then_total, tied_itself}
use Rattle.std.proofs.lemmas.Map.Lookups.{exact_pairs, exact_unsigned, exact_bytes}
use Rattle.std.proofs.lemmas.Map.Text.{is_eq-slice_cmp}
use Rattle.rio_model.specs.Names.{NameKey, Names, name_cmp}

pub name_total : IsTotalOrder name_cmp
name_total = then_total (on_total (λ (k : NameKey). k.0) nat_cmp_total) (on_total (λ (k : NameKey). k.1) nat_list_cmp_total)

-- only equal keys tie
pub name_exact : (a b : NameKey) → name_cmp a b ≡ Equal → a ≡ b
name_exact a b e = exact_pairs nat_cmp (slice_cmp nat_cmp) exact_unsigned exact_bytes a b e

pub nat_tied : (x y : ℕ) → is_eq (nat_cmp x y) ≡ (x == y)
nat_tied x y = grind (arith, nat_tests)

-- keys tie as a program compares them
pub name_tied : (a b : NameKey) → eq_by_cmp name_cmp a b ≡ ((a.0 == b.0) && bytes_eq a.1 b.1)
name_tied a b = sym (tied_then (nat_cmp a.0 b.0) (slice_cmp nat_cmp a.1 b.1)) ∙ rw (nat_tied a.0 b.0, is_eq-slice_cmp a.1 b.1) refl

-- the same of two names in one directory
pub name_tied_in : (d e : ℕ) (a b : List ℕ) (r : Bool) → d ≡ e → r ≡ bytes_eq a b → r ≡ eq_by_cmp name_cmp (d, a) (e, b)
name_tied_in d e a b r same is = is ∙ sym (name_tied (d, a) (e, b) ∙ ap (λ t. t && bytes_eq a b) ((Decides-eqb d e).1 same))

pub name_itself : (k : NameKey) → eq_by_cmp name_cmp k k ≡ true
name_itself k = ap is_eq (tied_itself name_total k)

not_equal : (r : Ordering) → r ≢ Equal → is_eq r ≡ false
not_equal Less n = refl
not_equal Equal n = absurd (n refl)
not_equal Greater n = refl

pub name_apart : (a b : NameKey) → a ≢ b → eq_by_cmp name_cmp a b ≡ false
name_apart a b n = not_equal _ (λ e. n (name_exact a b e))

pub name_get-insert : (m : Names) (k : NameKey) (v : ℕ) (q : NameKey) → get (insert m k v) q ≡ cond (eq_by_cmp name_cmp q k) (Some v) (get m q)
name_get-insert = get-insert name_total

pub name_get-remove : (m : Names) (k q : NameKey) → get (remove m k) q ≡ cond (eq_by_cmp name_cmp q k) None (get m q)
name_get-remove = get-remove name_total

pub name_get-from_entries : (es : List (NameKey × ℕ)) (q : NameKey) → get (from_entries {R = name_cmp} es) q ≡ find name_cmp q es
name_get-from_entries = get-from_entries name_total

pub name_entries-insert : (m : Names) (k : NameKey) (v : ℕ) → entries (insert m k v) ≡ put name_cmp k v (entries m)
name_entries-insert = entries-insert name_total

pub name_get_same : (m : Names) (k : NameKey) (v : ℕ) → get (insert m k v) k ≡ Some v
name_get_same m k v = name_get-insert m k v k ∙ ap (λ b. cond b (Some v) (get m k)) (name_itself k)

pub name_get_other : (m : Names) (k : NameKey) (v : ℕ) (q : NameKey) → q ≢ k → get (insert m k v) q ≡ get m q
name_get_other m k v q n = name_get-insert m k v q ∙ ap (λ b. cond b (Some v) (get m q)) (name_apart q k n)

-- two maps of names that answer alike are equal
pub same_names : (m n : Names) → ((q : NameKey) → get m q ≡ get n q) → m ≡ n
same_names = same_map name_total name_exact

-- to push a name that is new is to insert it
pub names_push : (es : List (NameKey × ℕ)) (k : NameKey) (v : ℕ) → find name_cmp k es ≡ None → from_entries {R = name_cmp} (es ++ (k, v) ∷ []) ≡ insert (from_entries es) k v
names_push = from_entries_push name_total name_exact

pub ruleset name_gets = (name_get-insert, name_get-remove, name_get-from_entries, name_itself)
