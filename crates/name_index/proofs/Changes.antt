-- What a change of names leaves of an index that agreed with them.
use Rattle.std.proofs.Common.{◌≡◌, ◌≢◌, ℕ, Bool, true, false, cond, List, Option, Some, None, refl, sym, ap, subst, ◌∙◌, nat_eq, true≢false, is_some, unwrap_or}
use Rattle.std.specs.declared.cmp.Ordering.{Ordering}
use Rattle.std.specs.declared.cmp.Ordering.TheVariants.{Less, Equal, Greater}
use Rattle.std.specs.Cmp.Lexicographic.{slice_cmp, nat_list_cmp_total}
use Rattle.std.specs.FinMap.{get, get-insert, get-remove, insert, remove}
use Rattle.std.specs.Ordering.{eq_by_cmp, is_eq, nat_cmp}
use Rattle.std.proofs.lemmas.Bool.Decides.{Decides-eqb}
use Rattle.std.proofs.lemmas.Map.Text.{is_eq-slice_cmp}
use Rattle.indexmap.specs.IndexMap.{IndexMap, get as held_at}
use Rattle.rio_model.specs.Names.{NameKey, Names, name_cmp}
use Rattle.rio_model.proofs.NameOrder.{name_apart, name_exact, name_get-insert, name_get-remove, name_tied_in, same_names}
use Rattle.name_index.specs.Agreeing.{AreNames, HeldAgree}
use Rattle.name_index.specs.Rows.{NamesOfDir}

none_some : {A : Type 0} {x : A} → None ≡ Some x → ⊥
none_some e = true≢false (sym (ap is_some e))

same_held : (m n : NamesOfDir) → Some m ≡ Some n → m ≡ n
same_held m n e = ap (λ o. unwrap_or o m) e

-- ---- one directory

-- names of a directory compare as they do among all names
tied : (dir : ℕ) (a b : List ℕ) → eq_by_cmp (slice_cmp nat_cmp) a b ≡ eq_by_cmp name_cmp (dir, a) (dir, b)
tied dir a b = name_tied_in dir dir a b (eq_by_cmp (slice_cmp nat_cmp) a b) refl (is_eq-slice_cmp a b)

pub names_put : (held : NamesOfDir) (dir : ℕ) (names : Names) (name : List ℕ) (i : ℕ) → AreNames held dir names → AreNames (insert held name i) dir (insert names (dir, name) i)
names_put held dir names name i are = λ n.
    get-insert nat_list_cmp_total held name i n
    ∙ ap (cond (eq_by_cmp (slice_cmp nat_cmp) n name) (Some i)) (are n)
    ∙ ap (λ b. cond b (Some i) (get names (dir, n))) (tied dir n name)
    ∙ sym (name_get-insert names (dir, name) i (dir, n))

pub names_removed : (held : NamesOfDir) (dir : ℕ) (names : Names) (name : List ℕ) → AreNames held dir names → AreNames (remove held name) dir (remove names (dir, name))
names_removed held dir names name are = λ n.
    get-remove nat_list_cmp_total held name n
    ∙ ap (cond (eq_by_cmp (slice_cmp nat_cmp) n name) None) (are n)
    ∙ ap (λ b. cond b None (get names (dir, n))) (tied dir n name)
    ∙ sym (name_get-remove names (dir, name) (dir, n))

-- ---- the others

-- all names are these, but in one directory
abbrev pub SameElsewhere : ℕ → Names → Names → Type 0
SameElsewhere dir names others = (d : ℕ) → d ≢ dir → (name : List ℕ) → get others (d, name) ≡ get names (d, name)

apart_keys : (d dir : ℕ) (a b : List ℕ) → d ≢ dir → eq_by_cmp name_cmp (d, a) (dir, b) ≡ false
apart_keys d dir a b ne = name_apart (d, a) (dir, b) (λ e. ne (ap (λ (k : NameKey). k.0) e))

pub put_elsewhere : (names : Names) (dir : ℕ) (name : List ℕ) (i : ℕ) → SameElsewhere dir names (insert names (dir, name) i)
put_elsewhere names dir name i = λ d ne n. name_get-insert names (dir, name) i (d, n) ∙ ap (λ b. cond b (Some i) (get names (d, n))) (apart_keys d dir n name ne)

pub removed_elsewhere : (names : Names) (dir : ℕ) (name : List ℕ) → SameElsewhere dir names (remove names (dir, name))
removed_elsewhere names dir name = λ d ne n. name_get-remove names (dir, name) (d, n) ∙ ap (λ b. cond b None (get names (d, n))) (apart_keys d dir n name ne)

module _ {S : Type 0} where
  -- one directory is not held, and what is held of the others is their names
  abbrev pub HeldBut : IndexMap ℕ NamesOfDir S → ℕ → Names → Type 0
  HeldBut dirs dir names = (d : ℕ) (held : NamesOfDir) → held_at nat_eq dirs d ≡ Some held → (d ≢ dir) × AreNames held d names

  -- a directory is taken out
  pub taken_out : (old new : IndexMap ℕ NamesOfDir S) (dir : ℕ) (names : Names) → ((d : ℕ) → held_at nat_eq new d ≡ cond (nat_eq dir d) None (held_at nat_eq old d)) → HeldAgree old names → HeldBut new dir names
  taken_out old new dir names h agree = λ d held is. by d held is (nat_eq dir d) refl
    where
      by : (d : ℕ) (held : NamesOfDir) → held_at nat_eq new d ≡ Some held → (b : Bool) → nat_eq dir d ≡ b → (d ≢ dir) × AreNames held d names
      by d held is true e = absurd (none_some (sym (ap (λ b. cond b None (held_at nat_eq old d)) e) ∙ sym (h d) ∙ is))
      by d held is false e = (
        λ same. true≢false (sym ((Decides-eqb dir d).1 (sym same)) ∙ e),
        agree d held (sym (ap (λ b. cond b None (held_at nat_eq old d)) e) ∙ sym (h d) ∙ is),
      )

  -- what is held of the others is their names still, where those do not change
  pub but_same : (dirs : IndexMap ℕ NamesOfDir S) (dir : ℕ) (names others : Names) → HeldBut dirs dir names → SameElsewhere dir names others → HeldAgree dirs others
  but_same dirs dir names others but same = λ d held is. let at = but d held is in λ name. at.1 name ∙ sym (same d at.0 name)

  -- and a directory's names are held
  pub put_back : (old new : IndexMap ℕ NamesOfDir S) (dir : ℕ) (held : NamesOfDir) (names : Names) → ((d : ℕ) → held_at nat_eq new d ≡ cond (nat_eq dir d) (Some held) (held_at nat_eq old d)) → HeldAgree old names → AreNames held dir names → HeldAgree new names
  put_back old new dir held names h agree are = λ d known is. by d known is (nat_eq dir d) refl
    where
      by : (d : ℕ) (known : NamesOfDir) → held_at nat_eq new d ≡ Some known → (b : Bool) → nat_eq dir d ≡ b → AreNames known d names
      by d known is true e =
          let same : held ≡ known = same_held held known (sym (ap (λ b. cond b (Some held) (held_at nat_eq old d)) e) ∙ sym (h d) ∙ is) in
          subst (λ k. AreNames k d names) same (subst (λ j. AreNames held j names) ((Decides-eqb dir d).0 e) are)
      by d known is false e = agree d known (sym (ap (λ b. cond b (Some held) (held_at nat_eq old d)) e) ∙ sym (h d) ∙ is)

-- ---- a name that moves

equal : (r : Ordering) → is_eq r ≡ true → r ≡ Equal
equal Less e = absurd (true≢false (sym e))
equal Equal e = refl
equal Greater e = absurd (true≢false (sym e))

one_key : (a b : NameKey) → eq_by_cmp name_cmp a b ≡ true → a ≡ b
one_key a b e = name_exact a b (equal (name_cmp a b) e)

-- two changes at places apart
swapped : (a b : Bool) (x y z : Option ℕ) → (a ≡ true → b ≡ true → ⊥) → cond a x (cond b y z) ≡ cond b y (cond a x z)
swapped true true x y z apart = absurd (apart refl refl)
swapped true false x y z apart = refl
swapped false b x y z apart = refl

-- whether the old name goes before the new one comes or after it
pub moved_either_way : (names : Names) (k q : NameKey) (i : ℕ) → q ≢ k → remove (insert names q i) k ≡ insert (remove names k) q i
moved_either_way names k q i ne = same_names _ _ (λ p.
    name_get-remove (insert names q i) k p
    ∙ ap (cond (eq_by_cmp name_cmp p k) None) (name_get-insert names q i p)
    ∙ swapped (eq_by_cmp name_cmp p k) (eq_by_cmp name_cmp p q) None (Some i) (get names p) (λ a b. ne (sym (one_key p q b) ∙ one_key p k a))
    ∙ ap (cond (eq_by_cmp name_cmp p q) (Some i)) (sym (name_get-remove names k p))
    ∙ sym (name_get-insert (remove names k) q i p))
