-- Names in a path, one behind the other.
use Rattle.std.proofs.Common.{◌≡◌, ◌<◌, ◌≤◌, ◌==◌, Bool, true, false, ℕ, zero, suc, ◌+◌, List, [], ◌∷◌, ◌++◌, length, All, take, drop, slice_index, flat_map, refl, arith, ap, sym, subst, ◌∙◌, ◌⊎◌, inl, inr}
use Rattle.std.proofs.lemmas.Bool.{cases_lt}
use Rattle.std.proofs.lemmas.Bool.Decides.{nat_tests}
use Rattle.std.proofs.lemmas.List.{append_cancel_left, get_or_append_left, get_or-append-add, length-append, take-append-le, take_all}
use Rattle.rio_model.specs.Paths.{AreNames, IsName, IsNameByte}
use Rattle.request_codec.specs.Fronts.{IsRun, EndsName, HasName, IsNameCount}

-- a name that ends there is the whole run
run_is_name : (text : List ℕ) (len : ℕ) → IsRun text len → (name rest : List ℕ) → text ≡ name ++ rest → IsName name → EndsName rest → length name ≡ len
run_is_name text len run name rest is named end =
    let size : length text ≡ length name + length rest = ap length is ∙ length-append name rest in
    elim (cases_lt (length name) len) [
      | inl short ↦ absurd (longer rest refl short)
      | inr long ↦ elim (cases_lt len (length name)) [
        | inl within ↦ absurd (shorter within)
        | inr same ↦ omega arith
      ]
    ]
  where
    longer : (tail : List ℕ) → tail ≡ rest → length name < len → ⊥
    longer [] e short = let none : length rest ≡ 0 = ap length (sym e) in omega (arith, run.within, ap length is ∙ length-append name rest)
    longer (b ∷ tail) e short =
        let here : slice_index text (length name) ≡ b =
        ap (λ xs. slice_index xs (length name)) is ∙ ap (λ k. slice_index (name ++ rest) k) (omega arith) ∙ get_or-append-add name rest 0 0 ∙ ap (λ xs. slice_index xs 0) (sym e) in
        end b tail (sym e) (subst IsNameByte here (run.each (length name) short))

    shorter : len < length name → ⊥
    shorter within =
        let here : slice_index text len ≡ slice_index name len = ap (λ xs. slice_index xs len) is ∙ get_or_append_left name rest 0 len within in
        run.end (omega (arith, ap length is ∙ length-append name rest)) (subst IsNameByte (sym here) (named.bytes len 0 within))

pub no_name : (line text front : List ℕ) (len : ℕ) → line ≡ 47 ∷ text → IsRun text len → front ≡ take len text → (IsName front → ⊥) → (rest : List ℕ) → HasName line rest → ⊥
no_name line text front len slash run cut none rest h =
    let is : text ≡ h.name ++ rest = ap (λ xs. drop 1 xs) (sym slash ∙ h.is) in
    let size : length h.name ≡ len = run_is_name text len run h.name rest is h.name_is h.end in
    let same : front ≡ h.name =
    cut ∙ ap (λ xs. take len xs) is ∙ take-append-le len h.name rest (omega (arith, size)) ∙ take_all len h.name (omega (arith, size)) in
    none (subst IsName (sym same) h.name_is)

-- ---- a loop over names

abbrev pub slashed : List (List ℕ) → List ℕ
slashed names = flat_map (λ name. 47 ∷ name) names

ends_slashed : (names : List (List ℕ)) → EndsName (slashed names)
ends_slashed [] b rest e byte = absurd (cc e)
ends_slashed (n ∷ ns) b rest e byte = let slash : b ≡ 47 = ap (λ xs. slice_index xs 0) (sym e) in byte.not_slash slash

name_run : (text name rest : List ℕ) → text ≡ name ++ rest → IsName name → EndsName rest → IsRun text (length name)
name_run text name [] is named end = record {
  within = omega (arith, ap length is ∙ length-append name []);
  each = λ k below. subst IsNameByte (sym (ap (λ xs. slice_index xs k) is ∙ get_or_append_left name [] 0 k below)) (named.bytes k 0 below);
  end = λ more byte. omega (arith, ap length is ∙ length-append name []);
}
name_run text name (b ∷ rest) is named end = record {
  within = omega (arith, ap length is ∙ length-append name (b ∷ rest));
  each = λ k below. subst IsNameByte (sym (ap (λ xs. slice_index xs k) is ∙ get_or_append_left name (b ∷ rest) 0 k below)) (named.bytes k 0 below);
  end = λ more byte.
      let here : slice_index text (length name) ≡ b = ap (λ xs. slice_index xs (length name)) is ∙ ap (λ k. slice_index (name ++ (b ∷ rest)) k) (omega arith) ∙ get_or-append-add name (b ∷ rest) 0 0 in
      end b rest refl (subst IsNameByte here byte);
}

-- a text begins with one name
same_rest : (text n r m s : List ℕ) → text ≡ n ++ r → IsName n → EndsName r → text ≡ m ++ s → IsName m → EndsName s → r ≡ s
same_rest text n r m s is named end is_too named_too end_too =
    let size : length m ≡ length n = run_is_name text (length n) (name_run text n r is named end) m s is_too named_too end_too in
    let front : n ≡ take (length n) text = sym (ap (λ xs. take (length n) xs) is ∙ take-append-le (length n) n r (omega arith) ∙ take_all (length n) n (omega arith)) in
    let other : take (length n) text ≡ m = ap (λ xs. take (length n) xs) is_too ∙ take-append-le (length n) m s (omega (arith, size)) ∙ take_all (length n) m (omega (arith, size)) in
    append_cancel_left m r s (sym (ap (λ xs. xs ++ r) (front ∙ other)) ∙ sym is ∙ is_too)

-- after so many names these bytes are left of a text
pub record Counted (text : List ℕ) (count : ℕ) (left : List ℕ) : Type 0 where
  pub back : (names : List (List ℕ)) → AreNames left names → (all : List (List ℕ)) × AreNames text all
  pub ahead : (all : List (List ℕ)) → AreNames text all → (names : List (List ℕ)) × AreNames left names × (length all ≡ count + length names)

all_named : (name : List ℕ) (names : List (List ℕ)) → IsName name → All IsName names → All IsName (name ∷ names)
all_named name names one rest zero d below = one
all_named name names one rest (suc k) d below = rest k d (omega arith)

-- the first of names is in front
first_name : (left next : List ℕ) → HasName left next → (all : List (List ℕ)) → AreNames left all → (names : List (List ℕ)) × AreNames next names × (length all ≡ 1 + length names)
first_name left next has [] are = absurd (cc (has.is, are.is))
first_name left next has (n ∷ names) are =
    let behind : drop 1 left ≡ n ++ slashed names = ap (λ xs. drop 1 xs) are.is in
    let one : IsName n = are.each 0 [] (omega arith) in
    let rest : next ≡ slashed names = same_rest (drop 1 left) has.name next n (slashed names) (ap (λ xs. drop 1 xs) has.is) has.name_is has.end behind one (ends_slashed names) in
    (names, record { is = rest; each = λ k d below. are.each (suc k) d (omega arith) }, omega arith)

pub one_counted : (text : List ℕ) (count more : ℕ) (left next : List ℕ) → Counted text count left → HasName left next → more ≡ count + 1 → Counted text more next
one_counted text count more left next h has one = record {
  back = λ names are. h.back (has.name ∷ names) (record {
    is = has.is ∙ ap (λ xs. 47 ∷ (has.name ++ xs)) are.is;
    each = all_named has.name names has.name_is are.each;
  });
  ahead = λ all are.
      let before = h.ahead all are in
      let after = first_name left next has before.0 before.1 in
      (after.0, after.1, omega (arith, before.2, after.2, one));
}

no_names_left : (count : ℕ) (names : List (List ℕ)) (total : ℕ) → AreNames [] names → total ≡ count + length names → total ≡ count
no_names_left count [] total are size = omega (arith, size)
no_names_left count (n ∷ names) total are size = absurd (cc are.is)

pub all_counted : (text : List ℕ) (count : ℕ) → Counted text count [] → IsNameCount text count
all_counted text count h =
    let whole = h.back [] (record { is = refl; each = λ k d below. absurd (omega arith) }) in
    record {
      names = whole.0;
      are = whole.1;
      all = λ others are. let left = h.ahead others are in no_names_left count left.0 (length others) left.1 left.2;
    }

-- what is left begins with a name
begins : (left : List ℕ) (names : List (List ℕ)) → AreNames left names → (left ≡ []) ⊎ ((next : List ℕ) × HasName left next)
begins left [] are = inl are.is
begins left (n ∷ names) are = inr (slashed names, record { name = n; is = are.is; name_is = are.each 0 [] (omega arith); end = ends_slashed names })

pub no_name_left : (text : List ℕ) (count : ℕ) (left : List ℕ) → Counted text count left → (left ≡ [] → ⊥) → ((next : List ℕ) → HasName left next → ⊥) → (names : List (List ℕ)) → AreNames text names → ⊥
no_name_left text count left h some none names are =
    let rest = h.ahead names are in
    elim (begins left rest.0 rest.1) [ inl empty ↦ some empty | inr has ↦ none has.0 has.1 ]

pub name_shortens : (left next : List ℕ) → HasName left next → 2 + length next ≤ length left
name_shortens left next h =
    let size : length left ≡ 1 + length (h.name ++ next) = ap length h.is ∙ omega arith in
    let named : IsName h.name = h.name_is in
    omega (arith, length-append h.name next, named.some)

-- ---- what `is_empty` tells

pub empties : (xs : List ℕ) (r : Bool) → r ≡ (length xs == 0) → r ≡ true → xs ≡ []
empties [] r is yes_ = refl
empties (x ∷ xs) r is yes_ = absurd (grind (arith, nat_tests, is, yes_))

pub goes_on : (xs : List ℕ) (r : Bool) → r ≡ (length xs == 0) → r ≡ false → xs ≡ [] → ⊥
goes_on [] r is more none = absurd (cc (is, more))
goes_on (x ∷ xs) r is more none = absurd (cc none)
