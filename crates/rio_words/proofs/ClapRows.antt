-- What a walk holds of options and files that were met.
use Rattle.std.proofs.Common.{◌≡◌, ◌∙◌, ◌||◌, ℕ, Bool, cond, true, false, refl, ap, List, [], ◌∷◌, ◌++◌, Option, Some, None, option_map, append-nil}
use Rattle.std.specs.List.{find}
use Rattle.std.specs.Str.{bytes_eq}
use Rattle.clap.specs.Values.{reading_of}
use Rattle.clap.specs.Walk.{Row, Rule, Text, at_row, has_row, more_values, used, without}
use Rattle.clap.specs.Simple.{new_rule}
use Rattle.clap.specs.Faults.{use_fault}
use Rattle.clap.specs.declared.builder.action.ArgAction.TheVariants.{Set}
use Rattle.clap.specs.declared.builder.value_parser.ValueParser.TheVariants as vp
use Rattle.clap.specs.declared.error.kind.ErrorKind.TheVariants.{ArgumentConflict, InvalidValue}
use Rattle.clap.specs.declared.parser.matches.ValueSource.TheVariants.{CommandLine}

-- an argument as it is built: it takes one value, once
abbrev pub one : Text → Option Text → Option ℕ → Rule
one id long index = record (new_rule id) {
  long = long;
  index = index;
  action = Some Set;
  parser = Some vp.String;
  range = Some (record { start_inclusive = 1; end_inclusive = 1 });
}

-- what is held of it
abbrev pub row : Text → Text → Row
row id v = record {
  id = id;
  values = v ∷ [];
  count = None;
  source = Some CommandLine;
  reading = reading_of vp.String;
}

abbrev pub option_row : Text × Text → Row
option_row o = row o.0 o.1

abbrev pub is_row : Text → Row → Bool
is_row id r = bytes_eq r.id id

-- ---- an argument that is used once

or_false : (a b : Bool) → (a || b) ≡ false → (a ≡ false) × (b ≡ false)
or_false true b e = absurd (cc e)
or_false false b e = (refl, e)

no_row : (id : Text) (change : Row → List Row) (missing rows : List Row) → has_row id rows ≡ false → at_row id change missing rows ≡ rows ++ missing
no_row id change missing [] none = refl
no_row id change missing (r ∷ rs) none =
    let parts = or_false (is_row id r) (has_row id rs) none in
    rw parts.0 (ap (λ xs. r ∷ xs) (no_row id change missing rs parts.1))

none_without : (id : Text) (rows : List Row) → has_row id rows ≡ false → without id rows ≡ rows
none_without id rows none = no_row id (λ _. []) [] rows none ∙ append-nil rows

pub used_once : (id : Text) (long : Option Text) (index : Option ℕ) (v : Text) (rows : List Row) → has_row id rows ≡ false
    → used (one id long index) (v ∷ []) rows ≡ rows ++ row id v ∷ []
used_once id long index v rows none = rw (none_without id rows none) (no_row id (more_values CommandLine (v ∷ [])) (row id v ∷ []) rows none)

pub once_fault : (id : Text) (long : Option Text) (index : Option ℕ) (v : Text) (rows : List Row) → has_row id rows ≡ false
    → use_fault false (one id long index) (v ∷ []) rows ≡ []
once_fault id long index v rows none = rw none refl

pub twice_fault : (id : Text) (long : Option Text) (index : Option ℕ) (v : Text) (rows : List Row) → has_row id rows ≡ true
    → use_fault false (one id long index) (v ∷ []) rows ≡ ArgumentConflict ∷ []
twice_fault id long index v rows some = rw some refl

pub valueless_fault : (id : Text) (long : Option Text) (index : Option ℕ) (rows : List Row) → use_fault false (one id long index) [] rows ≡ InvalidValue ∷ []
valueless_fault id long index rows = refl

-- ---- what is found for an argument

abbrev pub first_some : {X : Type 0} → Option X → Option X → Option X
first_some None y = y
first_some (Some x) y = Some x

pub find-append : {X : Type 0} (test : X → Bool) (xs ys : List X) → find test (xs ++ ys) ≡ first_some (find test xs) (find test ys)
find-append test [] ys = refl
find-append test (x ∷ xs) ys = go (test x) (find-append test xs ys)
  where
    go : (b : Bool) → find test (xs ++ ys) ≡ first_some (find test xs) (find test ys)
        → cond b (Some x) (find test (xs ++ ys)) ≡ first_some (cond b (Some x) (find test xs)) (find test ys)
    go true e = refl
    go false e = e

pub first_some-map : {X Y : Type 0} (f : X → Y) (a b : Option X) → option_map f (first_some a b) ≡ first_some (option_map f a) (option_map f b)
first_some-map f None b = refl
first_some-map f (Some x) b = refl

pub none_last : {X : Type 0} (a : Option X) → first_some a None ≡ a
none_last None = refl
none_last (Some x) = refl

pub has_no_row : (id : Text) (rows : List Row) → find (is_row id) rows ≡ None → has_row id rows ≡ false
has_no_row id [] none = refl
has_no_row id (r ∷ rs) none = go (is_row id r) (has_no_row id rs) none
  where
    go : (b : Bool) → (find (is_row id) rs ≡ None → has_row id rs ≡ false) → cond b (Some r) (find (is_row id) rs) ≡ None → (b || has_row id rs) ≡ false
    go true rest e = absurd (cc e)
    go false rest e = rest e

pub row_or_none : (id : Text) (rows : List Row) (r : Row) → find (is_row id) rows ≡ Some r → has_row id rows ≡ true
row_or_none id [] r some = absurd (cc some)
row_or_none id (x ∷ rs) r some = go (is_row id x) (row_or_none id rs r) some
  where
    go : (b : Bool) → (find (is_row id) rs ≡ Some r → has_row id rs ≡ true) → cond b (Some x) (find (is_row id) rs) ≡ Some r → (b || has_row id rs) ≡ true
    go true rest e = refl
    go false rest e = rest e
