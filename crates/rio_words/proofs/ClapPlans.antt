-- The arguments of a command of these options and files, as it is built.
use Rattle.std.proofs.Common.{◌≡◌, ◌∙◌, ◌<◌, ◌+◌, ◌==◌, ◌&&◌, ◌||◌, ℕ, Bool, true, false, not, zero, suc, refl, sym, ap, subst, arith, List, [], ◌∷◌, ◌++◌, map, length, min, Some, None, true≢false, nat_lt, is_some}
use Rattle.std.specs.Prelude.{slice_get}
use Rattle.std.specs.List.{find, list_all}
use Rattle.std.specs.Str.{bytes_eq}
use Rattle.std.proofs.lemmas.Bool.Decides.{nat_tests}
use Rattle.std.proofs.lemmas.Slice.Eq.{bytes_eq-Decides}
use Rattle.clap.specs.Lexer.{has_byte, usize_max}
use Rattle.clap.specs.Walk.{Rule, arg_by_id, arg_by_index, arg_by_short, has_long, has_short}
use Rattle.clap.specs.Simple.{App, built, filled_from}
use Rattle.rio_words.specs.Tokens.{Text, are_different, is_among}
use Rattle.rio_words.specs.Plans.{ArePlanned, file_given, option_given, plan_app}
use Rattle.rio_words.proofs.ClapLexer.{lacks_all}
use Rattle.rio_words.proofs.ClapRows.{one}
use Rattle.rio_words.proofs.ClapRuns.{IsPlan, and_both, eq_back, not_false, or_none}
use Rattle.rio_words.proofs.ClapSteps.{built_shape}

abbrev pub option_built : Text → Rule
option_built key = one key (Some key) None

-- files from place i on
abbrev pub files_from : ℕ → List Text → List Rule
files_from i [] = []
files_from i (id ∷ ids) = one id None (Some i) ∷ files_from (i + 1) ids

abbrev pub built_rules : List Text → List Text → List Rule
built_rules keys ids = map option_built keys ++ files_from 1 ids

-- ---- a key

key_found : (keys : List Text) (tail : List Rule) (key : Text) → is_among keys key ≡ true
    → find (λ a. not (is_some a.index) && has_long a key) (map option_built keys ++ tail) ≡ Some (option_built key)
key_found [] tail key known = absurd (true≢false (sym known))
key_found (t ∷ keys) tail key known = go (bytes_eq t key) refl known (key_found keys tail key)
  where
    go : (b : Bool) → bytes_eq t key ≡ b → (b || is_among keys key) ≡ true
        → (is_among keys key ≡ true → find (λ a. not (is_some a.index) && has_long a key) (map option_built keys ++ tail) ≡ Some (option_built key))
        → find (λ a. not (is_some a.index) && has_long a key) (map option_built (t ∷ keys) ++ tail) ≡ Some (option_built key)
    go true same e rest = rw same (ap (λ (x : Text). Some (option_built x)) ((bytes_eq-Decides t key).0 same))
    go false other e rest = rw other (rest e)

key_lacking : (keys : List Text) (tail : List Rule) (key : Text) → is_among keys key ≡ false
    → find (λ a. not (is_some a.index) && has_long a key) (map option_built keys ++ tail) ≡ find (λ a. not (is_some a.index) && has_long a key) tail
key_lacking [] tail key none = refl
key_lacking (t ∷ keys) tail key none =
    let parts = or_none (bytes_eq t key) (is_among keys key) none in
    rw parts.0 (key_lacking keys tail key parts.1)

no_file_key : (i : ℕ) (ids : List Text) (key : Text) → find (λ a. not (is_some a.index) && has_long a key) (files_from i ids) ≡ None
no_file_key i [] key = refl
no_file_key i (id ∷ ids) key = no_file_key (i + 1) ids key

key_id : (keys : List Text) (tail : List Rule) (key : Text) → is_among keys key ≡ true → find (λ a. bytes_eq a.id key) (map option_built keys ++ tail) ≡ Some (option_built key)
key_id [] tail key known = absurd (true≢false (sym known))
key_id (t ∷ keys) tail key known = go (bytes_eq t key) refl known (key_id keys tail key)
  where
    go : (b : Bool) → bytes_eq t key ≡ b → (b || is_among keys key) ≡ true
        → (is_among keys key ≡ true → find (λ a. bytes_eq a.id key) (map option_built keys ++ tail) ≡ Some (option_built key))
        → find (λ a. bytes_eq a.id key) (map option_built (t ∷ keys) ++ tail) ≡ Some (option_built key)
    go true same e rest = rw same (ap (λ (x : Text). Some (option_built x)) ((bytes_eq-Decides t key).0 same))
    go false other e rest = rw other (rest e)

-- ---- no short name

no_short_file : (i : ℕ) (ids : List Text) (x : ℕ) → find (λ a. not (is_some a.index) && has_short a x) (files_from i ids) ≡ None
no_short_file i [] x = refl
no_short_file i (id ∷ ids) x = no_short_file (i + 1) ids x

no_short_at : (keys ids : List Text) (x : ℕ) → arg_by_short (built_rules keys ids) x ≡ None
no_short_at [] ids x = no_short_file 1 ids x
no_short_at (t ∷ keys) ids x = no_short_at keys ids x

-- ---- a place

past_options : (keys : List Text) (tail : List Rule) (i : ℕ) → arg_by_index (map option_built keys ++ tail) i ≡ arg_by_index tail i
past_options [] tail i = refl
past_options (t ∷ keys) tail i = past_options keys tail i

file_at : (ids : List Text) (first i k : ℕ) (id : Text) → i ≡ first + k → slice_get ids k ≡ Some id → arg_by_index (files_from first ids) i ≡ Some (one id None (Some i))
file_at [] first i k id place e = absurd (cc e)
file_at (t ∷ ids) first i zero id place e =
    let here : (first == i) ≡ true = grind (arith, nat_tests, place) in
    let start : first ≡ i = omega (arith, place) in
    let same : t ≡ id = cc e in
    rw here (cc (start, same))
file_at (t ∷ ids) first i (suc k) id place e =
    let later : (first == i) ≡ false = grind (arith, nat_tests, place) in
    rw later (file_at ids (first + 1) i k id (omega (arith, place)) e)

no_file_at : (ids : List Text) (first i k : ℕ) → i ≡ first + k → slice_get ids k ≡ None → arg_by_index (files_from first ids) i ≡ None
no_file_at [] first i k place e = refl
no_file_at (t ∷ ids) first i zero place e = absurd (cc e)
no_file_at (t ∷ ids) first i (suc k) place e =
    let later : (first == i) ≡ false = grind (arith, nat_tests, place) in
    rw later (no_file_at ids (first + 1) i k (omega (arith, place)) e)

-- ---- a file's id

not_among_at : (ids : List Text) (t : Text) (k : ℕ) (id : Text) → is_among ids t ≡ false → slice_get ids k ≡ Some id → bytes_eq id t ≡ false
not_among_at [] t k id none e = absurd (cc e)
not_among_at (x ∷ ids) t zero id none e =
    let same : x ≡ id = cc e in
    subst (λ (y : Text). bytes_eq y t ≡ false) same (or_none (bytes_eq x t) (is_among ids t) none).0
not_among_at (x ∷ ids) t (suc k) id none e = not_among_at ids t k id (or_none (bytes_eq x t) (is_among ids t) none).1 e

among_at : (ids : List Text) (k : ℕ) (id : Text) → slice_get ids k ≡ Some id → is_among ids id ≡ true
among_at ids k id e = go (is_among ids id) refl
  where
    go : (b : Bool) → is_among ids id ≡ b → is_among ids id ≡ true
    go true known = known
    go false unknown = absurd (true≢false (sym ((bytes_eq-Decides id id).1 refl) ∙ not_among_at ids id k id unknown e))

past_keys : (keys : List Text) (tail : List Rule) (id : Text) → is_among keys id ≡ false → arg_by_id (map option_built keys ++ tail) id ≡ arg_by_id tail id
past_keys [] tail id none = refl
past_keys (t ∷ keys) tail id none =
    let parts = or_none (bytes_eq t id) (is_among keys id) none in
    rw parts.0 (past_keys keys tail id parts.1)

file_with_id : (ids : List Text) (first i k : ℕ) (id : Text) → are_different ids ≡ true → i ≡ first + k → slice_get ids k ≡ Some id → arg_by_id (files_from first ids) id ≡ Some (one id None (Some i))
file_with_id [] first i k id alone place e = absurd (cc e)
file_with_id (t ∷ ids) first i zero id alone place e =
    let start : first ≡ i = omega (arith, place) in
    let same : t ≡ id = cc e in
    rw ((bytes_eq-Decides t id).1 same) (cc (start, same))
file_with_id (t ∷ ids) first i (suc k) id alone place e =
    let parts = and_both (not (is_among ids t)) (are_different ids) alone in
    let other : bytes_eq t id ≡ false = eq_back id t (not_among_at ids t k id (not_false _ parts.0) e) in
    rw other (file_with_id ids (first + 1) i k id parts.1 (omega (arith, place)) e)

same_place : (ids : List Text) (j k : ℕ) (id : Text) → are_different ids ≡ true → slice_get ids j ≡ Some id → slice_get ids k ≡ Some id → j ≡ k
same_place [] j k id alone d e = absurd (cc d)
same_place (t ∷ ids) zero zero id alone d e = refl
same_place (t ∷ ids) zero (suc k) id alone d e =
    let same : t ≡ id = cc d in
    let parts = and_both (not (is_among ids t)) (are_different ids) alone in
    absurd (true≢false (sym ((bytes_eq-Decides id t).1 (sym same)) ∙ not_among_at ids t k id (not_false _ parts.0) e))
same_place (t ∷ ids) (suc j) zero id alone d e =
    let same : t ≡ id = cc e in
    let parts = and_both (not (is_among ids t)) (are_different ids) alone in
    absurd (true≢false (sym ((bytes_eq-Decides id t).1 (sym same)) ∙ not_among_at ids t j id (not_false _ parts.0) d))
same_place (t ∷ ids) (suc j) (suc k) id alone d e =
    ap suc (same_place ids j k id (and_both (not (is_among ids t)) (are_different ids) alone).1 d e)

-- ---- texts that all pass a test

each_among : (test : Text → Bool) (keys : List Text) (key : Text) → list_all test keys ≡ true → is_among keys key ≡ true → test key ≡ true
each_among test [] key all known = absurd (true≢false (sym known))
each_among test (t ∷ keys) key all known = go (bytes_eq t key) refl known (each_among test keys key parts.1)
  where
    parts : (test t ≡ true) × (list_all test keys ≡ true)
    parts = and_both (test t) (list_all test keys) all

    go : (b : Bool) → bytes_eq t key ≡ b → (b || is_among keys key) ≡ true → (is_among keys key ≡ true → test key ≡ true) → test key ≡ true
    go true same e rest = subst (λ (x : Text). test x ≡ true) ((bytes_eq-Decides t key).0 same) parts.0
    go false other e rest = rest e

pub plan_holds : (keys ids : List Text) → ArePlanned keys ids → IsPlan keys ids (built_rules keys ids)
plan_holds keys ids planned = record {
  by_key = λ key known. key_found keys (files_from 1 ids) key known;
  no_key = λ key none. key_lacking keys (files_from 1 ids) key none ∙ no_file_key 1 ids key;
  no_short = λ x. no_short_at keys ids x;
  by_index = λ k id e. past_options keys (files_from 1 ids) (1 + k) ∙ file_at ids 1 (1 + k) k id refl e;
  no_index = λ k e. past_options keys (files_from 1 ids) (1 + k) ∙ no_file_at ids 1 (1 + k) k refl e;
  key_id = λ key known. key_id keys (files_from 1 ids) key known;
  file_id = λ k id e. past_keys keys (files_from 1 ids) id (is_no_key k id e) ∙ file_with_id ids 1 (1 + k) k id planned.alone refl e;
  apart = λ key k id known e. differ key id known (is_no_key k id e);
  alone = λ j k id d e. same_place ids j k id planned.alone d e;
  lacks = λ key known. lacks_all key (not_false _ (each_among (λ t. not (has_byte 61 t)) keys key planned.lacks known));
  some = λ key known. let least : nat_lt 0 (length key) ≡ true = each_among (λ t. nat_lt 0 (length t)) keys key planned.some known in grind (arith, nat_tests, least);
  few = omega (arith, planned.few);
}
  where
    is_no_key : (k : ℕ) (id : Text) → slice_get ids k ≡ Some id → is_among keys id ≡ false
    is_no_key k id e = not_false _ (each_among (λ t. not (is_among keys t)) ids id planned.apart (among_at ids k id e))

    differ : (key id : Text) → is_among keys key ≡ true → is_among keys id ≡ false → bytes_eq id key ≡ false
    differ key id known none = go (bytes_eq id key) refl
      where
        go : (b : Bool) → bytes_eq id key ≡ b → bytes_eq id key ≡ false
        go false e = e
        go true e =
            let same : id ≡ key = (bytes_eq-Decides id key).0 e in
            absurd (true≢false (sym known ∙ ap (is_among keys) (sym same) ∙ none))

-- ---- building

files_filled : (ids : List Text) (i : ℕ) → i + length ids < usize_max → filled_from i (map file_given ids) ≡ files_from i ids
files_filled [] i few = refl
files_filled (id ∷ ids) i few =
    let next : min (i + 1) usize_max ≡ i + 1 = omega (arith, few) in
    rw next (ap (λ (rs : List Rule). one id None (Some i) ∷ rs) (files_filled ids (i + 1) (omega (arith, few))))

all_filled : (keys ids : List Text) → length ids < 9 → filled_from 1 (map option_given keys ++ map file_given ids) ≡ built_rules keys ids
all_filled [] ids few = files_filled ids 1 (omega (arith, few))
all_filled (t ∷ keys) ids few = ap (λ (rs : List Rule). option_built t ∷ rs) (all_filled keys ids few)

abbrev pub of_rules : List Rule → App
of_rules rules = record { top = built_shape rules; subs = [] }

pub built_is : (keys ids : List Text) → length ids < 9 → built (plan_app keys ids) ≡ record { top = built_shape (built_rules keys ids); subs = [] }
built_is keys ids few = ap of_rules (all_filled keys ids few)

-- ---- a test that each argument passes

pub all_given : (test : Rule → Bool) → ((t : Text) → test (option_given t) ≡ true) → ((t : Text) → test (file_given t) ≡ true) → (keys ids : List Text)
    → list_all test (map option_given keys ++ map file_given ids) ≡ true
all_given test options files [] [] = refl
all_given test options files [] (t ∷ ids) = rw (files t) (all_given test options files [] ids)
all_given test options files (t ∷ keys) ids = rw (options t) (all_given test options files keys ids)

files_pass : (test : Rule → Bool) → ((t : Text) (i : ℕ) → test (one t None (Some i)) ≡ true) → (ids : List Text) (i : ℕ) → list_all test (files_from i ids) ≡ true
files_pass test files [] i = refl
files_pass test files (t ∷ ids) i = rw (files t i) (files_pass test files ids (i + 1))

pub all_built : (test : Rule → Bool) → ((t : Text) → test (option_built t) ≡ true) → ((t : Text) (i : ℕ) → test (one t None (Some i)) ≡ true) → (keys ids : List Text)
    → list_all test (built_rules keys ids) ≡ true
all_built test options files [] ids = files_pass test files ids 1
all_built test options files (t ∷ keys) ids = rw (options t) (all_built test options files keys ids)
