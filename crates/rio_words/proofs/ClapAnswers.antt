-- When `clap` takes the words after a command, and what it finds in them.
use Rattle.std.proofs.Common.{◌≡◌, ◌∙◌, ◌<◌, ◌≤◌, ◌&&◌, ◌||◌, ℕ, Bool, cond, true, false, not, suc, refl, sym, ap, subst, arith, List, [], ◌∷◌, ◌++◌, map, length, drop, Option, Some, None, option_map, is_some}
use Rattle.std.specs.Prelude.{slice_get, option_and_then}
use Rattle.std.specs.List.{count_by, find, fold, list_all, list_any}
use Rattle.clap.specs.Matches.{first_value}
use Rattle.clap.specs.Walk.{Row, Rule, default_rows, finished, first_of, has_row, idle, is_early_multiple, is_empty, nothing_held, reading_by, rows_of, settled, walk, walk_from, walked, with_default}
use Rattle.clap.specs.Simple.{App, entered, is_buildable, is_ready, is_ready_leaf, matches_of}
use Rattle.clap.specs.Kinds.{Kinds, or_else}
use Rattle.clap.specs.Takes.{is_given}
use Rattle.clap.specs.Faults.{built_fault, check_fault, defaults_fault, entered_fault, fault_of, is_free_app, is_simple_and_free, level_fault, settle_fault, walk_fault}
use Rattle.clap.specs.declared.parser.matches.Found.{Found}
use Rattle.clap.proofs.SimpleLemmas.{is_nil}
use Rattle.clap.proofs.WalkLemmas.{first_value-rows}
use Rattle.rio_words.specs.Tokens.{Text, Token, name, spaced, joined, are_different, is_among, keys_of, names_in, options_in, words_of}
use Rattle.rio_words.specs.Plans.{AreNoFlags, ArePlanned, Finds, Gives, file_given, option_given, plan_app}
use Rattle.rio_words.proofs.ClapLexer.{plain_word}
use Rattle.rio_words.proofs.ClapParts.{Parts, Passes, both_parts}
use Rattle.rio_words.proofs.ClapPlans.{all_built, all_given, built_is, built_rules, of_rules, plan_holds}
use Rattle.rio_words.proofs.ClapRows.{option_row, row}
use Rattle.rio_words.proofs.ClapRuns.{AllFit, IsPlan, Options, Rows, RunsTo, and_both, is_option, not_false, settled_none, tokens_run}
use Rattle.rio_words.proofs.ClapSteps.{at, both_none, built_shape, none_then}

-- ---- the end of a parse

or_nothing : (kinds : Kinds) → or_else kinds [] ≡ kinds
or_nothing [] = refl
or_nothing (k ∷ ks) = refl

or_true : (b : Bool) → (b || true) ≡ true
or_true true = refl
or_true false = refl

no_defaults : (c : List Rule) → list_all (λ a. is_empty a.defaults) c ≡ true → (rows : List Row) → defaults_fault rows c ≡ []
unfolding defaults_fault
no_defaults [] plain rows = refl
no_defaults (a ∷ c) plain rows =
    let parts = and_both (is_empty a.defaults) (list_all (λ a. is_empty a.defaults) c) plain in
    rw (parts.0, or_true (has_row a.id rows)) (no_defaults c parts.1 (with_default rows a))

none_required : (c : List Rule) → list_all (λ a. not a.required) c ≡ true → (rows : List Row) → list_any (λ a. a.required && not (is_given a.id rows)) c ≡ false
none_required [] free rows = refl
none_required (a ∷ c) free rows =
    let parts = and_both (not a.required) (list_all (λ a. not a.required) c) free in
    rw (not_false a.required parts.0) (none_required c parts.1 rows)

same_rows : (c : List Rule) → list_all (λ a. is_empty a.defaults) c ≡ true → (rows : List Row) → fold with_default rows c ≡ rows
same_rows [] plain rows = refl
same_rows (a ∷ c) plain rows =
    let parts = and_both (is_empty a.defaults) (list_all (λ a. is_empty a.defaults) c) plain in
    let here : with_default rows a ≡ rows = ap (λ (values : List Text). cond (has_row a.id rows) rows (default_rows a.id (reading_by a) values rows)) (is_nil a.defaults parts.0) ∙ go (has_row a.id rows) in
    ap (λ (rs : List Row). fold with_default rs c) here ∙ same_rows c parts.1 rows
  where
    go : (b : Bool) → cond b rows rows ≡ rows
    go true = refl
    go false = refl

end_fault : (c : List Rule) (words : List Text) → list_all (λ a. is_empty a.defaults) c ≡ true → list_all (λ a. not a.required) c ≡ true
    → built_fault (of_rules c) nothing_held words ≡ or_else (walk_fault (built_shape c) [] (walk_from nothing_held) words) (settle_fault c false (walk c [] nothing_held words).held)
end_fault c words plain free = entering (walk c [] nothing_held words).stopped
    ∙ ap (λ (k : Kinds). or_else walked_kinds (or_else pending_kinds (or_else k last_kinds))) (no_defaults c plain (settled c (walk c [] nothing_held words).held).rows)
    ∙ ap (λ (k : Kinds). or_else walked_kinds (or_else pending_kinds k)) checked
    ∙ ap (or_else walked_kinds) (or_nothing pending_kinds)
  where
    walked_kinds : Kinds
    walked_kinds = walk_fault (built_shape c) [] (walk_from nothing_held) words

    pending_kinds : Kinds
    pending_kinds = settle_fault c false (walk c [] nothing_held words).held

    last_kinds : Kinds
    last_kinds = check_fault (built_shape c) (finished c (walk c [] nothing_held words).held) false

    checked : check_fault (built_shape c) (finished c (walk c [] nothing_held words).held) false ≡ []
    checked = rw (none_required c free (finished c (walk c [] nothing_held words).held)) refl

    entering : (stop : Option (Text × List Text))
        → level_fault (built_shape c) [] nothing_held words (is_some (entered (of_rules c) stop)) (entered_fault (of_rules c) stop) ≡ level_fault (built_shape c) [] nothing_held words false []
    entering None = refl
    entering (Some p) = refl

-- ---- the command is one of which `clap` says all

none_any : (test : Rule → Bool) (c : List Rule) → list_all (λ a. not (test a)) c ≡ true → list_any test c ≡ false
none_any test [] all = refl
none_any test (a ∷ c) all =
    let parts = and_both (not (test a)) (list_all (λ a. not (test a)) c) all in
    rw (not_false (test a) parts.0) (none_any test c parts.1)

abbrev simple_by : App → App → Bool
simple_by a b = (is_buildable a && (is_ready b.top && list_all is_ready_leaf b.subs)) && is_free_app b

pub plan_simple : (keys ids : List Text) → length ids < 9 → is_simple_and_free (plan_app keys ids) ≡ true
plan_simple keys ids few =
    let given : list_all (λ (a : Rule). a.is_simple) (map option_given keys ++ map file_given ids) ≡ true = all_given (λ a. a.is_simple) (λ t. refl) (λ t. refl) keys ids in
    let made : list_all (λ (a : Rule). a.is_simple) (built_rules keys ids) ≡ true = all_built (λ a. a.is_simple) (λ t. refl) (λ t n. refl) keys ids in
    let free : list_all (λ (a : Rule). a.is_free) (built_rules keys ids) ≡ true = all_built (λ a. a.is_free) (λ t. refl) (λ t n. refl) keys ids in
    let count : ℕ = count_by (λ (a : Rule). is_some a.index) (built_rules keys ids) in
    let ordered : list_any (is_early_multiple count) (built_rules keys ids) ≡ false =
    none_any (is_early_multiple count) (built_rules keys ids) (all_built (λ a. not (is_early_multiple count a)) (λ t. refl) (λ t n. refl) keys ids) in
    ap (simple_by (plan_app keys ids)) (built_is keys ids few) ∙ (λ i. ((given i && true) && ((made i && not (ordered i)) && true)) && (free i && true))

module _ (keys ids : List Text) (planned : ArePlanned keys ids) where
  rules : List Rule
  rules = built_rules keys ids

  few : length ids < 9
  few = omega (arith, planned.few)

  plan : IsPlan keys ids (built_rules keys ids)
  plan = plan_holds keys ids planned

  faults_are : (words : List Text) → fault_of (plan_app keys ids) words ≡ or_else (walk_fault (built_shape (built_rules keys ids)) [] (at [] None idle 1 false) (drop 1 words))
      (settle_fault (built_rules keys ids) false (fold (walked (built_rules keys ids) []) (at [] None idle 1 false) (drop 1 words)).held)
  faults_are words = ap (λ (a : App). built_fault a nothing_held (drop 1 words)) (built_is keys ids few)
      ∙ end_fault (built_rules keys ids) (drop 1 words) (all_built (λ a. is_empty a.defaults) (λ t. refl) (λ t n. refl) keys ids) (all_built (λ a. not a.required) (λ t. refl) (λ t n. refl) keys ids)

  matches_are : (words : List Text) → matches_of (plan_app keys ids) words ≡ (settled (built_rules keys ids) (fold (walked (built_rules keys ids) []) (at [] None idle 1 false) (drop 1 words)).held).rows
  matches_are words = ap (λ (a : App). finished a.top.rules (walk a.top.rules [] nothing_held (drop 1 words)).held) (built_is keys ids few)
      ∙ same_rows (built_rules keys ids) (all_built (λ a. is_empty a.defaults) (λ t. refl) (λ t n. refl) keys ids) _

  -- ---- from tokens to a walk

  fits_tokens : (tokens : List Token) (last : Option (List Text)) → list_all (λ o. is_among keys o.0) (options_in tokens) ≡ true → AreNoFlags (map (λ o. o.1) (options_in tokens))
      → AreNoFlags (names_in tokens last) → AllFit keys ids (built_rules keys ids) plan tokens
  fits_tokens [] last known values names = tt
  fits_tokens (name w ∷ tokens) last known values names = (plain_word w (names 0 w refl), fits_tokens tokens last known values (λ k. names (suc k)))
  fits_tokens (spaced key v ∷ tokens) last known values names =
      let parts = and_both (is_among keys key) _ known in
      ((parts.0, plain_word v (values 0 v refl)), fits_tokens tokens last parts.1 (λ k. values (suc k)) names)
  fits_tokens (joined key v ∷ tokens) last known values names =
      let parts = and_both (is_among keys key) _ known in
      (parts.0, fits_tokens tokens last parts.1 (λ k. values (suc k)) names)

  no_rows : Rows keys ids [] [] []
  no_rows = record { of_key = λ key known. refl; of_id = λ k id here. refl }

  tokens_runs : (tokens : List Token) (last : Option (List Text)) → AllFit keys ids (built_rules keys ids) plan tokens → are_different (keys_of (options_in tokens)) ≡ true
      → length (names_in tokens last) ≤ length ids
      → RunsTo keys ids (built_rules keys ids) plan (at [] None idle 1 false) (words_of tokens last) (options_in tokens) (names_in tokens last)
  tokens_runs tokens last fit once small =
      tokens_run keys ids (built_rules keys ids) plan tokens last [] None [] [] [] (settled_none keys ids (built_rules keys ids) plan [] [] refl) no_rows fit once (omega (arith, small))

  given_runs : (words : List Text) (options : Options) (names : List Text) → Gives keys ids words options names → AreNoFlags (map (λ o. o.1) options) → AreNoFlags names
      → RunsTo keys ids (built_rules keys ids) plan (at [] None idle 1 false) words options names
  given_runs words options names gives values no_names =
      let t = gives.tokens in
      let known = subst (λ (os : Options). list_all (λ o. is_among keys o.0) os ≡ true) t.options_are gives.known in
      let once = subst (λ (os : Options). are_different (keys_of os) ≡ true) t.options_are gives.once in
      let small = subst (λ (ns : List Text). length ns ≤ length ids) t.names_are gives.few in
      let fit = fits_tokens t.tokens t.last known (subst (λ (os : Options). AreNoFlags (map (λ o. o.1) os)) t.options_are values) (subst (λ (ns : List Text). AreNoFlags ns) t.names_are no_names) in
      let runs = tokens_runs t.tokens t.last fit once small in
      subst (λ (ws : List Text). RunsTo keys ids (built_rules keys ids) plan (at [] None idle 1 false) ws options names) (sym t.are)
      (subst (λ (os : Options). RunsTo keys ids (built_rules keys ids) plan (at [] None idle 1 false) (words_of t.tokens t.last) os names) (sym t.options_are)
      (subst (λ (ns : List Text). RunsTo keys ids (built_rules keys ids) plan (at [] None idle 1 false) (words_of t.tokens t.last) (options_in t.tokens) ns) (sym t.names_are) runs))

  no_fault : (words : List Text) (options : Options) (names : List Text) → RunsTo keys ids (built_rules keys ids) plan (at [] None idle 1 false) (drop 1 words) options names
      → fault_of (plan_app keys ids) words ≡ []
  no_fault words options names runs =
      faults_are words ∙ none_then _ _ runs.fault (ap (settle_fault (built_rules keys ids) false) runs.ends ∙ runs.settles.fault)

  -- what is found
  rows_find : (rows : List Row) (options : Options) (names : List Text) → Rows keys ids rows options names → Finds keys ids options names (λ id. first_of id rows)
  rows_find rows options names are = record {
    of_key = λ key known. ap (option_and_then (λ (r : Row). slice_get r.values 0)) (are.of_key key known) ∙ option_first (find (is_option key) options);
    of_file = λ k id here. ap (option_and_then (λ (r : Row). slice_get r.values 0)) (are.of_id k id here) ∙ name_first id (slice_get names k);
  }
    where
      option_first : (o : Option (Text × Text)) → option_and_then (λ (r : Row). slice_get r.values 0) (option_map option_row o) ≡ option_map (λ p. p.1) o
      option_first None = refl
      option_first (Some p) = refl

      name_first : (id : Text) (o : Option Text) → option_and_then (λ (r : Row). slice_get r.values 0) (option_map (row id) o) ≡ o
      name_first id None = refl
      name_first id (Some w) = refl

  run_finds : (f : Found) (words : List Text) (options : Options) (names : List Text) → rows_of f ≡ matches_of (plan_app keys ids) words
      → RunsTo keys ids (built_rules keys ids) plan (at [] None idle 1 false) (drop 1 words) options names → Finds keys ids options names (first_value f)
  run_finds f words options names matched runs =
      let rows_are : rows_of f ≡ runs.rows =
      matched ∙ matches_are words ∙ ap (λ h. (settled (built_rules keys ids) h).rows) runs.ends ∙ runs.settles.rows_are in
      let finds = rows_find runs.rows options names runs.are in
      record {
        of_key = λ key known. first_value-rows f key ∙ ap (first_of key) rows_are ∙ finds.of_key key known;
        of_file = λ k id here. first_value-rows f id ∙ ap (first_of id) rows_are ∙ finds.of_file k id here;
      }

  -- ---- from a walk to tokens

  known_fits : (tokens : List Token) → AllFit keys ids (built_rules keys ids) plan tokens → list_all (λ o. is_among keys o.0) (options_in tokens) ≡ true
  known_fits [] fit = refl
  known_fits (name w ∷ tokens) fit = known_fits tokens fit.1
  known_fits (spaced key v ∷ tokens) fit = rw (fit.0.0) (known_fits tokens fit.1)
  known_fits (joined key v ∷ tokens) fit = rw (fit.0) (known_fits tokens fit.1)

  passed : (words : List Text) → fault_of (plan_app keys ids) words ≡ [] → Passes keys ids (built_rules keys ids) plan (at [] None idle 1 false) (drop 1 words)
  passed words none =
      let both = both_none _ _ (sym (faults_are words) ∙ none) in
      record { fault = both.0; settled = both.1 }

  passed_parts : (words : List Text) → fault_of (plan_app keys ids) words ≡ [] → Parts keys ids (built_rules keys ids) plan (drop 1 words) [] []
  passed_parts words none =
      (both_parts keys ids (built_rules keys ids) plan (drop 1 words)).0 [] None [] [] [] (settled_none keys ids (built_rules keys ids) plan [] [] refl) no_rows refl (omega arith) (passed words none)

  -- ---- what a caller of `clap` knows

  pub taken : (f : Found) (words : List Text) → fault_of (plan_app keys ids) words ≡ [] → rows_of f ≡ matches_of (plan_app keys ids) words
      → (options : Options) × ((names : List Text) × (Gives keys ids (drop 1 words) options names × Finds keys ids options names (first_value f)))
  taken f words none matched =
      let parts = passed_parts words none in
      let small : length (names_in parts.tokens parts.last) ≤ length ids = omega (arith, parts.few) in
      let runs = tokens_runs parts.tokens parts.last parts.fit parts.once small in
      let here = subst (λ (ws : List Text). RunsTo keys ids (built_rules keys ids) plan (at [] None idle 1 false) ws (options_in parts.tokens) (names_in parts.tokens parts.last)) (sym parts.are) runs in (
        options_in parts.tokens,
        (
          names_in parts.tokens parts.last,
          (
            record {
              tokens = record { tokens = parts.tokens; last = parts.last; are = parts.are; options_are = refl; names_are = refl };
              known = known_fits parts.tokens parts.fit;
              once = parts.once;
              few = small;
            },
            run_finds f words (options_in parts.tokens) (names_in parts.tokens parts.last) matched here,
          ),
        ),
      )

  pub taken_alone : (f : Found) (words : List Text) (options : Options) (names : List Text) → rows_of f ≡ matches_of (plan_app keys ids) words
      → Gives keys ids (drop 1 words) options names → AreNoFlags (map (λ o. o.1) options) → AreNoFlags names → Finds keys ids options names (first_value f)
  taken_alone f words options names matched gives values no_names = run_finds f words options names matched (given_runs (drop 1 words) options names gives values no_names)

  pub takes_given : (words : List Text) (options : Options) (names : List Text) → Gives keys ids (drop 1 words) options names → AreNoFlags (map (λ o. o.1) options) → AreNoFlags names
      → fault_of (plan_app keys ids) words ≡ []
  takes_given words options names gives values no_names = no_fault words options names (given_runs (drop 1 words) options names gives values no_names)

  -- ---- what a walk over the words finds, whatever options and names they give

  abbrev pub walk_rows : List Text → List Row
  walk_rows words = (settled (built_rules keys ids) (fold (walked (built_rules keys ids) []) (at [] None idle 1 false) words).held).rows

  abbrev pub found_by : List Text → Text → Option Text
  found_by words id = first_of id (walk_rows words)

  pub given_finds : (words : List Text) (options : Options) (names : List Text) → Gives keys ids words options names → AreNoFlags (map (λ o. o.1) options) → AreNoFlags names
      → Finds keys ids options names (found_by words)
  given_finds words options names gives values no_names =
      let runs = given_runs words options names gives values no_names in
      let rows_are : walk_rows words ≡ runs.rows = ap (λ h. (settled (built_rules keys ids) h).rows) runs.ends ∙ runs.settles.rows_are in
      let finds = rows_find runs.rows options names runs.are in
      record {
        of_key = λ key known. ap (first_of key) rows_are ∙ finds.of_key key known;
        of_file = λ k id here. ap (first_of id) rows_are ∙ finds.of_file k id here;
      }
