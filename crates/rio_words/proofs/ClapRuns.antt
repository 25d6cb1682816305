-- A walk over words, and the tokens that they are.
use Rattle.std.proofs.Common.{◌≡◌, ◌≢◌, ◌∙◌, ◌<◌, ◌≤◌, ◌+◌, ◌&&◌, ◌||◌, ℕ, Bool, cond, true, false, not, zero, suc, refl, sym, ap, subst, arith, List, [], ◌∷◌, ◌++◌, length, min, Option, Some, None, option_map, append-nil, append_assoc, true≢false}
use Rattle.std.specs.Prelude.{slice_get}
use Rattle.std.specs.List.{find, fold}
use Rattle.std.specs.Str.{bytes_eq}
use Rattle.std.proofs.lemmas.List.{length_push}
use Rattle.std.proofs.lemmas.Slice.Eq.{bytes_eq-Decides}
use Rattle.clap.specs.Lexer.{usize_max}
use Rattle.clap.specs.Walk.{Row, Rule, Waiting, idle, option, Walk, arg_by_id, arg_by_index, arg_by_long, arg_by_short, has_row, settled_rows, used, walked}
use Rattle.clap.specs.Faults.{settle_fault, turn_fault, use_fault, walk_fault}
use Rattle.clap.proofs.CutLemmas.{Lacks}
use Rattle.rio_words.specs.Tokens.{Text, Token, name, spaced, joined, are_different, is_among, keys_of, names_in, options_in, words_of}
use Rattle.rio_words.proofs.ClapLexer.{joined_goes_on, joined_long, spaced_goes_on, spaced_long}
use Rattle.rio_words.proofs.ClapRows.{find-append, first_some, first_some-map, has_no_row, is_row, none_last, once_fault, one, option_row, row, used_once}
use Rattle.rio_words.proofs.ClapSteps.{IsFileRule, IsOptionRule, IsPlain, Pending, at, built_shape, dashes, dashes_fault, dashes_walked, file_fault, file_walked, held, joined_fault, joined_walked, none_then, spaced_fault, spaced_walked, trailing_fault, trailing_walked, value_fault, value_walked}

abbrev pub Options : Type 0
Options = List (Text × Text)

abbrev pub is_option : Text → Text × Text → Bool
is_option key o = bytes_eq o.0 key

-- the rules are those of these options and files
pub record IsPlan (keys ids : List Text) (c : List Rule) : Type 0 where
  pub by_key : (key : Text) → is_among keys key ≡ true → arg_by_long c key ≡ Some (one key (Some key) None)
  pub no_key : (key : Text) → is_among keys key ≡ false → arg_by_long c key ≡ None
  pub no_short : (x : ℕ) → arg_by_short c x ≡ None
  pub by_index : (k : ℕ) (id : Text) → slice_get ids k ≡ Some id → arg_by_index c (1 + k) ≡ Some (one id None (Some (1 + k)))
  pub no_index : (k : ℕ) → slice_get ids k ≡ None → arg_by_index c (1 + k) ≡ None
  pub key_id : (key : Text) → is_among keys key ≡ true → arg_by_id c key ≡ Some (one key (Some key) None)
  pub file_id : (k : ℕ) (id : Text) → slice_get ids k ≡ Some id → arg_by_id c id ≡ Some (one id None (Some (1 + k)))
  pub apart : (key : Text) (k : ℕ) (id : Text) → is_among keys key ≡ true → slice_get ids k ≡ Some id → bytes_eq id key ≡ false
  pub alone : (j k : ℕ) (id : Text) → slice_get ids j ≡ Some id → slice_get ids k ≡ Some id → j ≡ k
  pub lacks : (key : Text) → is_among keys key ≡ true → Lacks 61 key
  pub some : (key : Text) → is_among keys key ≡ true → 0 < length key
  pub few : length ids < usize_max

-- what is held are these options and names
pub record Rows (keys ids : List Text) (rows : List Row) (options : Options) (names : List Text) : Type 0 where
  pub of_key : (key : Text) → is_among keys key ≡ true → find (is_row key) rows ≡ option_map option_row (find (is_option key) options)
  pub of_id : (k : ℕ) (id : Text) → slice_get ids k ≡ Some id → find (is_row id) rows ≡ option_map (row id) (slice_get names k)

-- ---- texts that differ

pub eq_back : (a b : Text) → bytes_eq a b ≡ false → bytes_eq b a ≡ false
eq_back a b e = go (bytes_eq b a) refl
  where
    go : (t : Bool) → bytes_eq b a ≡ t → bytes_eq b a ≡ false
    go false f = f
    go true f = absurd (true≢false (sym ((bytes_eq-Decides a b).1 (sym ((bytes_eq-Decides b a).0 f))) ∙ e))

pub not_false : (b : Bool) → not b ≡ true → b ≡ false
not_false true e = absurd (true≢false (sym e))
not_false false e = refl

pub and_both : (a b : Bool) → (a && b) ≡ true → (a ≡ true) × (b ≡ true)
and_both true b e = (refl, e)
and_both false b e = absurd (true≢false (sym e))

pub or_none : (a b : Bool) → (a || b) ≡ false → (a ≡ false) × (b ≡ false)
or_none true b e = absurd (true≢false e)
or_none false b e = (refl, e)

among-append : (xs ys : Options) (t : Text) → is_among (keys_of (xs ++ ys)) t ≡ (is_among (keys_of xs) t || is_among (keys_of ys) t)
among-append [] ys t = refl
among-append (x ∷ xs) ys t = go (bytes_eq x.0 t) (among-append xs ys t)
  where
    go : (b : Bool) → is_among (keys_of (xs ++ ys)) t ≡ (is_among (keys_of xs) t || is_among (keys_of ys) t)
        → (b || is_among (keys_of (xs ++ ys)) t) ≡ ((b || is_among (keys_of xs) t) || is_among (keys_of ys) t)
    go true e = refl
    go false e = e

-- an option after others of different keys is none of them
pub fresh_here : (options rest : Options) (key v : Text) → are_different (keys_of (options ++ (key, v) ∷ rest)) ≡ true → find (is_option key) options ≡ None
fresh_here [] rest key v e = refl
fresh_here (o ∷ options) rest key v e =
    let parts = and_both (not (is_among (keys_of (options ++ (key, v) ∷ rest)) o.0)) _ e in
    let none = or_none (is_among (keys_of options) o.0) _ (sym (among-append options ((key, v) ∷ rest) o.0) ∙ not_false _ parts.0) in
    let here = or_none (bytes_eq key o.0) _ none.1 in
    rw (eq_back key o.0 here.0) (fresh_here options rest key v parts.1)

pub different_more : (options : Options) (key v : Text) → are_different (keys_of options) ≡ true → find (is_option key) options ≡ None
    → are_different (keys_of (options ++ (key, v) ∷ [])) ≡ true
different_more [] key v e none = refl
different_more (o ∷ options) key v e none = go (bytes_eq o.0 key) refl none (different_more options key v parts.1)
  where
    parts : (is_among (keys_of options) o.0 ≡ false) × (are_different (keys_of options) ≡ true)
    parts = let both = and_both (not (is_among (keys_of options) o.0)) _ e in (not_false _ both.0, both.1)

    go : (b : Bool) → bytes_eq o.0 key ≡ b → cond b (Some o) (find (is_option key) options) ≡ None → (find (is_option key) options ≡ None → are_different (keys_of (options ++ (key, v) ∷ [])) ≡ true)
        → are_different (keys_of ((o ∷ options) ++ (key, v) ∷ [])) ≡ true
    go true same f rest = absurd (cc f)
    go false same f rest =
        let others : is_among (keys_of (options ++ (key, v) ∷ [])) o.0 ≡ false =
        among-append options ((key, v) ∷ []) o.0 ∙ rw (parts.0, eq_back o.0 key same) refl in
        rw (others, rest f) refl

-- ---- places of lists

pub get_some : {X : Type 0} (xs : List X) (k : ℕ) → k < length xs → (x : X) × (slice_get xs k ≡ Some x)
get_some [] k inside = absurd (omega arith)
get_some (x ∷ xs) zero inside = (x, refl)
get_some (x ∷ xs) (suc k) inside = get_some xs k (omega arith)

pub get_none : {X : Type 0} (xs : List X) (k : ℕ) → length xs ≤ k → slice_get xs k ≡ None
get_none [] k past = refl
get_none (x ∷ xs) zero past = absurd (omega arith)
get_none (x ∷ xs) (suc k) past = get_none xs k (omega arith)

pub get_within : {X : Type 0} (xs : List X) (k : ℕ) (x : X) → slice_get xs k ≡ Some x → k < length xs
get_within [] k x e = absurd (cc e)
get_within (y ∷ xs) zero x e = omega arith
get_within (y ∷ xs) (suc k) x e = let rest = get_within xs k x e in omega (arith, rest)

pub get_push : {X : Type 0} (xs : List X) (y : X) (k : ℕ) → k ≢ length xs → slice_get (xs ++ y ∷ []) k ≡ slice_get xs k
get_push [] y zero other = absurd (other refl)
get_push [] y (suc k) other = refl
get_push (x ∷ xs) y zero other = refl
get_push (x ∷ xs) y (suc k) other = get_push xs y k (λ same. other (omega arith))

pub get_pushed : {X : Type 0} (xs : List X) (y : X) → slice_get (xs ++ y ∷ []) (length xs) ≡ Some y
get_pushed [] y = refl
get_pushed (x ∷ xs) y = get_pushed xs y

-- ---- what is held, with one more

module _ (keys ids : List Text) (c : List Rule) (plan : IsPlan keys ids c) where
  pub with_option : (rows : List Row) (options : Options) (names : List Text) (key v : Text) → Rows keys ids rows options names → is_among keys key ≡ true
      → Rows keys ids (rows ++ row key v ∷ []) (options ++ (key, v) ∷ []) names
  with_option rows options names key v are known = record {
    of_key = λ other among.
        find-append (is_row other) rows (row key v ∷ []) ∙ ap (λ o. first_some o (cond (bytes_eq key other) (Some (row key v)) None)) (are.of_key other among)
        ∙ ap (λ o. first_some (option_map option_row (find (is_option other) options)) o) (last (bytes_eq key other))
        ∙ sym (first_some-map option_row (find (is_option other) options) (cond (bytes_eq key other) (Some (key, v)) None))
        ∙ ap (option_map option_row) (sym (find-append (is_option other) options ((key, v) ∷ [])));
    of_id = λ k id at_k.
        let differs : bytes_eq key id ≡ false = eq_back id key (plan.apart key k id known at_k) in
        find-append (is_row id) rows (row key v ∷ []) ∙ rw differs (none_last (find (is_row id) rows)) ∙ are.of_id k id at_k;
  }
    where
      last : (b : Bool) → cond b (Some (row key v)) None ≡ option_map option_row (cond b (Some (key, v)) None)
      last true = refl
      last false = refl

  pub with_name : (rows : List Row) (options : Options) (names : List Text) (id w : Text) → Rows keys ids rows options names → slice_get ids (length names) ≡ Some id
      → Rows keys ids (rows ++ row id w ∷ []) options (names ++ w ∷ [])
  with_name rows options names id w are here = record {
    of_key = λ key known.
        let differs : bytes_eq id key ≡ false = plan.apart key (length names) id known here in
        find-append (is_row key) rows (row id w ∷ []) ∙ rw differs (none_last (find (is_row key) rows)) ∙ are.of_key key known;
    of_id = λ k other at_k. find-append (is_row other) rows (row id w ∷ []) ∙ go (bytes_eq id other) k other refl at_k;
  }
    where
      go : (b : Bool) (k : ℕ) (other : Text) → bytes_eq id other ≡ b → slice_get ids k ≡ Some other
          → first_some (find (is_row other) rows) (cond b (Some (row id w)) None) ≡ option_map (row other) (slice_get (names ++ w ∷ []) k)
      go true k other same at_k =
          let is : id ≡ other = (bytes_eq-Decides id other).0 same in
          let place : k ≡ length names = plan.alone k (length names) id (at_k ∙ ap Some (sym is)) here in
          let none : find (is_row other) rows ≡ None = are.of_id k other at_k ∙ ap (option_map (row other)) (get_none names k (omega (arith, place))) in
          let pushed : slice_get (names ++ w ∷ []) k ≡ Some w = ap (slice_get (names ++ w ∷ [])) place ∙ get_pushed names w in
          rw (none, pushed) (ap (λ t. Some (row t w)) is)
      go false k other differs at_k =
          let place : k ≢ length names = λ same. true≢false (sym ((bytes_eq-Decides id other).1 (cc (sym here ∙ ap (slice_get ids) (sym same) ∙ at_k))) ∙ differs) in
          none_last (find (is_row other) rows) ∙ are.of_id k other at_k ∙ ap (option_map (row other)) (sym (get_push names w k place))

  -- ---- what is pending can be used, and these rows come of it

  pub record Settles (before : List Row) (pending : Pending) (rows : List Row) : Type 0 where
    pub rows_are : settled_rows c pending before ≡ rows
    pub fault : settle_fault c false (held before pending) ≡ []

  pub settled_none : (before rows : List Row) → before ≡ rows → Settles before None rows
  settled_none before rows same = record { rows_are = same; fault = refl }

  pub settled_one : (before rows : List Row) (id v : Text) (l : Option Text) (i : Option ℕ) → before ≡ rows → arg_by_id c id ≡ Some (one id l i) → has_row id rows ≡ false
      → Settles before (Some (id, v ∷ [])) (rows ++ row id v ∷ [])
  settled_one before rows id v l i same found none =
      subst (λ (b : List Row). Settles b (Some (id, v ∷ [])) (rows ++ row id v ∷ [])) (sym same) (record {
        rows_are = rw found (used_once id l i v rows none);
        fault = rw found (once_fault id l i v rows none);
      })

  file_rule : (id : Text) (k : ℕ) → IsFileRule (one id None (Some k))
  file_rule id k = record { several = refl; multiple = refl; trailing = refl }

  option_rule : (key : Text) → IsOptionRule (one key (Some key) None)
  option_rule key = record { takes = refl; one = refl }

  next_place : (names : List Text) (w : Text) → length names < length ids → min (1 + length names + 1) usize_max ≡ 1 + length (names ++ w ∷ [])
  next_place names w inside = omega (arith, plan.few, length_push names w)

  -- ---- the words of tokens are passed, and what is held in the end are their options and names

  pub record RunsTo (w : Walk) (words : List Text) (options : Options) (names : List Text) : Type 0 where
    pub rows : List Row
    pub before : List Row
    pub pending : Pending
    pub fault : walk_fault (built_shape c) [] w words ≡ []
    pub ends : (fold (walked c []) w words).held ≡ held before pending
    pub settles : Settles before pending rows
    pub are : Rows keys ids rows options names

  stops : (before : List Row) (pending : Pending) (rows : List Row) (waiting : Waiting) (p : ℕ) (trailing : Bool) (options : Options) (names : List Text)
      → Settles before pending rows → Rows keys ids rows options names → RunsTo (at before pending waiting p trailing) [] options names
  unfolding walk_fault
  stops before pending rows waiting p trailing options names settles are =
      record { rows = rows; before = before; pending = pending; fault = refl; ends = refl; settles = settles; are = are }

  goes_on : (w next : Walk) (word : Text) (rest : List Text) (options : Options) (names : List Text) → turn_fault (built_shape c) [] w word ≡ [] → walked c [] w word ≡ next
      → RunsTo next rest options names → RunsTo w (word ∷ rest) options names
  unfolding walk_fault
  goes_on w next word rest options names passes is after = record {
    rows = after.rows;
    before = after.before;
    pending = after.pending;
    fault = none_then (turn_fault (built_shape c) [] w word) (walk_fault (built_shape c) [] (walked c [] w word) rest) passes (ap (λ (v : Walk). walk_fault (built_shape c) [] v rest) is ∙ after.fault);
    ends = ap (λ (v : Walk). (fold (walked c []) v rest).held) is ∙ after.ends;
    settles = after.settles;
    are = after.are;
  }

  -- the place of a walk, by how many names there were
  placed : (before : List Row) (pending : Pending) (waiting : Waiting) (p q : ℕ) (trailing : Bool) (words : List Text) (options : Options) (names : List Text) → p ≡ q
      → RunsTo (at before pending waiting q trailing) words options names → RunsTo (at before pending waiting p trailing) words options names
  placed before pending waiting p q trailing words options names same runs =
      subst (λ (n : ℕ). RunsTo (at before pending waiting n trailing) words options names) (sym same) runs

  pub names_run : (more : List Text) (before : List Row) (pending : Pending) (rows : List Row) (waiting : Waiting) (options : Options) (names : List Text)
      → Settles before pending rows → Rows keys ids rows options names → length names + length more ≤ length ids
      → RunsTo (at before pending waiting (1 + length names) true) more options (names ++ more)
  names_run [] before pending rows waiting options names settles are few =
      stops before pending rows waiting (1 + length names) true options (names ++ []) settles (subst (λ (xs : List Text). Rows keys ids rows options xs) (sym (append-nil names)) are)
  names_run (w ∷ more) before pending rows waiting options names settles are few =
      let inside : length names < length ids = omega (arith, few) in
      let file = get_some ids (length names) inside in
      let found = plan.by_index (length names) file.0 file.1 in
      let rule = file_rule file.0 (1 + length names) in
      let none : has_row file.0 rows ≡ false = has_no_row file.0 rows (are.of_id (length names) file.0 file.1 ∙ ap (option_map (row file.0)) (get_none names (length names) (omega arith))) in
      let next = settled_one (settled_rows c pending before) rows file.0 w None (Some (1 + length names)) settles.rows_are (plan.file_id (length names) file.0 file.1) none in
      let after = names_run more (settled_rows c pending before) (Some (file.0, w ∷ [])) (rows ++ row file.0 w ∷ []) idle options (names ++ w ∷ []) next (with_name rows options names file.0 w are file.1)
      (omega (arith, few, length_push names w)) in
      goes_on (at before pending waiting (1 + length names) true) (at (settled_rows c pending before) (Some (file.0, w ∷ [])) idle (min (1 + length names + 1) usize_max) true) w more options (names ++ w ∷ more)
      (trailing_fault c before pending waiting (1 + length names) w (one file.0 None (Some (1 + length names))) found rule ∙ settles.fault)
      (trailing_walked c before pending waiting (1 + length names) w (one file.0 None (Some (1 + length names))) found rule)
      (placed (settled_rows c pending before) (Some (file.0, w ∷ [])) idle (min (1 + length names + 1) usize_max) (1 + length (names ++ w ∷ [])) true more options (names ++ w ∷ more) (next_place names w inside)
      (subst (λ (xs : List Text). RunsTo (at (settled_rows c pending before) (Some (file.0, w ∷ [])) idle (1 + length (names ++ w ∷ [])) true) more options xs) (append_assoc names (w ∷ []) more) after))

  -- tokens as the command has them
  abbrev pub Fits : Token → Type 0
  Fits (name word) = IsPlain word
  Fits (spaced key v) = (is_among keys key ≡ true) × IsPlain v
  Fits (joined key v) = is_among keys key ≡ true

  abbrev pub AllFit : List Token → Type 0
  AllFit [] = Unit {0}
  AllFit (t ∷ tokens) = Fits t × AllFit tokens

  -- an option was given
  one_more : (rest : Options) (options : Options) (key v : Text) → (options ++ (key, v) ∷ []) ++ rest ≡ options ++ (key, v) ∷ rest
  one_more rest options key v = append_assoc options ((key, v) ∷ []) rest

  no_row_yet : (rows : List Row) (options : Options) (names : List Text) (key : Text) → Rows keys ids rows options names → is_among keys key ≡ true → find (is_option key) options ≡ None
      → has_row key rows ≡ false
  no_row_yet rows options names key are known none = has_no_row key rows (are.of_key key known ∙ ap (option_map option_row) none)

  pub tokens_run : (tokens : List Token) (last : Option (List Text)) (before : List Row) (pending : Pending) (rows : List Row) (options : Options) (names : List Text)
      → Settles before pending rows → Rows keys ids rows options names → AllFit tokens → are_different (keys_of (options ++ options_in tokens)) ≡ true
      → length names + length (names_in tokens last) ≤ length ids
      → RunsTo (at before pending idle (1 + length names) false) (words_of tokens last) (options ++ options_in tokens) (names ++ names_in tokens last)
  tokens_run [] None before pending rows options names settles are fit once few =
      stops before pending rows idle (1 + length names) false (options ++ []) (names ++ []) settles
      (subst (λ (xs : List Text). Rows keys ids rows (options ++ []) xs) (sym (append-nil names)) (subst (λ (xs : Options). Rows keys ids rows xs names) (sym (append-nil options)) are))
  tokens_run [] (Some more) before pending rows options names settles are fit once few =
      goes_on (at before pending idle (1 + length names) false) (at before pending idle (1 + length names) true) dashes more (options ++ []) (names ++ more)
      (dashes_fault c before pending idle (1 + length names) dashes refl) (dashes_walked c before pending idle (1 + length names) dashes refl)
      (subst (λ (xs : Options). RunsTo (at before pending idle (1 + length names) true) more xs (names ++ more)) (sym (append-nil options)) (names_run more before pending rows idle options names settles are few))
  tokens_run (name w ∷ tokens) last before pending rows options names settles are fit once few =
      let inside : length names < length ids = omega (arith, few) in
      let file = get_some ids (length names) inside in
      let found = plan.by_index (length names) file.0 file.1 in
      let rule = file_rule file.0 (1 + length names) in
      let none : has_row file.0 rows ≡ false = has_no_row file.0 rows (are.of_id (length names) file.0 file.1 ∙ ap (option_map (row file.0)) (get_none names (length names) (omega arith))) in
      let next = settled_one (settled_rows c pending before) rows file.0 w None (Some (1 + length names)) settles.rows_are (plan.file_id (length names) file.0 file.1) none in
      let after = tokens_run tokens last (settled_rows c pending before) (Some (file.0, w ∷ [])) (rows ++ row file.0 w ∷ []) options (names ++ w ∷ []) next (with_name rows options names file.0 w are file.1)
      fit.1 once (omega (arith, few, length_push names w)) in
      goes_on (at before pending idle (1 + length names) false) (at (settled_rows c pending before) (Some (file.0, w ∷ [])) idle (min (1 + length names + 1) usize_max) false) w (words_of tokens last)
      (options ++ options_in tokens) (names ++ w ∷ names_in tokens last)
      (file_fault c before pending (1 + length names) w (one file.0 None (Some (1 + length names))) fit.0 found rule ∙ settles.fault)
      (file_walked c before pending (1 + length names) w (one file.0 None (Some (1 + length names))) fit.0 found rule)
      (placed (settled_rows c pending before) (Some (file.0, w ∷ [])) idle (min (1 + length names + 1) usize_max) (1 + length (names ++ w ∷ [])) false (words_of tokens last)
      (options ++ options_in tokens) (names ++ w ∷ names_in tokens last) (next_place names w inside)
      (subst (λ (xs : List Text). RunsTo (at (settled_rows c pending before) (Some (file.0, w ∷ [])) idle (1 + length (names ++ w ∷ [])) false) (words_of tokens last) (options ++ options_in tokens) xs)
      (append_assoc names (w ∷ []) (names_in tokens last)) after))
  tokens_run (spaced key v ∷ tokens) last before pending rows options names settles are fit once few =
      let known = fit.0.0 in
      let found = plan.by_key key known in
      let word = dashes ++ key in
      let goes = spaced_goes_on key (plan.some key known) in
      let is = spaced_long key (plan.some key known) (plan.lacks key known) in
      let none = no_row_yet rows options names key are known (fresh_here options (options_in tokens) key v once) in
      let next = settled_one (settled_rows c pending before) rows key v (Some key) None settles.rows_are (plan.key_id key known) none in
      let after = tokens_run tokens last (settled_rows c pending before) (Some (key, v ∷ [])) (rows ++ row key v ∷ []) (options ++ (key, v) ∷ []) names next (with_option rows options names key v are known)
      fit.1 (ap (λ (xs : Options). are_different (keys_of xs)) (one_more (options_in tokens) options key v) ∙ once) few in
      goes_on (at before pending idle (1 + length names) false) (at (settled_rows c pending before) (Some (key, [])) (option key) (1 + length names) false) word (v ∷ words_of tokens last)
      (options ++ (key, v) ∷ options_in tokens) (names ++ names_in tokens last)
      (spaced_fault c before pending (1 + length names) word key (one key (Some key) None) goes is found refl ∙ none_then _ _ settles.fault refl)
      (spaced_walked c before pending (1 + length names) word key (one key (Some key) None) goes is found refl)
      (goes_on (at (settled_rows c pending before) (Some (key, [])) (option key) (1 + length names) false) (at (settled_rows c pending before) (Some (key, v ∷ [])) idle (1 + length names) false) v (words_of tokens last)
      (options ++ (key, v) ∷ options_in tokens) (names ++ names_in tokens last)
      (value_fault c (settled_rows c pending before) (1 + length names) v (one key (Some key) None) fit.0.1)
      (value_walked c (settled_rows c pending before) (1 + length names) v (one key (Some key) None) fit.0.1 (plan.key_id key known) (option_rule key))
      (subst (λ (xs : Options). RunsTo (at (settled_rows c pending before) (Some (key, v ∷ [])) idle (1 + length names) false) (words_of tokens last) xs (names ++ names_in tokens last)) (one_more (options_in tokens) options key v) after))
  tokens_run (joined key v ∷ tokens) last before pending rows options names settles are fit once few =
      let known = fit.0 in
      let found = plan.by_key key known in
      let word = dashes ++ (key ++ 61 ∷ v) in
      let goes = joined_goes_on key v in
      let is = joined_long key v (plan.lacks key known) in
      let none = no_row_yet rows options names key are known (fresh_here options (options_in tokens) key v once) in
      let used_now : used (one key (Some key) None) (v ∷ []) (settled_rows c pending before) ≡ rows ++ row key v ∷ [] =
      ap (used (one key (Some key) None) (v ∷ [])) settles.rows_are ∙ used_once key (Some key) None v rows none in
      let fault_now : use_fault false (one key (Some key) None) (v ∷ []) (settled_rows c pending before) ≡ [] =
      ap (use_fault false (one key (Some key) None) (v ∷ [])) settles.rows_are ∙ once_fault key (Some key) None v rows none in
      let after = tokens_run tokens last (used (one key (Some key) None) (v ∷ []) (settled_rows c pending before)) None (rows ++ row key v ∷ []) (options ++ (key, v) ∷ []) names
      (settled_none _ _ used_now) (with_option rows options names key v are known)
      fit.1 (ap (λ (xs : Options). are_different (keys_of xs)) (one_more (options_in tokens) options key v) ∙ once) few in
      goes_on (at before pending idle (1 + length names) false) (at (used (one key (Some key) None) (v ∷ []) (settled_rows c pending before)) None idle (1 + length names) false) word (words_of tokens last)
      (options ++ (key, v) ∷ options_in tokens) (names ++ names_in tokens last)
      (joined_fault c before pending (1 + length names) word key v (one key (Some key) None) goes is found refl ∙ none_then _ _ (none_then _ _ settles.fault fault_now) refl)
      (joined_walked c before pending (1 + length names) word key v (one key (Some key) None) goes is found refl)
      (subst (λ (xs : Options). RunsTo (at (used (one key (Some key) None) (v ∷ []) (settled_rows c pending before)) None idle (1 + length names) false) (words_of tokens last) xs (names ++ names_in tokens last))
      (one_more (options_in tokens) options key v) after)
