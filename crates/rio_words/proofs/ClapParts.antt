-- Words that a walk passes are tokens.
use Rattle.std.proofs.Common.{◌≡◌, ◌∙◌, ◌<◌, ◌≤◌, ◌+◌, ℕ, Bool, true, false, refl, sym, ap, subst, arith, List, [], ◌∷◌, ◌++◌, length, min, Option, Some, None, option_map, append-nil, append_assoc}
use Rattle.std.specs.Prelude.{slice_get}
use Rattle.std.specs.List.{find, fold}
use Rattle.std.specs.Str.{bytes_eq, chars}
use Rattle.std.proofs.lemmas.List.{length_push}
use Rattle.std.proofs.lemmas.Slice.Eq.{bytes_eq-Decides}
use Rattle.clap.specs.Lexer.{long_of, short_of, usize_max}
use Rattle.clap.specs.Walk.{Row, Rule, Waiting, idle, option, Walk, has_row, settled_rows, used, walked}
use Rattle.clap.specs.Faults.{react_fault, settle_fault, turn_fault, use_fault, walk_fault}
use Rattle.clap.specs.declared.error.kind.ErrorKind.TheVariants.{ArgumentConflict, InvalidValue}
use Rattle.rio_words.specs.Tokens.{Text, Token, name, spaced, joined, are_different, is_among, keys_of, names_in, options_in, words_of}
use Rattle.rio_words.proofs.ClapLexer.{Kind, ends, long, short, plain, kind, joined_is, spaced_is}
use Rattle.rio_words.proofs.ClapRows.{has_no_row, one, option_row, row, row_or_none, twice_fault, used_once, valueless_fault}
use Rattle.rio_words.proofs.ClapRuns.{AllFit, IsPlan, Options, Rows, Settles, different_more, get_none, get_within, is_option, settled_none, settled_one, with_name, with_option}
use Rattle.rio_words.proofs.ClapSteps.{IsPlain, Pending, at, both_none, built_shape, dashes, dashes_walked, file_fault, file_walked, held, joined_fault, joined_walked, long_settles, short_fault, spaced_walked, stray_fault, trailing_fault, trailing_stray_fault, trailing_walked, unknown_fault, value_walked}

module _ (keys ids : List Text) (c : List Rule) (plan : IsPlan keys ids c) where
  -- the walk passes the words, and what is pending in the end can be used
  pub record Passes (w : Walk) (words : List Text) : Type 0 where
    pub fault : walk_fault (built_shape c) [] w words ≡ []
    pub settled : settle_fault c false (fold (walked c []) w words).held ≡ []

  turn : (w : Walk) (word : Text) (rest : List Text) → Passes w (word ∷ rest) → turn_fault (built_shape c) [] w word ≡ []
  unfolding walk_fault
  turn w word rest p = (both_none _ _ p.fault).0

  goes_on : (w next : Walk) (word : Text) (rest : List Text) → walked c [] w word ≡ next → Passes w (word ∷ rest) → Passes next rest
  unfolding walk_fault
  goes_on w next word rest is p = record {
    fault = ap (λ (v : Walk). walk_fault (built_shape c) [] v rest) (sym is) ∙ (both_none (turn_fault (built_shape c) [] w word) _ p.fault).1;
    settled = ap (λ (v : Walk). settle_fault c false (fold (walked c []) v rest).held) (sym is) ∙ p.settled;
  }

  -- ---- what is pending and can't be used stays so

  stuck_behind : (words : List Text) (before : List Row) (pending : Pending) (waiting : Waiting) (k : ℕ) → (settle_fault c false (held before pending) ≡ [] → ⊥)
      → Passes (at before pending waiting (1 + k) true) words → ⊥
  stuck_behind [] before pending waiting k stuck p = stuck p.settled
  stuck_behind (w ∷ words) before pending waiting k stuck p = go (slice_get ids k) refl
    where
      go : (o : Option Text) → slice_get ids k ≡ o → ⊥
      go None none = cc (sym (trailing_stray_fault c before pending waiting (1 + k) w (plan.no_index k none)) ∙ turn (at before pending waiting (1 + k) true) w words p)
      go (Some id) at_k = stuck (sym (trailing_fault c before pending waiting (1 + k) w (one id None (Some (1 + k))) (plan.by_index k id at_k) (record { several = refl; multiple = refl; trailing = refl }))
          ∙ turn (at before pending waiting (1 + k) true) w words p)

  -- an option that comes asks that what is pending be used
  long_asks : (before : List Row) (pending : Pending) (waiting : Waiting) (n : ℕ) (word key : Text) (v : Option Text) → bytes_eq word dashes ≡ false → long_of word ≡ Some (key, v)
      → turn_fault (built_shape c) [] (at before pending waiting n false) word ≡ [] → (is_among keys key ≡ true) × (settle_fault c false (held before pending) ≡ [])
  long_asks before pending waiting n word key v not_end is none = go (is_among keys key) refl
    where
      go : (b : Bool) → is_among keys key ≡ b → (is_among keys key ≡ true) × (settle_fault c false (held before pending) ≡ [])
      go true known = (known, long_settles c before pending waiting n word key v (one key (Some key) None) not_end is (plan.by_key key known) refl none)
      go false unknown = absurd (cc (sym (unknown_fault c before pending waiting n word key v not_end is (plan.no_key key unknown)) ∙ none))

  short_none : (before : List Row) (pending : Pending) (waiting : Waiting) (n : ℕ) (word flags : Text) (x : ℕ) → bytes_eq word dashes ≡ false → long_of word ≡ None → short_of word ≡ Some flags
      → slice_get (chars flags) 0 ≡ Some x → turn_fault (built_shape c) [] (at before pending waiting n false) word ≡ [] → ⊥
  short_none before pending waiting n word flags x not_end not_long is first none =
      cc (sym (short_fault c before pending waiting n word flags x not_end not_long is first (plan.no_short x)) ∙ none)

  -- a name comes where a file is left, and asks the same
  name_asks : (before : List Row) (pending : Pending) (k : ℕ) (word : Text) → IsPlain word → turn_fault (built_shape c) [] (at before pending idle (1 + k) false) word ≡ []
      → ((id : Text) × (slice_get ids k ≡ Some id)) × (settle_fault c false (held before pending) ≡ [])
  name_asks before pending k word plainly none = go (slice_get ids k) refl
    where
      go : (o : Option Text) → slice_get ids k ≡ o → ((id : Text) × (slice_get ids k ≡ Some id)) × (settle_fault c false (held before pending) ≡ [])
      go None past = absurd (cc (sym (stray_fault c before pending (1 + k) word plainly (plan.no_index k past)) ∙ none))
      go (Some id) at_k = (
        (id, at_k),
        sym (file_fault c before pending (1 + k) word (one id None (Some (1 + k))) plainly (plan.by_index k id at_k) (record { several = refl; multiple = refl; trailing = refl })) ∙ none,
      )

  stuck_here : (words : List Text) (before : List Row) (pending : Pending) (k : ℕ) → (settle_fault c false (held before pending) ≡ [] → ⊥)
      → Passes (at before pending idle (1 + k) false) words → ⊥
  stuck_here [] before pending k stuck p = stuck p.settled
  stuck_here (w ∷ words) before pending k stuck p = go (kind w)
    where
      passes : turn_fault (built_shape c) [] (at before pending idle (1 + k) false) w ≡ []
      passes = turn (at before pending idle (1 + k) false) w words p

      go : Kind w → ⊥
      go (ends is) = stuck_behind words before pending idle k stuck (goes_on _ _ w words (dashes_walked c before pending idle (1 + k) w is) p)
      go (long key v not_end is) = stuck (long_asks before pending idle (1 + k) w key v not_end is passes).1
      go (short flags x not_end not_long is first) = short_none before pending idle (1 + k) w flags x not_end not_long is first passes
      go (plain plainly) = stuck (name_asks before pending k w plainly passes).1

  -- ---- the tokens of words that pass

  pub record Parts (words : List Text) (options : Options) (names : List Text) : Type 0 where
    pub tokens : List Token
    pub last : Option (List Text)
    pub are : words ≡ words_of tokens last
    pub fit : AllFit keys ids c plan tokens
    pub once : are_different (keys_of (options ++ options_in tokens)) ≡ true
    pub few : length names + length (names_in tokens last) ≤ length ids

  next_place : (k : ℕ) → k < length ids → min (1 + k + 1) usize_max ≡ 1 + (k + 1)
  next_place k inside = omega (arith, plan.few)

  -- names behind `--` are no more than the files
  names_few : (more : List Text) (before : List Row) (pending : Pending) (waiting : Waiting) (k : ℕ) → k ≤ length ids → Passes (at before pending waiting (1 + k) true) more
      → k + length more ≤ length ids
  names_few [] before pending waiting k few p = omega (arith, few)
  names_few (w ∷ more) before pending waiting k few p = go (slice_get ids k) refl (λ now id. names_few more now (Some (id, w ∷ [])) idle (k + 1))
    where
      go : (o : Option Text) → slice_get ids k ≡ o
          → ((now : List Row) (id : Text) → k + 1 ≤ length ids → Passes (at now (Some (id, w ∷ [])) idle (1 + (k + 1)) true) more → (k + 1) + length more ≤ length ids)
          → k + length (w ∷ more) ≤ length ids
      go None none later = absurd (cc (sym (trailing_stray_fault c before pending waiting (1 + k) w (plan.no_index k none)) ∙ turn (at before pending waiting (1 + k) true) w more p))
      go (Some id) at_k later =
          let inside = get_within ids k id at_k in
          let next = goes_on _ _ w more
          (trailing_walked c before pending waiting (1 + k) w (one id None (Some (1 + k))) (plan.by_index k id at_k) (record { several = refl; multiple = refl; trailing = refl })
          ∙ ap (λ (n : ℕ). at (settled_rows c pending before) (Some (id, w ∷ [])) idle n true) (next_place k inside)) p in
          let rest = later (settled_rows c pending before) id (omega (arith, inside)) next in
          omega (arith, rest)

  -- an option whose value comes next
  pub record Valued (key : Text) (words : List Text) (options : Options) (names : List Text) : Type 0 where
    pub v : Text
    pub rest : List Text
    pub are : words ≡ v ∷ rest
    pub plainly : IsPlain v
    pub parts : Parts rest (options ++ (key, v) ∷ []) names

  abbrev pub IdleParts : List Text → Type 0
  IdleParts words = (before : List Row) (pending : Pending) (rows : List Row) (options : Options) (names : List Text) → Settles keys ids c plan before pending rows → Rows keys ids rows options names
      → are_different (keys_of options) ≡ true → length names ≤ length ids → Passes (at before pending idle (1 + length names) false) words → Parts words options names

  abbrev pub WaitingParts : List Text → Type 0
  WaitingParts words = (key : Text) (before rows : List Row) (options : Options) (names : List Text) → before ≡ rows → is_among keys key ≡ true → Rows keys ids rows options names
      → are_different (keys_of options) ≡ true → length names ≤ length ids → Passes (at before (Some (key, [])) (option key) (1 + length names) false) words → Valued key words options names

  -- what is pending without a value can't be used
  valueless : (before : List Row) (key : Text) → is_among keys key ≡ true → settle_fault c false (held before (Some (key, []))) ≡ [] → ⊥
  valueless before key known none =
      let fault : settle_fault c false (held before (Some (key, []))) ≡ InvalidValue ∷ [] = rw (plan.key_id key known) (valueless_fault key (Some key) None before) in
      cc (sym fault ∙ none)

  -- an option that was given before can't be used again
  twice : (before rows : List Row) (key v : Text) (options : Options) (names : List Text) (o : Text × Text) → before ≡ rows → is_among keys key ≡ true → Rows keys ids rows options names
      → find (is_option key) options ≡ Some o → has_row key before ≡ true
  twice before rows key v options names o same known are some =
      ap (has_row key) same ∙ row_or_none key rows (row o.0 o.1) (are.of_key key known ∙ ap (option_map option_row) some)

  fresh : (before rows : List Row) (key : Text) (options : Options) (names : List Text) → before ≡ rows → is_among keys key ≡ true → Rows keys ids rows options names
      → find (is_option key) options ≡ None → has_row key before ≡ false
  fresh before rows key options names same known are none =
      ap (has_row key) same ∙ has_no_row key rows (are.of_key key known ∙ ap (option_map option_row) none)

  -- ---- words from a walk that waits for no value, and from one that does

  abbrev pub BothParts : List Text → Type 0
  BothParts words = IdleParts words × WaitingParts words

  -- `--` and the names behind it
  ended_parts : (more : List Text) (before : List Row) (pending : Pending) (options : Options) (names : List Text) (word : Text) → bytes_eq word dashes ≡ true
      → are_different (keys_of options) ≡ true → length names ≤ length ids → Passes (at before pending idle (1 + length names) true) more → Parts (word ∷ more) options names
  ended_parts more before pending options names word is once few p = record {
    tokens = [];
    last = Some more;
    are = ap (λ (w : Text). w ∷ more) ((bytes_eq-Decides word dashes).0 is);
    fit = tt;
    once = subst (λ (xs : Options). are_different (keys_of xs) ≡ true) (sym (append-nil options)) once;
    few = names_few more before pending idle (length names) few p;
  }

  -- a file's name in front
  named_parts : (w : Text) (words : List Text) (options : Options) (names : List Text) → IsPlain w → Parts words options (names ++ w ∷ []) → Parts (w ∷ words) options names
  named_parts w words options names plainly rest = record {
    tokens = name w ∷ rest.tokens;
    last = rest.last;
    are = ap (λ (ws : List Text). w ∷ ws) rest.are;
    fit = (plainly, rest.fit);
    once = rest.once;
    few = omega (arith, rest.few, length_push names w);
  }

  -- an option in front
  option_once : (options more : Options) (key v : Text) → are_different (keys_of ((options ++ (key, v) ∷ []) ++ more)) ≡ true → are_different (keys_of (options ++ (key, v) ∷ more)) ≡ true
  option_once options more key v once = subst (λ (xs : Options). are_different (keys_of xs) ≡ true) (append_assoc options ((key, v) ∷ []) more) once

  joined_parts : (w key v : Text) (words : List Text) (options : Options) (names : List Text) → w ≡ dashes ++ (key ++ 61 ∷ v) → is_among keys key ≡ true
      → Parts words (options ++ (key, v) ∷ []) names → Parts (w ∷ words) options names
  joined_parts w key v words options names is known rest = record {
    tokens = joined key v ∷ rest.tokens;
    last = rest.last;
    are = ap (λ (t : Text). t ∷ words) is ∙ ap (λ (ws : List Text). (dashes ++ (key ++ 61 ∷ v)) ∷ ws) rest.are;
    fit = (known, rest.fit);
    once = option_once options (options_in rest.tokens) key v rest.once;
    few = rest.few;
  }

  spaced_parts : (w key : Text) (words : List Text) (options : Options) (names : List Text) → w ≡ dashes ++ key → is_among keys key ≡ true → Valued key words options names → Parts (w ∷ words) options names
  spaced_parts w key words options names is known next = record {
    tokens = spaced key next.v ∷ next.parts.tokens;
    last = next.parts.last;
    are = ap (λ (t : Text). t ∷ words) is ∙ ap (λ (ws : List Text). (dashes ++ key) ∷ ws) (next.are ∙ ap (λ (ws : List Text). next.v ∷ ws) next.parts.are);
    fit = ((known, next.plainly), next.parts.fit);
    once = option_once options (options_in next.parts.tokens) key next.v next.parts.once;
    few = next.parts.few;
  }

  -- the walk behind a file's name
  named_next : (w : Text) (words : List Text) (before : List Row) (pending : Pending) (rows : List Row) (options : Options) (names : List Text) → IsPlain w
      → Settles keys ids c plan before pending rows → Rows keys ids rows options names → are_different (keys_of options) ≡ true
      → Passes (at before pending idle (1 + length names) false) (w ∷ words) → IdleParts words → Parts (w ∷ words) options names
  named_next w words before pending rows options names plainly settles are once p rest =
      let asks = name_asks before pending (length names) w plainly (turn (at before pending idle (1 + length names) false) w words p) in
      let id = asks.0.0 in
      let at_k = asks.0.1 in
      let inside = get_within ids (length names) id at_k in
      let rule = one id None (Some (1 + length names)) in
      let none : has_row id rows ≡ false = has_no_row id rows (are.of_id (length names) id at_k ∙ ap (option_map (row id)) (get_none names (length names) (omega arith))) in
      let place : min (1 + length names + 1) usize_max ≡ 1 + length (names ++ w ∷ []) = omega (arith, plan.few, inside, length_push names w) in
      let next = goes_on _ (at (settled_rows c pending before) (Some (id, w ∷ [])) idle (1 + length (names ++ w ∷ [])) false) w words
      (file_walked c before pending (1 + length names) w rule plainly (plan.by_index (length names) id at_k) (record { several = refl; multiple = refl; trailing = refl })
      ∙ ap (λ (n : ℕ). at (settled_rows c pending before) (Some (id, w ∷ [])) idle n false) place) p in
      named_parts w words options names plainly
      (rest (settled_rows c pending before) (Some (id, w ∷ [])) (rows ++ row id w ∷ []) options (names ++ w ∷ [])
      (settled_one keys ids c plan (settled_rows c pending before) rows id w None (Some (1 + length names)) settles.rows_are (plan.file_id (length names) id at_k) none)
      (with_name keys ids c plan rows options names id w are at_k) once (omega (arith, inside, length_push names w)) next)

  -- the walk behind `--key=value`
  joined_next : (w key v : Text) (words : List Text) (before : List Row) (pending : Pending) (rows : List Row) (options : Options) (names : List Text) → bytes_eq w dashes ≡ false
      → long_of w ≡ Some (key, Some v) → Settles keys ids c plan before pending rows → Rows keys ids rows options names → are_different (keys_of options) ≡ true → length names ≤ length ids
      → Passes (at before pending idle (1 + length names) false) (w ∷ words) → IdleParts words → Parts (w ∷ words) options names
  joined_next w key v words before pending rows options names not_end is settles are once few p rest = go (find (is_option key) options) refl
    where
      asks : (is_among keys key ≡ true) × (settle_fault c false (held before pending) ≡ [])
      asks = long_asks before pending idle (1 + length names) w key (Some v) not_end is (turn (at before pending idle (1 + length names) false) w words p)

      rule : Rule
      rule = one key (Some key) None

      use_passes : use_fault false rule (v ∷ []) (settled_rows c pending before) ≡ []
      use_passes = (both_none (settle_fault c false (held before pending)) (use_fault false rule (v ∷ []) (settled_rows c pending before)) (both_none (react_fault c false rule (v ∷ []) (held before pending)) [] (sym (joined_fault c before pending (1 + length names) w key v rule not_end is (plan.by_key key asks.0) refl)
          ∙ turn (at before pending idle (1 + length names) false) w words p)).0).1

      go : (o : Option (Text × Text)) → find (is_option key) options ≡ o → Parts (w ∷ words) options names
      go (Some o) some = absurd (cc (sym (twice_fault key (Some key) None v (settled_rows c pending before) (twice (settled_rows c pending before) rows key v options names o settles.rows_are asks.0 are some)) ∙ use_passes))
      go None none =
          let new = fresh rows rows key options names refl asks.0 are none in
          let used_now : used rule (v ∷ []) (settled_rows c pending before) ≡ rows ++ row key v ∷ [] = ap (used rule (v ∷ [])) settles.rows_are ∙ used_once key (Some key) None v rows new in
          joined_parts w key v words options names (joined_is w key v is) asks.0
          (rest (used rule (v ∷ []) (settled_rows c pending before)) None (rows ++ row key v ∷ []) (options ++ (key, v) ∷ []) names
          (settled_none keys ids c plan _ _ used_now) (with_option keys ids c plan rows options names key v are asks.0) (different_more options key v once none) few
          (goes_on _ _ w words (joined_walked c before pending (1 + length names) w key v rule not_end is (plan.by_key key asks.0) refl) p))

  -- the walk behind `--key`
  spaced_next : (w key : Text) (words : List Text) (before : List Row) (pending : Pending) (rows : List Row) (options : Options) (names : List Text) → bytes_eq w dashes ≡ false
      → long_of w ≡ Some (key, None) → Settles keys ids c plan before pending rows → Rows keys ids rows options names → are_different (keys_of options) ≡ true → length names ≤ length ids
      → Passes (at before pending idle (1 + length names) false) (w ∷ words) → WaitingParts words → Parts (w ∷ words) options names
  spaced_next w key words before pending rows options names not_end is settles are once few p rest =
      let asks = long_asks before pending idle (1 + length names) w key None not_end is (turn (at before pending idle (1 + length names) false) w words p) in
      spaced_parts w key words options names (spaced_is w key is) asks.0
      (rest key (settled_rows c pending before) rows options names settles.rows_are asks.0 are once few
      (goes_on _ _ w words (spaced_walked c before pending (1 + length names) w key (one key (Some key) None) not_end is (plan.by_key key asks.0) refl) p))

  -- the value that an option waits for
  value_next : (key w : Text) (words : List Text) (before rows : List Row) (options : Options) (names : List Text) → IsPlain w → before ≡ rows → is_among keys key ≡ true
      → Rows keys ids rows options names → are_different (keys_of options) ≡ true → length names ≤ length ids
      → Passes (at before (Some (key, [])) (option key) (1 + length names) false) (w ∷ words) → IdleParts words → Valued key (w ∷ words) options names
  value_next key w words before rows options names plainly same known are once few p rest = go (find (is_option key) options) refl
    where
      rule : Rule
      rule = one key (Some key) None

      next : Passes (at before (Some (key, w ∷ [])) idle (1 + length names) false) words
      next = goes_on _ _ w words (value_walked c before (1 + length names) w rule plainly (plan.key_id key known) (record { takes = refl; one = refl })) p

      go : (o : Option (Text × Text)) → find (is_option key) options ≡ o → Valued key (w ∷ words) options names
      go (Some o) some =
          let fault : settle_fault c false (held before (Some (key, w ∷ []))) ≡ ArgumentConflict ∷ [] =
          rw (plan.key_id key known) (twice_fault key (Some key) None w before (twice before rows key w options names o same known are some)) in
          absurd (stuck_here words before (Some (key, w ∷ [])) (length names) (λ none. cc (sym fault ∙ none)) next)
      go None none = record {
        v = w;
        rest = words;
        are = refl;
        plainly = plainly;
        parts = rest before (Some (key, w ∷ [])) (rows ++ row key w ∷ []) (options ++ (key, w) ∷ []) names
            (settled_one keys ids c plan before rows key w (Some key) None same (plan.key_id key known) (fresh rows rows key options names refl known are none))
            (with_option keys ids c plan rows options names key w are known) (different_more options key w once none) few next;
      }

  none_parts : BothParts []
  none_parts = (
    λ before pending rows options names settles are once few p. record {
      tokens = [];
      last = None;
      are = refl;
      fit = tt;
      once = subst (λ (xs : Options). are_different (keys_of xs) ≡ true) (sym (append-nil options)) once;
      few = omega (arith, few);
    },
    λ key before rows options names same known are once few p. absurd (valueless before key known p.settled),
  )

  more_parts : (w : Text) (words : List Text) → BothParts words → BothParts (w ∷ words)
  more_parts w words rest = (
    λ before pending rows options names settles are once few p. idle_kind before pending rows options names settles are once few p (kind w),
    λ key before rows options names same known are once few p. waiting_kind key before rows options names same known are once few p (kind w),
  )
    where
      idle_kind : (before : List Row) (pending : Pending) (rows : List Row) (options : Options) (names : List Text) → Settles keys ids c plan before pending rows → Rows keys ids rows options names
          → are_different (keys_of options) ≡ true → length names ≤ length ids → Passes (at before pending idle (1 + length names) false) (w ∷ words) → Kind w → Parts (w ∷ words) options names
      idle_kind before pending rows options names settles are once few p (ends is) =
          ended_parts words before pending options names w is once few (goes_on _ _ w words (dashes_walked c before pending idle (1 + length names) w is) p)
      idle_kind before pending rows options names settles are once few p (long key (Some v) not_end is) =
          joined_next w key v words before pending rows options names not_end is settles are once few p rest.0
      idle_kind before pending rows options names settles are once few p (long key None not_end is) =
          spaced_next w key words before pending rows options names not_end is settles are once few p rest.1
      idle_kind before pending rows options names settles are once few p (short flags x not_end not_long is first) =
          absurd (short_none before pending idle (1 + length names) w flags x not_end not_long is first (turn (at before pending idle (1 + length names) false) w words p))
      idle_kind before pending rows options names settles are once few p (plain plainly) =
          named_next w words before pending rows options names plainly settles are once p rest.0

      waiting_kind : (key : Text) (before rows : List Row) (options : Options) (names : List Text) → before ≡ rows → is_among keys key ≡ true → Rows keys ids rows options names
          → are_different (keys_of options) ≡ true → length names ≤ length ids → Passes (at before (Some (key, [])) (option key) (1 + length names) false) (w ∷ words) → Kind w → Valued key (w ∷ words) options names
      waiting_kind key before rows options names same known are once few p (ends is) =
          absurd (stuck_behind words before (Some (key, [])) (option key) (length names) (valueless before key known)
          (goes_on _ _ w words (dashes_walked c before (Some (key, [])) (option key) (1 + length names) w is) p))
      waiting_kind key before rows options names same known are once few p (long other v not_end is) =
          absurd (valueless before key known (long_asks before (Some (key, [])) (option key) (1 + length names) w other v not_end is (turn (at before (Some (key, [])) (option key) (1 + length names) false) w words p)).1)
      waiting_kind key before rows options names same known are once few p (short flags x not_end not_long is first) =
          absurd (short_none before (Some (key, [])) (option key) (1 + length names) w flags x not_end not_long is first (turn (at before (Some (key, [])) (option key) (1 + length names) false) w words p))
      waiting_kind key before rows options names same known are once few p (plain plainly) =
          value_next key w words before rows options names plainly same known are once few p rest.0

  pub both_parts : (words : List Text) → BothParts words
  both_parts [] = none_parts
  both_parts (w ∷ words) = more_parts w words (both_parts words)
