-- One word of a walk over a command that has options with one value, and files.
use Rattle.std.proofs.Common.{◌≡◌, ◌<◌, ◌+◌, ◌==◌, ◌&&◌, ◌⊎◌, ℕ, Bool, cond, true, false, zero, suc, refl, subst, arith, List, [], ◌∷◌, length, Option, Some, None, codes, inl, inr, min}
use Rattle.std.specs.Prelude.{slice_get, option_and_then, unwrap_or}
use Rattle.std.specs.Str.{bytes_eq, chars}
use Rattle.std.proofs.lemmas.Slice.Eq.{bytes_eq-Decides}
use Rattle.clap.specs.Lexer.{long_of, short_of, short_of_rest, strip_byte, usize_max}
use Rattle.clap.specs.Walk.{Held, Row, Rule, Text, Waiting, idle, option, positional, Walk, value, arg_by_id, arg_by_index, arg_by_long, arg_by_short, bundle_met, is_multiple, is_pending, most_values, positional_held, settled_rows, subcommand_met, takes_several, takes_values, used, walked, word_met, plain}
use Rattle.clap.specs.Simple.{Shape, new_shape}
use Rattle.clap.specs.Kinds.{Kinds, or_else}
use Rattle.clap.specs.Faults.{flags_fault, react_fault, settle_fault, turn_fault, word_fault}
use Rattle.clap.specs.declared.error.kind.ErrorKind.TheVariants.{UnknownArgument}

abbrev pub Pending : Type 0
Pending = Option (Text × List Text)

abbrev pub dashes : Text
dashes = 45 ∷ 45 ∷ []

abbrev pub held : List Row → Pending → Held
held rows pending = record { rows = rows; pending = pending; skip = 0 }

-- the walk between two words
abbrev pub at : List Row → Pending → Waiting → ℕ → Bool → Walk
at rows pending waiting position is_trailing = record {
  held = held rows pending;
  waiting = waiting;
  position = position;
  is_trailing = is_trailing;
  stopped = None;
}

-- the command as it is built
abbrev pub built_shape : List Rule → Shape
built_shape rules = record (new_shape (codes "rio")) {
  rules = rules;
  disable_help_flag = true;
  disable_help_subcommand = true;
  disable_version_flag = true;
  is_built = true;
}

-- ---- faults of two steps

pub both_none : (a b : Kinds) → or_else a b ≡ [] → (a ≡ []) × (b ≡ [])
both_none [] b e = (refl, e)
both_none (k ∷ ks) b e = absurd (cc e)

pub none_then : (a b : Kinds) → a ≡ [] → b ≡ [] → or_else a b ≡ []
none_then a b none next = rw (none, next) refl

and_false : (b : Bool) → (b && false) ≡ false
and_false true = refl
and_false false = refl

no_subcommand : (waiting : Waiting) (word : Text) → subcommand_met [] waiting word ≡ None
no_subcommand idle word = refl
no_subcommand (option id) word = refl
no_subcommand positional word = refl

-- ---- `--`

pub dashes_walked : (c : List Rule) (rows : List Row) (pending : Pending) (waiting : Waiting) (p : ℕ) (word : Text) → bytes_eq word dashes ≡ true
    → walked c [] (at rows pending waiting p false) word ≡ at rows pending waiting p true
unfolding walked
dashes_walked c rows pending waiting p word is = rw (no_subcommand waiting word, is) refl

pub dashes_fault : (c : List Rule) (rows : List Row) (pending : Pending) (waiting : Waiting) (p : ℕ) (word : Text) → bytes_eq word dashes ≡ true
    → turn_fault (built_shape c) [] (at rows pending waiting p false) word ≡ []
dashes_fault c rows pending waiting p word is = rw (no_subcommand waiting word, is) refl

-- ---- `--key=value` and `--key`

pub joined_walked : (c : List Rule) (rows : List Row) (pending : Pending) (p : ℕ) (word key v : Text) (a : Rule) → bytes_eq word dashes ≡ false → long_of word ≡ Some (key, Some v)
    → arg_by_long c key ≡ Some a → takes_values a ≡ true
    → walked c [] (at rows pending idle p false) word ≡ at (used a (v ∷ []) (settled_rows c pending rows)) None idle p false
unfolding walked
joined_walked c rows pending p word key v a not_end is found takes = rw (not_end, is, found, takes) refl

pub joined_fault : (c : List Rule) (rows : List Row) (pending : Pending) (p : ℕ) (word key v : Text) (a : Rule) → bytes_eq word dashes ≡ false → long_of word ≡ Some (key, Some v)
    → arg_by_long c key ≡ Some a → takes_values a ≡ true
    → turn_fault (built_shape c) [] (at rows pending idle p false) word ≡ or_else (react_fault c false a (v ∷ []) (held rows pending)) []
joined_fault c rows pending p word key v a not_end is found takes = rw (not_end, is, found, takes) refl

pub spaced_walked : (c : List Rule) (rows : List Row) (pending : Pending) (p : ℕ) (word key : Text) (a : Rule) → bytes_eq word dashes ≡ false → long_of word ≡ Some (key, None)
    → arg_by_long c key ≡ Some a → takes_values a ≡ true
    → walked c [] (at rows pending idle p false) word ≡ at (settled_rows c pending rows) (Some (a.id, [])) (option a.id) p false
unfolding walked
spaced_walked c rows pending p word key a not_end is found takes = rw (not_end, is, found, takes) refl

pub spaced_fault : (c : List Rule) (rows : List Row) (pending : Pending) (p : ℕ) (word key : Text) (a : Rule) → bytes_eq word dashes ≡ false → long_of word ≡ Some (key, None)
    → arg_by_long c key ≡ Some a → takes_values a ≡ true
    → turn_fault (built_shape c) [] (at rows pending idle p false) word ≡ or_else (settle_fault c false (held rows pending)) []
spaced_fault c rows pending p word key a not_end is found takes = rw (not_end, is, found, takes) refl

-- an option that the command lacks
pub unknown_fault : (c : List Rule) (rows : List Row) (pending : Pending) (waiting : Waiting) (p : ℕ) (word key : Text) (v : Option Text) → bytes_eq word dashes ≡ false
    → long_of word ≡ Some (key, v) → arg_by_long c key ≡ None
    → turn_fault (built_shape c) [] (at rows pending waiting p false) word ≡ UnknownArgument ∷ []
unknown_fault c rows pending waiting p word key v not_end is none = rw (no_subcommand waiting word, not_end, is, none) refl

-- an option comes only where what is pending can be used
pub long_settles : (c : List Rule) (rows : List Row) (pending : Pending) (waiting : Waiting) (p : ℕ) (word key : Text) (v : Option Text) (a : Rule) → bytes_eq word dashes ≡ false
    → long_of word ≡ Some (key, v) → arg_by_long c key ≡ Some a → takes_values a ≡ true
    → turn_fault (built_shape c) [] (at rows pending waiting p false) word ≡ [] → settle_fault c false (held rows pending) ≡ []
long_settles c rows pending waiting p word key None a not_end is found takes none =
    (both_none _ _ (rw (no_subcommand waiting word, not_end, is, found, takes) at none)).0
long_settles c rows pending waiting p word key (Some v) a not_end is found takes none =
    (both_none _ _ (both_none _ _ (rw (no_subcommand waiting word, not_end, is, found, takes) at none)).0).0

-- ---- `-x`

flags_refused : (c : List Rule) (k : ℕ) (flags : Text) (h : Held) (x : ℕ) → slice_get (chars flags) 0 ≡ Some x → arg_by_short c x ≡ None → 0 < k
    → flags_fault c false k flags 0 h ≡ UnknownArgument ∷ []
unfolding flags_fault
flags_refused c zero flags h x first none some = absurd (omega arith)
flags_refused c (suc k) flags h x first none some = rw (first, none) refl

some_flags : (word flags : Text) → short_of word ≡ Some flags → 0 < length flags
some_flags word flags is = go (strip_byte 45 word) is
  where
    rest : (text : Text) → short_of_rest text ≡ Some flags → 0 < length flags
    rest [] e = absurd (cc e)
    rest (x ∷ xs) e = behind (x == 45) e
      where
        behind : (b : Bool) → cond b None (Some (x ∷ xs)) ≡ Some flags → 0 < length flags
        behind true f = absurd (cc f)
        behind false f = subst (λ (o : Option Text). 0 < length (unwrap_or o [])) f (omega arith)

    go : (o : Option Text) → option_and_then short_of_rest o ≡ Some flags → 0 < length flags
    go None e = absurd (cc e)
    go (Some text) e = rest text e

pub short_fault : (c : List Rule) (rows : List Row) (pending : Pending) (waiting : Waiting) (p : ℕ) (word flags : Text) (x : ℕ) → bytes_eq word dashes ≡ false → long_of word ≡ None
    → short_of word ≡ Some flags → slice_get (chars flags) 0 ≡ Some x → arg_by_short c x ≡ None
    → turn_fault (built_shape c) [] (at rows pending waiting p false) word ≡ UnknownArgument ∷ []
short_fault c rows pending waiting p word flags x not_end not_long is first none =
    rw (no_subcommand waiting word, not_end, not_long, is, flags_refused c (length flags) flags (held rows pending) x first none (some_flags word flags is)) refl

-- ---- a word that is no flag

-- flags of which the first byte begins no character are none
pub record IsPlain (word : Text) : Type 0 where
  pub not_end : bytes_eq word dashes ≡ false
  pub not_long : long_of word ≡ None
  pub not_short : (short_of word ≡ None) ⊎ ((flags : Text) × (short_of word ≡ Some flags) × (slice_get (chars flags) 0 ≡ None))

no_flags : (c : List Rule) (k : ℕ) (flags : Text) (h : Held) → slice_get (chars flags) 0 ≡ None → bundle_met c k flags 0 plain h ≡ (h, plain)
unfolding bundle_met
no_flags c zero flags h none = refl
no_flags c (suc k) flags h none = rw none refl

no_flags_fault : (c : List Rule) (k : ℕ) (flags : Text) (h : Held) → slice_get (chars flags) 0 ≡ None → flags_fault c false k flags 0 h ≡ []
unfolding flags_fault
no_flags_fault c zero flags h none = refl
no_flags_fault c (suc k) flags h none = rw none refl

pub plain_met : (c : List Rule) (rows : List Row) (pending : Pending) (p : ℕ) (word : Text) → IsPlain word → word_met c [] false idle p word (held rows pending) ≡ (held rows pending, value)
plain_met c rows pending p word is = elim is.not_short [
  | inl none ↦ rw (is.not_end, is.not_long, none) refl
  | inr some ↦ rw (is.not_end, is.not_long, some.1, no_flags c (length some.0) some.0 (held rows pending) some.2) refl
]

pub plain_fault : (c : List Rule) (rows : List Row) (pending : Pending) (waiting : Waiting) (word : Text) → IsPlain word → word_fault (built_shape c) [] false waiting word (held rows pending) ≡ []
plain_fault c rows pending waiting word is = elim is.not_short [
  | inl none ↦ rw (no_subcommand waiting word, is.not_end, is.not_long, none) refl
  | inr some ↦ rw (no_subcommand waiting word, is.not_end, is.not_long, some.1, no_flags_fault c (length some.0) some.0 (held rows pending) some.2) refl
]

-- ---- a word for a file

pub record IsFileRule (a : Rule) : Type 0 where
  pub several : takes_several a ≡ false
  pub multiple : is_multiple a ≡ false
  pub trailing : a.trailing_var_arg ≡ false

pub file_held : (c : List Rule) (rows : List Row) (pending : Pending) (word : Text) (a : Rule) → IsFileRule a
    → positional_held c a word (held rows pending) ≡ held (settled_rows c pending rows) (Some (a.id, word ∷ []))
file_held c rows pending word a is = rw (is.several, and_false (is_pending a pending)) refl

pub file_walked : (c : List Rule) (rows : List Row) (pending : Pending) (p : ℕ) (word : Text) (a : Rule) → IsPlain word → arg_by_index c p ≡ Some a → IsFileRule a
    → walked c [] (at rows pending idle p false) word ≡ at (settled_rows c pending rows) (Some (a.id, word ∷ [])) idle (min (p + 1) usize_max) false
unfolding walked
file_walked c rows pending p word a plainly found is = rw (plain_met c rows pending p word plainly, found, file_held c rows pending word a is, is.multiple, is.trailing) refl

pub trailing_walked : (c : List Rule) (rows : List Row) (pending : Pending) (waiting : Waiting) (p : ℕ) (word : Text) (a : Rule) → arg_by_index c p ≡ Some a → IsFileRule a
    → walked c [] (at rows pending waiting p true) word ≡ at (settled_rows c pending rows) (Some (a.id, word ∷ [])) idle (min (p + 1) usize_max) true
unfolding walked
trailing_walked c rows pending waiting p word a found is = rw (found, file_held c rows pending word a is, is.multiple) refl

pub file_fault : (c : List Rule) (rows : List Row) (pending : Pending) (p : ℕ) (word : Text) (a : Rule) → IsPlain word → arg_by_index c p ≡ Some a → IsFileRule a
    → turn_fault (built_shape c) [] (at rows pending idle p false) word ≡ settle_fault c false (held rows pending)
file_fault c rows pending p word a plainly found is =
    rw (plain_met c rows pending p word plainly, plain_fault c rows pending idle word plainly, found, is.several, and_false (is_pending a pending)) refl

pub trailing_fault : (c : List Rule) (rows : List Row) (pending : Pending) (waiting : Waiting) (p : ℕ) (word : Text) (a : Rule) → arg_by_index c p ≡ Some a → IsFileRule a
    → turn_fault (built_shape c) [] (at rows pending waiting p true) word ≡ settle_fault c false (held rows pending)
trailing_fault c rows pending waiting p word a found is = rw (found, is.several, and_false (is_pending a pending)) refl

pub stray_fault : (c : List Rule) (rows : List Row) (pending : Pending) (p : ℕ) (word : Text) → IsPlain word → arg_by_index c p ≡ None
    → turn_fault (built_shape c) [] (at rows pending idle p false) word ≡ UnknownArgument ∷ []
stray_fault c rows pending p word plainly none = rw (plain_met c rows pending p word plainly, plain_fault c rows pending idle word plainly, none) refl

pub trailing_stray_fault : (c : List Rule) (rows : List Row) (pending : Pending) (waiting : Waiting) (p : ℕ) (word : Text) → arg_by_index c p ≡ None
    → turn_fault (built_shape c) [] (at rows pending waiting p true) word ≡ UnknownArgument ∷ []
trailing_stray_fault c rows pending waiting p word none = rw none refl

-- ---- a word for an option

pub record IsOptionRule (a : Rule) : Type 0 where
  pub takes : takes_values a ≡ true
  pub one : most_values a ≡ 1

pub value_walked : (c : List Rule) (rows : List Row) (p : ℕ) (word : Text) (a : Rule) → IsPlain word → arg_by_id c a.id ≡ Some a → IsOptionRule a
    → walked c [] (at rows (Some (a.id, [])) (option a.id) p false) word ≡ at rows (Some (a.id, word ∷ [])) idle p false
unfolding walked
value_walked c rows p word a plainly found is = elim plainly.not_short [
  | inl none ↦ rw (plainly.not_end, plainly.not_long, none, found, is.one, (bytes_eq-Decides a.id a.id).1 refl) refl
  | inr some ↦ rw (plainly.not_end, plainly.not_long, some.1, no_flags c (length some.0) some.0 (held rows (Some (a.id, []))) some.2, found, is.one, (bytes_eq-Decides a.id a.id).1 refl) refl
]

pub value_fault : (c : List Rule) (rows : List Row) (p : ℕ) (word : Text) (a : Rule) → IsPlain word
    → turn_fault (built_shape c) [] (at rows (Some (a.id, [])) (option a.id) p false) word ≡ []
value_fault c rows p word a plainly = elim plainly.not_short [
  | inl none ↦ rw (plainly.not_end, plainly.not_long, none) refl
  | inr some ↦ rw (plainly.not_end, plainly.not_long, some.1, no_flags c (length some.0) some.0 (held rows (Some (a.id, []))) some.2, no_flags_fault c (length some.0) some.0 (held rows (Some (a.id, []))) some.2) refl
]
