-- What `clap` is given: a command with these options and these files, and what it finds for each.
use Rattle.std.specs.Prelude.{◌≡◌, ◌≤◌, ◌≢◌, ◌++◌, ℕ, true, not, List, [], map, length, nat_lt, codes, Option, Some, slice_get, slice_index}
use Rattle.std.specs.List.{list_all}
use Rattle.clap.specs.Lexer.{has_byte}
use Rattle.clap.specs.Walk.{Rule}
use Rattle.clap.specs.Simple.{App, Shape, new_rule, new_shape}
use Rattle.clap.specs.declared.builder.action.ArgAction.TheVariants.{Set}
use Rattle.rio_words.specs.Tokens.{AreTokens, Text, are_different, is_among, keys_of, value_of}

-- an option `--key VALUE`, and a file
abbrev pub option_given : Text → Rule
option_given key = record (new_rule key) { long = Some key; action = Some Set }

abbrev pub file_given : Text → Rule
file_given id = record (new_rule id) { action = Some Set }

-- a command with these, and without help and version
abbrev pub plan_shape : List Rule → Shape
plan_shape rules = record (new_shape (codes "rio")) { rules = rules; disable_help_flag = true; disable_version_flag = true }

abbrev pub plan_app : List Text → List Text → App
plan_app keys files = record { top = plan_shape (map option_given keys ++ map file_given files); subs = [] }

-- keys and names of files that are told from one another, and keys that an option can have
pub record ArePlanned (keys files : List Text) : Type 0 where
  pub apart : list_all (λ file. not (is_among keys file)) files ≡ true
  pub alone : are_different files ≡ true
  pub lacks : list_all (λ key. not (has_byte 61 key)) keys ≡ true
  pub some : list_all (λ key. nat_lt 0 (length key)) keys ≡ true
  pub few : length files ≤ 2

-- words with these options, each at most once, and no more names than files
pub record Gives (keys files : List Text) (words : List Text) (options : List (Text × Text)) (names : List Text) : Type 0 where
  pub tokens : AreTokens words options names
  pub known : list_all (λ o. is_among keys o.0) options ≡ true
  pub once : are_different (keys_of options) ≡ true
  pub few : length names ≤ length files

-- none of these begins with `-`
abbrev pub AreNoFlags : List Text → Type 0
AreNoFlags texts = (k : ℕ) (text : Text) → slice_get texts k ≡ Some text → slice_index text 0 ≢ 45

-- what is found for each key and each file is the option's value and the name
pub record Finds (keys files : List Text) (options : List (Text × Text)) (names : List Text) (found : Text → Option Text) : Type 0 where
  pub of_key : (key : Text) → is_among keys key ≡ true → found key ≡ value_of key options
  pub of_file : (k : ℕ) (file : Text) → slice_get files k ≡ Some file → found file ≡ slice_get names k

-- a command with further arguments
abbrev pub with_rules : App → List Rule → App
with_rules app rules = record app { top = record app.top { rules = app.top.rules ++ rules } }
