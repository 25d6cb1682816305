-- The words after a command, as tokens: options with their values, and names of files.
use Rattle.std.specs.Prelude.{◌≡◌, ◌++◌, ◌&&◌, ℕ, Bool, true, not, List, [], ◌∷◌, map, flat_map, find, codes, Option, Some, None, option_map}
use Rattle.std.specs.List.{list_any}
use Rattle.std.specs.Str.{bytes_eq}

abbrev pub Text : Type 0
Text = List ℕ

pub data Token : Type 0 where
  -- a file's name
  name : Text → Token
  -- `--key value`
  spaced : Text → Text → Token
  -- `--key=value`
  joined : Text → Text → Token

-- the words that spell a token
abbrev pub spelled : Token → List Text
spelled (name word) = word ∷ []
spelled (spaced key value) = (codes "--" ++ key) ∷ value ∷ []
spelled (joined key value) = (codes "--" ++ (key ++ (codes "=" ++ value))) ∷ []

-- the option that a token gives
abbrev pub options_of : Token → List (Text × Text)
options_of (name word) = []
options_of (spaced key value) = (key, value) ∷ []
options_of (joined key value) = (key, value) ∷ []

abbrev pub names_of : Token → List Text
names_of (name word) = word ∷ []
names_of (spaced key value) = []
names_of (joined key value) = []

-- `--` and the names behind it, where there is one
abbrev pub last_words : Option (List Text) → List Text
last_words None = []
last_words (Some names) = codes "--" ∷ names

abbrev pub last_names : Option (List Text) → List Text
last_names None = []
last_names (Some names) = names

-- the words of tokens and of what is behind them
abbrev pub words_of : List Token → Option (List Text) → List Text
words_of tokens last = flat_map spelled tokens ++ last_words last

-- what they give: options, and names, each in order
abbrev pub options_in : List Token → List (Text × Text)
options_in tokens = flat_map options_of tokens

abbrev pub names_in : List Token → Option (List Text) → List Text
names_in tokens last = flat_map names_of tokens ++ last_names last

-- the text is one of these
abbrev pub is_among : List Text → Text → Bool
is_among texts text = list_any (λ t. bytes_eq t text) texts

-- all of these are different
abbrev pub are_different : List Text → Bool
are_different [] = true
are_different (t ∷ texts) = not (is_among texts t) && are_different texts

-- the value of the option with this key
abbrev pub value_of : Text → List (Text × Text) → Option Text
value_of key options = option_map (λ o. o.1) (find (λ o. bytes_eq o.0 key) options)

abbrev pub keys_of : List (Text × Text) → List Text
keys_of options = map (λ o. o.0) options

-- the words are tokens that give these options and these names, each in this order
pub record AreTokens (words : List Text) (options : List (Text × Text)) (names : List Text) : Type 0 where
  pub tokens : List Token
  pub last : Option (List Text)
  pub are : words ≡ words_of tokens last
  pub options_are : options ≡ options_in tokens
  pub names_are : names ≡ names_in tokens last
