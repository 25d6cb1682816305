-- Words that are a command, and the files that they name.
use Rattle.std.specs.Prelude.{◌≡◌, ◌≢◌, ◌≤◌, ℕ, List, [], ◌∷◌, All, codes, true, map, slice_index, Option, Some, None, Result, Ok, Err, IfOk, String}
use Rattle.std.specs.Global.{Global}
use Rattle.std.specs.List.{list_all}
use Rattle.std.specs.String.{string_bytes}
use Rattle.rio_base.specs.Image.{AreImageSizes}
use Rattle.rio_base.specs.Bytes.{IsNumber}
use Rattle.rio_base.specs.Shapes.{IsServed}
use Rattle.rio_words.specs.Tokens.{AreTokens, Text, are_different, is_among, keys_of, value_of}
use Rattle.rio_words.specs.declared.command.RioCommand.{RioCommand}
use Rattle.rio_words.specs.declared.command.RioCommand.TheVariants.{Format, Serve, Registry, Check, Drill}
use Rattle.rio_words.specs.declared.fail.WordsFail.{WordsFail}
use Rattle.rio_words.specs.declared.fail.WordsFail.TheVariants.{Usage, Memory}

-- a file's name: a word that isn't empty and doesn't begin with `-`
pub record IsFileName (name : Text) : Type 0 where
  pub some : name ≢ []
  pub no_option : slice_index name 0 ≢ 45

-- the words are this command, and behind it options of these keys, each at most once, and files of different names
pub record IsLine (command : Text) (keys : List Text) (words : List Text) (options : List (Text × Text)) (files : List Text) : Type 0 where
  pub rest : List Text
  pub begins : words ≡ command ∷ rest
  pub tokens : AreTokens rest options files
  pub known : list_all (λ o. is_among keys o.0) options ≡ true
  pub once : are_different (keys_of options) ≡ true
  pub named : All IsFileName files
  pub different : are_different files ≡ true

-- ---- numbers that options have, where `found` is what stands for each key

pub record HasNumber (found : Text → Option Text) (key : Text) (n : ℕ) : Type 0 where
  pub text : Text
  pub given : found key ≡ Some text
  pub number : IsNumber text n

-- an option that may be missing has this number, or none
abbrev pub MayHaveNumber : (Text → Option Text) → Text → Option ℕ → Type 0
MayHaveNumber found key None = found key ≡ None
MayHaveNumber found key (Some n) = HasNumber found key n

-- the sizes of a fresh pair
pub record HasSizes (found : Text → Option Text) (frames blocks inodes scratch : ℕ) : Type 0 where
  pub frames_are : HasNumber found (codes "frames") frames
  pub blocks_are : HasNumber found (codes "blocks") blocks
  pub inodes_are : HasNumber found (codes "inodes") inodes
  pub scratch_is : HasNumber found (codes "scratch") scratch
  pub of_image : AreImageSizes frames scratch
  pub of_volume : IsServed (record { version = 1; blocks = blocks; inodes = inodes })

-- the most boots of a drill
abbrev pub most_boots : ℕ
most_boots = 1000

-- the numbers of a drill
pub record HasDrill (found : Text → Option Text) (seed boots requests : ℕ) : Type 0 where
  pub seed_is : HasNumber found (codes "seed") seed
  pub boots_are : HasNumber found (codes "boots") boots
  pub requests_are : HasNumber found (codes "requests") requests
  pub most_seed : seed ≤ 2147483647
  pub some_boots : 1 ≤ boots
  pub few_boots : boots ≤ most_boots
  pub some_requests : 1 ≤ requests
  pub few_requests : requests ≤ 100000

-- ---- the forms

abbrev pub format_keys : List Text
format_keys = codes "frames" ∷ codes "blocks" ∷ codes "inodes" ∷ codes "scratch" ∷ []

-- it may be missing
abbrev pub serve_keys : List Text
serve_keys = codes "stop" ∷ []

abbrev pub drill_keys : List Text
drill_keys = codes "seed" ∷ codes "boots" ∷ codes "requests" ∷ []

abbrev pub Options : Type 0
Options = List (Text × Text)

-- what options give for a key
abbrev pub given_by : Options → Text → Option Text
given_by options key = value_of key options

-- the words are a form of this command
abbrev pub Reads : List Text → RioCommand → Type 0
Reads words (Format image disk frames blocks inodes scratch) =
    (options : Options) × IsLine (codes "format") format_keys words options (image ∷ disk ∷ []) × HasSizes (given_by options) frames blocks inodes scratch
Reads words (Serve image disk stop) =
    (options : Options) × IsLine (codes "serve") serve_keys words options (image ∷ disk ∷ []) × MayHaveNumber (given_by options) (codes "stop") stop
Reads words (Registry image) = (options : Options) × IsLine (codes "registry") [] words options (image ∷ [])
Reads words (Check image disk) = (options : Options) × IsLine (codes "check") [] words options (image ∷ disk ∷ [])
Reads words (Drill seed boots requests) = (options : Options) × IsLine (codes "drill") drill_keys words options [] × HasDrill (given_by options) seed boots requests

-- the answer: a command that the words are a form of, or usage only where they are a form of none
abbrev pub IsReading : List Text → Result RioCommand WordsFail → Type 0
IsReading words (Ok command) = Reads words command
IsReading words (Err Usage) = (command : RioCommand) → Reads words command → ⊥
IsReading words (Err Memory) = Unit {0}

-- where a command is answered, the words are a form of no other
abbrev pub IsOnlyReading : List Text → Result RioCommand WordsFail → Type 0
IsOnlyReading words result = IfOk result (λ command. (other : RioCommand) → Reads words other → other ≡ command)

-- words as texts
abbrev pub texts_of : List (String Global) → List Text
texts_of words = map string_bytes words

-- the words begin with this command
abbrev pub Begins : Text → List Text → Type 0
Begins command words = (rest : List Text) × (words ≡ command ∷ rest)

-- ---- the files, where `found` is what stands for each argument

pub record IsFile (found : Text → Option Text) (argument name : Text) : Type 0 where
  pub given : found argument ≡ Some name
  pub named : IsFileName name

pub record AreFiles (found : Text → Option Text) (image disk : Text) : Type 0 where
  pub image_is : IsFile found (codes "image") image
  pub disk_is : IsFile found (codes "disk") disk
  pub two : image ≢ disk
