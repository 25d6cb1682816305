-- What `clap` says of words, in this crate's own terms.
use Rattle.std.specs.Prelude.{List, map, Option, Result, Ok, Err}
use Rattle.clap.specs.Words.{found_of, first_value}
use Rattle.clap.specs.declared.error.kind.ErrorKind.{ErrorKind}
use Rattle.clap.specs.declared.error.kind.ErrorKind.TheVariants.{OutOfMemory}
use Rattle.clap.specs.declared.parser.matches.ArgMatches.{ArgMatches}
use Rattle.rio_words.specs.Plans.{AreNoFlags, Finds, Gives}
use Rattle.rio_words.specs.Tokens.{Text}
use Rattle.rio_words.specs.declared.fail.WordsFail.{WordsFail}
use Rattle.rio_words.specs.declared.fail.WordsFail.TheVariants.{Usage, Memory}

-- each kind of `clap`'s error but want of memory is one of usage
abbrev pub fail_of : ErrorKind → WordsFail
fail_of OutOfMemory = Memory
fail_of _ = Usage

-- what is found for a key or a file
abbrev pub found_in : ArgMatches → Text → Option Text
found_in matches key = first_value (found_of matches) key

-- the words give these options and names, and no others whose texts begin with no `-`
pub record Sorts (keys files words : List Text) (found : Text → Option Text) : Type 0 where
  pub options : List (Text × Text)
  pub names : List Text
  pub gives : Gives keys files words options names
  pub finds : Finds keys files options names found
  pub alone : (more : List (Text × Text)) (others : List Text) → Gives keys files words more others → AreNoFlags (map (λ o. o.1) more) → AreNoFlags others
      → Finds keys files more others found

-- the answer to words: what they give, or usage only where they give nothing of the kind
abbrev pub IsMatched : List Text → List Text → List Text → Result ArgMatches WordsFail → Type 0
IsMatched keys files words (Ok matches) = Sorts keys files words (found_in matches)
IsMatched keys files words (Err Usage) = (options : List (Text × Text)) (names : List Text) → Gives keys files words options names → AreNoFlags (map (λ o. o.1) options) → AreNoFlags names → ⊥
IsMatched keys files words (Err Memory) = Unit {0}
