-- What a file has of the words of a memory that it follows.
use Rattle.std.specs.Prelude.{◌≡◌, ◌≤◌, ℕ, ◌+◌, ◌*◌, ◌^◌, ◌++◌, List, length, take, drop, Option, Some}
use Rattle.std.specs.Option.{option_map}
use Rattle.rio_base.specs.Bytes.{bytes_of}
use Rattle.rio_base.specs.Memory.{FrontStored}
use Rattle.held_memory.specs.WordFiles.{FileBytes, Meanwhile}

-- the file is there and has the bytes of the words, where it is told
abbrev pub Holds : Option FileBytes → List ℕ → Type 0
Holds told words = (file : FileBytes) → told ≡ Some file → file ≡ Some (bytes_of words)

-- the file has another length than so many words have, or isn't there, where it is told
abbrev pub Misfits : Option FileBytes → ℕ → Type 0
Misfits told count = (file : FileBytes) → told ≡ Some file → option_map length file ≡ Some (8 * count) → ⊥

-- the count rose from the one reading to the other, or stands at the largest u64
abbrev pub HasRisen : ℕ → ℕ → Type 0
HasRisen before after = after ≤ before → 2 ^ 64 ≤ after + 1

-- a file that has the bytes of these words, with a front of a run stored from place `at` on
abbrev pub HasRunFront : ℕ → List ℕ → List ℕ → FileBytes → Type 0
HasRunFront at run words file = (m : ℕ) × (after : List ℕ) × (m ≤ length run) × FrontStored at m run words after × (file ≡ Some (bytes_of after))

-- while a run is stored from place `at` on, the file has at each moment the words of before, with a front of the run stored
abbrev pub StoresInOrder : ℕ → List ℕ → List ℕ → Option FileBytes → Option (List FileBytes) → Option (List FileBytes) → Type 0
StoresInOrder at run words told old new = (file : FileBytes) → told ≡ Some file → Meanwhile (HasRunFront at run words) old new

-- ---- while words are written

-- bytes that are those of the words, but maybe from word `from` on and before word `upto`
pub record SameBut (from upto : ℕ) (bytes words : List ℕ) : Type 0 where
  pub count : length bytes ≡ 8 * length words
  pub below : take (8 * from) bytes ≡ bytes_of (take from words)
  pub above : drop (8 * upto) bytes ≡ bytes_of (drop upto words)

-- the bytes, with those of the first n words over them
abbrev pub filled : ℕ → List ℕ → List ℕ → List ℕ
filled n bytes words = bytes_of (take n words) ++ drop (8 * n) bytes

-- a file of these bytes, with words over them up to some place of the span
abbrev pub IsFilled : ℕ → ℕ → List ℕ → List ℕ → FileBytes → Type 0
IsFilled from upto bytes words file = (n : ℕ) × (from ≤ n) × (n ≤ upto) × (file ≡ Some (filled n bytes words))
