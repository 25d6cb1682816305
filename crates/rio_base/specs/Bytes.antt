-- Bytes: words as bytes, numbers in decimal digits, and bytes cut at a separator.
use Rattle.std.specs.Prelude.{ℕ, ◌*◌, ◌≡◌, ◌<◌, ◌^◌, ◌==◌, ◌∷◌, List, drop, false, [], if◌then◌else◌}
use Rattle.std.specs.List.{flat_map}
use Rattle.std.specs.Fmt.{decimal}
use Rattle.byteorder.specs.Endian.{little_bytes, little_number}

-- ---- words as bytes. A word is 8 bytes, the lowest first

-- the bytes of words, in the words' order
abbrev pub bytes_of : List ℕ → List ℕ
bytes_of words = flat_map (little_bytes 8) words

-- the word that stands in the 8 bytes from byte 8 * w on
abbrev pub word_at : List ℕ → ℕ → ℕ
word_at bytes w = little_number 8 (drop (8 * w) bytes)

-- ---- numbers in decimal digits

-- decimal digits, at most 18, and none but 0 itself begins with 0
abbrev pub IsNumber : List ℕ → ℕ → Type 0
IsNumber digits n = (digits ≡ decimal n) × (n < 10 ^ 18)

-- ---- bytes cut at a separator: the lines of an input, the names of a path

-- a byte in front of the first piece
abbrev pub onto : ℕ → List (List ℕ) → List (List ℕ)
onto b [] = (b ∷ []) ∷ []
onto b (piece ∷ rest) = (b ∷ piece) ∷ rest

-- the pieces between separators; the last one only where it isn't empty
abbrev pub pieces : ℕ → List ℕ → List (List ℕ)
pieces separator [] = []
pieces separator (b ∷ bytes) = if b == separator then [] ∷ pieces separator bytes else onto b (pieces separator bytes)

-- no byte of a list is this one
abbrev pub Lacks : ℕ → List ℕ → Type 0
Lacks separator [] = Unit {0}
Lacks separator (b ∷ bytes) = (b == separator ≡ false) × Lacks separator bytes
