-- What the files of a host are, and what its calls say of them, each only where the host tells its files.
use Rattle.std.specs.Prelude.{◌≡◌, ◌≤◌, ℕ, ◌+◌, ◌-◌, List, [], ◌∷◌, ◌++◌, length, take, drop, replicate, slice_index, max, Option, Some, None, unwrap_or, ◌⊎◌, ◌<◌}
use Rattle.std.specs.Option.{option_map}
use Rattle.std.specs.Ordering.{nat_cmp}
use Rattle.std.specs.Cmp.Lexicographic.{slice_cmp}
use Rattle.std.specs.FinMap.{FinMap, get, insert, remove}

-- the bytes of each file, by the bytes of its name
abbrev pub Files : Type 0
Files = FinMap (slice_cmp nat_cmp) (List ℕ)

-- how often each file was asked for, by the bytes of its name
abbrev pub Asked : Type 0
Asked = FinMap (slice_cmp nat_cmp) ℕ

-- no file but the one of this name was asked for
abbrev pub AsksFor : List ℕ → Asked → Asked → Type 0
AsksFor name old new = remove new name ≡ remove old name

-- the bytes of the file of this name, none where it isn't there
abbrev pub bytes_in : Files → List ℕ → List ℕ
bytes_in files name = unwrap_or (get files name) []

-- the files, with these bytes for the file of this name
abbrev pub with_file : List ℕ → List ℕ → Option Files → Option Files
with_file name bytes None = None
with_file name bytes (Some files) = Some (insert files name bytes)

-- the size is that of the file, and None where there is no such file
abbrev pub HasSize : Option Files → List ℕ → Option ℕ → Type 0
HasSize None name size = Unit {0}
HasSize (Some files) name size = size ≡ option_map length (get files name)

-- the file is there and has these bytes, where the host tells its files
abbrev pub IsFile : Option Files → List ℕ → List ℕ → Type 0
IsFile None name bytes = Unit {0}
IsFile (Some files) name bytes = get files name ≡ Some bytes

-- there is no such file, where the host tells its files
abbrev pub IsAbsent : Option Files → List ℕ → Type 0
IsAbsent None name = Unit {0}
IsAbsent (Some files) name = get files name ≡ None

-- the file has these bytes from off on. One that isn't there has none
abbrev pub HasBytes : Option Files → List ℕ → ℕ → List ℕ → Type 0
HasBytes None name off bytes = Unit {0}
HasBytes (Some files) name off bytes = bytes ≡ take (length bytes) (drop off (bytes_in files name))

-- the file has no byte from off on
abbrev pub EndsBy : Option Files → List ℕ → ℕ → Type 0
EndsBy None name off = Unit {0}
EndsBy (Some files) name off = length (bytes_in files name) ≤ off

-- bytes with others over those from off on. They grow by zeros where they end before that
abbrev pub overwritten : List ℕ → ℕ → List ℕ → List ℕ
overwritten bytes off [] = bytes
overwritten bytes off (b ∷ from) =
    let end : ℕ = off + length (b ∷ from) in
    let grown : List ℕ = bytes ++ replicate (end - length bytes) 0 in
    take off grown ++ (b ∷ from) ++ drop end grown

-- the file was overwritten, and made where it wasn't there. All others are as before
abbrev pub Overwrites : Option Files → List ℕ → ℕ → List ℕ → Option Files → Type 0
Overwrites None name off from new = new ≡ None
Overwrites (Some files) name off from new = new ≡ Some (insert files name (overwritten (bytes_in files name) off from))

-- bytes that differ at most from off on, in n places. They may have grown to the end of these
pub record DifferWithin (off n : ℕ) (old new : List ℕ) : Type 0 where
  pub before : (i : ℕ) → i < off → slice_index new i ≡ slice_index old i
  pub after : (i : ℕ) → off + n ≤ i → slice_index new i ≡ slice_index old i
  pub least : length old ≤ length new
  pub most : length new ≤ max (length old) (off + n)

-- what a write that failed leaves: the files as before, or the bytes of the range are others
abbrev pub TearsWithin : Option Files → List ℕ → ℕ → ℕ → Option Files → Type 0
TearsWithin None name off n new = new ≡ None
TearsWithin (Some files) name off n new =
    (new ≡ Some files) ⊎ ((torn : List ℕ) × DifferWithin off n (bytes_in files name) torn × (new ≡ Some (insert files name torn)))
