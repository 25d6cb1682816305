-- What a file of words has, its moments, and what its calls say of it, each only where that is told.
use Rattle.std.specs.Prelude.{◌≡◌, ◌≤◌, ◌⊎◌, ℕ, ◌*◌, List, [], ◌∷◌, ◌++◌, Option, Some, length, take, None, unwrap_or}
use Rattle.std.specs.Option.{option_map}
use Rattle.std.specs.FinMap.{get}
use Rattle.rio_base.specs.Bytes.{bytes_of}
use Rattle.rio_base.specs.Hosts.{DifferWithin, Files, overwritten}

-- ---- the moments of a file: what it was before each change, and in the midst of it

-- each of these has P
abbrev pub Each : {C : Type 0} → (C → Type 0) → List C → Type 0
Each P [] = Unit {0}
Each P (c ∷ cs) = P c × Each P cs

-- the moments grew by some of which each has P, where they are told
pub record Meanwhile {C : Type 0} (P : C → Type 0) (old new : Option (List C)) : Type 0 where
  pub grew : (past : List C) → old ≡ Some past → (more : List C) × (new ≡ Some (past ++ more)) × Each P more

-- ---- its words

-- the bytes of a file, or None where there is no such file
abbrev pub FileBytes : Type 0
FileBytes = Option (List ℕ)

-- what a host tells of one of its files
abbrev pub file_in : Option Files → List ℕ → Option FileBytes
file_in None name = None
file_in (Some files) name = Some (get files name)

-- the file has so many bytes, or isn't there where that is None
abbrev pub IsSize : Option FileBytes → Option ℕ → Type 0
IsSize told size = (file : FileBytes) → told ≡ Some file → size ≡ option_map length file

-- the bytes of these words were written over the file's own from word `at` on. One that wasn't there had none
abbrev pub WritesWords : ℕ → List ℕ → Option FileBytes → Option FileBytes → Type 0
WritesWords at words None new = new ≡ None
WritesWords at words (Some file) new = new ≡ Some (Some (overwritten (unwrap_or file []) (8 * at) (bytes_of words)))

-- what a write of n words that failed leaves: the file as before, or the bytes of these words are others
abbrev pub TearsWords : ℕ → ℕ → Option FileBytes → Option FileBytes → Type 0
TearsWords at n None new = new ≡ None
TearsWords at n (Some file) new =
    (new ≡ Some file) ⊎ ((torn : List ℕ) × DifferWithin (8 * at) (8 * n) (unwrap_or file []) torn × (new ≡ Some (Some torn)))

-- a file of these bytes, over which the first m of these words are written from word `at` on, for some m
abbrev pub IsWrittenFront : ℕ → List ℕ → List ℕ → FileBytes → Type 0
IsWrittenFront at words whole file = (m : ℕ) × (m ≤ length words) × (file ≡ Some (overwritten whole (8 * at) (bytes_of (take m words))))

-- in one write of these words the file is at each moment what it was, with a front of them written
abbrev pub WritesInOrder : ℕ → List ℕ → Option FileBytes → Option (List FileBytes) → Option (List FileBytes) → Type 0
WritesInOrder at words told old new = (whole : List ℕ) → told ≡ Some (Some whole) → Meanwhile (IsWrittenFront at words whole) old new
