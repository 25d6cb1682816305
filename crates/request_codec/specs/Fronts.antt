-- What a text begins with, up to the first space, and the least of many bytes.
use Rattle.std.specs.Prelude.{◌≡◌, ◌<◌, ◌≤◌, ◌++◌, ◌∷◌, ℕ, ◌+◌, List, length, slice_index}
use Rattle.rio_base.specs.Bytes.{IsNumber, Lacks}
use Rattle.rio_model.specs.Paths.{AreNames, IsName, IsNameByte, IsPath}

-- a first part, the first space and the rest
abbrev pub IsCut : List ℕ → List ℕ → List ℕ → Type 0
IsCut text first rest = (text ≡ first ++ (32 ∷ rest)) × Lacks 32 first

-- a path, a space and the rest
abbrev pub HasPath : List ℕ → List ℕ → List ℕ → Type 0
HasPath text path rest = (text ≡ path ++ (32 ∷ rest)) × IsPath path

-- a number, a space and the rest
abbrev pub HasNumber : List ℕ → ℕ → List ℕ → Type 0
HasNumber text n rest = (digits : List ℕ) × (text ≡ digits ++ (32 ∷ rest)) × IsNumber digits n

-- a path, a number and the rest, with a space behind each of the two
abbrev pub HasPathNumber : List ℕ → List ℕ → ℕ → List ℕ → Type 0
HasPathNumber text path n rest = (middle : List ℕ) × HasPath text path middle × HasNumber middle n rest

-- the most bytes in front that may stand in names
pub record IsRun (text : List ℕ) (len : ℕ) : Type 0 where
  pub within : len ≤ length text
  pub each : (k : ℕ) → k < len → IsNameByte (slice_index text k)
  pub end : len < length text → IsNameByte (slice_index text len) → ⊥

-- no name goes on here
abbrev pub EndsName : List ℕ → Type 0
EndsName text = (b : ℕ) (rest : List ℕ) → text ≡ b ∷ rest → IsNameByte b → ⊥

-- a slash, a name and the rest
pub record HasName (text rest : List ℕ) : Type 0 where
  pub name : List ℕ
  pub is : text ≡ 47 ∷ (name ++ rest)
  pub name_is : IsName name
  pub end : EndsName rest

-- a text of so many names, with a slash before each
pub record IsNameCount (text : List ℕ) (count : ℕ) : Type 0 where
  pub names : List (List ℕ)
  pub are : AreNames text names
  pub all : (others : List (List ℕ)) → AreNames text others → length others ≡ count

-- ---- the least of many bytes, by which a byte that none of them is goes past

-- each of the n bytes from place i on is at least as large as one of these 32
pub record AreLeast (least bytes : List ℕ) (i n : ℕ) : Type 0 where
  pub lanes : length least ≡ 32
  pub each : (k : ℕ) → i ≤ k → k < i + n → (j : ℕ) × (j < 32) × (slice_index least j ≤ slice_index bytes k)
