-- The grammar of request lines. A line has one of these forms or is no request.
use Rattle.std.specs.Prelude.{◌≡◌, ◌<◌, ◌≤◌, ◌+◌, ◌*◌, ◌^◌, ℕ, List, ◌∷◌, ◌++◌, length, slice_index, codes, Option, Some, None}
use Rattle.std.specs.Int.{w64, to_be_bytes}
use Rattle.hex.specs.Hex.{hex_digit_value}
use Rattle.rio_base.specs.Bytes.{IsNumber}
use Rattle.rio_requests.specs.declared.request.Request.{Request}
use Rattle.rio_requests.specs.declared.request.Request.TheVariants.{Mkdir, Create, Region, Write, Read, Truncate, Unlink, Rmdir, Rename, Stat, List as ListOf, Sync, Begin, Range, Put, Get, Alloc, Free, Commit, Abort, Txns, Flush, Wild, Arm}
use Rattle.rio_model.specs.Paths.{IsPath}

-- ---- parts of a line

-- two digits stand for this byte, the high four bits first
pub record AreDigitsOf (high low byte : ℕ) : Type 0 where
  pub high_value : ℕ
  pub low_value : ℕ
  pub is_high : hex_digit_value high ≡ Some high_value
  pub is_low : hex_digit_value low ≡ Some low_value
  pub value : byte ≡ 16 * high_value + low_value

-- hexadecimal digits in either case, two for each byte
pub record IsHexOf (digits bytes : List ℕ) : Type 0 where
  pub two : length digits ≡ 2 * length bytes
  pub each : (k : ℕ) → k < length bytes → AreDigitsOf (slice_index digits (2 * k)) (slice_index digits (2 * k + 1)) (slice_index bytes k)

-- ---- which texts write a part

abbrev pub Path : List ℕ → List ℕ → Type 0
Path path text = (text ≡ path) × IsPath path

abbrev pub Number : ℕ → List ℕ → Type 0
Number n text = IsNumber text n

-- at most 1 MiB
abbrev pub Data : List ℕ → List ℕ → Type 0
Data bytes text = IsHexOf text bytes × (length bytes ≤ 1048576)

-- 16 digits for the 8 bytes of a word, the highest first
abbrev pub Value : ℕ → List ℕ → Type 0
Value v text = IsHexOf text (to_be_bytes w64 v) × (v < 2 ^ 64)

-- ---- parts with a space between them

-- the first, a space and the rest
pub record Then (First Rest : List ℕ → Type 0) (text : List ℕ) : Type 0 where
  pub first : List ℕ
  pub rest : List ℕ
  pub is : text ≡ first ++ (32 ∷ rest)
  pub first_is : First first
  pub rest_is : Rest rest

abbrev pub PathNumber : List ℕ → ℕ → List ℕ → Type 0
PathNumber path n = Then (Path path) (Number n)

abbrev pub PathNumbers : List ℕ → ℕ → ℕ → List ℕ → Type 0
PathNumbers path m n = Then (Path path) (Then (Number m) (Number n))

abbrev pub PathData : List ℕ → ℕ → List ℕ → List ℕ → Type 0
PathData path n bytes = Then (Path path) (Then (Number n) (Data bytes))

abbrev pub Paths : List ℕ → List ℕ → List ℕ → Type 0
Paths path other = Then (Path path) (Path other)

abbrev pub NumberValue : ℕ → ℕ → List ℕ → Type 0
NumberValue n v = Then (Number n) (Value v)

abbrev pub NumbersValue : ℕ → ℕ → ℕ → List ℕ → Type 0
NumbersValue m n v = Then (Number m) (NumberValue n v)

-- ---- the forms

-- the line is this word, a space and these parts
pub record Says (word : List ℕ) (Parts : List ℕ → Type 0) (line : List ℕ) : Type 0 where
  pub text : List ℕ
  pub is : line ≡ word ++ (32 ∷ text)
  pub parts : Parts text

-- the line asks for this
abbrev pub Form : List ℕ → Request → Type 0
Form line (Mkdir path) = Says (codes "mkdir") (Path path) line
Form line (Create path) = Says (codes "create") (Path path) line
Form line (Region path pages undo) = Says (codes "region") (PathNumbers path pages undo) line × (1 ≤ pages) × (1 ≤ undo)
Form line (Write path off bytes) = Says (codes "write") (PathData path off bytes) line
Form line (Read path off len) = Says (codes "read") (PathNumbers path off len) line × (len ≤ 1048576)
Form line (Truncate path len) = Says (codes "truncate") (PathNumber path len) line
Form line (Unlink path) = Says (codes "unlink") (Path path) line
Form line (Rmdir path) = Says (codes "rmdir") (Path path) line
Form line (Rename path to) = Says (codes "rename") (Paths path to) line
Form line (Stat path) = Says (codes "stat") (Path path) line
Form line (ListOf path) = Says (codes "list") (Path path) line
Form line Sync = line ≡ codes "sync"
Form line (Begin path) = Says (codes "begin") (Path path) line
Form line (Range path off len) = Says (codes "range") (PathNumbers path off len) line
Form line (Put path off bytes) = Says (codes "put") (PathData path off bytes) line
Form line (Get path off len) = Says (codes "get") (PathNumbers path off len) line × (len ≤ 1048576)
Form line (Alloc path units) = Says (codes "alloc") (PathNumber path units) line × (1 ≤ units)
Form line (Free path at) = Says (codes "free") (PathNumber path at) line
Form line (Commit path) = Says (codes "commit") (Path path) line
Form line (Abort path) = Says (codes "abort") (Path path) line
Form line Txns = line ≡ codes "txns"
Form line (Flush count) = Says (codes "flush") (Number count) line
Form line (Wild at value) = Says (codes "wild") (NumberValue at value) line
Form line (Arm step at value) = Says (codes "arm") (NumbersValue step at value) line

-- what a line asks for, or that it is no request
abbrev pub Means : List ℕ → Option Request → Type 0
Means line (Some request) = Form line request
Means line None = (request : Request) → Form line request → ⊥
