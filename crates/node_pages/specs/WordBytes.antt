-- Bytes of a list of words, and bytes over others.
use Rattle.std.specs.Prelude.{ℕ, ◌+◌, ◌-◌, ◌/◌, ◌%◌, ◌&&◌, nat_le, nat_lt, if◌then◌else◌, List, slice_index}
use Rattle.rio_model.specs.Held.{byte_of}

-- byte y of a list of words
abbrev pub list_byte : List ℕ → ℕ → ℕ
list_byte words y = byte_of (slice_index words (y / 8)) (y % 8)

-- k bytes stand at a place, and around them what was there
abbrev pub over : (ℕ → ℕ) → ℕ → List ℕ → ℕ → ℕ → ℕ
over was at bytes k y = if nat_le at y && nat_lt y (at + k) then slice_index bytes (y - at) else was y
