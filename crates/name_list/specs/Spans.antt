-- Names in a run of bytes.
use Rattle.std.specs.Prelude.{◌≡◌, ℕ, ◌+◌, ◌≤◌, List, length, map, take, drop}
use Rattle.std.specs.Cmp.Lexicographic.{slice_cmp}
use Rattle.std.specs.List.{All}
use Rattle.std.specs.Ordering.{nat_cmp, ordering_then}
use Rattle.std.specs.declared.cmp.Ordering.{Ordering}
use Rattle.byteorder.specs.Endian.{big_number}
use Rattle.name_list.specs.declared.spans.Span.{Span}

-- the name of a span: its bytes
abbrev pub bytes_at : List ℕ → Span → List ℕ
bytes_at bytes s = take s.len (drop s.start bytes)

-- a span within these bytes, with the front of its name
pub record IsNameSpan (bytes : List ℕ) (s : Span) : Type 0 where
  pub within : s.start + s.len ≤ length bytes
  pub front : s.front ≡ big_number 8 (bytes_at bytes s)

-- by the fronts, and where these are equal by the names
abbrev pub span_cmp : List ℕ → Span → Span → Ordering
span_cmp bytes a b = ordering_then (nat_cmp a.front b.front) (slice_cmp nat_cmp (bytes_at bytes a) (bytes_at bytes b))

-- the names of spans of the first so many bytes
abbrev pub names_at : List ℕ → ℕ → List Span → List (List ℕ)
names_at bytes stop spans = map (bytes_at (take stop bytes)) spans

-- spans of the first so many bytes
pub record AreNames (bytes : List ℕ) (stop : ℕ) (spans : List Span) : Type 0 where
  pub held : stop ≤ length bytes
  pub each : All (IsNameSpan (take stop bytes)) spans
