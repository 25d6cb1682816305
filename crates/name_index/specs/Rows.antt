-- The names of one directory, as a finite map.
use Rattle.std.specs.Prelude.{ℕ, List, map}
use Rattle.std.specs.Cmp.Lexicographic.{slice_cmp}
use Rattle.std.specs.FinMap.{FinMap}
use Rattle.std.specs.Ordering.{nat_cmp}

-- what each name names
abbrev pub NamesOfDir : Type 0
NamesOfDir = FinMap (slice_cmp nat_cmp) ℕ

-- rows under keys that have these bytes
abbrev pub rows_by : {K : Type 0} → (K → List ℕ) → List (K × ℕ) → List (List ℕ × ℕ)
rows_by bytes rows = map (λ row. (bytes row.0, row.1)) rows
