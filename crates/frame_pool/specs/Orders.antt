-- Lists of frames in order of use.
use Rattle.std.specs.Prelude.{◌≡◌, ℕ, zero, suc, ◌+◌, Bool, not, ◌==◌, if◌then◌else◌, List, [], ◌∷◌, ◌++◌, filter, Option, Some, None}

abbrev pub without : ℕ → List ℕ → List ℕ
without k frames = filter (λ j. not (j == k)) frames

-- frame k was used last
abbrev pub used_last : ℕ → List ℕ → List ℕ
used_last k frames = without k frames ++ (k ∷ [])

-- frame k is to be used first
abbrev pub freed_first : ℕ → List ℕ → List ℕ
freed_first k frames = k ∷ without k frames

-- the first of a list, if it has one
abbrev pub first_of : List ℕ → Option ℕ
first_of [] = None
first_of (x ∷ xs) = Some x

-- how many of the numbers below n pass the test
unfoldable pub count_below : (ℕ → Bool) → ℕ → ℕ
count_below test zero = 0
count_below test (suc n) = (if test n then 1 else 0) + count_below test n

-- how often number k is in the list
unfoldable pub times : ℕ → List ℕ → ℕ
times k [] = 0
times k (x ∷ xs) = (if x == k then 1 else 0) + times k xs

-- the numbers that pass the test stand before the others
abbrev pub StandFirst : (ℕ → Bool) → List ℕ → Type 0
StandFirst test xs = filter test xs ++ filter (λ k. not (test k)) xs ≡ xs
