-- The words of one region's file.
use Rattle.std.specs.Prelude.{◌≡◌, ℕ, ◌+◌, ◌-◌, ◌<◌, ◌≤◌, ◌==◌, ◌&&◌, not, nat_lt, if◌then◌else◌, ◌⊎◌, List, slice_index}

abbrev pub RegionContent : Type 0
RegionContent = ℕ → ℕ

-- one word changed
abbrev pub put_word : RegionContent → ℕ → ℕ → RegionContent
put_word f at v x = if x == at then v else f x

-- n words changed, from place `at` on, to the first n of these
abbrev pub put_words : RegionContent → ℕ → ℕ → List ℕ → RegionContent
put_words f at n words x = if not (nat_lt x at) && nat_lt x (at + n) then slice_index words (x - at) else f x

-- one word is the old or the new one, and no other changes
abbrev pub OldOrPutWord : RegionContent → RegionContent → ℕ → ℕ → Type 0
OldOrPutWord old new at v = (new ≡ old) ⊎ (new ≡ put_word old at v)

-- a front of a run of words is stored, and no other word changes
abbrev pub OldOrPutWords : RegionContent → RegionContent → ℕ → List ℕ → ℕ → Type 0
OldOrPutWords old new at words most = (n : ℕ) × (n ≤ most) × (new ≡ put_words old at n words)

-- the first n of these are the words from place `at` on
pub record AreWords (f : RegionContent) (at n : ℕ) (words : List ℕ) : Type 0 where
  pub each : (i : ℕ) → i < n → slice_index words i ≡ f (at + i)
