-- Words of memory, as a list.
use Rattle.std.specs.Prelude.{◌≡◌, ℕ, ◌+◌, ◌*◌, ◌<◌, ◌≤◌, ◌⊎◌, List, ◌++◌, length, slice_index, take, drop}

-- the 512 words of page p
abbrev pub page_at : List ℕ → ℕ → List ℕ
page_at words p = take 512 (drop (512 * p) words)

-- the words, with those from `to` on taken from the n words from `from` on
abbrev pub copied_words : List ℕ → ℕ → ℕ → ℕ → List ℕ
copied_words words from to n = take to words ++ (take n (drop from words) ++ drop (to + n) words)

-- two spans of n words that have no word in common
abbrev pub AreApart : ℕ → ℕ → ℕ → Type 0
AreApart from to n = (from + n ≤ to) ⊎ (to + n ≤ from)

-- the first n of these words are stored from word `at` on, and all other words are as before
pub record FrontStored (at n : ℕ) (from old new : List ℕ) : Type 0 where
  pub count : length new ≡ length old
  pub front : (i : ℕ) → i < n → slice_index new (at + i) ≡ slice_index from i
  pub below : (i : ℕ) → i < at → slice_index new i ≡ slice_index old i
  pub above : (i : ℕ) → at + n ≤ i → slice_index new i ≡ slice_index old i
