-- What callers read of a board beside what every machine has, and what every board keeps.
use Rattle.std.specs.Prelude.{ℕ, ◌≡◌, ◌+◌, ◌*◌, ◌^◌, ◌%◌, ◌<◌, ◌≤◌, List, length, take, drop}
use Rattle.std.proofs.Common.{arith, sym, subst, length-drop}
use Rattle.std.proofs.lemmas.List.{length-take}
use Rattle.board.specs.declared.board.Board.{Board}
use Rattle.board.specs.declared.guard.Guard.{Guard}
use Rattle.board.specs.Boards.{protected_count}

-- ---- what callers read

-- its guard: the open page, the steps, and what may stop it
abbrev pub guard_of : {F D : Type 0} {m n : _} → Board F D m n → Guard
guard_of b = b.guard

-- how many wild stores fell on the page that was open, up to the largest u64
abbrev pub spared_of : {F D : Type 0} {m n : _} → Board F D m n → ℕ
spared_of b = b.guard.spared

-- ---- what every board keeps

pub count_protected : (words : List ℕ) (pages : ℕ) → protected_count words pages ≡ length (take (protected_count words pages) words)
count_protected words pages = omega (arith, length-take (protected_count words pages) words)

pub count_all : (words : List ℕ) (pages : ℕ) → length (take (protected_count words pages) words) + length (drop (protected_count words pages) words) ≡ length words
count_all words pages = omega (arith, length-take (protected_count words pages) words, length-drop (protected_count words pages) words)

pub count_small : (words : List ℕ) (pages : ℕ) → length words < 2 ^ 32 → length (take (protected_count words pages) words) + length (drop (protected_count words pages) words) < 2 ^ 32
count_small words pages h = subst (λ (n : ℕ). n < 2 ^ 32) (sym (count_all words pages)) h

pub pages_protected : (words : List ℕ) (pages : ℕ) → length words % 512 ≡ 0 → 512 * pages < length words → length (take (protected_count words pages) words) % 512 ≡ 0
pages_protected words pages h k = omega (arith, count_protected words pages, h, k)

pub pages_scratch : (words : List ℕ) (pages : ℕ) → length words % 512 ≡ 0 → 512 * pages < length words → length (drop (protected_count words pages) words) % 512 ≡ 0
pages_scratch words pages h k = omega (arith, length-drop (protected_count words pages) words, h, k)

pub page_within : (words : List ℕ) (pages p : ℕ) → 512 * p + 512 ≤ protected_count words pages → 512 * p + 512 ≤ length (take (protected_count words pages) words)
page_within words pages p h = subst (λ (n : ℕ). 512 * p + 512 ≤ n) (count_protected words pages) h
