-- One call of `set` after another.
use Rattle.std.specs.Prelude.{◌≡◌, ℕ, ◌+◌, ◌-◌, ◌<◌, List, length, slice_index, slice_set, refl}
use Rattle.std.proofs.Common.{◌∙◌, inl, inr, arith, ap}
use Rattle.std.proofs.lemmas.Bool.Decides.{nat_tests}
use Rattle.rio_base.proofs.BlockRuns.{set_word}
use Rattle.rio_base.specs.Regions.{AreWords, OldOrPutWord, OldOrPutWords, RegionContent, put_word, put_words}

next_at : (f : RegionContent) (at n v : ℕ) (words : List ℕ) (x : ℕ) → v ≡ slice_index words n → put_word (put_words f at n words) (at + n) v x ≡ put_words f at (n + 1) words x
next_at f at n v words x value =
    let here : x ≡ at + n → x - at ≡ n = λ e. omega (arith, e) in
    grind (arith, nat_tests, value)

-- one more word is stored
pub set_next : (f : RegionContent) (at n v : ℕ) (words : List ℕ) → v ≡ slice_index words n → put_word (put_words f at n words) (at + n) v ≡ put_words f at (n + 1) words
set_next f at n v words value = λ i x. next_at f at n v words x value i

-- n words were stored, and then one more or none
pub set_front : (f g h : RegionContent) (at n most : ℕ) (words : List ℕ) → n < most → g ≡ put_words f at n words → OldOrPutWord g h (at + n) (slice_index words n) → OldOrPutWords f h at words most
set_front f g h at n most words less e (inl same) = (n, omega (arith, less), same ∙ e)
set_front f g h at n most words less e (inr one) = (n + 1, omega (arith, less), one ∙ ap (λ (k : RegionContent). put_word k (at + n) (slice_index words n)) e ∙ set_next f at n (slice_index words n) words refl)

pub put_none : (f : RegionContent) (at : ℕ) (words : List ℕ) → f ≡ put_words f at 0 words
put_none f at words = λ i x. none_at x i
  where
    none_at : (x : ℕ) → f x ≡ put_words f at 0 words x
    none_at x = grind (arith, nat_tests)

-- ---- words that are read

pub words_none : (f : RegionContent) (at : ℕ) (words : List ℕ) → AreWords f at 0 words
words_none f at words = record { each = λ i less. absurd (omega (arith, less)) }

-- one more word is read
pub words_next : (f g : RegionContent) (at n v : ℕ) (words : List ℕ) → n < length words → g ≡ f → v ≡ g (at + n) → AreWords f at n words → AreWords f at (n + 1) (slice_set words n v)
words_next f g at n v words fits same value h = record { each = set_word (λ i. f (at + i)) n v words fits (value ∙ ap (λ (k : RegionContent). k (at + n)) same) h.each }
