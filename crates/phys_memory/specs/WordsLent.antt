-- What raw words end as, once a `&mut` to them has ended.
use Rattle.std.specs.Prelude.{ℕ, List, length}
use Rattle.std.specs.Borrow.{Fml, MutBor, Array, Lends, u64}
use Rattle.std.specs.List.{refill}
use Rattle.phys_memory.specs.declared.raw_words.RawWords.{RawWords}
use Rattle.phys_memory.specs.contracts.raw_words.RawWords.{the_row}

-- other words in the place of those that are written
abbrev pub with_words : RawWords → List ℕ → RawWords
with_words h words = record { ptr = h.ptr; words = words; left = h.left }

-- the words are the last ones written through r
abbrev pub lends_words : MutBor RawWords → MutBor (List ℕ) → Fml
lends_words h r = Lends the_row (Array u64 0) h r (λ words. with_words h.now (refill (length h.now.words) h.now.words words))
