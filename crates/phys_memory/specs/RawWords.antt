-- What raw words own and lend.
use Rattle.std.specs.Prelude.{ℕ, ◌+◌, ◌*◌, ◌^◌, List, length}
use base.Fraction.{full_share}
use base.Fml.{Lft, Fml, ffalse, fsep, flt, froom}
use mir.Syntax.{Ty, w64, ty_int, ty_array}
use denote.Builtin.{u64}
use denote.Index.{row}
use denote.Slice.{elements_shared}
use denote.Sharing.{said, beside}
use denote.RawPtr.{Ptr, block_ptr, null_ptr}

-- the type that a block for n words is allocated for
abbrev pub block_type : ℕ → Ty
block_type n = ty_array (ty_int w64) n

-- so many words take fewer than 2 ^ 63 bytes
abbrev pub fit : ℕ → Fml
fit n = flt (n * 8) (2 ^ 63)

-- from p on, these words one behind the other, and behind them room for `left` words that are not written yet
abbrev pub words_owned : Ptr → List ℕ → ℕ → Fml
words_owned (block_ptr b o) words left = fsep (fit (length words + left)) (fsep (row u64 full_share words b o) (froom (block_type left) b (length words * 8 + o)))
words_owned null_ptr words left = ffalse

-- what a `&` to them holds: each word that is written
abbrev pub words_lent : Ptr → List ℕ → ℕ → Lft → Fml
words_lent (block_ptr b o) words left = beside (said (fit (length words + left))) (elements_shared u64 words b o)
words_lent null_ptr words left = said ffalse
