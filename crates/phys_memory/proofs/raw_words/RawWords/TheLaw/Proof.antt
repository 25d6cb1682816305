-- A `&` to raw words reaches each word. Assumes `Logic`.
use denote.Builtin.{u64}
use mathlib.Core.Path.{refl}
use denote.Param.Laws.{Laws, of_field}
use denote.Param.Shared.{copy_shared}
use denote.Struct.Field.{RawPtr-field, u64-field}
use denote.Struct.Laws.{RawPtr-copy, u64-laws, u64-copy}
use denote.Struct.Lending.{of_Lends}
use Rattle.phys_memory.specs.contracts.raw_words.RawWords as C
use Rattle.phys_memory.proofs.raw_words.RawWords.TheLaw.Statement.{statement}
use Rattle.phys_memory.proofs.Sharing.{words_lent_laws, Lends-words}

word_laws : Laws u64
word_laws = of_field u64-field u64-laws refl (copy_shared u64-field u64-copy)

pub shares : statement
shares = of_Lends C.struct C.the_codes C.the_heap C.the_lent (λ d p. words_lent_laws d.ptr d.words d.left) (copy_shared RawPtr-field RawPtr-copy, tt)
    (λ M 𝓤 𝓛 d p. Lends-words 𝓛 C.the_row.lives (word_laws.shares 𝓛) d.ptr d.words d.left)
