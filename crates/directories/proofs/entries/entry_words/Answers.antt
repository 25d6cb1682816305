use Rattle.directories.proofs.Common.{◌≡◌, ◌+◌, ◌*◌, ◌%◌, ◌^◌, ◌∷◌, ◌∙◌, ap, arith, length, subst, sym, append-nil}
use Rattle.std.proofs.Common.{bit_or}
use Rattle.std.specs.Int.Bits.{or_shifted_r}
use Rattle.directories.specs.Entries.{IsEntryOf}
use Rattle.directories.proofs.NameWords.{entry_of}
use Rattle.directories.proofs.entries.entry_words.Goals as goal

pub returns : goal.returns
returns c =
    let i = c.args.i.0 in
    let len = length c.args.name.now in
    let few = c.requires in
    let small : len * 4294967296 % 18446744073709551616 ≡ len * 2 ^ 32 = omega (arith, few) in
    let first : bit_or i (len * 4294967296 % 18446744073709551616) ≡ i + 2 ^ 32 * len = ap (bit_or i) small ∙ or_shifted_r len 32 i (omega arith) ∙ omega arith in
    subst (λ ws. IsEntryOf c.args.name.now i (bit_or i (len * 4294967296 % 18446744073709551616) ∷ ws)) (sym (append-nil c.copy_from_slice.new.self ∙ c.copy_from_slice.ensures.after)) (entry_of c.args.name.now c.name_words-words.result i _ c.name_words-words.ensures few (omega arith) first)
