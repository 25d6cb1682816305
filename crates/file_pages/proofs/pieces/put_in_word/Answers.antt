use Rattle.file_pages.proofs.Common.{arith}
use Rattle.file_pages.proofs.Filled.{word_put}
use Rattle.file_pages.proofs.pieces.put_in_word.Goals as goal

pub returns : goal.returns
returns c = word_put c.args.word _ c.args.at c.args.bytes.now _ _ c.from_le_bytes.ensures c.to_le_bytes-line.ensures c.copy_from_slice.ensures.after c.requires (λ i. omega (arith, c.type_inv.bytes i))
