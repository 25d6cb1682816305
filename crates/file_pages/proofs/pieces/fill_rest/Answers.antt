use Rattle.file_pages.proofs.Common.{◌∙◌, arith, length-take-le, take_rest}
use Rattle.file_pages.proofs.Filled.{rest_part, rest_whole}
use Rattle.file_pages.proofs.pieces.fill_rest.Goals as goal

pub returns-then-tail-bytes-clause-bytes : goal.returns-then-tail-bytes-clause-bytes
returns-then-tail-bytes-clause-bytes c = rest_part _ _ c.args.bytes.now c.read_u64_into.new.dst c.args.words.now _ (c.read_u64_into.auto.dst ∙ length-take-le _ _ (omega (arith, c.requires.room))) (λ i. omega (arith, c.type_inv.bytes i)) c.read_u64_into.ensures c.if-tail-bytes.true c.requires.room (take_rest c.args.bytes.now _) c.put_in_word.ensures

pub returns-else-tail-bytes-clause-bytes : goal.returns-else-tail-bytes-clause-bytes
returns-else-tail-bytes-clause-bytes c = rest_whole c.args.last c.args.bytes.now c.read_u64_into.new.dst c.args.words.now (c.read_u64_into.auto.dst ∙ length-take-le _ _ (omega (arith, c.requires.room))) (λ i. omega (arith, c.type_inv.bytes i)) c.read_u64_into.ensures c.if-tail-bytes.false c.requires.room
