use Rattle.std.proofs.Common.{List, ℕ, length, ap, sym, ◌∙◌, arith}
use Rattle.rio_base.specs.Memory.{page_at}
use Rattle.rio_base.proofs.WordBlocks.{block_is, blocks_many}
use Rattle.block_disk.proofs.host_disk.HostDisk.frame.Goals as goal

pub lend_words-requires-clause-within : goal.lend_words-requires-clause-within
lend_words-requires-clause-within g c = omega (arith, c.requires, blocks_many c.args.self.now.words.items, ap length c.deref.ensures.value)

pub returns : goal.returns
returns g c =
    c.lend_words.ensures ∙ ap (λ (words : List ℕ). page_at words c.args.b.0) c.deref.ensures.value
    ∙ sym (block_is c.args.self.now.words.items c.args.b.0 (omega (arith, c.requires, blocks_many c.args.self.now.words.items)))
