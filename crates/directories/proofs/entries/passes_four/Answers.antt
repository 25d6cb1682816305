use Rattle.directories.proofs.Common.{◌*◌, ◌+◌, arith, slice_index}
use Rattle.directories.proofs.NameWords.{four_differ}
use Rattle.directories.proofs.entries.passes_four.Goals as goal

pub returns : goal.returns
returns c = record { none = λ told j low high. four_differ c.args.name.now c.args.key.now (slice_index c.args.words.now) c.args.k (8 * c.args.k + 1 + c.args.key.now.last) c.requires.key (omega arith) c.if-words-at.false c.if-words-at-2.false c.if-words-at-3.false c.if-words-at-4.false j low high }
