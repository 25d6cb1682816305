use Rattle.directories.proofs.Common.{◌*◌, ◌+◌, arith, slice_index, nat_tests}
use Rattle.directories.proofs.NameWords.{first_differs, last_differs}
use Rattle.directories.proofs.entries.may_have_name.Goals as goal

pub returns-then-words-at : goal.returns-then-words-at
returns-then-words-at c = record { not = λ out is. last_differs c.args.name.now c.args.key.now (slice_index c.args.words.now) c.args.k (8 * c.args.k + 1 + c.args.key.now.last) c.requires.key (omega arith) c.if-words-at.true is }

pub returns : goal.returns
returns c = record { not = λ out is. first_differs c.args.name.now c.args.key.now (slice_index c.args.words.now) c.args.k c.requires.key (λ same. grind (arith, nat_tests, out, same)) is }
