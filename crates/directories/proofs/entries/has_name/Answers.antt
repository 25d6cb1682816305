use Rattle.directories.proofs.Common.{◌∙◌, ◌*◌, ◌+◌, ap, arith, length, sym, slice_index}
use Rattle.directories.proofs.NameWords.{full_differs, key_same, last_differs, name_length}
use Rattle.directories.proofs.entries.has_name.Goals as goal

pub returns-then-name_length-name-clause-not : goal.returns-then-name_length-name-clause-not
returns-then-name_length-name-clause-not c = λ out is. omega (arith, c.if-name_length-name.true, c.name_length.ensures, name_length (slice_index c.args.words.now) c.args.k, ap length is)

pub returns-then-words-at-clause-not : goal.returns-then-words-at-clause-not
returns-then-words-at-clause-not c = λ out is. last_differs c.args.name.now c.args.key.now (slice_index c.args.words.now) c.args.k (8 * c.args.k + 1 + c.args.key.now.last) c.requires.key (omega arith) c.if-words-at.true is

pub returns-then-words-at-2-clause-not : goal.returns-then-words-at-2-clause-not
returns-then-words-at-2-clause-not c = λ out is. full_differs c.args.name.now c.args.key.now (slice_index c.args.words.now) c.args.k c.loop-t.t c.requires.key c.loop-t-test.true (omega (arith, c.type_inv.words (8 * c.args.k + 1 + c.loop-t.t))) c.if-words-at-2.true is

pub returns-clause-is : goal.returns-clause-is
returns-clause-is c = λ out. key_same c.args.name.now c.args.key.now (slice_index c.args.words.now) c.args.k c.requires.key (sym c.name_length.ensures ∙ c.if-name_length-name.false) c.if-words-at.false (λ t few. c.loop-t.invariant t (omega (arith, few, c.loop-t-test.false)))
