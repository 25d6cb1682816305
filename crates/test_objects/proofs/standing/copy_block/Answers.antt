use Rattle.std.proofs.Common.{arith, refl, sym}
use Rattle.test_objects.proofs.Reading.{entry_within, no_other_shadow, no_page_behind, puts_home, puts_page}
use Rattle.test_objects.proofs.standing.copy_block.Goals as goal

pub returns-in_default-entry_of-clause-put : goal.returns-in_default-entry_of-clause-put
returns-in_default-entry_of-clause-put c = puts_home c.args.shadows c.args.words.now _ c.args.b.0 c.args.to.now c.copy_home.new.to c.in_ok-copy_home.ensures.words (sym c.in_default-entry_of.ensures)

pub page_by-requires-clause-entry : goal.page_by-requires-clause-entry
page_by-requires-clause-entry c = omega (arith, entry_within c.args.words.now c.args.b.0 c.in-Some-entry_of.k (sym c.in-Some-entry_of.ensures), c.in-Some.ensures.frames, c.in-Some.ensures.most)

pub returns-in_default-page_by-clause-within : goal.returns-in_default-page_by-clause-within
returns-in_default-page_by-clause-within c = λ limits is. no_other_shadow c.args.words.now c.args.b.0 c.in-Some-entry_of.k limits (sym c.in-Some-entry_of.ensures) (c.in_default-page_by.ensures.beyond refl)

pub returns-in_default-page_words-clause-within : goal.returns-in_default-page_words-clause-within
returns-in_default-page_words-clause-within c = λ limits is. no_page_behind c.args.shadows c.args.words.now c.args.b.0 c.in-Some-entry_of.k c.in-Some-page_by.page limits (sym c.in-Some-entry_of.ensures) c.in-Some-page_by.ensures.page (c.in_default-page_words.ensures.beyond refl)

pub returns-clause-put : goal.returns-clause-put
returns-clause-put c = puts_page c.args.shadows c.args.words.now _ c.args.b.0 c.in-Some-entry_of.k c.in-Some-page_by.page _ c.args.to.now c.put_block.new.to c.put_block.ensures.stored c.in-Some-page_words.ensures.words (sym c.in-Some-entry_of.ensures) c.in-Some-page_by.ensures.page
