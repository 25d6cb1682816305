use Rattle.std.proofs.Common.{arith, le_trans}
use Rattle.held_memory.proofs.Filling.{pass_end, pass_moments, pass_part, pass_start, written_none}
use Rattle.held_memory.proofs.held_file.hold_words.Goals as goal

pub pages-init : goal.pages-init
pages-init g c = record {
  after = omega arith;
  before = c.requires.span;
  untold = λ e. e;
  passed = λ whole e same. pass_start c.args.at c.args.upto whole _ _ _ e same;
  later = omega arith;
}

pub pages-preserved : goal.pages-preserved
pages-preserved g c = record {
  after = omega (arith, c.pages.invariant.after);
  before = c.part_from-words.ensures.upto;
  untold = λ e. written_none c.pages.done c.part_from-words.result.now _ _ (c.pages.invariant.untold e) c.in_ok-write_words.ensures.ok;
  passed = λ whole e same. pass_part c.args.at c.pages.done c.args.upto whole _ c.part_from-words.result.now _ _ _ _ _ same c.requires.within c.pages.invariant.after c.part_from-words.ensures.upto c.part_from-words.ensures.words (c.pages.invariant.passed whole e same) c.in_ok-write_words.ensures.ok c.write_words.ensures.moments;
  later = le_trans c.pages.invariant.later c.write_words.ensures.cause.later;
}

pub returns-in_err-write_words-clause-moments : goal.returns-in_err-write_words-clause-moments
returns-in_err-write_words-clause-moments g c = λ whole e same. pass_moments c.args.at c.pages.done c.args.upto whole _ c.part_from-words.result.now _ _ _ _ same c.requires.within c.pages.invariant.after c.part_from-words.ensures.upto c.part_from-words.ensures.words (c.pages.invariant.passed whole e same) c.write_words.ensures.moments

pub returns-clause-holds : goal.returns-clause-holds
returns-clause-holds g c = λ whole e same. pass_end c.args.at c.pages.done c.args.upto whole _ _ _ _ same (omega (arith, c.pages-test.false, c.pages.invariant.before)) (c.pages.invariant.passed whole e same)

pub returns-clause-moments : goal.returns-clause-moments
returns-clause-moments g c = λ whole e same. (c.pages.invariant.passed whole e same).moments
