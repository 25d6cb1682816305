use Rattle.std.proofs.Common.{◌∙◌, refl, arith}
use Rattle.std.proofs.lemmas.List.{length-set}
use Rattle.std.proofs.lemmas.Result.{err_from_is_err_and}
use Rattle.rio_base.specs.Rules.{goes_refl}
use Rattle.rio_base.proofs.BlockRuns.{ends_failed, ran_more, ran_none}
use Rattle.rio_base.proofs.Exits.{none_ok}
use Rattle.rio_base.proofs.RegionRules.{stays_trans}
use Rattle.rio_base.proofs.RegionRuns.{words_next, words_none}
use Rattle.rio_base.proofs.region_words.RegionWords.read_run.Goals as goal

pub loop-i-init : goal.loop-i-init
loop-i-init g c = record {
  value = words_none _ _ _;
  len = refl;
  words = refl;
  stays = record { rest = g.met.Self.RegionWords.rest_refl _; ready = c.requires.ready; count = refl; goes = goes_refl _ _ };
  ran = ran_none _;
}

pub overflow_cast-i : goal.overflow_cast-i
overflow_cast-i g c = omega (arith, c.requires.place, c.loop-i-test.true, g.met.Self.RegionWords.small _ c.requires.ready)

pub overflow_add-at : goal.overflow_add-at
overflow_add-at g c = omega (arith, c.requires.place, c.loop-i-test.true, g.met.Self.RegionWords.small _ c.requires.ready)

pub word-requires-clause-place : goal.word-requires-clause-place
word-requires-clause-place g c = omega (arith, c.requires.place, c.loop-i-test.true, c.loop-i.invariant.stays.count)

pub returns-in_err-into-clause-value : goal.returns-in_err-into-clause-value
returns-in_err-into-clause-value g c =
    let p = err_from_is_err_and c.from_residual.result c.from_residual.ensures.1 in
    none_ok _ p.0 _ p.1

pub returns-in_err-into-clause-words : goal.returns-in_err-into-clause-words
returns-in_err-into-clause-words g c = c.word.ensures.words ∙ c.loop-i.invariant.words

pub returns-in_err-into-clause-stays : goal.returns-in_err-into-clause-stays
returns-in_err-into-clause-stays g c = stays_trans g.met.Self.RegionWords.rest_trans c.loop-i.invariant.stays c.word.ensures.stays

pub returns-in_err-into-clause-ends : goal.returns-in_err-into-clause-ends
returns-in_err-into-clause-ends g c =
    let p = err_from_is_err_and c.from_residual.result c.from_residual.ensures.1 in
    ends_failed _ _ _ _ p.0 c.from_residual.result p.1 p.2 c.loop-i.invariant.ran c.in_err-into.ensures.ends

pub loop-i-preserved : goal.loop-i-preserved
loop-i-preserved g c =
    let i = c.loop-i.invariant in
    let s = c.word.ensures in
    let now = c.in_ok-into.ensures in
    record {
      value = words_next _ _ _ _ _ _ (omega (arith, c.loop-i-test.true, i.len)) i.words now.value i.value;
      len = length-set _ _ _ ∙ i.len;
      words = s.words ∙ i.words;
      stays = stays_trans g.met.Self.RegionWords.rest_trans i.stays s.stays;
      ran = ran_more _ _ _ i.ran s.ends.later now.ends.cause;
    }

pub returns-clause-value : goal.returns-clause-value
returns-clause-value g c = record { each = λ k less. c.loop-i.invariant.value.each k (omega (arith, less, c.loop-i-test.false)) }

pub returns-clause-ends : goal.returns-clause-ends
returns-clause-ends g c =
    let ran = c.loop-i.invariant.ran in
    record { later = ran.later; stays = λ e. ran.same ∙ e; cause = ran.same }
