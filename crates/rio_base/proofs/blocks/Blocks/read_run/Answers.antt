use Rattle.std.proofs.Common.{◌<◌, ◌∙◌, refl, sym, subst, arith}
use Rattle.std.proofs.lemmas.List.{length-set}
use Rattle.std.proofs.lemmas.Result.{err_from_is_err_and}
use Rattle.rio_base.proofs.BlockRules.{caches_refl, caches_trans, can_name_on}
use Rattle.rio_base.proofs.BlockRuns.{ends_failed, ran_more, ran_none, run_next, run_none}
use Rattle.rio_base.proofs.Exits.{none_ok}
use Rattle.rio_base.proofs.Rules.{looks_refl, looks_trans}
use Rattle.rio_base.proofs.blocks.Blocks.read_run.Goals as goal

pub loop-i-init : goal.loop-i-init
loop-i-init g c = record {
  words = run_none _ _ _ _;
  len = refl;
  name = c.requires.name;
  looks = looks_refl _;
  caches = caches_refl _ _ _;
  passes = g.met.Self.Blocks.passes_refl _;
  ran = ran_none _;
  sound = c.requires.sound;
}

pub word-requires-clause-place : goal.word-requires-clause-place
word-requires-clause-place g c = record {
  block = subst (λ n. c.args.b.0 < n) (sym c.loop-i.invariant.looks.count) c.requires.place.block;
  word = omega (arith, c.requires.place.within, c.loop-i-test.true);
}

pub returns-in_err-into-clause-words : goal.returns-in_err-into-clause-words
returns-in_err-into-clause-words g c =
    let p = err_from_is_err_and c.from_residual.result c.from_residual.ensures.1 in
    none_ok _ p.0 _ p.1

pub returns-in_err-into-clause-looks : goal.returns-in_err-into-clause-looks
returns-in_err-into-clause-looks g c = looks_trans _ _ _ c.loop-i.invariant.looks c.word.ensures.looks

pub returns-in_err-into-clause-caches : goal.returns-in_err-into-clause-caches
returns-in_err-into-clause-caches g c = caches_trans _ _ _ _ _ c.loop-i.invariant.caches c.word.ensures.caches

pub returns-in_err-into-clause-passes : goal.returns-in_err-into-clause-passes
returns-in_err-into-clause-passes g c = g.met.Self.Blocks.passes_trans _ _ _ c.loop-i.invariant.passes c.word.ensures.passes

pub returns-in_err-into-clause-ends : goal.returns-in_err-into-clause-ends
returns-in_err-into-clause-ends g c =
    let p = err_from_is_err_and c.from_residual.result c.from_residual.ensures.1 in
    ends_failed _ _ _ _ p.0 c.from_residual.result p.1 p.2 c.loop-i.invariant.ran c.in_err-into.ensures.ends

pub loop-i-preserved : goal.loop-i-preserved
loop-i-preserved g c =
    let i = c.loop-i.invariant in
    let s = c.word.ensures in
    let now = c.in_ok-into.ensures in
    record {
      words = run_next _ _ _ _ _ _ _ (omega (arith, c.loop-i-test.true, i.len)) i.looks.words now.value i.words;
      len = length-set _ _ _ ∙ i.len;
      name = can_name_on _ _ _ _ i.name s.caches;
      looks = looks_trans _ _ _ i.looks s.looks;
      caches = caches_trans _ _ _ _ _ i.caches s.caches;
      passes = g.met.Self.Blocks.passes_trans _ _ _ i.passes s.passes;
      ran = ran_more _ _ _ i.ran s.ends.later now.ends.cause;
      sound = s.sound;
    }

pub returns-clause-words : goal.returns-clause-words
returns-clause-words g c = record { each = λ k less. c.loop-i.invariant.words.each k (omega (arith, less, c.loop-i-test.false)) }

pub returns-clause-ends : goal.returns-clause-ends
returns-clause-ends g c =
    let ran = c.loop-i.invariant.ran in
    record { later = ran.later; stays = λ e. ran.same ∙ e; cause = ran.same }
