use Rattle.std.proofs.Common.{◌≡◌, ◌<◌, ◌+◌, ℕ, ◌⊎◌, ◌∙◌, ap, Option, true, subst, sym, inl, inr, refl, arith, slice_index, ◌≢◌, Err}
use Rattle.std.proofs.lemmas.Bool.{cases_eq}
use Rattle.rio_base.specs.declared.places.PageName.{PageName}
use Rattle.rio_base.specs.Blocks.{BlockWords, Seen}
use Rattle.rio_base.specs.Rules.{firm_refl, firm_trans, goes_refl, goes_trans}
use Rattle.rio_base.specs.Volume.{RunName, put, stored_name}
use Rattle.rio_base.proofs.BlockRules.{can_name_stored, same_refl, same_trans, stored_refl, stored_trans}
use Rattle.rio_base.proofs.BlockRuns.{ends_failed, ran_more, ran_none}
use Rattle.rio_base.proofs.VolumeRuns.{front_of, put_next, put_none, run_name_next}
use Rattle.rio_base.proofs.volume.Volume.store_run.Goals as goal

name_next : (s t : Seen) (b n : ℕ) (given now : Option PageName) (unused : ℕ) → (n ≡ 0 → t ≡ s) → (0 < n → t.cached b ≡ true → RunName (s.cached b) (s.names b) given (t.names b)) → now ≡ stored_name (t.cached b) (t.names b) given → RunName (s.cached b) (s.names b) given now
name_next s t b n given now unused first named e = from (cases_eq n 0)
  where
    from : (n ≡ 0) ⊎ (n ≢ 0) → RunName (s.cached b) (s.names b) given now
    from (inl z) = inl (subst (λ (u : Seen). now ≡ stored_name (u.cached b) (u.names b) given) (first z) e)
    from (inr nz) = run_name_next (s.cached b) (t.cached b) (s.names b) given (t.names b) now (named (omega (arith, nz))) e

pub loop-i-init : goal.loop-i-init
loop-i-init g c = record {
  words = put_none _ _ _ _;
  name = c.requires.name;
  standing = same_refl _ _;
  firm = firm_refl _;
  count = refl;
  caches = stored_refl _ _ _;
  named = λ more. absurd (omega (arith, more));
  first = λ none. refl;
  idle = c.requires.idle;
  goes = goes_refl _ _;
  ran = ran_none _;
  sound = c.requires.sound;
}

pub store-requires-clause-place : goal.store-requires-clause-place
store-requires-clause-place g c = record {
  block = subst (λ n. c.args.b.0 < n) (sym c.loop-i.invariant.count) c.requires.place.block;
  word = omega (arith, c.requires.place.within, c.loop-i-test.true);
}

pub returns-in-Err-Fault-clause-fault : goal.returns-in-Err-Fault-clause-fault
returns-in-Err-Fault-clause-fault g c = (c.loop-i-test.true, (c.in-Err-Fault.ensures.fault (ap Err c.in-Err-Fault.field-0-is)).0 ∙ c.loop-i.invariant.words)

pub returns-in-Err-Fault-clause-front : goal.returns-in-Err-Fault-clause-front
returns-in-Err-Fault-clause-front g c = front_of _ _ _ _ _ _ _ _ c.loop-i-test.true c.loop-i.invariant.words c.store.ensures.either

pub returns-in-Err-Fault-clause-standing : goal.returns-in-Err-Fault-clause-standing
returns-in-Err-Fault-clause-standing g c = same_trans _ _ _ _ c.loop-i.invariant.standing c.store.ensures.standing

pub returns-in-Err-Fault-clause-firm : goal.returns-in-Err-Fault-clause-firm
returns-in-Err-Fault-clause-firm g c = firm_trans _ _ _ c.loop-i.invariant.firm c.store.ensures.firm

pub returns-in-Err-Fault-clause-count : goal.returns-in-Err-Fault-clause-count
returns-in-Err-Fault-clause-count g c = c.store.ensures.count ∙ c.loop-i.invariant.count

pub returns-in-Err-Fault-clause-caches : goal.returns-in-Err-Fault-clause-caches
returns-in-Err-Fault-clause-caches g c = stored_trans _ _ _ _ _ c.loop-i.invariant.caches c.store.ensures.caches

pub returns-in-Err-Fault-clause-goes : goal.returns-in-Err-Fault-clause-goes
returns-in-Err-Fault-clause-goes g c = goes_trans _ _ _ _ _ _ c.loop-i.invariant.goes c.store.ensures.goes

pub returns-in-Err-Fault-clause-ends : goal.returns-in-Err-Fault-clause-ends
returns-in-Err-Fault-clause-ends g c = ends_failed _ _ _ _ _ _ refl (sym c.in-Err-Fault.field-0-is) c.loop-i.invariant.ran c.in-Err-Fault.ensures.ends

pub returns-in-Err-Stopped-clause-front : goal.returns-in-Err-Stopped-clause-front
returns-in-Err-Stopped-clause-front g c = front_of _ _ _ _ _ _ _ _ c.loop-i-test.true c.loop-i.invariant.words c.store.ensures.either

pub returns-in-Err-Stopped-clause-standing : goal.returns-in-Err-Stopped-clause-standing
returns-in-Err-Stopped-clause-standing g c = same_trans _ _ _ _ c.loop-i.invariant.standing c.store.ensures.standing

pub returns-in-Err-Stopped-clause-firm : goal.returns-in-Err-Stopped-clause-firm
returns-in-Err-Stopped-clause-firm g c = firm_trans _ _ _ c.loop-i.invariant.firm c.store.ensures.firm

pub returns-in-Err-Stopped-clause-count : goal.returns-in-Err-Stopped-clause-count
returns-in-Err-Stopped-clause-count g c = c.store.ensures.count ∙ c.loop-i.invariant.count

pub returns-in-Err-Stopped-clause-caches : goal.returns-in-Err-Stopped-clause-caches
returns-in-Err-Stopped-clause-caches g c = stored_trans _ _ _ _ _ c.loop-i.invariant.caches c.store.ensures.caches

pub returns-in-Err-Stopped-clause-goes : goal.returns-in-Err-Stopped-clause-goes
returns-in-Err-Stopped-clause-goes g c = goes_trans _ _ _ _ _ _ c.loop-i.invariant.goes c.store.ensures.goes

pub returns-in-Err-Stopped-clause-ends : goal.returns-in-Err-Stopped-clause-ends
returns-in-Err-Stopped-clause-ends g c = ends_failed _ _ _ _ _ _ refl (sym c.in-Err-Stopped.field-0-is) c.loop-i.invariant.ran c.in-Err-Stopped.ensures.ends

pub loop-i-preserved : goal.loop-i-preserved
loop-i-preserved g c =
    let i = c.loop-i.invariant in
    let me = g.Self.Blocks in
    let vol = g.Self.Volume in
    let s = c.in-Ok.ensures in
    record {
      words = s.ok ∙ ap (λ (k : BlockWords). put k c.args.b.0 (c.args.w + c.loop-i.i) (slice_index c.args.from.now c.loop-i.i)) i.words ∙ put_next _ _ _ _ _ c.args.from.now refl;
      name = can_name_stored _ _ _ _ i.name s.caches;
      standing = same_trans _ _ _ _ i.standing s.standing;
      firm = firm_trans _ _ _ i.firm s.firm;
      count = s.count ∙ i.count;
      caches = stored_trans _ _ _ _ _ i.caches s.caches;
      named = λ more e. name_next _ _ _ _ _ _ 0 i.first i.named (s.named e);
      first = λ none. absurd (omega (arith, none));
      idle = s.idle;
      goes = goes_trans _ _ _ _ _ _ i.goes s.goes;
      ran = ran_more _ _ _ i.ran s.ends.later s.ends.cause;
      sound = s.sound;
    }

pub returns-clause-ends : goal.returns-clause-ends
returns-clause-ends g c =
    let ran = c.loop-i.invariant.ran in
    record { later = ran.later; stays = λ e. ran.same ∙ e; cause = ran.same }
