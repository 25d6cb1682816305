use Rattle.std.proofs.Common.{ℕ, ◌-◌, ◌≢◌, ◌∙◌, ap, arith, length, slice_index, subst, sym}
use Rattle.rio_base.specs.Regions.{RegionContent}
use Rattle.rio_model.specs.Undo.{before_by, records_from}
use Rattle.volume_check.specs.RegionWords.{put_over}
use Rattle.volume_check.proofs.RecordWalks.{Chain, Follows, follows, put_all, put_step}
use Rattle.volume_check.proofs.region_records.put_back.Goals as goal

step : (f : RegionContent) (room head : ℕ) → head ≢ 0 → Chain f room head → Follows f room head (head - 1)
step f room head some c = follows f room head (head - 1) (omega (arith, some)) c

pub undo_word-requires : goal.undo_word-requires
undo_word-requires c = let fits = (step (slice_index c.args.front.now) (length c.args.front.now - 512) c.loop-head.head c.loop-head-test.true c.loop-head.invariant.chain).fits in omega (arith, fits)

pub old_words-requires : goal.old_words-requires
old_words-requires c = let fits = (step (slice_index c.args.front.now) (length c.args.front.now - 512) c.loop-head.head c.loop-head-test.true c.loop-head.invariant.chain).fits in let long = c.requires.header in omega (arith, fits, long)

pub undo_word-head-requires : goal.undo_word-head-requires
undo_word-head-requires c = let fits = (step (slice_index c.args.front.now) (length c.args.front.now - 512) c.loop-head.head c.loop-head-test.true c.loop-head.invariant.chain).fits in omega (arith, fits)

pub loop-head-smaller : goal.loop-head-smaller
loop-head-smaller c = let falls = (step (slice_index c.args.front.now) (length c.args.front.now - 512) c.loop-head.head c.loop-head-test.true c.loop-head.invariant.chain).falls in let is = c.undo_word-head.ensures in omega (arith, falls, is)

pub loop-head-preserved : goal.loop-head-preserved
loop-head-preserved c =
    let f : RegionContent = slice_index c.args.front.now in
    let room : ℕ = length c.args.front.now - 512 in
    let here = step f room c.loop-head.head c.loop-head-test.true c.loop-head.invariant.chain in
    record {
      chain = subst (λ h. Chain f room h) (sym c.undo_word-head.ensures) here.older;
      before = λ q small.
          ap (λ h. before_by (records_from f h h) (slice_index c.put_record.new.map) q) c.undo_word-head.ensures
          ∙ put_step f room c.loop-head.head (c.loop-head.head - 1) c.old_words.result.now (slice_index c.loop-head.map) (slice_index c.put_record.new.map) q here c.old_words.ensures.len c.old_words.ensures.words (c.put_record.ensures q (let same = c.loop-head.auto.map in omega (arith, small, same)) ∙ ap (λ x. put_over x c.old_words.result.now (slice_index c.loop-head.map) q) c.undo_word.ensures)
          ∙ c.loop-head.invariant.before q small;
    }

pub returns : goal.returns
returns c = λ q small. sym (put_all (slice_index c.args.front.now) (slice_index c.loop-head.map) c.loop-head.head q c.loop-head-test.false) ∙ c.loop-head.invariant.before q small
