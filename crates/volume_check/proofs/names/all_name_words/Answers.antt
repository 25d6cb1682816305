use Rattle.std.proofs.Common.{◌/◌, ◌≡◌, arith, length, map, slice_index, subst}
use Rattle.std.specs.List.{range_with_len}
use Rattle.volume_check.specs.Entries.{name_in, name_words}
use Rattle.volume_check.proofs.NameSorts.{words_next}
use Rattle.volume_check.proofs.names.all_name_words.Goals as goal

pub loop-j-preserved : goal.loop-j-preserved
loop-j-preserved c = words_next (λ j. name_words (name_in (slice_index c.args.words.now) j)) c.loop-j.j c.loop-j.names.items _ _ c.loop-j.invariant c.in_ok-push.ensures.items c.name_words.ensures

pub returns : goal.returns
returns c =
    let end : c.loop-j.j ≡ length c.args.words.now / 8 = omega (arith, c.loop-j-test.false, c.loop-j.auto.j-end) in
    subst (λ n. c.loop-j.names.items ≡ map (λ j. name_words (name_in (slice_index c.args.words.now) j)) (range_with_len 0 n)) end c.loop-j.invariant
