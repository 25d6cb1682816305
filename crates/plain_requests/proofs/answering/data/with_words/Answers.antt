use Rattle.plain_requests.proofs.Common.{◌≡◌, ◌/◌, length, ap, ◌∙◌, arith}
use Rattle.std.proofs.lemmas.List.FromFn.{length-map-range_with_len}
use Rattle.plain_requests.proofs.answering.data.with_words.Goals as goal

pub put_at-requires : goal.put_at-requires
put_at-requires c =
    let n : length c.as_slice-2.result.now ≡ length c.args.bytes.now / 8 = ap length (c.as_slice-2.ensures.value ∙ c.in_ok-new.ensures) ∙ length-map-range_with_len _ 0 _ in
    let all : length c.as_slice.result.now ≡ length c.args.region.now.words = ap length c.as_slice.ensures in
    omega (arith, n, all, c.requires)
