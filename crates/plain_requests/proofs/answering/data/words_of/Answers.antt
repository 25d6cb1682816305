use Rattle.plain_requests.proofs.Common.{◌≡◌, ◌+◌, ◌*◌, drop, ap, ◌∙◌, arith}
use Rattle.byteorder.specs.Endian.{little_number}
use Rattle.plain_requests.proofs.RegionSteps.{pushed}
use Rattle.plain_requests.proofs.answering.data.words_of.Goals as goal

pub loop-word-preserved : goal.loop-word-preserved
loop-word-preserved c =
    let here : c.loop-word.word ≡ 0 + c.loop-word.word = omega arith in
    pushed (λ w. little_number 8 (drop (8 * w) c.args.bytes.now)) 0 c.loop-word.word c.loop-word.words.items c.push.new.self.items c.word_at.result c.loop-word.invariant c.in_ok-push.ensures.items (c.word_at.ensures ∙ ap (λ w. little_number 8 (drop (8 * w) c.args.bytes.now)) here)
