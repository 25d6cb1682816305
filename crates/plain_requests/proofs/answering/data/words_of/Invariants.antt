use Rattle.plain_requests.proofs.Common.{◌≡◌, ◌*◌, map, drop, range_with_len}
use Rattle.byteorder.specs.Endian.{little_number}
use Rattle.plain_requests.proofs.answering.data.words_of.Given as goal

-- the words passed are there
abbrev pub invariant-loop-word : goal.invariant-loop-word
invariant-loop-word l = l.words.items ≡ map (λ w. little_number 8 (drop (8 * w) l.bytes)) (range_with_len 0 l.word)
