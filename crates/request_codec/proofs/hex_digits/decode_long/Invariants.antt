use Rattle.std.proofs.Common.{◌≡◌, ◌+◌}
use Rattle.std.specs.Iterator.Adapters.{enumerate_source, enumerate_count}
use Rattle.std.specs.Slice.Iter.{chunks_exact_rest, chunks_exact_size}
use Rattle.request_codec.proofs.Digits.{DecodedInto}
use Rattle.request_codec.proofs.hex_digits.decode_long.Given as goal

abbrev pub invariant-loop-i : goal.invariant-loop-i
invariant-loop-i l =
    let chunks = enumerate_source l.i-iterator in
    record {
      size : chunks_exact_size chunks ≡ 2;
      decoded : DecodedInto l.digits l.out l.seen (l.done + enumerate_count l.i-iterator) (chunks_exact_rest chunks);
    }
