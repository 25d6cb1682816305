use Rattle.memchr.specs.Find.{Nowhere, Passes, is_byte}
use Rattle.request_codec.proofs.first_byte.one_by_one.Given as goal

abbrev pub invariant-places : goal.invariant-places
invariant-places l = Nowhere (Passes (is_byte l.byte) l.bytes) 0 l.i
