use Rattle.std.proofs.Common.{refl}
use Rattle.rio_base.proofs.HostPieces.{piece_before, piece_bytes, rose_read}
use Rattle.rio_base.proofs.host_reading.read_piece.Goals as goal

pub returns-in_err-count-clause-front : goal.returns-in_err-count-clause-front
returns-in_err-count-clause-front g c = piece_before _ _ _ c.requires.place

pub returns-then-rose-clause-front : goal.returns-then-rose-clause-front
returns-then-rose-clause-front g c = piece_before _ _ _ c.requires.place

pub returns-then-rose-clause-cause : goal.returns-then-rose-clause-cause
returns-then-rose-clause-cause g c = record {
  later = c.in_ok-count.ensures.cause.later;
  cause = rose_read _ _ _ _ c.faults-before.ensures c.faults.ensures (c.if-rose.ensures.0 refl);
}

pub returns-clause-front : goal.returns-clause-front
returns-clause-front g c = piece_before _ _ _ c.requires.place

pub returns-clause-bytes : goal.returns-clause-bytes
returns-clause-bytes g c = piece_bytes _ _ _ _ _ _ _ _ c.requires.place c.in_ok-count.ensures.bound c.in_ok-count.ensures.bytes
