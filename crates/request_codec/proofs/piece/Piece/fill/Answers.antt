use Rattle.std.proofs.Common.{◌≡◌, ℕ, ◌-◌, ◌≤◌, ◌++◌, ◌∙◌, List, length, take, drop, ap, arith, refl, subst, sym}
use Rattle.std.proofs.lemmas.List.{length-take-le, take-take, take-append-le}
use Rattle.std.proofs.lemmas.Result.{err_from_is_err_and}
use Rattle.rio_base.specs.Streams.{prepended}
use Rattle.rio_base.proofs.MachineRules.{never}
use Rattle.request_codec.proofs.piece.Piece.fill.Goals as goal

-- what is held of a vector of which a front was written anew, where nothing was passed over
front_held : (n size : ℕ) (new old : List ℕ) → n ≤ length new → n ≤ size → take (n - 0) (drop 0 (take size (new ++ old))) ≡ take n new
front_held n size new old most less = ap (λ k. take k (take size (new ++ old))) (omega arith) ∙ take-take n size (new ++ old) less ∙ take-append-le n new old most

-- a vector keeps its size where it was lent
front_size : (size : ℕ) (new old : List ℕ) → size ≤ length new → length (take size (new ++ old)) ≡ size
front_size size new old less = ap (λ (xs : List ℕ). length xs) (take-append-le size new old less) ∙ length-take-le size new less

pub read_front-requires-clause-some : goal.read_front-requires-clause-some
read_front-requires-clause-some g c = omega (arith, c.requires.some, c.min-room.ensures, c.len.ensures, c.self.invariant.2)

pub read_front-requires-clause-fits : goal.read_front-requires-clause-fits
read_front-requires-clause-fits g c = omega (arith, c.min-room.ensures, c.len.ensures, c.as_mut_slice.ensures.len)

pub returns-clause-bytes : goal.returns-clause-bytes
returns-clause-bytes g c =
    let left = g.S.Source.left in
    let most : c.in_ok-n.n ≤ length c.read_front.new.buffer = omega (arith, c.in_ok-n.ensures.bound, c.min-room.ensures, c.len.ensures, c.as_mut_slice.ensures.len, c.read_front.auto.buffer) in
    let less : c.in_ok-n.n ≤ c.self.inside.bytes.len = omega (arith, c.in_ok-n.ensures.bound, c.min-room.ensures, c.len.ensures, c.as_mut_slice.ensures.len) in
    subst (λ (held : List ℕ). left c.args.source.now ≡ prepended held (left c.read_front.new.source)) (sym (front_held c.in_ok-n.n c.self.inside.bytes.len c.read_front.new.buffer _ most less)) c.in_ok-n.ensures.bytes

pub returns-clause-count : goal.returns-clause-count
returns-clause-count g c =
    let most : c.in_ok-n.n ≤ length c.read_front.new.buffer = omega (arith, c.in_ok-n.ensures.bound, c.min-room.ensures, c.len.ensures, c.as_mut_slice.ensures.len, c.read_front.auto.buffer) in
    let less : c.in_ok-n.n ≤ c.self.inside.bytes.len = omega (arith, c.in_ok-n.ensures.bound, c.min-room.ensures, c.len.ensures, c.as_mut_slice.ensures.len) in (
      ap (λ (held : List ℕ). length held) (front_held c.in_ok-n.n c.self.inside.bytes.len c.read_front.new.buffer _ most less) ∙ length-take-le c.in_ok-n.n c.read_front.new.buffer most,
      omega (arith, c.in_ok-n.ensures.bound, c.min-room.ensures),
    )

pub returns-in_err-n-clause-bytes : goal.returns-in_err-n-clause-bytes
returns-in_err-n-clause-bytes g c =
    let told = err_from_is_err_and c.from_residual.result c.from_residual.ensures.1 in
    rw told.1 tt

pub returns-in_err-n-clause-count : goal.returns-in_err-n-clause-count
returns-in_err-n-clause-count g c =
    let told = err_from_is_err_and c.from_residual.result c.from_residual.ensures.1 in
    rw told.1 tt

pub returns-in_err-n-clause-end : goal.returns-in_err-n-clause-end
returns-in_err-n-clause-end g c =
    let told = err_from_is_err_and c.from_residual.result c.from_residual.ensures.1 in
    rw told.1 (λ e. absurd (never _ _ (sym e)))

pub returns-in_err-n-clause-err : goal.returns-in_err-n-clause-err
returns-in_err-n-clause-err g c =
    let told = err_from_is_err_and c.from_residual.result c.from_residual.ensures.1 in
    rw told.1 (refl, c.in_err-n.ensures.err)

pub returns-in_err-n-clause-cause : goal.returns-in_err-n-clause-cause
returns-in_err-n-clause-cause g c =
    let told = err_from_is_err_and c.from_residual.result c.from_residual.ensures.1 in
    rw told.1 (record { later = c.in_err-n.ensures.cause.later; cause = c.in_err-n.ensures.cause.cause })

pub invariant_of-self : goal.invariant_of-self
invariant_of-self g c =
    let size = c.self.inside.bytes.len in
    let less : size ≤ length c.read_front.new.buffer = omega (arith, c.as_mut_slice.ensures.len, c.read_front.auto.buffer) in
    let whole : size ≡ 131072 = omega (arith, c.self.invariant.2, c.len.ensures, c.as_mut_slice.ensures.len) in
    (omega arith, omega arith, front_size size c.read_front.new.buffer _ less ∙ whole)

pub invariant_of-self-2 : goal.invariant_of-self-2
invariant_of-self-2 g c =
    let size = c.self.inside.bytes.len in
    let less : size ≤ length c.read_front.new.buffer = omega (arith, c.as_mut_slice.ensures.len, c.read_front.auto.buffer) in
    let whole : size ≡ 131072 = omega (arith, c.self.invariant.2, c.len.ensures, c.as_mut_slice.ensures.len) in
    let same = front_size size c.read_front.new.buffer _ less in
    (omega arith, omega (arith, same, c.in_ok-n.ensures.bound, c.min-room.ensures, c.len.ensures, c.as_mut_slice.ensures.len), same ∙ whole)
