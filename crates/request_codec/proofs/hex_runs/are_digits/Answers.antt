use Rattle.std.proofs.Common.{arith, inl, inr, leb, ltb, sym, ◌∙◌, w8}
use Rattle.std.proofs.lemmas.Simd.{bitmask_splat}
use Rattle.request_codec.proofs.HexRuns.{mask_from, none_high, none_low, some_high, some_low}
use Rattle.request_codec.proofs.hex_runs.are_digits.Goals as goal

pub returns-then-least-ne0 : goal.returns-then-least-ne0
returns-then-least-ne0 c =
    let mask = bitmask_splat w8 ltb c.args.least 32 10 c.fits-least.0 (omega arith) in
    let at = some_low c.args.least c.fits-least.0 (λ none. c.if-least-ne0.true (mask ∙ none)) in
    (at.0, at.1, inl at.2)

pub returns-then-largest-ne0 : goal.returns-then-largest-ne0
returns-then-largest-ne0 c =
    let mask = mask_from leb 16 32 c.args.largest c.fits-largest.0 (omega arith) in
    let at = some_high c.args.largest c.fits-largest.0 (λ none. c.if-largest-ne0.true (mask ∙ none)) in
    (at.0, at.1, inr at.2)

pub returns : goal.returns
returns c = λ j below.
    let low = bitmask_splat w8 ltb c.args.least 32 10 c.fits-least.0 (omega arith) in
    let high = mask_from leb 16 32 c.args.largest c.fits-largest.0 (omega arith) in
    (none_low c.args.least c.fits-least.0 (sym low ∙ c.if-least-ne0.false) j below, none_high c.args.largest c.fits-largest.0 (sym high ∙ c.if-largest-ne0.false) j below)
