use Rattle.volume_check.proofs.Common.{◌∙◌, ap, arith, length, refl}
use Rattle.volume_check.proofs.Claims.{block_below, claimed_block, claimed_node}
use Rattle.volume_check.proofs.NodeNumbers.{as_many}
use Rattle.volume_check.proofs.owners.claim_all.Goals as goal

pub loop-at-init : goal.loop-at-init
loop-at-init c = record { len = refl; claimed = λ m ino count is h. h }

pub claim-twice-requires : goal.claim-twice-requires
claim-twice-requires c =
    let less = c.loop-at-test.true in
    let within = c.requires.range c.loop-at.at less in
    let long = c.loop-at.invariant.len in
    block_below c.args.blocks.now c.loop-at.at (length c.loop-at.owners) _ less (omega (arith, within, long))

pub loop-at-preserved : goal.loop-at-preserved
loop-at-preserved c =
    let inv = c.loop-at.invariant in
    let less = c.loop-at-test.true in
    let within = c.requires.range c.loop-at.at less in
    let long = inv.len in
    record {
      len = c.claim-twice.auto.owners ∙ inv.len;
      claimed = λ m ino count is h. claimed_block m c.args.i c.args.count c.loop-at.at c.args.blocks.now _ c.loop-at.owners c.claim-twice.new.owners c.loop-at.twice c.claim-twice.result c.owner_at.result ino count is less (omega (arith, within, long)) c.owner_at.ensures c.claim-twice.ensures (inv.claimed m ino count is h);
    }

pub returns : goal.returns
returns c = λ m ino count is h.
    let long = ap length is in
    let many = as_many c.args.blocks.now in
    let past = c.loop-at-test.false in
    let end = c.loop-at.auto.at-end in
    claimed_node m c.args.i.0 c.loop-at.at c.loop-at.owners c.loop-at.twice (omega (arith, long, many, past, end)) (c.loop-at.invariant.claimed m ino count is h)
