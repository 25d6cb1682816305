use Rattle.plain_requests.proofs.Common.{◌<◌, ◌≤◌, length, sym, ap, ◌∙◌, arith, put, name_cmp, row_entries}
use Rattle.plain_requests.proofs.Listing.{put-less, put-set, put-end, same_read}
use Rattle.rio_model.specs.declared.rows.NameRow.{NameRow}
use Rattle.plain_requests.proofs.answering.listing.put_row.Goals as goal

pub returns-in-Less : goal.returns-in-Less
returns-in-Less c =
    let below : c.loop-at.at < length c.loop-at.rows.items = omega (arith, ap length c.loop-at.invariant.same, c.args.rows.now.ok) in
    ap row_entries c.in_ok-insert-in-Less.ensures.items
    ∙ put-less c.loop-at.rows.items c.loop-at.at c.args.row c.index.result.now below c.index.ensures c.in-Less.ensures
    ∙ sym c.loop-at.invariant.behind
    ∙ ap (λ rs. put name_cmp (c.args.row.dir.0, c.args.row.name) c.args.row.ino.0 (row_entries rs)) c.loop-at.invariant.same

pub returns-in-Equal : goal.returns-in-Equal
returns-in-Equal c =
    let below : c.loop-at.at < length c.loop-at.rows.items = omega (arith, ap length c.loop-at.invariant.same, c.args.rows.now.ok) in
    put-set c.loop-at.rows.items c.loop-at.at c.args.row c.index.result.now (record { dir = c.index_mut.result.now.dir; name = c.index_mut.result.now.name; ino = c.args.row.ino }) below c.index.ensures c.in-Equal.ensures (ap (λ (r : NameRow). ((r.dir.0, r.name), c.args.row.ino.0)) (same_read c.loop-at.rows.items c.loop-at.at c.index_mut.result.now c.index.result.now below c.index_mut.ensures.value c.index.ensures))
    ∙ sym c.loop-at.invariant.behind
    ∙ ap (λ rs. put name_cmp (c.args.row.dir.0, c.args.row.name) c.args.row.ino.0 (row_entries rs)) c.loop-at.invariant.same

pub returns : goal.returns
returns c =
    let past : length c.loop-at.rows.items ≤ c.loop-at.at = omega (arith, ap length c.loop-at.invariant.same, c.args.rows.now.ok) in
    ap row_entries c.in_ok-push.ensures.items
    ∙ put-end c.loop-at.rows.items c.loop-at.at c.args.row past
    ∙ sym c.loop-at.invariant.behind
    ∙ ap (λ rs. put name_cmp (c.args.row.dir.0, c.args.row.name) c.args.row.ino.0 (row_entries rs)) c.loop-at.invariant.same
