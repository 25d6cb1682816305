use Rattle.plain_requests.proofs.Common.{◌+◌, ◌++◌, take, drop, sym, ap, ◌∙◌}
use Rattle.rio_requests.specs.Transactions.{txn_before}
use Rattle.plain_requests.proofs.RegionSteps.{row_set}
use Rattle.plain_requests.proofs.answering.regions.put_txn.Goals as goal

pub returns-in-Some : goal.returns-in-Some
returns-in-Some c =
    row_set c.args.rows.now.items c.args.at c.in-Some.txn c.requires ∙ ap (λ o. take c.args.at c.args.rows.now.items ++ txn_before o (drop (c.args.at + 1) c.args.rows.now.items)) (sym c.in-Some.is)
