use Rattle.plain_requests.proofs.Common.{length, ap, ◌∙◌}
use Rattle.plain_requests.proofs.answering.listing.count_names.Goals as goal

pub returns-clause-is : goal.returns-clause-is
returns-clause-is c = c.len.ensures ∙ c.in_ok-names.names.ok.0 ∙ ap length c.in_ok-names.ensures
