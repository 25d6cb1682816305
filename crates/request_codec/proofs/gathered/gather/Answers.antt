use Rattle.std.proofs.Common.{refl}
use Rattle.request_codec.proofs.Gathering.{gathers_found, gathers_none}
use Rattle.request_codec.proofs.gathered.gather.Goals as goal

pub returns-in_ok-push-in-Some-clause-found : goal.returns-in_ok-push-in-Some-clause-found
returns-in_ok-push-in-Some-clause-found c =
    gathers_found _ _ _ _ _ _ c.held-held.ensures.bytes c.in-Some.ensures.0 c.in-Some.ensures.1 c.skip.ensures c.in_ok-push-in-Some.ensures

pub returns-in_ok-push-in-None-clause-found : goal.returns-in_ok-push-in-None-clause-found
returns-in_ok-push-in-None-clause-found c =
    gathers_none _ _ _ _ _ _ c.held-held.ensures.bytes c.in-None.ensures refl c.skip-in-None.ensures c.in_ok-push-in-None.ensures
