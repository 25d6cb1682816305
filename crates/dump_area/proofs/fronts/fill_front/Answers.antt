use Rattle.dump_area.proofs.Holding.{front_zeros}
use Rattle.dump_area.proofs.fronts.fill_front.Goals as goal

pub returns-clause-zeros : goal.returns-clause-zeros
returns-clause-zeros c = front_zeros _ _ c.args.first (c.fill.ensures.items (λ y e. e))
