use Rattle.volume_check.proofs.NameSorts.{by_differ, differ_by}
use Rattle.volume_check.proofs.names.all_differ.Goals as goal

pub returns : goal.returns
returns c = (
  λ e. differ_by c.args.names.now c.sort_names.new.names c.sort_names.ensures.all c.sort_names.ensures.order (c.neighbours_differ.ensures.0 e),
  λ h. c.neighbours_differ.ensures.1 (by_differ c.args.names.now c.sort_names.new.names c.sort_names.ensures.all h),
)
