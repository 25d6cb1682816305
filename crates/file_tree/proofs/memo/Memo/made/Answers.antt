use Rattle.request_ends.proofs.Common.{sym, subst, Names}
use Rattle.name_index.specs.Agreeing.{Agrees}
use Rattle.file_tree.proofs.MemoSteps.{full_stays, step_to}
use Rattle.file_tree.proofs.memo.Memo.made.Goals as goal

pub returns : goal.returns
returns c = λ shape f g s t h was is names stay. step_to shape f g s t c.args.self.now _ h was is
    (λ a. subst (λ (ns : Names). Agrees c.put.new.self ns) (sym names) (c.put.ensures s.names a))
    (full_stays shape f g s t c.args.self.now.full was is stay)
    (λ held. c.let_go.ensures t)
