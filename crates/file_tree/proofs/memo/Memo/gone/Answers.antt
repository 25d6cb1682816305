use Rattle.request_ends.proofs.Common.{sym, subst, Names}
use Rattle.name_index.specs.Agreeing.{Agrees}
use Rattle.file_tree.proofs.MemoSteps.{step_to, used_but}
use Rattle.file_tree.proofs.memo.Memo.gone.Goals as goal

pub returns : goal.returns
returns c = λ shape f g s t h was is names stay. step_to shape f g s t c.args.self.now _ h was is
    (λ a. c.forget.ensures.agrees t.names (subst (λ (ns : Names). Agrees c.remove.new.self ns) (sym names) (c.remove.ensures s.names a)))
    (λ knows. c.freed.ensures shape f g knows (used_but shape f g s t c.args.i.0 was is stay))
    (λ held. c.let_go.ensures t)
