use Rattle.request_ends.proofs.Common.{sym, subst, Names}
use Rattle.name_index.specs.Agreeing.{Agrees}
use Rattle.file_tree.proofs.MemoSteps.{step_to, used_but}
use Rattle.file_tree.proofs.memo.Memo.replaced.Goals as goal

pub returns : goal.returns
returns c = λ shape f g s t h was is two names stay. step_to shape f g s t c.args.self.now _ h was is
    (λ a. subst (λ (ns : Names). Agrees c.rename.new.self ns) (sym names) (c.rename.ensures s.names a two))
    (λ knows. c.freed.ensures shape f g knows (used_but shape f g s t c.args.over.0 was is stay))
    (λ held. c.let_go.ensures t)
