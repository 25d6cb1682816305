use Rattle.file_tree.proofs.memo.Memo.forget.Goals as goal

pub returns : goal.returns
returns c = λ shape f. record { names = λ s reads. c.forget_all.ensures s.names; full = c.new-self.ensures shape f; path = λ s reads. c.let_go.ensures s }
