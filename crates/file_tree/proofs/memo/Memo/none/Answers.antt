use Rattle.file_tree.proofs.memo.Memo.none.Goals as goal

pub returns : goal.returns
returns c = λ shape f. record { names = λ s reads. c.none.ensures s.names; full = c.new.ensures shape f; path = λ s reads. c.nothing.ensures s }
