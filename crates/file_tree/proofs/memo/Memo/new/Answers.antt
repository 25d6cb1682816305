use Rattle.file_tree.proofs.memo.Memo.new.Goals as goal

pub returns : goal.returns
returns c = λ shape f. record { names = λ s reads. c.new.ensures s.names; full = c.new-2.ensures shape f; path = λ s reads. c.nothing.ensures s }
