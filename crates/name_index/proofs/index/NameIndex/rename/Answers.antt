use Rattle.std.proofs.Common.{subst}
use Rattle.std.specs.FinMap.{insert}
use Rattle.rio_model.specs.Names.{Names}
use Rattle.name_index.specs.Agreeing.{Agrees}
use Rattle.name_index.proofs.Changes.{moved_either_way}
use Rattle.name_index.proofs.index.NameIndex.rename.Goals as goal

pub returns : goal.returns
returns c = λ names agree two.
    subst (λ (ns : Names). Agrees c.remove.new.self ns) (moved_either_way names (c.args.dir.0, c.args.name.now) (c.args.to_dir.0, c.args.to.now) c.args.ino.0 two)
    (c.remove.ensures (insert names (c.args.to_dir.0, c.args.to.now) c.args.ino.0) (c.put.ensures names agree))
