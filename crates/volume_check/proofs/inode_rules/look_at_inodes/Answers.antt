use Rattle.volume_check.proofs.Common.{Ino, Option, subst}
use Rattle.volume_check.specs.InodeRules.{Finds, KeepsKind}
use Rattle.volume_check.proofs.KindRules.{size_breaks}
use Rattle.volume_check.proofs.inode_rules.look_at_inodes.Goals as goal

pub returns-in-Some-least_breaking-clause-refused : goal.returns-in-Some-least_breaking-clause-refused
returns-in-Some-least_breaking-clause-refused c = λ s h.
    let n = c.args.inodes.now in
    size_breaks s n c.in-Some-least_breaking.i c.broken_at-in-Some-least_breaking.result h (subst (λ (o : Option Ino). Finds n.shape (KeepsKind n) o) c.in_default.is c.least_breaking.ensures) c.in-Some-least_breaking.ensures c.broken_at-in-Some-least_breaking.ensures
