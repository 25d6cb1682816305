use Rattle.request_ends.proofs.Common.{sym}
use Rattle.file_tree.proofs.BelowPaths.{below_other, below_short, below_slash}
use Rattle.file_tree.proofs.paths.is_below.Goals as goal

pub returns-then-path-top : goal.returns-then-path-top
returns-then-path-top c = record { is = sym (below_short c.args.path.now c.args.top.now c.requires.path c.requires.top c.requires.some c.if-path-top.true) }

pub returns-then-path-top-eq-SLASH : goal.returns-then-path-top-eq-SLASH
returns-then-path-top-eq-SLASH c = record { is = below_slash c.args.path.now c.args.top.now c.eq.result c.requires.path c.requires.top c.requires.some c.if-path-top.false c.if-path-top-eq-SLASH.true c.eq.ensures }

pub returns-else-path-top-eq-SLASH : goal.returns-else-path-top-eq-SLASH
returns-else-path-top-eq-SLASH c = record { is = below_other c.args.path.now c.args.top.now c.requires.path c.requires.top c.requires.some c.if-path-top.false c.if-path-top-eq-SLASH.false }
