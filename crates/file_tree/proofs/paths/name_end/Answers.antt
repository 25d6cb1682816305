use Rattle.request_ends.proofs.Common.{◌-◌, drop, inr, length, subst, take}
use Rattle.memchr.specs.Find.{IsFirstByte, is_byte}
use Rattle.file_tree.proofs.PathNames.{slash_none, slash_some}
use Rattle.file_tree.proofs.paths.name_end.Goals as goal

pub returns-in-Some-clause-lacks : goal.returns-in-Some-clause-lacks
returns-in-Some-clause-lacks c = (slash_some c.args.path.now c.args.at c.in-Some.len c.requires.within (subst (λ r. IsFirstByte (is_byte 47) (take (length c.args.path.now - c.args.at) (drop c.args.at c.args.path.now)) r) c.in-Some.is c.memchr.ensures)).lacks

pub returns-in-Some-clause-ended : goal.returns-in-Some-clause-ended
returns-in-Some-clause-ended c = (let s = slash_some c.args.path.now c.args.at c.in-Some.len c.requires.within (subst (λ r. IsFirstByte (is_byte 47) (take (length c.args.path.now - c.args.at) (drop c.args.at c.args.path.now)) r) c.in-Some.is c.memchr.ensures) in inr (s.within, s.slash))

pub returns-in-None-clause-lacks : goal.returns-in-None-clause-lacks
returns-in-None-clause-lacks c = slash_none c.args.path.now c.args.at (subst (λ r. IsFirstByte (is_byte 47) (take (length c.args.path.now - c.args.at) (drop c.args.at c.args.path.now)) r) c.in-None.is c.memchr.ensures)
