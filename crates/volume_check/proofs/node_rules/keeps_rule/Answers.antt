use Rattle.volume_check.proofs.Common.{IfOk, IsTrue, subst, sym, volume_layout, ◌↔◌}
use Rattle.rio_model.specs.VolumeRules.{SizeRule}
use Rattle.volume_check.specs.NodeRules.{NodeKeeps, Supposes}
use Rattle.volume_check.specs.declared.node_rules.NodeRule.{NodeRule}
use Rattle.volume_check.proofs.node_rules.keeps_rule.Goals as goal

pub keeps_numbers-requires-clause-size : goal.keeps_numbers-requires-clause-size
keeps_numbers-requires-clause-size g c =
    let sizes : SizeRule (volume_layout c.args.inodes.now.shape (g.V.Blocks.seen c.args.v.now).words) = subst (λ (r : NodeRule). Supposes r c.args.inodes.now.shape (g.V.Blocks.seen c.args.v.now).words) c.in-Numbers.is c.requires.before in
    sizes.each c.args.i.0 c.requires.ino

pub returns-in-Numbers-clause-keeps : goal.returns-in-Numbers-clause-keeps
returns-in-Numbers-clause-keeps g c = subst (λ (r : NodeRule). IfOk c.keeps_numbers.result (λ keeps. IsTrue keeps ↔ NodeKeeps r c.args.inodes.now.shape (g.V.Blocks.seen c.args.v.now).words c.args.i.0)) (sym c.in-Numbers.is) c.keeps_numbers.ensures.keeps

pub keeps_entries-requires-clause-mapped : goal.keeps_entries-requires-clause-mapped
keeps_entries-requires-clause-mapped g c = subst (λ (r : NodeRule). Supposes r c.args.inodes.now.shape (g.V.Blocks.seen c.args.v.now).words) c.in-Entries.is c.requires.before

pub returns-in-Entries-clause-keeps : goal.returns-in-Entries-clause-keeps
returns-in-Entries-clause-keeps g c = subst (λ (r : NodeRule). IfOk c.keeps_entries.result (λ keeps. IsTrue keeps ↔ NodeKeeps r c.args.inodes.now.shape (g.V.Blocks.seen c.args.v.now).words c.args.i.0)) (sym c.in-Entries.is) c.keeps_entries.ensures.keeps

pub keeps_apart-requires-clause-mapped : goal.keeps_apart-requires-clause-mapped
keeps_apart-requires-clause-mapped g c = (subst (λ (r : NodeRule). Supposes r c.args.inodes.now.shape (g.V.Blocks.seen c.args.v.now).words) c.in-Names.is c.requires.before).0

pub keeps_apart-requires-clause-entries : goal.keeps_apart-requires-clause-entries
keeps_apart-requires-clause-entries g c = (subst (λ (r : NodeRule). Supposes r c.args.inodes.now.shape (g.V.Blocks.seen c.args.v.now).words) c.in-Names.is c.requires.before).1

pub returns-in-Names-clause-keeps : goal.returns-in-Names-clause-keeps
returns-in-Names-clause-keeps g c = subst (λ (r : NodeRule). IfOk c.keeps_apart.result (λ keeps. IsTrue keeps ↔ NodeKeeps r c.args.inodes.now.shape (g.V.Blocks.seen c.args.v.now).words c.args.i.0)) (sym c.in-Names.is) c.keeps_apart.ensures.keeps

pub keeps_format-requires-clause-mapped : goal.keeps_format-requires-clause-mapped
keeps_format-requires-clause-mapped g c = subst (λ (r : NodeRule). Supposes r c.args.inodes.now.shape (g.V.Blocks.seen c.args.v.now).words) c.in-Format.is c.requires.before

pub returns-in-Format-clause-keeps : goal.returns-in-Format-clause-keeps
returns-in-Format-clause-keeps g c = subst (λ (r : NodeRule). IfOk c.keeps_format.result (λ keeps. IsTrue keeps ↔ NodeKeeps r c.args.inodes.now.shape (g.V.Blocks.seen c.args.v.now).words c.args.i.0)) (sym c.in-Format.is) c.keeps_format.ensures.keeps
