use Rattle.std.proofs.Common.{arith, false, refl, subst, sym, true}
use Rattle.registry.specs.Entries.{entry_of}
use Rattle.registry.specs.EntryRules.{EntryKeeps}
use Rattle.registry.specs.declared.entry.Entry.{Entry}
use Rattle.registry.proofs.RuleChain.{all_kept, broken, keep_next, kept, one_breaks}
use Rattle.registry.proofs.image_rules.all_keep.Goals as goal

pub frame_count-k-end-requires : goal.frame_count-k-end-requires
frame_count-k-end-requires g c = record { layout = c.requires.layout }

pub read_entry-entry-requires-clause-entry : goal.read_entry-entry-requires-clause-entry
read_entry-entry-requires-clause-entry g c = omega (arith, c.loop-k-test.true, c.frame_count-k-end.ensures)

pub loop-k-init : goal.loop-k-init
loop-k-init g c = λ k less. absurd (omega (arith, less))

pub loop-k-preserved : goal.loop-k-preserved
loop-k-preserved g c = keep_next (λ k. EntryKeeps c.args.rule (entry_of (g.M.Machine.contents c.args.m.now).words k)) c.loop-k.k c.loop-k.invariant (subst (λ (e : Entry). EntryKeeps c.args.rule e) c.read_entry-entry.ensures (kept _ true c.if-not-keeps.ensures refl))

pub returns-then-not-keeps : goal.returns-then-not-keeps
returns-then-not-keeps g c = one_breaks (λ k. EntryKeeps c.args.rule (entry_of (g.M.Machine.contents c.args.m.now).words k)) c.loop-k.k _ (omega (arith, c.loop-k-test.true, c.frame_count-k-end.ensures)) (λ holds. broken _ false c.if-not-keeps.ensures refl (subst (λ (e : Entry). EntryKeeps c.args.rule e) (sym c.read_entry-entry.ensures) holds))

pub returns : goal.returns
returns g c = all_kept (λ k. EntryKeeps c.args.rule (entry_of (g.M.Machine.contents c.args.m.now).words k)) c.loop-k.k _ (omega (arith, c.loop-k-test.false, c.frame_count-k-end.ensures)) c.loop-k.invariant
