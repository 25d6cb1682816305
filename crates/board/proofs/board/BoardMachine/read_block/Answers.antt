use Rattle.std.proofs.Common.{◌∙◌, refl, sym}
use Rattle.rio_base.proofs.MachineRules.{lasts_refl, never}
use Rattle.rio_base.specs.Rules.{true_false}
use Rattle.board.proofs.DiskSteps.{no_stop, synced_lasts, unsynced_contents}
use Rattle.board.proofs.board.BoardMachine.read_block.Goals as goal

pub returns-then-self-clause-lasts : goal.returns-then-self-clause-lasts
returns-then-self-clause-lasts g c = lasts_refl _

pub returns-then-self-clause-fault : goal.returns-then-self-clause-fault
returns-then-self-clause-fault g c = λ f. absurd (no_stop (sym f))

pub returns-then-self-clause-stopped : goal.returns-then-self-clause-stopped
returns-then-self-clause-stopped g c = λ s. (c.if-self.true, refl)

pub returns-then-self-clause-halted : goal.returns-then-self-clause-halted
returns-then-self-clause-halted g c = λ s. refl

pub returns-in-Ok-clause-same : goal.returns-in-Ok-clause-same
returns-in-Ok-clause-same g c = unsynced_contents (g.F.MemWords.words c.args.self.now.mem) (g.F.MemWords.words c.args.self.now.mem) c.args.self.now.scratch c.args.self.now.scratch (g.D.DiskBlocks.contents c.args.self.now.disk) (g.D.DiskBlocks.contents c.read.new.self) c.args.self.now.guard c.args.self.now.guard refl refl c.read.ensures.same

pub returns-in-Ok-clause-lasts : goal.returns-in-Ok-clause-lasts
returns-in-Ok-clause-lasts g c = synced_lasts _ _ (g.D.DiskBlocks.contents c.args.self.now.disk).pending (unsynced_contents (g.F.MemWords.words c.args.self.now.mem) (g.F.MemWords.words c.args.self.now.mem) c.args.self.now.scratch c.args.self.now.scratch (g.D.DiskBlocks.contents c.args.self.now.disk) (g.D.DiskBlocks.contents c.read.new.self) c.args.self.now.guard c.args.self.now.guard refl refl c.read.ensures.same) c.read.ensures.cause.last

pub returns-in-Ok-clause-fault : goal.returns-in-Ok-clause-fault
returns-in-Ok-clause-fault g c = λ f. absurd (never _ _ f)

pub returns-in-Ok-clause-stopped : goal.returns-in-Ok-clause-stopped
returns-in-Ok-clause-stopped g c = λ s. absurd (never _ _ s)

pub returns-in-Ok-clause-halted : goal.returns-in-Ok-clause-halted
returns-in-Ok-clause-halted g c = λ s. absurd (true_false (sym s ∙ c.if-self.false))

pub returns-in-Err-clause-same : goal.returns-in-Err-clause-same
returns-in-Err-clause-same g c = unsynced_contents (g.F.MemWords.words c.args.self.now.mem) (g.F.MemWords.words c.args.self.now.mem) c.args.self.now.scratch c.args.self.now.scratch (g.D.DiskBlocks.contents c.args.self.now.disk) (g.D.DiskBlocks.contents c.read.new.self) c.args.self.now.guard c.args.self.now.guard refl refl c.read.ensures.same

pub returns-in-Err-clause-lasts : goal.returns-in-Err-clause-lasts
returns-in-Err-clause-lasts g c = synced_lasts _ _ (g.D.DiskBlocks.contents c.args.self.now.disk).pending (unsynced_contents (g.F.MemWords.words c.args.self.now.mem) (g.F.MemWords.words c.args.self.now.mem) c.args.self.now.scratch c.args.self.now.scratch (g.D.DiskBlocks.contents c.args.self.now.disk) (g.D.DiskBlocks.contents c.read.new.self) c.args.self.now.guard c.args.self.now.guard refl refl c.read.ensures.same) c.read.ensures.cause.last

pub returns-in-Err-clause-fault : goal.returns-in-Err-clause-fault
returns-in-Err-clause-fault g c = λ f. c.in-Err.ensures.cause.cause

pub returns-in-Err-clause-stopped : goal.returns-in-Err-clause-stopped
returns-in-Err-clause-stopped g c = λ s. absurd (no_stop s)

pub returns-in-Err-clause-halted : goal.returns-in-Err-clause-halted
returns-in-Err-clause-halted g c = λ s. absurd (true_false (sym s ∙ c.if-self.false))
