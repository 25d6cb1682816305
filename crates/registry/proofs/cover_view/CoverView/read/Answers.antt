use Rattle.std.proofs.Common.{Err, None, Some, ap, eq-eqb, refl}
use Rattle.registry.proofs.Exits.{ends_fault, ends_read, ends_stopped, held_now, none_held, viewed_read}
use Rattle.registry.proofs.Views.{sound_viewed}
use Rattle.registry.proofs.cover_view.CoverView.read.Goals as goal

pub returns-in-Ok-clause-held : goal.returns-in-Ok-clause-held
returns-in-Ok-clause-held g c = eq-eqb c.args.b.0 c.args.b.0 refl

pub returns-in-Ok-clause-viewed : goal.returns-in-Ok-clause-viewed
returns-in-Ok-clause-viewed g c = viewed_read (g.M.Machine.contents c.args.self.now.machine) (g.M.Machine.contents c.read_block.new.self) (g.M.Machine.run c.args.self.now.machine) (g.M.Machine.run c.read_block.new.self) c.read_block.ensures.same c.read_block.ensures.run c.read_block.ensures.lasts

pub returns-in-Ok-clause-ends : goal.returns-in-Ok-clause-ends
returns-in-Ok-clause-ends g c = ends_read (g.M.Machine.contents c.args.self.now.machine) (g.M.Machine.contents c.read_block.new.self) (g.M.Machine.run c.args.self.now.machine) (g.M.Machine.run c.read_block.new.self) tt c.read_block.ensures.run c.read_block.ensures.lasts

pub returns-in-Ok-clause-sound : goal.returns-in-Ok-clause-sound
returns-in-Ok-clause-sound g c = sound_viewed (g.M.Machine.contents c.args.self.now.machine) (g.M.Machine.contents c.read_block.new.self) (g.M.Machine.run c.args.self.now.machine) (g.M.Machine.run c.read_block.new.self) _ _ _ _ (Some c.args.b) c.requires.sound (viewed_read (g.M.Machine.contents c.args.self.now.machine) (g.M.Machine.contents c.read_block.new.self) (g.M.Machine.run c.args.self.now.machine) (g.M.Machine.run c.read_block.new.self) c.read_block.ensures.same c.read_block.ensures.run c.read_block.ensures.lasts) c.read_block.ensures.room (held_now (g.M.Machine.contents c.args.self.now.machine) _ c.args.b c.in-Ok.ensures.words)

pub returns-in-Err-Fault-clause-viewed : goal.returns-in-Err-Fault-clause-viewed
returns-in-Err-Fault-clause-viewed g c = viewed_read (g.M.Machine.contents c.args.self.now.machine) (g.M.Machine.contents c.read_block.new.self) (g.M.Machine.run c.args.self.now.machine) (g.M.Machine.run c.read_block.new.self) c.read_block.ensures.same c.read_block.ensures.run c.read_block.ensures.lasts

pub returns-in-Err-Fault-clause-ends : goal.returns-in-Err-Fault-clause-ends
returns-in-Err-Fault-clause-ends g c = ends_fault (g.M.Machine.contents c.args.self.now.machine) (g.M.Machine.contents c.read_block.new.self) (g.M.Machine.run c.args.self.now.machine) (g.M.Machine.run c.read_block.new.self) c.read_block.ensures.run c.read_block.ensures.lasts (c.in-Err-Fault.ensures.fault (ap Err c.in-Err-Fault.field-0-is))

pub returns-in-Err-Fault-clause-sound : goal.returns-in-Err-Fault-clause-sound
returns-in-Err-Fault-clause-sound g c = sound_viewed (g.M.Machine.contents c.args.self.now.machine) (g.M.Machine.contents c.read_block.new.self) (g.M.Machine.run c.args.self.now.machine) (g.M.Machine.run c.read_block.new.self) _ _ _ _ None c.requires.sound (viewed_read (g.M.Machine.contents c.args.self.now.machine) (g.M.Machine.contents c.read_block.new.self) (g.M.Machine.run c.args.self.now.machine) (g.M.Machine.run c.read_block.new.self) c.read_block.ensures.same c.read_block.ensures.run c.read_block.ensures.lasts) c.read_block.ensures.room (none_held (g.M.Machine.contents c.args.self.now.machine) _)

pub returns-in-Err-Stopped-clause-viewed : goal.returns-in-Err-Stopped-clause-viewed
returns-in-Err-Stopped-clause-viewed g c = viewed_read (g.M.Machine.contents c.args.self.now.machine) (g.M.Machine.contents c.read_block.new.self) (g.M.Machine.run c.args.self.now.machine) (g.M.Machine.run c.read_block.new.self) c.read_block.ensures.same c.read_block.ensures.run c.read_block.ensures.lasts

pub returns-in-Err-Stopped-clause-ends : goal.returns-in-Err-Stopped-clause-ends
returns-in-Err-Stopped-clause-ends g c = ends_stopped (g.M.Machine.contents c.args.self.now.machine) (g.M.Machine.contents c.read_block.new.self) (g.M.Machine.run c.args.self.now.machine) (g.M.Machine.run c.read_block.new.self) c.read_block.ensures.run c.read_block.ensures.lasts (c.in-Err-Stopped.ensures.stopped (ap Err c.in-Err-Stopped.field-0-is)).0

pub returns-in-Err-Stopped-clause-sound : goal.returns-in-Err-Stopped-clause-sound
returns-in-Err-Stopped-clause-sound g c = sound_viewed (g.M.Machine.contents c.args.self.now.machine) (g.M.Machine.contents c.read_block.new.self) (g.M.Machine.run c.args.self.now.machine) (g.M.Machine.run c.read_block.new.self) _ _ _ _ None c.requires.sound (viewed_read (g.M.Machine.contents c.args.self.now.machine) (g.M.Machine.contents c.read_block.new.self) (g.M.Machine.run c.args.self.now.machine) (g.M.Machine.run c.read_block.new.self) c.read_block.ensures.same c.read_block.ensures.run c.read_block.ensures.lasts) c.read_block.ensures.room (none_held (g.M.Machine.contents c.args.self.now.machine) _)
