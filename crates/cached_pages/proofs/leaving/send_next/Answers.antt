use Rattle.std.specs.Prelude.{Err}
use Rattle.std.proofs.Common.{refl}
use Rattle.rio_base.proofs.MachineRules.{ends_none, never}
use Rattle.cached_pages.proofs.Common.{Stopped, ap, sym, true_false}
use Rattle.cached_pages.proofs.Goes.{apart, ends_quiet, ends_stop}
use Rattle.cached_pages.proofs.Nearness.{nears_refl, one_none}
use Rattle.cached_pages.proofs.leaving.send_next.Goals as goal

pub returns-in_default-clause-nears : goal.returns-in_default-clause-nears
returns-in_default-clause-nears g c = nears_refl (g.M.Machine.contents c.args.m.now) c.args.t.now

pub returns-in_default-clause-stays : goal.returns-in_default-clause-stays
returns-in_default-clause-stays g c = λ v d. d

pub returns-in_default-clause-pends : goal.returns-in_default-clause-pends
returns-in_default-clause-pends g c = λ b e. e

pub returns-in_default-clause-one_write : goal.returns-in_default-clause-one_write
returns-in_default-clause-one_write g c = one_none (g.M.Machine.contents c.args.m.now).writes (g.M.Machine.contents c.args.m.now).writes refl

pub returns-in_default-clause-ends : goal.returns-in_default-clause-ends
returns-in_default-clause-ends g c = ends_none (g.M.Machine.run c.args.m.now) _ (λ q. true_false (sym q))

pub returns-in-Ok-clause-stays : goal.returns-in-Ok-clause-stays
returns-in-Ok-clause-stays g c = λ v d. c.send.ensures.others c.args.k v (λ q. c.in-Some.ensures.other (sym q)) d

pub returns-in-Err-Fault-clause-stays : goal.returns-in-Err-Fault-clause-stays
returns-in-Err-Fault-clause-stays g c = λ v d. c.send.ensures.others c.args.k v (λ q. c.in-Some.ensures.other (sym q)) d

pub returns-in-Err-Stopped-clause-stays : goal.returns-in-Err-Stopped-clause-stays
returns-in-Err-Stopped-clause-stays g c = λ v d. c.send.ensures.others c.args.k v (λ q. c.in-Some.ensures.other (sym q)) d

pub returns-in-Ok-clause-ends : goal.returns-in-Ok-clause-ends
returns-in-Ok-clause-ends g c = ends_quiet (g.M.Machine.run c.args.m.now) (g.M.Machine.run c.send.new.m) _ _ (never _ Stopped) (λ q. true_false (sym q)) c.in-Ok.ensures.ends

pub returns-in-Err-Fault-clause-ends : goal.returns-in-Err-Fault-clause-ends
returns-in-Err-Fault-clause-ends g c = ends_quiet (g.M.Machine.run c.args.m.now) (g.M.Machine.run c.send.new.m) _ _ (apart c.in-Err-Fault.field-0 c.in-Err-Fault.field-0-is) (λ q. true_false (sym q)) c.in-Err-Fault.ensures.ends

pub returns-in-Err-Stopped-clause-ends : goal.returns-in-Err-Stopped-clause-ends
returns-in-Err-Stopped-clause-ends g c = ends_stop (g.M.Machine.run c.args.m.now) (g.M.Machine.run c.send.new.m) _ _ (ap Err c.in-Err-Stopped.field-0-is) refl c.in-Err-Stopped.ensures.ends
