use Rattle.std.proofs.Common.{refl}
use Rattle.rio_base.proofs.MachineRules.{never}
use Rattle.cached_pages.proofs.Common.{Stopped, arith, sym, true_false}
use Rattle.cached_pages.proofs.Goes.{ends_quiet, ends_stop}
use Rattle.cached_pages.proofs.leaving.bring_home.Goals as goal

pub returns-in_err-send_next-clause-ends : goal.returns-in_err-send_next-clause-ends
returns-in_err-send_next-clause-ends g c = ends_stop (g.M.Machine.run c.args.m.now) (g.M.Machine.run c.send_next.new.m) _ _ refl (grind (arith, c.from_residual.ensures)) c.in_err-send_next.ensures.ends

pub returns-then-is_home-clause-ends : goal.returns-then-is_home-clause-ends
returns-then-is_home-clause-ends g c = ends_quiet (g.M.Machine.run c.args.m.now) (g.M.Machine.run c.send_next.new.m) _ _ (λ q. true_false (sym q)) (never _ Stopped) c.in_ok-send_next.ensures.ends

pub returns-then-is_home-clause-fault : goal.returns-then-is_home-clause-fault
returns-then-is_home-clause-fault g c = λ q. absurd (never _ _ q)

pub returns-then-is_home-clause-home : goal.returns-then-is_home-clause-home
returns-then-is_home-clause-home g c = c.send_next.ensures.stays c.requires.valid (c.is_home.ensures c.if-is_home.true)
