use Rattle.cached_pages.proofs.Common.{Stopped, arith}
use Rattle.cached_pages.proofs.Goes.{ends_ok}
use Rattle.rio_base.proofs.MachineRules.{ends_then, ends_told, never}
use Rattle.cached_pages.proofs.Nearness.{home_near, nears_trans, one_before}
use Rattle.cached_pages.proofs.leaving.bring_out.Goals as goal

pub returns-clause-nears : goal.returns-clause-nears
returns-clause-nears g c = nears_trans _ _ _ _ _ _ c.bring_home.ensures.nears c.settle.ensures.nears

pub returns-clause-home : goal.returns-clause-home
returns-clause-home g c = home_near c.args.k (g.M.Machine.contents c.bring_home.new.m) (g.M.Machine.contents c.settle.new.m) c.settle.ensures.nears.words c.settle.ensures.disk c.in_ok-bring_home.ensures.home

pub returns-clause-one_write : goal.returns-clause-one_write
returns-clause-one_write g c = one_before _ _ _ c.bring_home.ensures.one_write c.settle.ensures.writes

pub returns-in_err-settle-clause-nears : goal.returns-in_err-settle-clause-nears
returns-in_err-settle-clause-nears g c = nears_trans _ _ _ _ _ _ c.bring_home.ensures.nears c.settle.ensures.nears

pub returns-in_err-settle-clause-one_write : goal.returns-in_err-settle-clause-one_write
returns-in_err-settle-clause-one_write g c = one_before _ _ _ c.bring_home.ensures.one_write c.settle.ensures.writes

pub returns-clause-ends : goal.returns-clause-ends
returns-clause-ends g c = ends_ok _ _ _ _ _ _ (never _ Stopped) (never _ Stopped) (never _ Stopped) c.in_ok-bring_home.ensures.ends c.in_ok-settle.ensures.ends

pub returns-in_err-settle-clause-ends : goal.returns-in_err-settle-clause-ends
returns-in_err-settle-clause-ends g c =
    ends_then _ _ _ _ _ (never _ Stopped) c.in_ok-bring_home.ensures.ends (ends_told _ _ _ _ _ (grind (arith, c.from_residual-in_err-settle.ensures)) c.in_err-settle.ensures.ends)
