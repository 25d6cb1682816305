use Rattle.std.proofs.Common.{refl}
use Rattle.rio_server.proofs.Commands.{drill_boots, obeyed_check, obeyed_drill, obeyed_format, obeyed_serve, serve_names}
use Rattle.rio_server.proofs.program.obey.Goals as goal

pub serve_pair-requires-clause-two : goal.serve_pair-requires-clause-two
serve_pair-requires-clause-two g c = serve_names _ _ _ _ _ _ _ c.requires.read.1 c.in-Serve.is c.text.ensures c.text-in-Serve.ensures

pub returns-in-Serve-clause-obeyed : goal.returns-in-Serve-clause-obeyed
returns-in-Serve-clause-obeyed g c = obeyed_serve _ _ _ _ _ _ _ _ c.in-Serve.is _ _ c.text.ensures c.text-in-Serve.ensures c.serve_pair.ensures.runs

pub returns-in-Format-clause-obeyed : goal.returns-in-Format-clause-obeyed
returns-in-Format-clause-obeyed g c =
    obeyed_format _ _ _ _ _ _ _ _ _ _ _ c.in-Format.is _ c.requires.read.1 _ _ _ c.text-in-Format.ensures c.text-in-Format-2.ensures c.sizes_of.ensures c.format-status.ensures.run refl c.format-status.ensures.cause

pub returns-in-Check-clause-obeyed : goal.returns-in-Check-clause-obeyed
returns-in-Check-clause-obeyed g c = obeyed_check _ _ _ _ _ _ _ c.in-Check.is _ _ c.text-in-Check.ensures c.text-in-Check-2.ensures c.check_pair.ensures.run c.check_pair.ensures.files refl

pub drill-requires : goal.drill-requires
drill-requires g c = drill_boots _ _ _ _ _ c.requires.read.1 c.in-Drill.is

pub returns-in-Drill-clause-obeyed : goal.returns-in-Drill-clause-obeyed
returns-in-Drill-clause-obeyed g c = obeyed_drill _ _ _ _ _ _ _ _ c.in-Drill.is c.drill.ensures.run refl refl c.drill.ensures.steady
