use Rattle.std.proofs.Common.{codes}
use Rattle.rio_words.proofs.OneReading.{only_read_as, read_as}
use Rattle.rio_words.proofs.Readings.{begins_with}
use Rattle.rio_words.proofs.reading.read_words.Goals as goal

pub read_format-requires : goal.read_format-requires
read_format-requires c = begins_with c.as_slice-words.result.now c.in-Some.command.now c.as_str.result.now (codes "format") c.in-Some.ensures.value c.as_str.ensures.value c.in-format.is

pub read_serve-requires : goal.read_serve-requires
read_serve-requires c = begins_with c.as_slice-words.result.now c.in-Some.command.now c.as_str.result.now (codes "serve") c.in-Some.ensures.value c.as_str.ensures.value c.in-serve.is

pub read_registry-requires : goal.read_registry-requires
read_registry-requires c = begins_with c.as_slice-words.result.now c.in-Some.command.now c.as_str.result.now (codes "registry") c.in-Some.ensures.value c.as_str.ensures.value c.in-registry.is

pub read_check-requires : goal.read_check-requires
read_check-requires c = begins_with c.as_slice-words.result.now c.in-Some.command.now c.as_str.result.now (codes "check") c.in-Some.ensures.value c.as_str.ensures.value c.in-check.is

pub read_drill-requires : goal.read_drill-requires
read_drill-requires c = begins_with c.as_slice-words.result.now c.in-Some.command.now c.as_str.result.now (codes "drill") c.in-Some.ensures.value c.as_str.ensures.value c.in-drill.is

pub returns-in-format-clause-reading : goal.returns-in-format-clause-reading
returns-in-format-clause-reading c = read_as c.as_slice-words.result.now c.args.words.now.items c.as_slice-words.ensures.value c.read_format.result c.read_format.ensures

pub returns-in-format-clause-only : goal.returns-in-format-clause-only
returns-in-format-clause-only c = only_read_as c.as_slice-words.result.now c.args.words.now.items c.as_slice-words.ensures.value c.read_format.result c.read_format.ensures

pub returns-in-serve-clause-reading : goal.returns-in-serve-clause-reading
returns-in-serve-clause-reading c = read_as c.as_slice-words.result.now c.args.words.now.items c.as_slice-words.ensures.value c.read_serve.result c.read_serve.ensures

pub returns-in-serve-clause-only : goal.returns-in-serve-clause-only
returns-in-serve-clause-only c = only_read_as c.as_slice-words.result.now c.args.words.now.items c.as_slice-words.ensures.value c.read_serve.result c.read_serve.ensures

pub returns-in-registry-clause-reading : goal.returns-in-registry-clause-reading
returns-in-registry-clause-reading c = read_as c.as_slice-words.result.now c.args.words.now.items c.as_slice-words.ensures.value c.read_registry.result c.read_registry.ensures

pub returns-in-registry-clause-only : goal.returns-in-registry-clause-only
returns-in-registry-clause-only c = only_read_as c.as_slice-words.result.now c.args.words.now.items c.as_slice-words.ensures.value c.read_registry.result c.read_registry.ensures

pub returns-in-check-clause-reading : goal.returns-in-check-clause-reading
returns-in-check-clause-reading c = read_as c.as_slice-words.result.now c.args.words.now.items c.as_slice-words.ensures.value c.read_check.result c.read_check.ensures

pub returns-in-check-clause-only : goal.returns-in-check-clause-only
returns-in-check-clause-only c = only_read_as c.as_slice-words.result.now c.args.words.now.items c.as_slice-words.ensures.value c.read_check.result c.read_check.ensures

pub returns-in-drill-clause-reading : goal.returns-in-drill-clause-reading
returns-in-drill-clause-reading c = read_as c.as_slice-words.result.now c.args.words.now.items c.as_slice-words.ensures.value c.read_drill.result c.read_drill.ensures

pub returns-in-drill-clause-only : goal.returns-in-drill-clause-only
returns-in-drill-clause-only c = only_read_as c.as_slice-words.result.now c.args.words.now.items c.as_slice-words.ensures.value c.read_drill.result c.read_drill.ensures
