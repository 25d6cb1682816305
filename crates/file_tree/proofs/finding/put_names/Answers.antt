use Rattle.rio_base.proofs.Frames.{read_as}
use Rattle.file_tree.proofs.Lookups.{rows_read}
use Rattle.request_ends.proofs.Common.{refl, ap, ◌∙◌, Err}
use Rattle.rio_base.specs.declared.failures.ReadFail.{ReadFail}
use Rattle.rio_base.specs.declared.failures.ReadFail.TheVariants.{Fault as ReadFault, Stopped as ReadStopped}
use Rattle.request_ends.specs.declared.failures.FileFail.TheVariants.{Fault, Stopped}
use Rattle.request_ends.proofs.CallEnds.{ends_ok, ends_read, well_memory, well_read}
use Rattle.file_tree.proofs.finding.put_names.Goals as goal

pub hold_names-requires-clause-apart : goal.hold_names-requires-clause-apart
hold_names-requires-clause-apart g c = λ a b in_a in_b same. c.requires.can.meets.reads.apart.each c.args.dir.0 a b (record { dir = c.requires.dir; within = in_a }) (record { dir = c.requires.dir; within = in_b }) same

pub returns-in-Ok-clause-read : goal.returns-in-Ok-clause-read
returns-in-Ok-clause-read g c = read_as c.hold_names.ensures.read (ends_ok _ _ _ (well_read _ _ c.hold_names.result _ c.in-Ok.is c.hold_names.ensures.read.ends))

pub returns-in-Err-Memory-clause-read : goal.returns-in-Err-Memory-clause-read
returns-in-Err-Memory-clause-read g c = read_as c.hold_names.ensures.read (ends_ok _ _ _ (well_memory _ _ c.hold_names.result (c.in-Err-Memory.is ∙ ap (λ (e : ReadFail). Err e) c.in-Err-Memory.field-0-is) c.hold_names.ensures.read.ends))

pub returns-in-Err-Fault-clause-read : goal.returns-in-Err-Fault-clause-read
returns-in-Err-Fault-clause-read g c = read_as c.hold_names.ensures.read (ends_read _ _ c.hold_names.result _ ReadFault (Fault 0) (c.in-Err-Fault.is ∙ ap (λ (e : ReadFail). Err e) c.in-Err-Fault.field-0-is) refl refl c.hold_names.ensures.read.ends)

pub returns-in-Err-Stopped-clause-read : goal.returns-in-Err-Stopped-clause-read
returns-in-Err-Stopped-clause-read g c = read_as c.hold_names.ensures.read (ends_read _ _ c.hold_names.result _ ReadStopped Stopped (c.in-Err-Stopped.is ∙ ap (λ (e : ReadFail). Err e) c.in-Err-Stopped.field-0-is) refl refl c.hold_names.ensures.read.ends)

pub hold_names-requires-clause-can : goal.hold_names-requires-clause-can
hold_names-requires-clause-can g c = record { keeps = c.requires.can.keeps; meets = rows_read c.requires.can.meets }
